use Rattle.std.proofs.Common.{refl}
use Rattle.ul_algebra.proofs.laws.diagram_vectors.Goals as goal

pub returns : goal.returns
returns c = record {
  truth_alone = refl;
  truth_with_part = refl;
  one_point = refl;
  two_pieces = refl;
  hash_of_false = refl;
  hash_of_extras = refl;
  hash_of_pieces = refl;
}
