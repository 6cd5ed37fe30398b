use Rattle.std.proofs.Common.{◌≡◌, refl, true, false}
use Rattle.ul_nodes.specs.Plain.{truth}
use Rattle.ul_tree.specs.Simplify.{at_truth, anywhere, above, by_pieces, no_piece, piece, outside, inside}
use Rattle.ul_tree.proofs.laws.simplify_examples.Goals as goal

true_false : truth true ≡ truth false → ⊥
true_false e = cc

pub returns : goal.returns
returns c = record {
  bound = by_pieces (λ q. cc) (piece (inside true_false at_truth) (piece (inside true_false at_truth) no_piece)) outside;
  same_point = by_pieces (λ q. cc) (piece (inside true_false at_truth) no_piece) outside;
  region_above = above refl (by_pieces (λ q. cc) (piece (inside true_false at_truth) no_piece) outside);
  earlier = by_pieces (λ q. cc) (piece (inside true_false anywhere) (piece outside no_piece)) (inside true_false at_truth);
  later = by_pieces (λ q. cc) (piece outside (piece (inside true_false at_truth) no_piece)) (inside true_false at_truth);
}
