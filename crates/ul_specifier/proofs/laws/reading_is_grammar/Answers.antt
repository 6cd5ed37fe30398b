use Rattle.std.proofs.Common.{◌∙◌, sym}
use Rattle.ul_specifier.proofs.Spelled.{one_of, one-spelled, read, spelled, with-read}
use Rattle.ul_specifier.proofs.laws.reading_is_grammar.Goals as goal

pub returns : goal.returns
returns c = record {
  grammar = record {
    list = λ text cs. (spelled text cs, read text cs);
    one = λ op text c. (one-spelled op text c, with-read op text c);
  };
  once = record {
    list = λ text cs ds h g. one_of (sym (read text cs h) ∙ read text ds g);
    one = λ op text c d h g. one_of (sym (with-read op text c h) ∙ with-read op text d g);
  };
}
