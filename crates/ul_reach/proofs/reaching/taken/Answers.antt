use Rattle.std.proofs.Common.{◌∙◌, ap, refl, sym, Some}
use Rattle.std.proofs.lemmas.Option.{slice_get_read}
use Rattle.ul_reach.specs.Reaching.{Parts}
use Rattle.ul_reach.proofs.reaching.taken.Goals as goal

pub returns : goal.returns
returns c = record {
  none = c.replace.new.dest;
  at = slice_get_read _ _ _ _ refl c.requires c.index_mut.ensures.value ∙ ap Some (sym c.replace.ensures.value);
  empty = ap (λ (ps : Parts). ps.items) c.replace.ensures.after ∙ c.new.ensures.items;
  after_is = refl;
}
