use Rattle.ul_ranges.specs.Flags.{has}
use Rattle.ul_ranges.proofs.FlagLaws.{first_none, none_first, first_some}
use Rattle.ul_ranges.proofs.laws.firsts.Goals as goal

pub returns : goal.returns
returns c = record {
  none = λ s order. (first_none (λ k. has k s) order, none_first (λ k. has k s) order);
  some = λ s order v e. first_some (λ k. has k s) order v e;
}
