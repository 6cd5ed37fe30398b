use Rattle.ul_ranges.proofs.FlagLaws.{blank_none, blank_some, none_blank, within, apart}
use Rattle.ul_ranges.proofs.laws.tests.Goals as goal

pub returns : goal.returns
returns c = record { blank = λ s. (blank_none s, none_blank s); member = blank_some; disjoint = apart; inclusion = within }
