use Rattle.std.proofs.Common.{arith, inl, inr, refl, sym, ◌∙◌}
use Rattle.ul_trail.proofs.held_steps.number_of.Goals as goal

pub returns-then-is_read_off : goal.returns-then-is_read_off
returns-then-is_read_off c = inl (sym c.is_read_off.ensures ∙ c.if-is_read_off.true, refl, refl)

pub returns : goal.returns
returns c = inr (omega arith, c.in_ok-push.ensures.items)
