use Rattle.std.proofs.Common.{◌≡◌, arith, sym, subst, true, replicate, ◌<◌, ◌∙◌}
use Rattle.std.specs.Prelude.{IfOk}
use Rattle.std.proofs.lemmas.List.Elements.{All-same}
use Rattle.ul_problem.proofs.Loops.{order_tested}
use Rattle.ul_problem.proofs.fitting.is_order_of.Goals as goal

pub returns : goal.returns
returns c =
    order_tested c.args.size c.args.order.now.items c.in_ok-both.both.0 c.in_ok-both.both.1 c.same-fits.result (omega arith)
    (All-same (λ v. v < c.args.size) _ _ (sym c.as_slice.ensures.value) (c.are_below.ensures.0 c.if-not-are_below.false))
    (c.in_ok-both.ensures.0 ∙ c.in_ok-listed.ensures) (subst (λ made. IfOk made (λ s. s ≡ replicate c.args.size true)) c.in_ok-both.ensures.1 c.all.ensures) c.same-fits.ensures
