use Rattle.std.proofs.Common.{Some, ap, sym, ◌∙◌}
use Rattle.ul_base.proofs.ForCallers.{made_holds}
use Rattle.ul_merge.specs.Over.{extra_by}
use Rattle.ul_merge.proofs.blocks.whole_extra.Goals as goal

pub returns-in_ok-out-in-Some : goal.returns-in_ok-out-in-Some
returns-in_ok-out-in-Some c =
    let out = c.in_ok-out-in-Some.ensures in
    let name = made_holds c.copy.result c.in_ok-out-in-Some.name _ out.1 c.copy.ensures in
    (λ i. Some (record { name = name i; edges = out.0 i })) ∙ sym (ap (extra_by c.args.name.now) c.in-Some.is)
