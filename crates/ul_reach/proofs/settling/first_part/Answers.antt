use Rattle.std.proofs.Common.{Vec, Global, true}
use Rattle.std.proofs.lemmas.Result.{IfOk-weaker}
use Rattle.ul_base.proofs.ForCallers.{made_holds}
use Rattle.ul_interner.proofs.ForCallers.{knows_itself}
use Rattle.ul_region.specs.Truths.{DiagramMark, IsTruth}
use Rattle.ul_reach.specs.Reaching.{AreWhole}
use Rattle.ul_reach.proofs.Settled.{no_part, whole_part}
use Rattle.ul_reach.proofs.settling.first_part.Goals as goal

pub returns-then-not-flag-clause-knows : goal.returns-then-not-flag-clause-knows
returns-then-not-flag-clause-knows g c = knows_itself _

pub returns-then-not-flag-clause-parts : goal.returns-then-not-flag-clause-parts
returns-then-not-flag-clause-parts g c = no_part _ c.args.flag c.new-parts.result.items c.new-parts.ensures.items c.if-not-flag.true

pub returns-clause-parts : goal.returns-clause-parts
returns-clause-parts g c = IfOk-weaker c.with_made.result _ (λ (v : Vec DiagramMark Global). AreWhole c.everywhere-part.new.algebra c.args.flag v.items)
    (λ v more. whole_part _ c.args.flag more.0 c.new-parts.result.items v.items c.new-parts.ensures.items more.2 c.if-not-flag.false
    (made_holds c.everywhere-part.result more.0 (λ (d : DiagramMark). IsTruth c.everywhere-part.new.algebra d (λ w. true)) more.1 c.everywhere-part.ensures.truth)) c.with_made.ensures
