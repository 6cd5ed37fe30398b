use Rattle.std.proofs.Common.{◌+◌, List, get_or, sym, subst, take}
use Rattle.ul_base.proofs.ForCallers.{made_holds}
use Rattle.ul_interner.proofs.ForCallers.{knows_itself, knows_then}
use Rattle.ul_reach.specs.Reaching.{AreWhole, HaveFlags, Parts}
use Rattle.ul_reach.proofs.Settled.{flags_all, flags_more, flags_none}
use Rattle.ul_reach.proofs.settling.first_parts.Goals as goal

pub loop-flag-init : goal.loop-flag-init
loop-flag-init g c = record { knows = knows_itself _; parts = flags_none _ c.args.flags.now c.in_ok-gathered.gathered.items c.in_ok-gathered.ensures.items }

pub returns-in_err-gathered-2-clause-knows : goal.returns-in_err-gathered-2-clause-knows
returns-in_err-gathered-2-clause-knows g c = knows_then _ _ _ c.loop-flag.invariant.knows c.first_part-parts.ensures.knows

pub loop-flag-preserved : goal.loop-flag-preserved
loop-flag-preserved g c = let more = c.in_ok-gathered-2.ensures in record {
  knows = knows_then _ _ _ c.loop-flag.invariant.knows c.first_part-parts.ensures.knows;
  parts = subst (λ (gs : List Parts). HaveFlags c.first_part-parts.new.algebra (take (c.loop-flag.flag-index + 1) c.args.flags.now) gs) (sym more.2)
      (flags_more _ _ c.args.flags.now c.loop-flag.flag-index _ c.loop-flag.gathered.items more.0 c.first_part-parts.ensures.knows c.loop-flag-test.true c.loop-flag.invariant.parts
      (made_holds c.first_part-parts.result more.0 (λ (ps : Parts). AreWhole c.first_part-parts.new.algebra (get_or c.args.flags.now c.loop-flag.flag-index _) ps.items) more.1 c.first_part-parts.ensures.parts));
}

pub returns-clause-parts : goal.returns-clause-parts
returns-clause-parts g c = flags_all _ c.args.flags.now c.loop-flag.flag-index c.loop-flag.gathered.items c.loop-flag-test.false c.loop-flag.invariant.parts
