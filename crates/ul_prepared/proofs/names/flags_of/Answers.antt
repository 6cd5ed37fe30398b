use Rattle.std.proofs.lemmas.List.{take_all}
use Rattle.std.proofs.Common.{ap, map, ◌∙◌}
use Rattle.std.specs.List.{list_any}
use Rattle.std.specs.Ordering.{is_eq}
use Rattle.ul_version.specs.Fields.{Fields}
use Rattle.ul_version.specs.Order.{version_cmp}
use Rattle.ul_prepared.proofs.Loops.{mapped_more}
use Rattle.ul_prepared.proofs.names.flags_of.Goals as goal

pub loop-version-preserved : goal.loop-version-preserved
loop-version-preserved c = mapped_more (λ (x : Fields). list_any (λ k. is_eq (version_cmp k.now x)) c.args.kept.now) c.args.versions.now c.loop-version.flags.items c.push.new.self.items c.loop-version.version-index c.version-item.result c.is_one_of.result
    c.in_ok-push.ensures.items c.loop-version.invariant c.is_one_of.ensures c.loop-version-test.true c.version-item.is

pub returns : goal.returns
returns c = c.loop-version.invariant ∙ ap (map (λ (x : Fields). list_any (λ k. is_eq (version_cmp k.now x)) c.args.kept.now)) (take_all c.loop-version.version-index c.args.versions.now c.loop-version-test.false)
