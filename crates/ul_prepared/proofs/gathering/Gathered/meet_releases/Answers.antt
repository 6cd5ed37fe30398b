use Rattle.std.specs.Prelude.{All, Contains, Some, slice_get}
use Rattle.std.proofs.Common.{◌≡◌, ap, arith, length, sym, subst, ◌∙◌}
use Rattle.std.proofs.lemmas.List.{take_all}
use Rattle.std.proofs.lemmas.List.Elements.{All-nil}
use Rattle.std.proofs.lemmas.Option.{get_or_from_slice_get, slice_get_within}
use Rattle.ul_prepared.specs.Lists.{lists_at}
use Rattle.ul_prepared.specs.Targets.{HaveTargets}
use Rattle.ul_prepared.proofs.Taken.{same_lists, takes_none, takes_then}
use Rattle.ul_prepared.proofs.TargetFacts.{targets_into}
use Rattle.ul_prepared.proofs.Zipped.{all_next}
use Rattle.ul_prepared.proofs.gathering.Gathered.meet_releases.Goals as goal

pub loop-k-init : goal.loop-k-init
loop-k-init c = record {
  gathered = c.requires.gathered;
  more = takes_none c.args.self.now;
  targets = All-nil (HaveTargets (Contains c.args.self.now.nodes.items));
}

pub loop-k-preserved : goal.loop-k-preserved
loop-k-preserved c =
    let was = c.loop-k.invariant in
    let told = c.in_ok-meet_list.ensures in
    let before = Contains c.loop-k.self.nodes.items in
    let after = Contains c.meet_list.new.self.nodes.items in
    let lists = lists_at c.args.self.now.releases.items c.args.place in
    let list = c.list_at-list.result.now in
    let there : slice_get lists c.loop-k.k ≡ Some list = ap (λ z. slice_get z c.loop-k.k) (sym (same_lists c.args.self.now c.loop-k.self c.args.place c.requires.there was.more)
    ∙ ap (λ z. lists_at z c.args.place) (sym c.as_slice-in-loop-k.ensures.value)) ∙ sym c.list_at-list.ensures in
    record {
      gathered = told.gathered;
      more = takes_then _ _ _ was.more told.more;
      targets = all_next (HaveTargets before) (HaveTargets after) lists c.loop-k.k list (λ qs h. targets_into before after told.more.nodes qs h) was.targets told.targets
          (slice_get_within lists c.loop-k.k list there) (sym (get_or_from_slice_get lists c.loop-k.k list list there));
    }

pub returns-clause-targets : goal.returns-clause-targets
returns-clause-targets c =
    let was = c.loop-k.invariant in
    let have = HaveTargets (Contains c.loop-k.self.nodes.items) in
    let lists = lists_at c.args.self.now.releases.items c.args.place in
    let size : c.list_count-count.result ≡ length lists = c.list_count-count.ensures ∙ ap (λ z. length (lists_at z c.args.place)) c.as_slice.ensures.value in
    subst (All have) (sym (same_lists c.args.self.now c.loop-k.self c.args.place c.requires.there was.more))
    (subst (All have) (take_all c.loop-k.k lists (omega (arith, c.loop-k-test.false, size))) was.targets)
