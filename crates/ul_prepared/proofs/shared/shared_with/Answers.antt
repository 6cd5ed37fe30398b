use Rattle.std.proofs.Common.{◌++◌, List, ap, arith, map, sym, ◌∙◌}
use Rattle.std.proofs.lemmas.List.{append-nil}
use Rattle.ul_base.proofs.ForCallers.{made_holds}
use Rattle.ul_region.proofs.ForCallers.{grown_then}
use Rattle.ul_prepared.specs.Lists.{lists_in, releases_in}
use Rattle.ul_prepared.specs.Shared.{IsShared, lists_shared, releases_shared}
use Rattle.ul_prepared.specs.declared.releases.Releases.{Releases}
use Rattle.ul_prepared.proofs.SharedFacts.{first_left, lists_next, names_next, none_left, rest_left, shared_more}
use Rattle.ul_prepared.proofs.shared.shared_with.Goals as goal

pub returns-in_err-shared-2-clause-grown : goal.returns-in_err-shared-2-clause-grown
returns-in_err-shared-2-clause-grown g c = grown_then _ _ _ _ _ _ c.loop-own.invariant.grown c.shared_of-one.ensures.grown

pub shared_of-one-requires-clause-listed : goal.shared_of-one-requires-clause-listed
shared_of-one-requires-clause-listed g c = first_left c.loop-own.own-iterator.rest.items c.next.new.self.rest.items c.in-Some.own c.in-Some.ensures.steps.0 c.loop-own.invariant.left

pub loop-own-preserved : goal.loop-own-preserved
loop-own-preserved g c =
    let before = c.loop-own.shared.items in
    let after = c.in_ok-shared-2.shared.items in
    let more = c.in_ok-shared-2.ensures in
    let one = more.0 in
    let left = c.loop-own.own-iterator.rest.items in
    let rest = c.next.new.self.rest.items in
    let first = c.in-Some.ensures.steps.0 in
    record {
      grown = grown_then _ _ _ _ _ _ c.loop-own.invariant.grown c.shared_of-one.ensures.grown;
      shared = shared_more c.loop-own.algebra c.shared_of-one.new.algebra c.loop-own.truths.marks.items c.shared_of-one.new.truths.marks.items before after one
          more.2 c.shared_of-one.ensures.grown c.loop-own.invariant.shared (made_holds c.shared_of-one.result one (IsShared c.shared_of-one.new.algebra c.shared_of-one.new.truths.marks.items) more.1 c.shared_of-one.ensures.shared);
      left = rest_left left rest c.in-Some.own first c.loop-own.invariant.left;
      releases = names_next before after one c.in-Some.own left rest c.args.names.items more.2 first (made_holds c.shared_of-one.result one _ more.1 c.shared_of-one.ensures.releases) c.loop-own.invariant.releases;
      lists = lists_next before after one c.in-Some.own left rest c.args.names.items more.2 first (made_holds c.shared_of-one.result one _ more.1 c.shared_of-one.ensures.lists) c.loop-own.invariant.lists;
    }

pub returns-clause-releases : goal.returns-clause-releases
returns-clause-releases g c =
    sym (append-nil (map releases_shared c.loop-own.shared.items))
    ∙ (ap (λ (z : List Releases). map releases_shared c.loop-own.shared.items ++ map releases_in z) (sym (none_left c.loop-own.own-iterator.rest.items (omega (arith, c.in-None.ensures.steps.0, c.loop-own.own-iterator.rest.ok)))) ∙ c.loop-own.invariant.releases)

pub returns-clause-lists : goal.returns-clause-lists
returns-clause-lists g c =
    sym (append-nil (map lists_shared c.loop-own.shared.items))
    ∙ (ap (λ (z : List Releases). map lists_shared c.loop-own.shared.items ++ map lists_in z) (sym (none_left c.loop-own.own-iterator.rest.items (omega (arith, c.in-None.ensures.steps.0, c.loop-own.own-iterator.rest.ok)))) ∙ c.loop-own.invariant.lists)
