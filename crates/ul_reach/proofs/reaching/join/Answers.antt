use Rattle.std.proofs.Common.{◌≡◌, ◌||◌, List, refl, sym, ◌∙◌, subst, Some}
use Rattle.std.specs.Prelude.{All}
use Rattle.std.specs.List.{slice_get}
use Rattle.std.specs.Vec.{with_item}
use Rattle.std.proofs.lemmas.List.Elements.{All-contains}
use Rattle.std.proofs.lemmas.Option.{same_Some, slice_get_read}
use Rattle.ul_base.proofs.ForCallers.{made_holds}
use Rattle.ul_algebra.specs.Truths.{HaveOneTruth}
use Rattle.ul_lock_nodes.proofs.ForCallers.{contains_at}
use Rattle.ul_region.specs.Truths.{DiagramMark, IsRegion, IsTruth, region_at}
use Rattle.ul_region.specs.Unions.{some_holds}
use Rattle.ul_region.proofs.ForCallers.{still}
use Rattle.ul_reach.specs.Reaching.{IsJoined}
use Rattle.ul_reach.specs.declared.reaching.Reaching.{Reaching}
use Rattle.ul_reach.proofs.Gathering.{parts_at}
use Rattle.ul_reach.specs.Rounds.{GrowsBy}
use Rattle.ul_reach.proofs.Joined.{failed}
use Rattle.ul_reach.proofs.Joining.{grows_same, grows_wider, joined_same, joined_wider}
use Rattle.ul_reach.proofs.reaching.join.Goals as goal

pub widened-joined-requires-clause-reach : goal.widened-joined-requires-clause-reach
widened-joined-requires-clause-reach g c =
    let ms = c.args.state.now.reach.items in
    All-contains (IsRegion c.args.algebra.now) ms c.index.result.now c.requires.regions (contains_at ms c.args.place c.index.result.now (slice_get_read _ _ _ _ refl c.requires.place c.index.ensures))

pub widened-joined-requires-clause-parts : goal.widened-joined-requires-clause-parts
widened-joined-requires-clause-parts g c = subst (All (IsRegion c.args.algebra.now)) (sym c.as_slice.ensures.value)
    (parts_at c.args.algebra.now c.args.state.now.gathered.items c.args.place c.taken-parts.result c.requires.parts c.taken-parts.ensures.at)

pub same-requires-clause-a : goal.same-requires-clause-a
same-requires-clause-a g c =
    let truth = made_holds c.widened-joined.result c.in_ok-wider.wider (λ (d : DiagramMark). IsTruth c.widened-joined.new.algebra d (λ w. region_at c.index.result.now w || some_holds c.as_slice.result.now w))
    c.in_ok-wider.ensures c.widened-joined.ensures.truth in
    truth.diagram

pub same-requires-clause-b : goal.same-requires-clause-b
same-requires-clause-b g c =
    let ms = c.args.state.now.reach.items in
    let at : slice_get ms c.args.place ≡ Some c.index-2.result.now = slice_get_read _ _ _ _ refl c.requires.place c.index-2.ensures in
    still _ _ _ c.widened-joined.ensures.knows (All-contains (IsRegion c.args.algebra.now) ms c.index-2.result.now c.requires.regions (contains_at ms c.args.place c.index-2.result.now at)).diagram

pub returns-then-same-clause-joined : goal.returns-then-same-clause-joined
returns-then-same-clause-joined g c =
    let a = c.args.state.now in
    let h = c.widened-joined.new.algebra in
    let old = c.index.result.now in
    let wider = c.in_ok-wider.wider in
    let at : slice_get a.reach.items c.args.place ≡ Some old = slice_get_read _ _ _ _ refl c.requires.place c.index.ensures in
    let too : slice_get a.reach.items c.args.place ≡ Some c.index-2.result.now = slice_get_read _ _ _ _ refl c.requires.place c.index-2.ensures in
    let one : HaveOneTruth wider c.index-2.result.now = c.same.ensures.truth.0 c.if-same.true in
    let truth = made_holds c.widened-joined.result wider (λ (d : DiagramMark). IsTruth h d (λ w. region_at old w || some_holds c.as_slice.result.now w)) c.in_ok-wider.ensures c.widened-joined.ensures.truth in
    let after : Reaching = record { reach = a.reach; gathered = c.taken-parts.new.gathered } in
    joined_same c.args.algebra.now h c.args.place old wider c.taken-parts.result a after c.widened-joined.ensures.knows c.requires.regions c.requires.parts at c.taken-parts.ensures
    (subst (λ (ps : List DiagramMark). IsTruth h wider (λ w. region_at old w || some_holds ps w)) c.as_slice.ensures.value truth) refl
    (subst (HaveOneTruth wider) (same_Some c.index-2.result.now old (sym too ∙ at)) one)

pub returns-clause-joined : goal.returns-clause-joined
returns-clause-joined g c =
    let a = c.args.state.now in
    let h = c.widened-joined.new.algebra in
    let old = c.index.result.now in
    let wider = c.in_ok-wider.wider in
    let at : slice_get a.reach.items c.args.place ≡ Some old = slice_get_read _ _ _ _ refl c.requires.place c.index.ensures in
    let truth = made_holds c.widened-joined.result wider (λ (d : DiagramMark). IsTruth h d (λ w. region_at old w || some_holds c.as_slice.result.now w)) c.in_ok-wider.ensures c.widened-joined.ensures.truth in
    let after : Reaching = record { reach = with_item a.reach c.args.place wider; gathered = c.taken-parts.new.gathered } in
    subst (λ (m : DiagramMark). IsJoined h c.args.place (Some m) a after) (sym c.in_ok-region.ensures)
    (joined_wider c.args.algebra.now h c.args.place old wider c.taken-parts.result a after c.widened-joined.ensures.knows c.requires.regions c.requires.parts at c.taken-parts.ensures
    (subst (λ (ps : List DiagramMark). IsTruth h wider (λ w. region_at old w || some_holds ps w)) c.as_slice.ensures.value truth) refl)

pub returns-then-same-clause-grown : goal.returns-then-same-clause-grown
returns-then-same-clause-grown g c =
    let a = c.args.state.now in
    let h = c.widened-joined.new.algebra in
    let old = c.index.result.now in
    let wider = c.in_ok-wider.wider in
    let at : slice_get a.reach.items c.args.place ≡ Some old = slice_get_read _ _ _ _ refl c.requires.place c.index.ensures in
    let too : slice_get a.reach.items c.args.place ≡ Some c.index-2.result.now = slice_get_read _ _ _ _ refl c.requires.place c.index-2.ensures in
    let one : HaveOneTruth wider c.index-2.result.now = c.same.ensures.truth.0 c.if-same.true in
    let truth = made_holds c.widened-joined.result wider (λ (d : DiagramMark). IsTruth h d (λ w. region_at old w || some_holds c.as_slice.result.now w)) c.in_ok-wider.ensures c.widened-joined.ensures.truth in
    let after : Reaching = record { reach = a.reach; gathered = c.taken-parts.new.gathered } in
    grows_same c.args.algebra.now h c.args.place old wider c.taken-parts.result a after c.widened-joined.ensures.knows c.requires.regions c.requires.parts at c.taken-parts.ensures
    (subst (λ (ps : List DiagramMark). IsTruth h wider (λ w. region_at old w || some_holds ps w)) c.as_slice.ensures.value truth) refl
    (subst (HaveOneTruth wider) (same_Some c.index-2.result.now old (sym too ∙ at)) one)

pub returns-clause-grown : goal.returns-clause-grown
returns-clause-grown g c =
    let a = c.args.state.now in
    let h = c.widened-joined.new.algebra in
    let old = c.index.result.now in
    let wider = c.in_ok-wider.wider in
    let at : slice_get a.reach.items c.args.place ≡ Some old = slice_get_read _ _ _ _ refl c.requires.place c.index.ensures in
    let too : slice_get a.reach.items c.args.place ≡ Some c.index-2.result.now = slice_get_read _ _ _ _ refl c.requires.place c.index-2.ensures in
    let truth = made_holds c.widened-joined.result wider (λ (d : DiagramMark). IsTruth h d (λ w. region_at old w || some_holds c.as_slice.result.now w)) c.in_ok-wider.ensures c.widened-joined.ensures.truth in
    let after : Reaching = record { reach = with_item a.reach c.args.place wider; gathered = c.taken-parts.new.gathered } in
    subst (λ (m : DiagramMark). GrowsBy c.args.place (Some m) a after) (sym c.in_ok-region.ensures)
    (grows_wider c.args.algebra.now h c.args.place old wider c.taken-parts.result a after c.widened-joined.ensures.knows c.requires.regions c.requires.parts at c.taken-parts.ensures
    (subst (λ (ps : List DiagramMark). IsTruth h wider (λ w. region_at old w || some_holds ps w)) c.as_slice.ensures.value truth)
    (All-contains (IsRegion c.args.algebra.now) a.reach.items old c.requires.regions (contains_at a.reach.items c.args.place old at))
    (λ one. failed c.same.result c.if-same.false c.same.ensures.truth (subst (HaveOneTruth wider) (same_Some old c.index-2.result.now (sym at ∙ too)) one)) refl)
