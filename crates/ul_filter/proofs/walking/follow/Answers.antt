use Rattle.std.proofs.Common.{refl, sym, ◌∙◌, subst, map, take, ◌++◌, ◌∷◌, [], List}
use Rattle.std.proofs.lemmas.Option.{slice_get_read}
use Rattle.ul_lock.specs.declared.parts.Edge.{Edge}
use Rattle.ul_lock_nodes.specs.Places.{FindsPlace}
use Rattle.ul_filter.specs.Met.{IsFollowed}
use Rattle.ul_lock_nodes.specs.Routes.{route_of}
use Rattle.ul_lock_nodes.proofs.ForCallers.{taken_more}
use Rattle.ul_filter.proofs.Following.{followed_lost, followed_met, followed_skip}
use Rattle.ul_filter.proofs.walking.follow.Goals as goal
use Rattle.ul_filter.proofs.walking.follow.Goals.{then-edge_holds+in-Some+in_ok-meet-in-Some, then-edge_holds+in-None, else-edge_holds}

pub loop-edge-preserved : goal.loop-edge-preserved
loop-edge-preserved c =
    let routes = map route_of c.args.parts.now in
    let w = c.args.world.now in
    let es = take c.loop-edge.edge-index c.args.edges.now in
    let e = c.edge-item.result in
    let a = c.args.met.now in
    let b = c.loop-edge.met in
    let goes = taken_more c.args.edges.now c.loop-edge.edge-index e (slice_get_read _ _ _ _ refl c.loop-edge-test.true c.edge-item.is) in
    subst (λ (x : List Edge). IsFollowed routes w x a c.if-edge_holds.met) (sym goes) (elim c.if-edge_holds.branch [
      | then-edge_holds+in-Some+in_ok-meet-in-Some v ↦ subst (IsFollowed routes w (es ++ e ∷ []) a) (sym v.met-is)
          (followed_met routes w es e v.in-Some.place a b v.meet.new.met c.loop-edge.invariant (sym c.edge_holds.ensures ∙ v.if-edge_holds.true)
          (subst (FindsPlace routes (e.target, e.version)) v.in-Some.is v.place_of.ensures) c.requires v.in_ok-meet-in-Some.ensures)
      | then-edge_holds+in-None v ↦ subst (IsFollowed routes w (es ++ e ∷ []) a) (sym v.met-is)
          (followed_lost routes w es e a b c.loop-edge.invariant (subst (FindsPlace routes (e.target, e.version)) v.in-None.is v.place_of.ensures))
      | else-edge_holds v ↦ subst (IsFollowed routes w (es ++ e ∷ []) a) (sym v.met-is)
          (followed_skip routes w es e a b c.loop-edge.invariant (sym c.edge_holds.ensures ∙ v.if-edge_holds.false))
    ])
