use Rattle.std.proofs.Common.{◌≡◌, Bool, true, false, List, arith, inr, sym, subst, ◌∙◌}
use Rattle.std.specs.Prelude.{All, Contains}
use Rattle.std.specs.List.Sorted.{IsSorted}
use Rattle.std.proofs.lemmas.List.Elements.{All-contains_itself, All-head, All-nil, All-push, All-tail}
use Rattle.std.proofs.lemmas.List.Sorted.{All-permutation, Contains-permutation}
use Rattle.ul_base.specs.Nodes.{node_cmp}
use Rattle.ul_base.specs.declared.node.Node.{Node}
use Rattle.ul_problem.specs.Problems.{Increases}
use Rattle.ul_prepared.specs.Gathered.{ComesAfter, IsNamedBy, IsPlacedNode}
use Rattle.ul_prepared.specs.Places.{IsOneOf}
use Rattle.ul_prepared.specs.Prepared.{PlannedBefore}
use Rattle.ul_prepared.specs.declared.prepared.Planned.{Planned}
use Rattle.ul_prepared.proofs.BareNodes.{LeftFrom, all_put, in_from, in_put, none_put, out_from, out_put, sorted_rest}
use Rattle.ul_prepared.proofs.KnownNames.{nodes_more}
use Rattle.ul_prepared.proofs.gathering.bare_nodes.Goals as goal

not_both : (b : Bool) → b ≡ true → b ≡ false → ⊥
not_both b t f = let e : true ≡ false = sym t ∙ f in cc

pub loop-node-init : goal.loop-node-init
loop-node-init c =
    let nodes = c.args.nodes.items in
    let sorted = c.sort.new.self.items in
    let named = IsNamedBy c.args.places.now in
    let placed = IsPlacedNode c.args.places.now in
    let only = IsOneOf nodes in
    let left = sym c.into_iter-node-iterator.ensures.into_iter_gives.0 in
    let none = sym c.new-bare.ensures.items in
    record {
      increasing = subst (Increases PlannedBefore) none tt;
      named = subst (All named) none (All-nil named);
      only = subst (All only) none (All-nil only);
      placed = subst (All placed) left (All-permutation placed nodes sorted c.in_ok-sort.ensures.permutation c.requires);
      those = subst (All (Contains nodes)) left (All-permutation (Contains nodes) nodes sorted c.in_ok-sort.ensures.permutation (All-contains_itself nodes));
      put = λ n h. inr (subst (λ (z : List Node). Contains z n) left (Contains-permutation nodes sorted n c.in_ok-sort.ensures.permutation h));
      sorted = subst (IsSorted node_cmp) left c.in_ok-sort.ensures.sorted;
      from = subst (λ (ps : List Planned). LeftFrom ps c.into_iter-node-iterator.result.rest.items) none (none_put c.into_iter-node-iterator.result.rest.items);
    }

pub bare_node-one-requires : goal.bare_node-one-requires
bare_node-one-requires c =
    let placed = IsPlacedNode c.args.places.now in
    All-head placed c.in-Some.node c.next.new.self.rest.items (subst (All placed) c.in-Some.ensures.steps.0 c.loop-node.invariant.placed)

pub loop-node-preserved-then-comes_after : goal.loop-node-preserved-then-comes_after
loop-node-preserved-then-comes_after c =
    let all = c.args.nodes.items in
    let before = c.loop-node.bare.items in
    let after = c.in_ok-bare.bare.items in
    let one = c.bare_node-one.result in
    let node = c.in-Some.node in
    let left = c.loop-node.node-iterator.rest.items in
    let rest = c.next.new.self.rest.items in
    let steps = c.in-Some.ensures.steps.0 in
    let was = c.loop-node.invariant in
    let placed = IsPlacedNode c.args.places.now in
    let named = IsNamedBy c.args.places.now in
    let only = IsOneOf all in
    let those = subst (All (Contains all)) steps was.those in
    record {
      increasing = nodes_more before after one c.in_ok-bare.ensures was.increasing
          (subst (λ (n : Node). ComesAfter before n) (sym c.bare_node-one.ensures.node)
          (subst (λ (ps : List Planned). ComesAfter ps node) c.as_slice.ensures.value (c.comes_after.ensures.0 c.if-comes_after.true)));
      named = subst (All named) (sym c.in_ok-bare.ensures) (All-push named before one was.named c.bare_node-one.ensures.named);
      only = subst (All only) (sym c.in_ok-bare.ensures) (All-push only before one was.only (subst (Contains all) (sym c.bare_node-one.ensures.node) (All-head (Contains all) node rest those)));
      placed = All-tail placed node rest (subst (All placed) steps was.placed);
      those = All-tail (Contains all) node rest those;
      put = in_put all before left rest node steps was.put after one c.in_ok-bare.ensures c.bare_node-one.ensures.node was.sorted;
      sorted = sorted_rest node rest (subst (IsSorted node_cmp) steps was.sorted);
      from = in_from all before left rest node steps was.put after one c.in_ok-bare.ensures c.bare_node-one.ensures.node was.sorted;
    }

pub loop-node-preserved-else-comes_after : goal.loop-node-preserved-else-comes_after
loop-node-preserved-else-comes_after c =
    let all = c.args.nodes.items in
    let before = c.loop-node.bare.items in
    let node = c.in-Some.node in
    let left = c.loop-node.node-iterator.rest.items in
    let rest = c.next.new.self.rest.items in
    let steps = c.in-Some.ensures.steps.0 in
    let was = c.loop-node.invariant in
    let placed = IsPlacedNode c.args.places.now in
    let fails : ComesAfter before node → ⊥ = λ after. (let told = c.comes_after.ensures.1 (subst (λ (ps : List Planned). ComesAfter ps node) (sym c.as_slice.ensures.value) after) in not_both c.comes_after.result told c.if-comes_after.false) in
    record {
      increasing = was.increasing;
      named = was.named;
      only = was.only;
      placed = All-tail placed node rest (subst (All placed) steps was.placed);
      those = All-tail (Contains all) node rest (subst (All (Contains all)) steps was.those);
      put = out_put all before left rest node steps was.put fails was.sorted was.from;
      sorted = sorted_rest node rest (subst (IsSorted node_cmp) steps was.sorted);
      from = out_from all before left rest node steps was.put fails was.sorted was.from;
    }

pub loop-node-preserved : goal.loop-node-preserved
loop-node-preserved c =
    let all = c.args.nodes.items in
    let before = c.loop-node.bare.items in
    let node = c.in-Some.node in
    let left = c.loop-node.node-iterator.rest.items in
    let rest = c.next.new.self.rest.items in
    let steps = c.in-Some.ensures.steps.0 in
    let was = c.loop-node.invariant in
    let placed = IsPlacedNode c.args.places.now in
    let fails : ComesAfter before node → ⊥ = λ after. (let told = c.comes_after.ensures.1 (subst (λ (ps : List Planned). ComesAfter ps node) (sym c.as_slice.ensures.value) after) in not_both c.comes_after.result told c.if-comes_after.false) in
    record {
      increasing = was.increasing;
      named = was.named;
      only = was.only;
      placed = All-tail placed node rest (subst (All placed) steps was.placed);
      those = All-tail (Contains all) node rest (subst (All (Contains all)) steps was.those);
      put = out_put all before left rest node steps was.put fails was.sorted was.from;
      sorted = sorted_rest node rest (subst (IsSorted node_cmp) steps was.sorted);
      from = out_from all before left rest node steps was.put fails was.sorted was.from;
    }

pub returns-clause-nodes : goal.returns-clause-nodes
returns-clause-nodes c = record {
  whole = all_put c.args.nodes.items c.loop-node.bare.items c.loop-node.node-iterator.rest.items (omega (arith, c.in-None.ensures.steps.0, c.loop-node.node-iterator.rest.ok)) c.loop-node.invariant.put;
  only = c.loop-node.invariant.only;
}
