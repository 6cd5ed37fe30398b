use Rattle.std.proofs.Common.{arith}
use Rattle.std.specs.List.{All}
use Rattle.ul_nodes.specs.Reduced.{IsReduced}
use Rattle.ul_nodes.specs.Apply.{same}
use Rattle.ul_nodes.specs.Keys.{key_view}
use Rattle.ul_nodes.specs.Rows.{made_view, stands}
use Rattle.ul_nodes.proofs.Making.{stands_kept, branch_step, branches_end, head_tail, next_kind}
use Rattle.ul_nodes.proofs.branches.reduced_branches.Goals as goal
use Rattle.ul_nodes.proofs.branches.reduced_branches.Goals.{In-Some}

-- the next part is reduced and known, and so are those after it
next_reduced : (g : _) (c : In-Some g) → IsReduced (g.Parts.Sameness.tree c.in-Some.part) × All (λ e. IsReduced (g.Parts.Sameness.tree e.1)) c.next.new.self.rest.items
next_reduced g c = head_tail (λ e. IsReduced (g.Parts.Sameness.tree e.1)) (c.in-Some.key, c.in-Some.part) c.loop-key.key-iterator.rest.items c.next.new.self.rest.items c.in-Some.ensures.steps.0 c.loop-key.invariant.reduced

next_known : (g : _) (c : In-Some g) → g.Parts.Sameness.known c.args.parts.now c.in-Some.part × All (λ e. g.Parts.Sameness.known c.args.parts.now e.1) c.next.new.self.rest.items
next_known g c = head_tail (λ e. g.Parts.Sameness.known c.args.parts.now e.1) (c.in-Some.key, c.in-Some.part) c.loop-key.key-iterator.rest.items c.next.new.self.rest.items c.in-Some.ensures.steps.0 c.loop-key.invariant.left_known

pub add-requires-clause-next_reduced : goal.add-requires-clause-next_reduced
add-requires-clause-next_reduced g c = (next_reduced g (goal.at.add-requires-clause-next_reduced g c).In-Some).0

pub add-requires-clause-next_known : goal.add-requires-clause-next_known
add-requires-clause-next_known g c = (next_known g (goal.at.add-requires-clause-next_known g c).In-Some).0

pub loop-key-preserved : goal.loop-key-preserved
loop-key-preserved g c =
    let view = g.Parts.Sameness.tree in
    let m = c.args.carried in
    let d = view c.args.other.now in
    let made = made_view view c.loop-key.made.items in
    let n = next_reduced g (goal.at.loop-key-preserved g c).In-Some in
    record {
      left = branch_step view m made _ _ (c.in-Some.key, c.in-Some.part) c.loop-key.key-iterator.rest.items c.next.new.self.rest.items d c.in-Some.ensures.steps.0 c.in_ok-add.ensures.made c.loop-key.invariant.left;
      reduced = n.1;
      standing = stands_kept (same (view c.in-Some.part) (stands m made d)) m made _ (key_view c.in-Some.key) (view c.in-Some.part) d c.in_ok-add.ensures.made n.0 c.loop-key.invariant.standing;
      kinds = λ l h.
          let k = c.loop-key.invariant.kinds l h in
          let i = next_kind l (c.in-Some.key, c.in-Some.part) c.loop-key.key-iterator.rest.items c.next.new.self.rest.items c.in-Some.ensures.steps.0 k.1 in
          (c.in_ok-add.ensures.kinds l k.0 i.0, i.1);
      known = c.in_ok-add.ensures.known;
      left_known = (next_known g (goal.at.loop-key-preserved g c).In-Some).1;
    }

pub returns-clause-branches : goal.returns-clause-branches
returns-clause-branches g c =
    branches_end g.Parts.Sameness.tree c.args.carried (made_view g.Parts.Sameness.tree c.loop-key.made.items) _ c.loop-key.key-iterator.rest.items (g.Parts.Sameness.tree c.args.other.now)
    (omega (arith, c.in-None.ensures.steps.0, c.loop-key.key-iterator.rest.ok)) c.loop-key.invariant.left

pub returns-clause-kinds : goal.returns-clause-kinds
returns-clause-kinds g c = λ l h. (c.loop-key.invariant.kinds l h).0
