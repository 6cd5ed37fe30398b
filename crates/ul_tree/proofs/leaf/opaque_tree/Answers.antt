use Rattle.std.proofs.Common.{◌≡◌, [], ◌∷◌, Bool, Box, Global, ap, sym, ◌∙◌, subst}
use Rattle.std.specs.Prelude.{not}
use Rattle.ul_comparison.specs.Atoms.{AtomFields}
use Rattle.ul_nodes.specs.Levels.{atom_level}
use Rattle.ul_nodes.specs.Plain.{Plain, truth, node, done, branch}
use Rattle.ul_nodes.specs.Reduced.{IsReduced}
use Rattle.ul_tree.specs.Leaves.{point_tree}
use Rattle.ul_tree.specs.Values.{tree_holds}
use Rattle.ul_tree.specs.Views.{tree_view}
use Rattle.ul_tree.specs.declared.tree.Tree.{Tree, Truth, Opaque}
use Rattle.ul_base.proofs.ForCallers.{made_holds}
use Rattle.ul_tree.proofs.Leaves.{opaque_holds, opaque_reduced}
use Rattle.ul_tree.proofs.Shapes.{view_opaque, view_truth}
use Rattle.ul_tree.proofs.leaf.opaque_tree.Goals as goal
use Rattle.ul_tree.proofs.leaf.opaque_tree.Goals.{In_ok-atom}

-- the tree of a comparison that was copied, and of two truths
of_parts : (a atom : AtomFields) (asked : Bool) (holds fails : Box Tree Global) → atom ≡ a → holds.value ≡ Truth asked → fails.value ≡ Truth (not asked)
    → tree_view (Opaque atom holds fails) ≡ point_tree (atom_level a) (1 ∷ []) asked
of_parts a atom asked holds fails e y n =
    view_opaque atom holds fails
    ∙ ap (λ z. node (atom_level z) (tree_view fails.value) (branch (1 ∷ []) (tree_view holds.value) done)) e
    ∙ ap (λ z. node (atom_level a) z (branch (1 ∷ []) (tree_view holds.value) done)) (ap tree_view n ∙ view_truth (not asked))
    ∙ ap (λ z. node (atom_level a) (truth (not asked)) (branch (1 ∷ []) z done)) (ap tree_view y ∙ view_truth asked)

-- the tree that is made
made_is : (c : In_ok-atom) → tree_view (Opaque c.in_ok-atom.atom c.in_ok-atom.sides.0 c.in_ok-atom.sides.1) ≡ point_tree (atom_level c.args.atom.now) (1 ∷ []) c.args.positive
made_is c =
    let made = c.in_ok-atom.ensures in
    let sides = c.in_ok-atom.sides in
    let both = made_holds c.made_both-sides.result sides _ made.1 c.made_both-sides.ensures in
    of_parts c.args.atom.now c.in_ok-atom.atom c.args.positive sides.0 sides.1 (made_holds c.copy.result c.in_ok-atom.atom _ made.0 c.copy.ensures)
    (made_holds c.truth_alone.result sides.0 _ both.0 c.truth_alone.ensures)
    (made_holds c.truth_alone-2.result sides.1 _ both.1 c.truth_alone-2.ensures)

pub returns-clause-reduced : goal.returns-clause-reduced
returns-clause-reduced c = subst (λ (t : Plain). IsReduced t) (sym (made_is (goal.at.returns-clause-reduced c).In_ok-atom)) (opaque_reduced c.args.atom.now c.args.positive c.requires)

pub returns-clause-truth : goal.returns-clause-truth
returns-clause-truth c w x = ap (λ t. tree_holds t w x) (made_is (goal.at.returns-clause-truth c).In_ok-atom) ∙ opaque_holds c.args.atom.now c.args.positive w x
