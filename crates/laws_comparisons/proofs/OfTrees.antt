-- What a tree is simplified to has no comparisons but those that the tree's truth looks at.
use Rattle.std.proofs.Common.{◌≡◌, List, ℕ, false}
use Rattle.ul_comparison.specs.Atoms.{AtomFields}
use Rattle.ul_nodes.specs.Plain.{Plain}
use Rattle.ul_nodes.specs.Reduced.{IsReduced}
use Rattle.ul_tree.specs.Simplify.{Simplifies}
use Rattle.ul_tree.specs.Values.{tree_holds}
use Rattle.ul_filter.specs.Comparisons.{tree_atoms}
use Rattle.laws_comparisons.specs.Comparisons.{LooksAt, TreesAskTheirs}
use Rattle.laws_comparisons.proofs.Asked.{AreAsked, had, tree_has}
use Rattle.laws_comparisons.proofs.Levels.{simpler_has}
use Rattle.laws_comparisons.proofs.Stripped.{is_unasked}
use Rattle.laws_comparisons.proofs.Trees.{tree_asks}

pub simpler_asks : (asked : List AtomFields) (f c t : Plain) → IsReduced f → ((x : List ℕ) → LooksAt asked (λ w. tree_holds f w x))
    → Simplifies f c t → AreAsked asked (tree_atoms t)
simpler_asks asked f c t h looks s = tree_has asked t (simpler_has (λ l. is_unasked asked l ≡ false) s (tree_asks asked f h looks))

pub trees_ask_theirs : TreesAskTheirs
trees_ask_theirs asked f c t h looks s = had asked (tree_atoms t) (simpler_asks asked f c t h looks s)
