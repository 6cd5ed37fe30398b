-- A reduced tree has no opaque comparisons but those that its truth looks at.
use Rattle.std.proofs.Common.{◌≡◌, ◌∙◌, List, [], false, sym, ap, subst, ℕ}
use Rattle.ul_comparison.specs.Atoms.{AtomFields}
use Rattle.ul_nodes.specs.Plain.{Plain, holds_of}
use Rattle.ul_nodes.specs.Reduced.{IsReduced}
use Rattle.ul_tree.specs.Values.{tree_holds, value_of}
use Rattle.ul_tree.proofs.ForCallers.{one_truth_one_tree}
use Rattle.laws_comparisons.specs.Comparisons.{LooksAt}
use Rattle.laws_comparisons.proofs.Kept.{kept, kept_alike, kept_world, masked_is}
use Rattle.laws_comparisons.proofs.Levels.{EachLevel}
use Rattle.laws_comparisons.proofs.Stripped.{asks, fits, holds, is_unasked, stripped}

-- each level of the tree is one that is asked
abbrev pub AsksThese : List AtomFields → Plain → Type 0
AsksThese asked t = EachLevel (λ l. is_unasked asked l ≡ false) t

-- nothing is left out of the tree
nothing_left_out : (asked : List AtomFields) (t : Plain) → IsReduced t → ((x : List ℕ) → LooksAt asked (λ w. tree_holds t w x))
    → stripped asked t ≡ t
nothing_left_out asked t h looks =
    one_truth_one_tree (stripped asked t) t (fits asked t [] h) h (λ w x world ascii extra.
    holds asked t [] (value_of w x) h
    ∙ ap (holds_of t) (λ i l. masked_is asked w x l i)
    ∙ sym (looks x w (kept asked w.truths) world (kept_world asked w world) (kept_alike asked w.truths)))

-- so it asks these alone
pub tree_asks : (asked : List AtomFields) (t : Plain) → IsReduced t → ((x : List ℕ) → LooksAt asked (λ w. tree_holds t w x))
    → AsksThese asked t
tree_asks asked t h looks = subst (AsksThese asked) (nothing_left_out asked t h looks) (asks asked t)
