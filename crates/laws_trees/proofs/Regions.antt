-- What holds somewhere in a region, or throughout it, is decided: the tree of both truths is false, or holds somewhere.
use Rattle.std.proofs.Common.{◌≡◌, ◌⊎◌, inl, inr, [], Bool, true, false, refl, ap, sym, ◌∙◌}
use Rattle.std.specs.Prelude.{not, ◌&&◌}
use Rattle.std.proofs.lemmas.Bool.{and_from, and_parts, not-true, true_from_ne_false, true≢false}
use Rattle.ul_comparison.specs.Worlds.{WorldFields, IsWorld}
use Rattle.ul_nodes.specs.Plain.{Plain, truth, node}
use Rattle.ul_requirement.specs.declared.wish.Strategy.{Strategy}
use Rattle.ul_requirement.specs.declared.wish.Strategy.TheVariants.{Fewest, RequiresPython, Deep}
use Rattle.ul_tree.specs.Regions.{HasTruth}
use Rattle.ul_tree.specs.Values.{tree_holds}
use Rattle.ul_index.specs.Regions.{Somewhere, Throughout}
use Rattle.ul_index.specs.Serves.{Suits}
use Rattle.laws_trees.specs.Decided.{Decided}
use Rattle.laws_trees.specs.Trees.{HasTree}
use Rattle.ul_tree.proofs.ForCallers.{holds_somewhere, region_truth}
use Rattle.laws_trees.proofs.Truths.{both_have, negated_has}

false_or_not : (t : Plain) → Decided (t ≡ truth false)
false_or_not (truth false) = inl refl
false_or_not (truth true) = inr (λ e. cc)
false_or_not (node l d bs) = inr (λ e. cc)

-- both truths of a region's world
meets_both : (s : Plain) (R p : WorldFields → Bool) → HasTruth s (λ w. R w && p w) → (w : WorldFields) → IsWorld w
    → R w ≡ true → p w ≡ true → tree_holds s w [] ≡ true
meets_both s R p h w is r e = region_truth s (λ v. R v && p v) h w is ∙ and_from (R w) (p w) r e

nowhere : (s : Plain) (R p : WorldFields → Bool) → HasTruth s (λ w. R w && p w) → s ≡ truth false → Somewhere R p → ⊥
nowhere s R p h e (w, is, r, q) =
    let none : tree_holds s w [] ≡ false = ap (λ (t : Plain). tree_holds t w []) e in
    true≢false (sym (meets_both s R p h w is r q) ∙ none)

found : (s : Plain) (R p : WorldFields → Bool) → HasTruth s (λ w. R w && p w) → (s ≡ truth false → ⊥) → Somewhere R p
found s R p h n =
    let at = holds_somewhere.world s h.reduced n in
    let parts = and_parts (R at.0) (p at.0) (sym (h.truth at.0 at.1 at.2) ∙ at.4) in
    (at.0, at.2, parts.0, parts.1)

pub somewhere : (R p : WorldFields → Bool) → HasTree R → HasTree p → Decided (Somewhere R p)
somewhere R p region tree = go (both_have R p region tree)
  where
    go : HasTree (λ w. R w && p w) → Decided (Somewhere R p)
    go (s, h) = elim (false_or_not s) [ inl e ↦ inr (nowhere s R p h e) | inr n ↦ inl (found s R p h n) ]

pub throughout : (R p : WorldFields → Bool) → HasTree R → HasTree p → Throughout R p ⊎ Somewhere R (λ w. not (p w))
throughout R p region tree = elim (somewhere R (λ w. not (p w)) region (negated_has p tree)) [
  | inl h ↦ inr h
  | inr z ↦ inl (λ w is r. true_from_ne_false (p w) (λ e. z (w, is, r, ap not e)))
]

pub suits : (strategy : Strategy) (R p : WorldFields → Bool) → HasTree R → HasTree p → Decided (Suits strategy R p)
suits Fewest R p region tree = elim (throughout R p region tree) [
  | inl h ↦ inl h
  | inr s ↦ inr (λ h. true≢false (sym (h s.0 s.1 s.2) ∙ not-true (p s.0) s.3))
]
suits RequiresPython R p region tree = somewhere R p region tree
suits Deep R p region tree = somewhere R p region tree
