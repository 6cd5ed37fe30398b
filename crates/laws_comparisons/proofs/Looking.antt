-- Reduced trees whose truth looks at the comparisons that are asked alone.
use Rattle.std.proofs.Common.{◌∙◌, ℕ, List, Bool, sym}
use Rattle.ul_comparison.specs.Atoms.{AtomFields}
use Rattle.ul_comparison.specs.Worlds.{WorldFields}
use Rattle.ul_nodes.specs.Plain.{Plain}
use Rattle.ul_nodes.specs.Reduced.{IsReduced}
use Rattle.ul_tree.specs.Regions.{HasTruth}
use Rattle.ul_tree.specs.Values.{tree_holds}
use Rattle.laws_comparisons.specs.Comparisons.{LooksAt, with_truths}

-- a reduced tree whose truth looks at these comparisons alone
pub record LooksThere (asked : List AtomFields) (t : Plain) : Type 0 where
  pub reduced : IsReduced t
  pub looks : (x : List ℕ) → LooksAt asked (λ w. tree_holds t w x)

-- the tree of a truth that does
pub of_truth : (asked : List AtomFields) (t : Plain) (p : WorldFields → Bool) → HasTruth t p → LooksAt asked p → LooksThere asked t
of_truth asked t p h looks = record {
  reduced = h.reduced;
  looks = λ x w ts world other alike.
      h.truth w x world ∙ looks w ts world other alike ∙ sym (h.truth (with_truths w ts) x other);
}
