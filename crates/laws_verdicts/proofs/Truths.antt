-- Whether a statement that has a tree holds in each world that a project supports is decided. That one statement holds
-- where another does has a tree, too.
use Rattle.std.specs.Prelude.{Decides}
use Rattle.std.proofs.Common.{◌≡◌, ◌⊎◌, ◌||◌, [], Bool, true, false, not, refl, sym, ◌∙◌, inl, inr}
use Rattle.std.proofs.lemmas.Bool.{not-true, true≢false}
use Rattle.ul_comparison.specs.Worlds.{WorldFields}
use Rattle.ul_tree.specs.Regions.{region_of}
use Rattle.ul_index.specs.Regions.{Somewhere, Throughout}
use Rattle.ul_project.specs.Fields.{IsProject, ProjectFields}
use Rattle.ul_sound.specs.Leaves.{supported_by}
use Rattle.laws_trees.specs.Decided.{Decided}
use Rattle.laws_trees.specs.Trees.{HasTree}
use Rattle.laws_trees.proofs.ForCallers.{HasTreeOf, negated_has, one_has, region_by, throughout, tree_by}
use Rattle.ul_verified.specs.Verified.{IsAsked}

where_is : {P Q : Type 0} (a b : Bool) → Decides a P → Decides b Q → Decides (not a || b) (P → Q)
where_is true b d k = ((λ e x. k.0 e), (λ h. k.1 (h (d.0 refl))))
where_is false b d k = ((λ e x. let f : false ≡ true = d.1 x in absurd cc), (λ h. refl))

-- where the one holds, the other does
pub tree_of_where : {P Q : WorldFields → Type 0} → HasTreeOf P → HasTreeOf Q → HasTreeOf (λ w. P w → Q w)
tree_of_where {P} {Q} h k =
    let first : HasTree (region_of h.0) = (h.0, region_by P h.0 h.1) in
    let other : HasTree (region_of k.0) = (k.0, region_by Q k.0 k.1) in
    tree_by (λ w. P w → Q w) (λ w. not (region_of h.0 w) || region_of k.0 w)
    (one_has (λ w. not (region_of h.0 w)) (region_of k.0) (negated_has (region_of h.0) first) other)
    (λ w world. where_is (region_of h.0 w) (region_of k.0 w) (h.1.truth w [] world) (k.1.truth w [] world))

-- ---- in the worlds that a project supports

module _ (p : ProjectFields) (project : IsProject p) (P : WorldFields → Type 0) where
  -- it holds in each of them
  abbrev HoldsWhereAsked : Type 0
  HoldsWhereAsked = (w : WorldFields) → IsAsked p w → P w

  pub asked_decided : HasTreeOf P → Decided HoldsWhereAsked
  asked_decided h =
      by (throughout (supported_by p) (region_of h.0) (p.region, project.region) (h.0, region_by P h.0 h.1))
    where
      by : Throughout (supported_by p) (region_of h.0) ⊎ Somewhere (supported_by p) (λ w. not (region_of h.0 w))
          → Decided HoldsWhereAsked
      by (inl all) = inl (λ w asked. (h.1.truth w [] asked.world).0 (all w asked.world asked.supported))
      by (inr s) =
          let asked : IsAsked p s.0 = record { world = s.1; supported = s.2 } in
          inr (λ f. true≢false
          (sym ((h.1.truth s.0 [] s.1).1 (f s.0 asked)) ∙ not-true (region_of h.0 s.0) s.3))
