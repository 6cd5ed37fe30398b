-- A package whose one release has lists of extras.
use Rattle.std.proofs.Common.{◌≡◌, ◌∙◌, ◌++◌, ℕ, List, [], ◌∷◌, length, map, ap, arith, length-append, subst, sym}
use Rattle.ul_requirement.specs.Fields.{PackageFields, ReleaseFields, VersionsDiffer}
use Rattle.ul_groups.specs.Expanded.{ExtraLists, all_lists, first_requirements, lists_with, own_size, with_lists}

-- the last of one is the one
pub only_one : {X : Type 0} (xs before : List X) (x : X) → xs ≡ before ++ x ∷ [] → length xs ≡ 1 → xs ≡ x ∷ []
only_one xs [] x e one = e
only_one xs (y ∷ ys) x e one = absurd (omega (arith, ap length e, length-append ys (x ∷ []), one))

-- the versions of one release differ
pub one_differs : (rs : List ReleaseFields) (r : ReleaseFields) → rs ≡ r ∷ [] → VersionsDiffer rs
one_differs rs r e = subst VersionsDiffer (sym e) (λ k d lt. absurd (omega (arith, lt)), tt)

-- the release that was made is the one that the package has with the lists
pub package_made : (found : PackageFields) (extras : List (List ℕ)) (sizes : List ℕ) (lists : ExtraLists) (r made : ReleaseFields) (rs : List ReleaseFields)
    → found.releases ≡ r ∷ [] → rs ≡ made ∷ []
    → made ≡ with_lists (own_size sizes r.requirements) (lists_with extras sizes r.requirements lists) r
    → rs ≡ map (with_lists (own_size sizes (first_requirements found.releases)) (all_lists extras sizes found lists)) found.releases
package_made found extras sizes lists r made rs one all is =
    all ∙ ap (λ m. m ∷ []) is
    ∙ ap (λ qs. map (with_lists (own_size sizes (first_requirements qs)) (lists_with extras sizes (first_requirements qs) lists)) qs) (sym one)
