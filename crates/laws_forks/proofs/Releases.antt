-- Each decision of a best selection is of an eligible version, which has a release.
use Rattle.std.specs.Prelude.{Contains, find}
use Rattle.std.specs.Ordering.{is_eq, ordering_reverse}
use Rattle.std.specs.declared.cmp.Ordering.{Ordering}
use Rattle.std.specs.declared.cmp.Ordering.TheVariants.{Less, Equal, Greater}
use Rattle.std.proofs.Common.{◌≡◌, ◌∙◌, ℕ, List, [], ◌∷◌, ◌++◌, Bool, true, false, Option, Some, None, refl, ap, subst}
use Rattle.std.proofs.Common.{⊎_elim, sym}
use Rattle.ul_base.specs.declared.node.Node.{Node}
use Rattle.ul_base.proofs.ForCallers.{contains_cases, first_in, none_found, none_in}
use Rattle.ul_version.specs.Fields.{Fields}
use Rattle.ul_version.specs.Order.{version_cmp}
use Rattle.ul_version.proofs.ForCallers.{version_total}
use Rattle.ul_requirement.specs.Fields.{ReleaseFields, RequirementFields, WishFields}
use Rattle.ul_index.specs.Catalogs.{Packages, release_of, releases_of}
use Rattle.ul_index.specs.Eligible.{eligible}
use Rattle.ul_index.specs.Laws.{EligibleSame, PreferenceSame}
use Rattle.ul_index.specs.Preference.{preference}
use Rattle.ul_index.proofs.ForCallers.{passing_in}
use Rattle.ul_index.specs.Regions.{Region}
use Rattle.ul_index.specs.Serves.{Selection}
use Rattle.ul_region.specs.Best.{CanServe, IsBestFrom}
use Rattle.ul_split.specs.Split.{AreDecided, Decided}
use Rattle.ul_split.proofs.ForCallers.{requirements_found}
use Rattle.laws_trees.specs.Decided.{EachIsRequirement}
use Rattle.laws_trees.specs.Trees.{AreRequirements}

-- ---- the release of an eligible version

-- where an element passes a test, a search finds one
found_some : {A : Type 0} (test : A → Bool) (xs : List A) (x : A) → Contains xs x → test x ≡ true
    → (y : A) × (find test xs ≡ Some y)
found_some {A} test xs x m t = by_search (find test xs) refl
  where
    by_search : (o : Option A) → find test xs ≡ o → (y : A) × (find test xs ≡ Some y)
    by_search (Some y) e = (y, e)
    by_search None e = let fails : test x ≡ false = none_found test xs x e m in cc

self_tie : (o : Ordering) → o ≡ ordering_reverse o → is_eq o ≡ true
self_tie Less e = cc
self_tie Equal e = refl
self_tie Greater e = cc

level_itself : (u v : Fields) → u ≡ v → is_eq (version_cmp u v) ≡ true
level_itself u v e =
    ap (λ (x : Fields). is_eq (version_cmp x v)) e ∙ self_tie (version_cmp v v) (version_total.antisymm v v)

listed_found : (c : Packages) (n : List ℕ) (r : ReleaseFields) (v : Fields) → Contains (releases_of c n) r
    → r.version ≡ v → (x : ReleaseFields) × (release_of c n v ≡ Some x)
unfolding release_of
listed_found c n r v m e = found_some (λ (x : ReleaseFields). is_eq (version_cmp x.version v)) (releases_of c n) r m
    (level_itself r.version v e)

release_found : EligibleSame → (c : Packages) (n : List ℕ) (v : Fields) → Contains (eligible c n) v
    → (r : ReleaseFields) × (release_of c n v ≡ Some r)
release_found same c n v m =
    let r = (same c n v).0 m in
    listed_found c n r.0 v (passing_in c n r.0 r.1) r.2

-- ---- the releases of decisions

-- the releases of decisions, each of whose requirements has a marker that a text can spell
pub record HasReleases (c : Packages) (ds : Selection) : Type 0 where
  pub decided : List Decided
  pub are : AreDecided c ds decided
  pub spelled : (d : Decided) → Contains decided d → EachIsRequirement d.release.requirements

module _ (same : EligibleSame) (tried : PreferenceSame) (c : Packages) (spelled : AreRequirements c) where
  release_spelled : (n : List ℕ) (v : Fields) (r : ReleaseFields) → release_of c n v ≡ Some r
      → EachIsRequirement r.requirements
  release_spelled n v r e q m =
      spelled n v q (subst (λ (qs : List RequirementFields). Contains qs q) (sym (requirements_found c n v r e)) m)

  -- one more decision
  more_releases : (n : Node) (v : Fields) (ds : Selection) → Contains (eligible c n.name) v → HasReleases c ds
      → HasReleases c ((n, v) ∷ ds)
  more_releases n v ds m h =
      let r = release_found same c n.name v m in
      let d : Decided = record { node = n; release = r.0 } in
      record {
        decided = d ∷ h.decided;
        are = record { same = refl; found = r.1; rest = h.are };
        spelled = λ x i. ⊎_elim
            (λ e. subst (λ (y : Decided). EachIsRequirement y.release.requirements) (sym e)
            (release_spelled n.name v r.0 r.1))
            (λ k. h.spelled x k) (contains_cases d h.decided x i);
      }

  -- each decision has a release, since its version is the first of those that are tried
  pub has_releases : (starts : List Node) (wish : WishFields) (R : Region) (done ds : Selection)
      → IsBestFrom c starts wish R done ds → HasReleases c ds
  has_releases starts wish R done [] b = record { decided = []; are = tt; spelled = λ d m. absurd (none_in d m) }
  has_releases starts wish R done (d ∷ ds) b =
      let can = λ (v : Fields). CanServe c starts wish R (done ++ (d.0, v) ∷ []) in
      let listed = first_in can (preference c wish d.0.name) d.1 b.version in
      more_releases d.0 d.1 ds ((tried c wish d.0.name d.1).0 listed)
      (has_releases starts wish R (done ++ d ∷ []) ds b.more)
