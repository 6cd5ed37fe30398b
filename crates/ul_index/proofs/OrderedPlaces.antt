-- Places in the order of their versions.
use Rattle.std.proofs.Common.{◌≡◌, ◌+◌, ◌<◌, ℕ, zero, suc, List, [], ◌∷◌, map, filter, drop, length, get_or, Bool, true, false, cond, ◌||◌, Option, Some, None, refl, sym, ap, subst, ◌∙◌, arith}
use Rattle.std.specs.Prelude.{All}
use Rattle.std.proofs.lemmas.List.{drop_more}
use Rattle.std.proofs.lemmas.Map.Views.{All-insert_key}
use Rattle.std.proofs.lemmas.Option.{slice_get_read}
use Rattle.std.specs.BTreeSet.{insert_key}
use Rattle.std.specs.List.{list_any}
use Rattle.std.specs.Ordering.{is_lt, match_ordering}
use Rattle.std.specs.declared.cmp.Ordering.{Ordering}
use Rattle.std.specs.declared.cmp.Ordering.TheVariants.{Less, Equal, Greater}
use Rattle.ul_version.specs.Fields.{Fields}
use Rattle.ul_version.specs.Order.{version_cmp}
use Rattle.ul_requirement.specs.Fields.{ReleaseFields, RequirementFields, VersionsDiffer}
use Rattle.ul_requirement.specs.declared.wish.Prereleases.{Prereleases}
use Rattle.ul_index.specs.Catalogs.{Packages, directs, prereleases_of, releases_of}
use Rattle.ul_index.specs.Eligible.{directs_on, eligible, in_order, on_name, passing, increasing_with, version_at}
use Rattle.ul_index.specs.Preference.{is_direct}
use Rattle.ul_index.specs.VersionOrders.{IsOrder, IsPlaceIn, by_version, place_list, places_in}
use Rattle.ul_index.specs.declared.version_order.VersionOrder.{VersionOrder}
use Rattle.ul_index.specs.declared.version_order.Versioned.{Versioned}
use Rattle.ul_index.proofs.Inserted.{insert_mapped}
use Rattle.ul_index.proofs.Ordered.{order_from}
use Rattle.ul_index.proofs.Rising.{Differs, differs_all}
use Rattle.ul_base.proofs.ForCallers.{contains_first, contains_later}

-- ---- a version that ties with no other is put among increasing ones

by_order : {X : Type 0} (o : Ordering) (a b c d : X) → (o ≡ Equal → ⊥) → c ≡ d → match_ordering o a b c ≡ cond (is_lt o) a d
by_order Less a b c d apart same = refl
by_order Equal a b c d apart same = absurd (apart refl)
by_order Greater a b c d apart same = same

insert_placed : (v : Fields) (xs : List Fields) → Differs v xs → insert_key version_cmp xs v ≡ increasing_with v xs
insert_placed v [] h = refl
insert_placed v (x ∷ xs) h = by_order (version_cmp v x) (v ∷ x ∷ xs) (x ∷ xs) (x ∷ insert_key version_cmp xs v) (x ∷ increasing_with v xs) (h x (contains_first x xs))
    (ap (λ l. x ∷ l) (insert_placed v xs (λ y m. h y (contains_later x xs y m))))

-- ---- a loop from the last release to the first

pub differ_from_place : (n : ℕ) (rs : List ReleaseFields) → VersionsDiffer rs → VersionsDiffer (drop n rs)
differ_from_place zero rs h = h
differ_from_place (suc n) [] h = h
differ_from_place (suc n) (r ∷ rs) h = differ_from_place n rs h.1

-- the versions of those from one place on that pass the test
abbrev pub versions_from : (ReleaseFields → Bool) → List ReleaseFields → ℕ → List Fields
versions_from test rs i = in_order (map (λ r. r.version) (filter test (drop i rs)))

at_place : (rs : List ReleaseFields) (n i : ℕ) (r : ReleaseFields) → n ≡ i + 1 → i < length rs → r ≡ get_or rs i r → drop i rs ≡ r ∷ drop n rs
at_place rs n i r e lt at = drop_more rs i r lt ∙ ap (λ x. x ∷ drop (i + 1) rs) (sym at) ∙ ap (λ m. r ∷ drop m rs) (sym e)

-- it counts
pub versions-take : (test : ReleaseFields → Bool) (rs : List ReleaseFields) (n i : ℕ) (r : ReleaseFields) (ps now : List (Fields × ℕ)) → n ≡ i + 1 → i < length rs → r ≡ get_or rs i r → test r ≡ true
    → VersionsDiffer rs → map (λ p. p.0) ps ≡ versions_from test rs n → now ≡ insert_key by_version ps (r.version, i) → map (λ p. p.0) now ≡ versions_from test rs i
versions-take test rs n i r ps now e lt at counts differ have is =
    let here : drop i rs ≡ r ∷ drop n rs = at_place rs n i r e lt at in
    let apart : VersionsDiffer (r ∷ drop n rs) = subst VersionsDiffer here (differ_from_place i rs differ) in
    let others : Differs r.version (versions_from test rs n) = λ x m. differs_all test r (drop n rs) apart.0 x (order_from (map (λ (s : ReleaseFields). s.version) (filter test (drop n rs))) x m) in
    ap (map (λ p. p.0)) is ∙ insert_mapped (λ p. p.0) version_cmp ps (r.version, i) ∙ ap (λ l. insert_key version_cmp l r.version) have
    ∙ insert_placed r.version (versions_from test rs n) others
    ∙ sym (rw (here, counts) refl)

-- each place is right
pub places-take : (rs : List ReleaseFields) (i : ℕ) (r : ReleaseFields) (ps now : List (Fields × ℕ)) → i < length rs → r ≡ get_or rs i r → All (IsPlaceIn rs) ps → now ≡ insert_key by_version ps (r.version, i)
    → All (IsPlaceIn rs) now
places-take rs i r ps now lt at have is =
    subst (All (IsPlaceIn rs)) (sym is) (All-insert_key by_version (r.version, i) (IsPlaceIn rs) ps have (ap (λ o. version_in o) (slice_get_read rs (length rs) i r refl lt at)))
  where
    version_in : Option ReleaseFields → Option Fields
    version_in None = None
    version_in (Some s) = Some s.version

-- ---- the places of an order

places_versions : (rs : List ReleaseFields) (ps : List (Fields × ℕ)) → All (IsPlaceIn rs) ps → map (version_at rs) (map (λ p. p.1) ps) ≡ map Some (map (λ p. p.0) ps)
places_versions rs [] h = refl
places_versions rs (p ∷ ps) h =
    rw (h 0 p (omega arith), places_versions rs ps (λ k d lt. h (suc k) d (omega (arith, lt)))) refl

seconds : (ks : List Versioned) → map (λ k. k.place) ks ≡ map (λ (p : Fields × ℕ). p.1) (map (λ k. (k.version.now, k.place)) ks)
seconds [] = refl
seconds (k ∷ ks) = ap (λ l. k.place ∷ l) (seconds ks)

pub eligible_places : (c : Packages) (n : List ℕ) (mode : Prereleases) (rs : List ReleaseFields) (qs : List RequirementFields) (order : VersionOrder) (places : List ℕ) → mode ≡ prereleases_of c n → rs ≡ releases_of c n → qs ≡ directs_on c n
    → IsOrder mode qs rs order → places ≡ place_list order → map (version_at (releases_of c n)) places ≡ map Some (eligible c n)
unfolding eligible passing
eligible_places c n mode rs qs order places by of_name of_project right are =
    rw (← by, ← of_name, ← of_project, are, seconds order.keys.keys) (places_versions rs (places_in order) right.places ∙ ap (map Some) right.versions)

-- ---- a name on which the project has no requirement

none_next : (q : RequirementFields) (kept : List RequirementFields) (b others : Bool) → (b || others) ≡ false → (others ≡ false → kept ≡ []) → cond b (q ∷ kept) kept ≡ []
none_next q kept true others e h = cc
none_next q kept false others e h = h e

none_on : (n : List ℕ) (qs : List RequirementFields) → list_any (on_name n) qs ≡ false → filter (on_name n) qs ≡ []
none_on n [] e = refl
none_on n (q ∷ qs) e = none_next q (filter (on_name n) qs) (on_name n q) (list_any (on_name n) qs) e (none_on n qs)

-- its eligible releases are found among no requirements
pub indirect_places : (c : Packages) (n : List ℕ) (mode : Prereleases) (rs : List ReleaseFields) (qs : List RequirementFields) (order : VersionOrder) (places : List ℕ) → mode ≡ prereleases_of c n → rs ≡ releases_of c n
    → is_direct c n ≡ false → qs ≡ [] → IsOrder mode qs rs order → places ≡ place_list order
    → map (version_at (releases_of c n)) places ≡ map Some (eligible c n)
indirect_places c n mode rs qs order places by of_name none empty right are =
    eligible_places c n mode rs qs order places by of_name (empty ∙ sym (none_on n (directs c) none)) right are
