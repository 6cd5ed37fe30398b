-- Names that are taken in one after another, and nodes in order.
use Rattle.std.specs.Prelude.{All, slice_get}
use Rattle.std.proofs.Common.{◌≡◌, ◌-◌, ℕ, zero, suc, List, [], ◌∷◌, ◌++◌, length, Some, true, arith, sym, ap, subst, refl}
use Rattle.std.specs.Ordering.{is_lt}
use Rattle.std.specs.declared.cmp.Ordering.{Ordering}
use Rattle.std.specs.declared.cmp.Ordering.TheVariants.{Less, Equal, Greater}
use Rattle.std.proofs.lemmas.List.Elements.{All-nil, All-cons, All-weaker}
use Rattle.std.proofs.lemmas.Slice.Zip.{AllZip-long}
use Rattle.ul_version.specs.Fields.{Fields}
use Rattle.ul_requirement.specs.Fields.{WishFields}
use Rattle.ul_problem.specs.Problems.{Increases, IncreasesFrom}
use Rattle.ul_index.specs.Catalogs.{Packages}
use Rattle.ul_index.specs.Eligible.{eligible}
use Rattle.ul_prepared.specs.Gathered.{AreKnown, ComesAfter, IsKnown}
use Rattle.ul_prepared.specs.Lists.{AreListed, releases_in}
use Rattle.ul_prepared.specs.Permitted.{IsRising}
use Rattle.ul_prepared.specs.Prepared.{IsName, PlannedBefore}
use Rattle.ul_prepared.specs.Releases.{AreReleasesOf}
use Rattle.ul_prepared.specs.declared.prepared.NameFacts.{NameFacts}
use Rattle.ul_prepared.specs.declared.prepared.Planned.{Planned}
use Rattle.ul_prepared.specs.declared.releases.Releases.{Releases}
use Rattle.ul_prepared.proofs.Zipped.{zip_at, zip_push}

pub is_less : (o : Ordering) → is_lt o ≡ true → o ≡ Less
is_less Less e = refl
is_less Equal e = cc
is_less Greater e = cc

module _ (c : Packages) (wish : WishFields) where
  -- what is known of a name, with its releases
  pub known_is : (f : NameFacts) (r : Releases) (n : List ℕ) → f.name ≡ n → IsName c wish f → AreReleasesOf c n (eligible c n) (releases_in r) → AreListed r → IsKnown c wish f r
  known_is f r n named is are listed = record {
    name = is;
    releases = subst (λ (vs : List Fields). AreReleasesOf c f.name vs (releases_in r)) (sym is.versions)
        (subst (λ (m : List ℕ). AreReleasesOf c m (eligible c m) (releases_in r)) (sym named) are);
    listed = listed;
  }

  -- one name more
  pub known_more : (fs gs : List NameFacts) (rs ss : List Releases) (f : NameFacts) (r : Releases) → gs ≡ fs ++ f ∷ [] → ss ≡ rs ++ r ∷ [] → AreKnown c wish fs rs → IsKnown c wish f r → AreKnown c wish gs ss
  known_more fs gs rs ss f r d e h k =
      subst (λ (z : List NameFacts). AreKnown c wish z ss) (sym d)
      (subst (λ (z : List Releases). AreKnown c wish (fs ++ f ∷ []) z) (sym e) (zip_push (IsKnown c wish) fs rs f r h k))

  -- the name at a place, and the releases there
  pub known_at : (fs : List NameFacts) (rs : List Releases) (k : ℕ) (f : NameFacts) (r : Releases) → AreKnown c wish fs rs → slice_get fs k ≡ Some f → slice_get rs k ≡ Some r → IsKnown c wish f r
  known_at fs rs k f r h d e = zip_at (IsKnown c wish) fs rs k f r h d e

  names_known : (fs : List NameFacts) (rs : List Releases) → AreKnown c wish fs rs → All (IsName c wish) fs
  names_known [] rs h = All-nil (IsName c wish)
  names_known (f ∷ fs) [] h = absurd h
  names_known (f ∷ fs) (r ∷ rs) h = All-cons (IsName c wish) f fs h.0.name (names_known fs rs h.1)

  -- what is known of names is right, and their versions rise
  pub known_names : (fs : List NameFacts) (rs : List Releases) → AreKnown c wish fs rs → All (IsName c wish) fs
  known_names = names_known

  pub known_rising : (fs : List NameFacts) (rs : List Releases) → AreKnown c wish fs rs → All IsRising fs
  known_rising fs rs h = All-weaker (IsName c wish) IsRising (λ f k. record { few = k.few; rising = k.increasing }) fs (names_known fs rs h)

  -- the releases of each name have their lists
  pub known_listed : (fs : List NameFacts) (rs : List Releases) → AreKnown c wish fs rs → All AreListed rs
  known_listed [] [] h = All-nil AreListed
  known_listed [] (r ∷ rs) h = absurd h
  known_listed (f ∷ fs) [] h = absurd h
  known_listed (f ∷ fs) (r ∷ rs) h = All-cons AreListed r rs h.0.listed (known_listed fs rs h.1)

  -- each name has its releases
  pub known_size : (fs : List NameFacts) (rs : List Releases) → AreKnown c wish fs rs → length rs ≡ length fs
  known_size fs rs h = AllZip-long (IsKnown c wish) fs rs h

increases_from : {A : Type 0} (R : A → A → Type 0) (x : A) (xs : List A) (y : A) (m : ℕ) → m ≡ length xs → IncreasesFrom R x xs → ((p : A) → slice_get (x ∷ xs) m ≡ Some p → R p y) → IncreasesFrom R x (xs ++ y ∷ [])
increases_from R x [] y m e h last = (last x (ap (slice_get (x ∷ [])) e), tt)
increases_from R x (z ∷ zs) y zero e h last = absurd (omega arith)
increases_from R x (z ∷ zs) y (suc m) e h last = (h.0, increases_from R z zs y m (omega arith) h.1 last)

increases_push : {A : Type 0} (R : A → A → Type 0) (xs : List A) (y : A) → Increases R xs → ((p : A) → slice_get xs (length xs - 1) ≡ Some p → R p y) → Increases R (xs ++ y ∷ [])
increases_push R [] y h last = tt
increases_push R (x ∷ xs) y h last = increases_from R x xs y (length (x ∷ xs) - 1) (omega arith) h last

-- one node more, after the last
pub nodes_more : (done now : List Planned) (p : Planned) → now ≡ done ++ p ∷ [] → Increases PlannedBefore done → ComesAfter done p.node → Increases PlannedBefore now
nodes_more done now p e h after = subst (Increases PlannedBefore) (sym e) (increases_push PlannedBefore done p h after)
