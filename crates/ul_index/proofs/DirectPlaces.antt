-- The project's requirements on a name, found by their places.
use Rattle.std.specs.Prelude.{slice_get}
use Rattle.std.specs.HashMap.{HashMap, get}
use Rattle.std.proofs.Common.{◌≡◌, ◌+◌, ◌-◌, ◌*◌, ◌<◌, ◌≤◌, suc, inl, inr, ℕ, List, [], ◌∷◌, ◌++◌, length, get_or, set, drop, map, filter, cond, Bool, true, false, Option, Some, arith, sym, ap, subst, ◌∙◌, refl, bytes_eq, append_assoc}
use Rattle.std.proofs.Math.Nat.{mul_comm}
use Rattle.std.proofs.lemmas.Bool.{cases_eq}
use Rattle.std.proofs.lemmas.Grind.{get_or-set_at}
use Rattle.std.proofs.lemmas.List.{drop_more, get_or-set_other, map-append}
use Rattle.std.proofs.lemmas.Nat.{mul-add-lt}
use Rattle.std.proofs.lemmas.Option.{same_Some, slice_get_read}
use Rattle.std.proofs.lemmas.Slice.Eq.{bytes_eq-Decides}
use Rattle.ul_requirement.specs.Fields.{RequirementFields}
use Rattle.ul_index.specs.DirectPlaces.{AreNextFrom, IsSkip, on_from, place_or}
use Rattle.ul_index.specs.Eligible.{on_name}

-- the requirement at a place is on the name, or it isn't
one_more : (qs : List RequirementFields) (n : List ℕ) (i : ℕ) (q : RequirementFields) → i < length qs → q ≡ get_or qs i q → on_from qs n i ≡ cond (on_name n q) (q ∷ on_from qs n (i + 1)) (on_from qs n (i + 1))
one_more qs n i q lt at = ap (filter (on_name n)) (drop_more qs i q lt ∙ ap (λ (x : RequirementFields). x ∷ drop (i + 1) qs) (sym at))

-- ---- the index

-- of each name where its requirements begin, from a place on
abbrev pub AreFirstFrom : {S : Type 0} → ℕ → List RequirementFields → HashMap (List ℕ) ℕ S → Type 0
AreFirstFrom i qs first = (n : List ℕ) → IsSkip qs n i (place_or (length qs) (get bytes_eq first n))

first_by : (qs : List RequirementFields) (n : List ℕ) (i : ℕ) (q : RequirementFields) (was : Option ℕ) (b : Bool) → on_from qs n i ≡ cond b (q ∷ on_from qs n (i + 1)) (on_from qs n (i + 1))
    → IsSkip qs n (i + 1) (place_or (length qs) was) → IsSkip qs n i (place_or (length qs) (cond b (Some i) was))
first_by qs n i q was true is have = refl
first_by qs n i q was false is have = is ∙ have

-- a place before the ones that are known
pub first_more : (qs : List RequirementFields) (n key : List ℕ) (m i : ℕ) (q : RequirementFields) (was now : Option ℕ) → m ≡ i + 1 → i < length qs → q ≡ get_or qs i q → key ≡ q.name
    → now ≡ cond (bytes_eq key n) (Some i) was → IsSkip qs n m (place_or (length qs) was) → IsSkip qs n i (place_or (length qs) now)
first_more qs n key m i q was now e lt at keyed is have =
    subst (λ (o : Option ℕ). IsSkip qs n i (place_or (length qs) o)) (sym (is ∙ ap (λ (k : List ℕ). cond (bytes_eq k n) (Some i) was) keyed))
    (first_by qs n i q was (on_name n q) (one_more qs n i q lt at) (subst (λ (k : ℕ). IsSkip qs n k (place_or (length qs) was)) e have))

-- of each place where to go on, one place before the ones that are known
pub next_more : (qs : List RequirementFields) (next now : List ℕ) (m i v : ℕ) (q : RequirementFields) (found : Option ℕ) → m ≡ i + 1 → i < length qs → length next ≡ length qs → q ≡ get_or qs i q
    → now ≡ set next i v → v ≡ place_or (length qs) found → IsSkip qs q.name m (place_or (length qs) found) → AreNextFrom m qs next → AreNextFrom i qs now
next_more qs next now m i v q found e lt size at is value skip have k p from here =
    elim (cases_eq k i) [
      | inl s ↦ (let same : q ≡ p = same_Some q p (sym (slice_get_read qs (length qs) i q refl lt at) ∙ ap (slice_get qs) (sym s) ∙ here) in
          let put : get_or now k 0 ≡ v = ap (λ (l : List ℕ). get_or l k 0) is ∙ get_or-set_at next i k v 0 s (omega (arith, lt, size)) in
          let plain : IsSkip qs q.name m (get_or now k 0) = subst (IsSkip qs q.name m) (sym (put ∙ value)) skip in
          subst (λ (x : RequirementFields). IsSkip qs x.name (k + 1) (get_or now k 0)) same (subst (λ (j : ℕ). IsSkip qs q.name j (get_or now k 0)) (e ∙ ap (λ (j : ℕ). j + 1) (sym s)) plain))
      | inr n ↦ subst (IsSkip qs p.name (k + 1)) (sym (ap (λ (l : List ℕ). get_or l k 0) is ∙ get_or-set_other next i k v 0 n)) (have k p (omega (arith, e, from, n)) here)
    ]

-- ---- the walk

-- what is found, and what is left from a place on, are the requirements on the name
abbrev pub IsWalk : List RequirementFields → List ℕ → List RequirementFields → ℕ → Type 0
IsWalk qs n found i = found ++ on_from qs n i ≡ filter (on_name n) qs

-- the requirement is on the name, and the walk goes on with the next one
next_left : (qs : List RequirementFields) (n : List ℕ) (i j : ℕ) (q : RequirementFields) (next : List ℕ) → i < length qs → q ≡ get_or qs i q → on_name n q ≡ true
    → AreNextFrom 0 qs next → j ≡ get_or next i 0 → on_from qs n i ≡ q ∷ on_from qs n j
next_left qs n i j q next lt at on skips to =
    let name : q.name ≡ n = (bytes_eq-Decides q.name n).0 on in
    let after : IsSkip qs q.name (i + 1) (get_or next i 0) = skips i q (omega arith) (slice_get_read qs (length qs) i q refl lt at) in
    let skip : IsSkip qs n (i + 1) j = subst (IsSkip qs n (i + 1)) (sym to) (subst (λ (x : List ℕ). IsSkip qs x (i + 1) (get_or next i 0)) name after) in
    one_more qs n i q lt at ∙ (ap (λ (b : Bool). cond b (q ∷ on_from qs n (i + 1)) (on_from qs n (i + 1))) on ∙ ap (λ (l : List RequirementFields). q ∷ l) skip)

pub walk_more : (qs : List RequirementFields) (n : List ℕ) (found now : List RequirementFields) (i j : ℕ) (q : RequirementFields) (next : List ℕ) → i < length qs → q ≡ get_or qs i q → on_name n q ≡ true
    → AreNextFrom 0 qs next → j ≡ get_or next i 0 → now ≡ found ++ q ∷ [] → IsWalk qs n found i → IsWalk qs n now j
walk_more qs n found now i j q next lt at on skips to e w =
    ap (λ (l : List RequirementFields). l ++ on_from qs n j) e ∙ (append_assoc found (q ∷ []) (on_from qs n j)
    ∙ (ap (λ (l : List RequirementFields). found ++ l) (sym (next_left qs n i j q next lt at on skips to)) ∙ w))

-- it isn't
past_left : (qs : List RequirementFields) (n : List ℕ) (i j : ℕ) (q : RequirementFields) → i < length qs → q ≡ get_or qs i q → on_name n q ≡ false → j ≡ i + 1 → on_from qs n i ≡ on_from qs n j
past_left qs n i j q lt at off to =
    one_more qs n i q lt at ∙ (ap (λ (b : Bool). cond b (q ∷ on_from qs n (i + 1)) (on_from qs n (i + 1))) off ∙ ap (λ (k : ℕ). on_from qs n k) (sym to))

pub walk_past : (qs : List RequirementFields) (n : List ℕ) (found now : List RequirementFields) (i j : ℕ) (q : RequirementFields) → i < length qs → q ≡ get_or qs i q → on_name n q ≡ false
    → j ≡ i + 1 → now ≡ found → IsWalk qs n found i → IsWalk qs n now j
walk_past qs n found now i j q lt at off to e w =
    ap (λ (l : List RequirementFields). l ++ on_from qs n j) e ∙ (ap (λ (l : List RequirementFields). found ++ l) (sym (past_left qs n i j q lt at off to)) ∙ w)

-- how far the walk is from its end: what is left to find counts more than the places that are left
unfoldable pub ahead : List RequirementFields → List ℕ → ℕ → ℕ
ahead qs n i = suc (length qs) * length (on_from qs n i) + (length qs - i)

found_counts : (m a b x y : ℕ) → a < b → x ≤ m → suc m * a + x < suc m * b + y
found_counts m a b x y less within = omega (arith, mul-add-lt a (suc m) x b less (omega (arith, within)), mul_comm (suc m) a)

-- each turn of it comes nearer to the end
pub more_ahead : (qs : List RequirementFields) (n : List ℕ) (i j : ℕ) (q : RequirementFields) (next : List ℕ) → i < length qs → q ≡ get_or qs i q → on_name n q ≡ true
    → AreNextFrom 0 qs next → j ≡ get_or next i 0 → ahead qs n j < ahead qs n i
unfolding ahead
more_ahead qs n i j q next lt at on skips to =
    let size : length (on_from qs n i) ≡ suc (length (on_from qs n j)) = ap (λ (l : List RequirementFields). length l) (next_left qs n i j q next lt at on skips to) in
    found_counts (length qs) (length (on_from qs n j)) (length (on_from qs n i)) (length qs - j) (length qs - i) (omega (arith, size)) (omega arith)

pub past_ahead : (qs : List RequirementFields) (n : List ℕ) (i j : ℕ) (q : RequirementFields) → i < length qs → q ≡ get_or qs i q → on_name n q ≡ false → j ≡ i + 1 → ahead qs n j < ahead qs n i
unfolding ahead
past_ahead qs n i j q lt at off to =
    let same : suc (length qs) * length (on_from qs n i) ≡ suc (length qs) * length (on_from qs n j) = ap (λ (l : List RequirementFields). suc (length qs) * length l) (past_left qs n i j q lt at off to) in
    omega (arith, same, lt, to)

-- one more was found
pub found_more : {A : Type 0} (view : A → RequirementFields) (found now : List A) (x : A) → now ≡ found ++ x ∷ [] → map view now ≡ map view found ++ view x ∷ []
found_more view found now x e = ap (map view) e ∙ map-append view found (x ∷ [])
