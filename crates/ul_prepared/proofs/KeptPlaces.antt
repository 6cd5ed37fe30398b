-- Versions of an old lock that are found by their names.
use Rattle.std.specs.Prelude.{option_map, slice_get}
use Rattle.std.specs.HashMap.{HashMap, get}
use Rattle.std.specs.List.{list_any}
use Rattle.std.proofs.Common.{◌≡◌, ◌<◌, ◌≤◌, ◌+◌, ℕ, zero, suc, List, [], ◌∷◌, ◌++◌, length, get_or, map, take, filter, reverse, cond, ◌||◌, Bool, true, false, Option, Some, None, arith, sym, ap, subst, ◌∙◌, refl, bytes_eq, append_assoc}
use Rattle.std.proofs.lemmas.List.{length-map, map-append, reverse-append, take_all}
use Rattle.std.proofs.lemmas.List.FromFn.{get_or-range_with_len, length-range_with_len}
use Rattle.std.proofs.lemmas.List.Elements.{filter_more}
use Rattle.std.proofs.lemmas.Option.{get_or_from_slice_get, slice_get-get_or, slice_get-map}
use Rattle.std.proofs.lemmas.Slice.Eq.{bytes_eq-Decides}
use Rattle.ul_version.specs.Fields.{Fields}
use Rattle.ul_prepared.specs.KeptPlaces.{AreLastPlaces, HasNameAt, IsIndexed, Kept, is_on, is_there_on, last_before, last_on, name_in}
use Rattle.ul_prepared.specs.Orders.{places_below}
use Rattle.ul_prepared.proofs.TriedPlaces.{places_more}

next_is : (i : ℕ) → suc i ≡ i + 1
next_is i = omega arith

zero_plus : (i : ℕ) → 0 + i ≡ i
zero_plus i = omega arith

-- ---- the index

-- one place more
pub last_more : {S : Type 0} (kept : Kept) (i : ℕ) (old : List ℕ × Fields) (key : List ℕ) (last now : HashMap (List ℕ) ℕ S) → i < length kept → old ≡ get_or kept i old → key ≡ old.0
    → ((n : List ℕ) → get bytes_eq now n ≡ cond (bytes_eq key n) (Some i) (get bytes_eq last n)) → AreLastPlaces kept i last → AreLastPlaces kept (i + 1) now
last_more kept i old key last now l at keyed updates was n =
    updates n ∙ (ap (λ (b : Bool). cond b (Some i) (get bytes_eq last n)) (ap (λ (k : List ℕ). bytes_eq k n) keyed ∙ ap (is_there_on n) (sym (slice_get-get_or kept i old l ∙ ap Some (sym at))))
    ∙ (ap (cond (is_there_on n (slice_get kept i)) (Some i)) (was n) ∙ ap (last_on kept n) (next_is i)))

pub before_more : {S : Type 0} (kept : Kept) (i : ℕ) (old : List ℕ × Fields) (last : HashMap (List ℕ) ℕ S) (before now : List (Option ℕ)) (place : Option ℕ) → i < length kept → old ≡ get_or kept i old
    → AreLastPlaces kept i last → now ≡ before ++ place ∷ [] → place ≡ get bytes_eq last old.0 → before ≡ map (last_before kept) (places_below i) → now ≡ map (last_before kept) (places_below (i + 1))
before_more kept i old last before now place l at was e found h =
    let here : slice_get kept i ≡ Some old = slice_get-get_or kept i old l ∙ ap Some (sym at) in
    let is : place ≡ last_before kept i = found ∙ (was old.0 ∙ ap (λ (o : Option (List ℕ × Fields)). last_on kept (name_in o) i) (sym here)) in
    e ∙ (ap (λ (z : Option ℕ). before ++ z ∷ []) is ∙ (ap (λ (z : List (Option ℕ)). z ++ last_before kept i ∷ []) h
    ∙ (sym (map-append (last_before kept) (places_below i) (i ∷ [])) ∙ ap (map (last_before kept)) (sym (places_more i)))))

place_at : (n i : ℕ) → i < n → slice_get (places_below n) i ≡ Some i
place_at n i l = slice_get-get_or (places_below n) i i (subst (λ (m : ℕ). i < m) (sym (length-range_with_len 0 n)) l) ∙ ap Some (get_or-range_with_len 0 n i i l ∙ zero_plus i)

-- the place that stands before one
pub before_at : (kept : Kept) (i : ℕ) (before : List (Option ℕ)) → before ≡ map (last_before kept) (places_below (length kept)) → i < length kept → get_or before i None ≡ last_before kept i
before_at kept i before e l =
    get_or_from_slice_get before i (last_before kept i) None (ap (λ (z : List (Option ℕ)). slice_get z i) e ∙ (slice_get-map (last_before kept) (places_below (length kept)) i
    ∙ ap (option_map (last_before kept)) (place_at (length kept) i l)))

-- ---- what is found

-- the places below the next one
abbrev pub past : Option ℕ → ℕ
past None = 0
past (Some i) = i + 1

-- the versions of a name below a place
abbrev pub versions_to : Kept → List ℕ → ℕ → List Fields
versions_to kept n i = map (λ (k : List ℕ × Fields). k.1) (filter (is_on n) (take i kept))

versions_more : (kept : Kept) (n : List ℕ) (i : ℕ) (old : List ℕ × Fields) → i < length kept → slice_get kept i ≡ Some old → versions_to kept n (i + 1) ≡ versions_to kept n i ++ cond (is_on n old) (old.1 ∷ []) []
versions_more kept n i old l at =
    let e : get_or kept i old ≡ old = get_or_from_slice_get kept i old old at in
    ap (map (λ (k : List ℕ × Fields). k.1)) (filter_more (is_on n) kept i old l ∙ ap (λ (k : List ℕ × Fields). filter (is_on n) (take i kept) ++ cond (is_on n k) (k ∷ []) []) e)
    ∙ (map-append (λ (k : List ℕ × Fields). k.1) (filter (is_on n) (take i kept)) (cond (is_on n old) (old ∷ []) []) ∙ ap (λ (z : List Fields). versions_to kept n i ++ z) (one_mapped (is_on n old)))
  where
    one_mapped : (b : Bool) → map (λ (k : List ℕ × Fields). k.1) (cond b (old ∷ []) []) ≡ cond b (old.1 ∷ []) []
    one_mapped true = refl
    one_mapped false = refl

some_there : (kept : Kept) (i : ℕ) → i < length kept → (old : List ℕ × Fields) × (slice_get kept i ≡ Some old)
some_there [] i l = absurd (omega (arith, l))
some_there (k ∷ kept) zero l = (k, refl)
some_there (k ∷ kept) (suc i) l = some_there kept i (omega (arith, l))

append_nil : (xs : List Fields) → xs ++ [] ≡ xs
append_nil [] = refl
append_nil (x ∷ xs) = ap (λ (z : List Fields). x ∷ z) (append_nil xs)

skip_by : (kept : Kept) (n : List ℕ) (i : ℕ) (old : List ℕ × Fields) (b : Bool) → is_on n old ≡ b → versions_to kept n (i + 1) ≡ versions_to kept n i ++ cond (is_on n old) (old.1 ∷ []) []
    → versions_to kept n (past (last_on kept n i)) ≡ versions_to kept n i → versions_to kept n (past (cond b (Some i) (last_on kept n i))) ≡ versions_to kept n (i + 1)
skip_by kept n i old true e more h = refl
skip_by kept n i old false e more h = h ∙ sym (more ∙ (ap (λ (b : Bool). versions_to kept n i ++ cond b (old.1 ∷ []) []) e ∙ append_nil (versions_to kept n i)))

-- no version of the name stands behind its last place
skip : (kept : Kept) (n : List ℕ) (i : ℕ) → i ≤ length kept → versions_to kept n (past (last_on kept n i)) ≡ versions_to kept n i
skip kept n zero l = refl
skip kept n (suc i) l = let old = some_there kept i (omega (arith, l)) in
    let same : is_there_on n (slice_get kept i) ≡ is_on n old.0 = ap (is_there_on n) old.1 in
    skip_by kept n i old.0 (is_there_on n (slice_get kept i)) (sym same) (versions_more kept n i old.0 (omega (arith, l)) old.1) (skip kept n i (omega (arith, l))) ∙ ap (versions_to kept n) (sym (next_is i))

named_by : (kept : Kept) (n : List ℕ) (i : ℕ) (b : Bool) → i < length kept → is_there_on n (slice_get kept i) ≡ b → HasNameAt kept n (last_on kept n i) → HasNameAt kept n (cond b (Some i) (last_on kept n i))
named_by kept n i true l e h = (l, e)
named_by kept n i false l e h = h

-- the last place of a name has it
named : (kept : Kept) (n : List ℕ) (i : ℕ) → i ≤ length kept → HasNameAt kept n (last_on kept n i)
named kept n zero l = tt
named kept n (suc i) l = named_by kept n i (is_there_on n (slice_get kept i)) (omega (arith, l)) refl (named kept n i (omega (arith, l)))

past_by : (kept : Kept) (n : List ℕ) (i : ℕ) (b : Bool) → past (last_on kept n i) ≤ i → past (cond b (Some i) (last_on kept n i)) ≤ suc i
past_by kept n i true l = omega arith
past_by kept n i false l = omega (arith, l)

-- the last place below a place stands below it
past_within : (kept : Kept) (n : List ℕ) (i : ℕ) → past (last_on kept n i) ≤ i
past_within kept n zero = omega arith
past_within kept n (suc i) = past_by kept n i (is_there_on n (slice_get kept i)) (past_within kept n i)

-- what a walk knows: what is found, and what is left
pub record IsWalk (kept : Kept) (n : List ℕ) (done : List Fields) (at : Option ℕ) : Type 0 where
  pub named : HasNameAt kept n at
  pub found : done ++ reverse (versions_to kept n (past at)) ≡ reverse (map (λ (k : List ℕ × Fields). k.1) (filter (is_on n) kept))

-- where the walk begins
pub walk_begins : (kept : Kept) (n : List ℕ) (at : Option ℕ) → at ≡ last_on kept n (length kept) → IsWalk kept n [] at
walk_begins kept n at e = subst (IsWalk kept n []) (sym e) (record {
  named = named kept n (length kept) (omega arith);
  found = ap (λ (z : List Fields). reverse z) (skip kept n (length kept) (omega arith) ∙ ap (λ (z : Kept). map (λ (k : List ℕ × Fields). k.1) (filter (is_on n) z)) (take_all (length kept) kept (omega arith)));
})

-- one step back
pub walk_more : (kept : Kept) (n : List ℕ) (done now : List Fields) (i : ℕ) (old : List ℕ × Fields) (at : Option ℕ) → IsWalk kept n done (Some i) → old ≡ get_or kept i old → now ≡ done ++ old.1 ∷ [] → at ≡ last_before kept i → IsWalk kept n now at
walk_more kept n done now i old at w read e next =
    let there : slice_get kept i ≡ Some old = slice_get-get_or kept i old w.named.0 ∙ ap Some (sym read) in
    let on : is_on n old ≡ true = sym (ap (is_there_on n) there) ∙ w.named.1 in
    let name : old.0 ≡ n = (bytes_eq-Decides old.0 n).0 on in
    let before : at ≡ last_on kept n i = next ∙ ap (λ (m : List ℕ). last_on kept m i) (ap name_in there ∙ name) in
    let within : i ≤ length kept = omega (arith, w.named.0) in
    let here : versions_to kept n (i + 1) ≡ versions_to kept n i ++ old.1 ∷ [] = versions_more kept n i old w.named.0 there ∙ ap (λ (b : Bool). versions_to kept n i ++ cond b (old.1 ∷ []) []) on in
    let left : versions_to kept n (past at) ≡ versions_to kept n i = ap (λ (o : Option ℕ). versions_to kept n (past o)) before ∙ skip kept n i within in
    record {
      named = subst (HasNameAt kept n) (sym before) (named kept n i within);
      found = ap (λ (z : List Fields). z ++ reverse (versions_to kept n (past at))) e ∙ (ap (λ (z : List Fields). (done ++ old.1 ∷ []) ++ reverse z) left
          ∙ (append_assoc done (old.1 ∷ []) (reverse (versions_to kept n i)) ∙ (ap (λ (z : List Fields). done ++ z) (sym (ap (λ (z : List Fields). reverse z) here ∙ reverse-append (versions_to kept n i) (old.1 ∷ []))) ∙ w.found)));
    }

-- what a walk over an index knows at its beginning
pub begins : {S : Type 0} (kept own : Kept) (n : List ℕ) (lasts : HashMap (List ℕ) ℕ S) (befores : List (Option ℕ)) (at : Option ℕ) → kept ≡ own → IsIndexed own lasts befores → at ≡ get bytes_eq lasts n → IsWalk kept n [] at
begins kept own n lasts befores at e x found = subst (λ (z : Kept). IsWalk z n [] at) (sym e) (walk_begins own n at (found ∙ x.last n))

-- the place is one of the index
pub before_within : {S : Type 0} (kept own : Kept) (n : List ℕ) (lasts : HashMap (List ℕ) ℕ S) (befores places : List (Option ℕ)) (done : List Fields) (i : ℕ) (at : Option ℕ) → kept ≡ own → IsIndexed own lasts befores → places ≡ befores → at ≡ Some i → IsWalk kept n done at → i < length places
before_within kept own n lasts befores places done i at e x b is w =
    let h : HasNameAt kept n (Some i) = subst (HasNameAt kept n) is w.named in
    let size : length places ≡ length own = ap (λ (z : List (Option ℕ)). length z) (b ∙ x.before) ∙ (length-map (places_below (length own)) (last_before own) ∙ length-range_with_len 0 (length own)) in
    let same : length kept ≡ length own = ap (λ (z : Kept). length z) e in
    omega (arith, h.0)

-- what stands before a place stands below it
pub walk_falls : {S : Type 0} (kept own : Kept) (n : List ℕ) (lasts : HashMap (List ℕ) ℕ S) (befores places : List (Option ℕ)) (done : List Fields) (i : ℕ) (at : Option ℕ) → kept ≡ own → IsIndexed own lasts befores → places ≡ befores → at ≡ Some i → IsWalk kept n done at
    → past (get_or places i None) < past at
walk_falls kept own n lasts befores places done i at e x b is w =
    let h : HasNameAt kept n (Some i) = subst (HasNameAt kept n) is w.named in
    let within : i < length own = subst (λ (z : Kept). i < length z) e h.0 in
    let next : get_or places i None ≡ last_before own i = ap (λ (z : List (Option ℕ)). get_or z i None) b ∙ before_at own i befores x.before within in
    let below = past_within own (name_in (slice_get own i)) i in
    let here : past at ≡ i + 1 = ap past is in
    let there : past (get_or places i None) ≡ past (last_before own i) = ap past next in
    omega (arith, below, here, there)

-- one step of it
pub walk_next : {S : Type 0} (kept own : Kept) (n : List ℕ) (lasts : HashMap (List ℕ) ℕ S) (befores places : List (Option ℕ)) (done now : List Fields) (i : ℕ) (old : List ℕ × Fields) (at : Option ℕ) → kept ≡ own → IsIndexed own lasts befores → places ≡ befores
    → at ≡ Some i → IsWalk kept n done at → old ≡ get_or kept i old → now ≡ done ++ old.1 ∷ [] → IsWalk kept n now (get_or places i None)
walk_next kept own n lasts befores places done now i old at e x b is w read more =
    let h : IsWalk kept n done (Some i) = subst (IsWalk kept n done) is w in
    let within : i < length own = subst (λ (z : Kept). i < length z) e h.named.0 in
    walk_more kept n done now i old (get_or places i None) h read more
    (ap (λ (z : List (Option ℕ)). get_or z i None) b ∙ (before_at own i befores x.before within ∙ ap (λ (z : Kept). last_before z i) (sym e)))

pub pushed : {A : Type 0} (view : A → Fields) (done now : List A) (x : A) (v : Fields) → now ≡ done ++ x ∷ [] → view x ≡ v → map view now ≡ map view done ++ v ∷ []
pushed view done now x v e is = ap (map view) e ∙ (map-append view done (x ∷ []) ∙ ap (λ (z : Fields). map view done ++ z ∷ []) is)

-- where the walk ends
pub walk_ends : (kept : Kept) (n : List ℕ) (found : List Fields) → IsWalk kept n found None → found ≡ reverse (map (λ (k : List ℕ × Fields). k.1) (filter (is_on n) kept))
walk_ends kept n found w = sym (append_nil found) ∙ w.found

-- ---- whether a version is one of these, the other way round

any_join : (q : Fields → Bool) (xs ys : List Fields) → list_any q (xs ++ ys) ≡ (list_any q xs || list_any q ys)
any_join q [] ys = refl
any_join q (x ∷ xs) ys = ap (λ (b : Bool). q x || b) (any_join q xs ys) ∙ or_assoc (q x) (list_any q xs) (list_any q ys)
  where
    or_assoc : (a b c : Bool) → (a || (b || c)) ≡ ((a || b) || c)
    or_assoc true b c = refl
    or_assoc false b c = refl

or_swap : (a b : Bool) → (a || (b || false)) ≡ (b || a)
or_swap true true = refl
or_swap true false = refl
or_swap false true = refl
or_swap false false = refl

pub any_reverse : (q : Fields → Bool) (xs : List Fields) → list_any q (reverse xs) ≡ list_any q xs
any_reverse q [] = refl
any_reverse q (x ∷ xs) = ap (list_any q) (reverse-append (x ∷ []) xs) ∙ (any_join q (reverse xs) (x ∷ []) ∙ (ap (λ (b : Bool). b || (q x || false)) (any_reverse q xs) ∙ or_swap (list_any q xs) (q x)))
