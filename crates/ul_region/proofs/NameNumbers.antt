-- Numbers of the names of requirements.
use Rattle.std.specs.Option.{option_or}
use Rattle.std.specs.Prelude.{All, if◌then◌else◌, is_some}
use Rattle.std.specs.HashMap.{HashMap, get}
use Rattle.std.proofs.Common.{◌≡◌, ◌<◌, ◌≤◌, ◌+◌, ◌-◌, ℕ, zero, suc, List, [], ◌∷◌, ◌++◌, length, get_or, map, take, set, replicate, cond, Bool, true, false, Option, Some, None, refl, sym, ap, subst, ◌∙◌, bytes_eq, arith, inl, inr}
use Rattle.std.proofs.lemmas.Bool.{cases_eq}
use Rattle.std.proofs.lemmas.List.{map_more, take_all, take_more, length-take-le, get_or-take, length-map, length-set, length-replicate, get_or-replicate, get_or-map, get_or-set_same, get_or-set_other, get_or_default}
use Rattle.std.proofs.lemmas.List.Elements.{All-head, All-tail, All-more, All-from_get_or}
use Rattle.std.proofs.lemmas.Slice.Eq.{bytes_eq-Decides}
use Rattle.ul_requirement.specs.Fields.{RequirementFields}
use Rattle.ul_region.specs.Numbers.{AreFirstNumbers, AreFirstPlaces, AreNextOthers, AreOthersFrom, HasNumber, IsFirstFrom, IsOtherFrom, RepeatsName, first_on, numbers_of, or_zero, place_from, place_on}

-- ---- a loop that looks for the first one on a name

pub first_here : (n : List ℕ) (qs : List RequirementFields) (i : ℕ) (q : RequirementFields) → i < length qs → q ≡ get_or qs i q → All (λ (x : RequirementFields). bytes_eq x.name n ≡ false) (take i qs) → bytes_eq q.name n ≡ true → i ≡ first_on n qs
first_here n [] i q l e h t = absurd (omega (arith, l))
first_here n (z ∷ zs) zero q l e h t = sym (ap (λ (b : Bool). if b then 0 else suc (first_on n zs)) (ap (λ (x : RequirementFields). bytes_eq x.name n) (sym e) ∙ t))
first_here n (z ∷ zs) (suc i) q l e h t =
    ap suc (first_here n zs i q (omega (arith, l)) e (All-tail (λ (x : RequirementFields). bytes_eq x.name n ≡ false) z (take i zs) h) t)
    ∙ sym (ap (λ (b : Bool). if b then 0 else suc (first_on n zs)) (All-head (λ (x : RequirementFields). bytes_eq x.name n ≡ false) z (take i zs) h))

pub first_nowhere : (n : List ℕ) (qs : List RequirementFields) → All (λ (x : RequirementFields). bytes_eq x.name n ≡ false) qs → length qs ≡ first_on n qs
first_nowhere n [] h = refl
first_nowhere n (z ∷ zs) h =
    ap suc (first_nowhere n zs (All-tail (λ (x : RequirementFields). bytes_eq x.name n ≡ false) z zs h))
    ∙ sym (ap (λ (b : Bool). if b then 0 else suc (first_on n zs)) (All-head (λ (x : RequirementFields). bytes_eq x.name n ≡ false) z zs h))

pub not_yet : (n : List ℕ) (qs : List RequirementFields) (i : ℕ) (q : RequirementFields) → i < length qs → q ≡ get_or qs i q → All (λ (x : RequirementFields). bytes_eq x.name n ≡ false) (take i qs) → bytes_eq q.name n ≡ false
    → All (λ (x : RequirementFields). bytes_eq x.name n ≡ false) (take (i + 1) qs)
not_yet n qs i q l e h t = All-more (λ (x : RequirementFields). bytes_eq x.name n ≡ false) qs i q l h (subst (λ (x : RequirementFields). bytes_eq x.name n ≡ false) e t)

pub nowhere_at_end : (n : List ℕ) (qs : List RequirementFields) (i : ℕ) → length qs ≤ i → All (λ (x : RequirementFields). bytes_eq x.name n ≡ false) (take i qs) → length qs ≡ first_on n qs
nowhere_at_end n qs i l h = first_nowhere n qs (subst (All (λ (x : RequirementFields). bytes_eq x.name n ≡ false)) (take_all i qs l) h)

-- ---- the first one on a name stands no later than each

own_here : (n : List ℕ) → bytes_eq n n ≡ true
own_here n = (bytes_eq-Decides n n).1 refl

by_test_upto : (b : Bool) (m k : ℕ) → m ≤ k → (if b then 0 else suc m) ≤ suc k
by_test_upto true m k l = omega arith
by_test_upto false m k l = omega (arith, l)

pub first_upto : (qs : List RequirementFields) (k : ℕ) (q : RequirementFields) → k < length qs → q ≡ get_or qs k q → first_on q.name qs ≤ k
first_upto [] k q l e = absurd (omega (arith, l))
first_upto (z ∷ zs) zero q l e =
    let h : first_on q.name (z ∷ zs) ≡ 0 = ap (λ (b : Bool). if b then 0 else suc (first_on q.name zs)) (ap (λ (x : RequirementFields). bytes_eq x.name q.name) (sym e) ∙ own_here q.name) in
    omega (arith, h)
first_upto (z ∷ zs) (suc k) q l e = by_test_upto (bytes_eq z.name q.name) (first_on q.name zs) k (first_upto zs k q (omega (arith, l)) e)

-- ---- names that are looked up

snoc_by_test : (b : Bool) (i : ℕ) (rest known here there : Option ℕ) → rest ≡ option_or known here → here ≡ there → cond b (Some i) rest ≡ option_or (cond b (Some i) known) there
snoc_by_test true i rest known here there e h = refl
snoc_by_test false i rest known here there e h = e ∙ ap (option_or known) h

-- a requirement behind others
place_behind : (n : List ℕ) (i : ℕ) (qs : List RequirementFields) (q : RequirementFields) → place_from n i (qs ++ q ∷ []) ≡ option_or (place_from n i qs) (place_on q n (i + length qs))
place_behind n i [] q = ap (place_on q n) (omega arith)
place_behind n i (z ∷ zs) q =
    snoc_by_test (bytes_eq z.name n) i (place_from n (i + 1) (zs ++ q ∷ [])) (place_from n (i + 1) zs) (place_on q n (i + 1 + length zs)) (place_on q n (i + length (z ∷ zs)))
    (place_behind n (i + 1) zs q) (ap (place_on q n) (omega arith))

place_taken : (qs : List RequirementFields) (i : ℕ) (q : RequirementFields) (n : List ℕ) → i < length qs → q ≡ get_or qs i q → place_from n 0 (take (i + 1) qs) ≡ option_or (place_from n 0 (take i qs)) (place_on q n i)
place_taken qs i q n l at =
    let size : length (take i qs) ≡ i = length-take-le i qs (omega (arith, l)) in
    ap (place_from n 0) (take_more qs i q l ∙ ap (λ (x : RequirementFields). take i qs ++ x ∷ []) (sym at))
    ∙ place_behind n 0 (take i qs) q
    ∙ ap (λ (k : ℕ). option_or (place_from n 0 (take i qs)) (place_on q n k)) (omega (arith, size))

-- the next requirement, whose place is kept where none is kept of its name
pub place_next : (qs : List RequirementFields) (i : ℕ) (q : RequirementFields) (n : List ℕ) (was now : Option ℕ) → i < length qs → q ≡ get_or qs i q → was ≡ place_from n 0 (take i qs) → now ≡ option_or was (place_on q n i)
    → now ≡ place_from n 0 (take (i + 1) qs)
place_next qs i q n was now l at have is = is ∙ ap (λ (o : Option ℕ). option_or o (place_on q n i)) have ∙ sym (place_taken qs i q n l at)

repeat_by_test : (b : Bool) (known : Option ℕ) (i j : ℕ) → option_or known (cond b (Some i) None) ≡ option_or (option_or known (cond b (Some i) None)) (cond b (Some j) None)
repeat_by_test b (Some k) i j = refl
repeat_by_test true None i j = refl
repeat_by_test false None i j = refl

-- the next requirement is on the same name as the one before it, whose place is kept
pub place_repeated : (qs : List RequirementFields) (i : ℕ) (n : List ℕ) (was : Option ℕ) → RepeatsName qs i → was ≡ place_from n 0 (take i qs) → was ≡ place_from n 0 (take (i + 1) qs)
place_repeated qs i n was r have =
    let b : Bool = bytes_eq r.one.name n in
    let known = place_from n 0 (take r.last qs) in
    let here : place_from n 0 (take i qs) ≡ option_or known (cond b (Some r.last) None) =
    ap (λ (k : ℕ). place_from n 0 (take k qs)) r.before ∙ place_taken qs r.last r.one n (omega (arith, r.before, r.within)) r.one_at in
    let next : place_from n 0 (take (i + 1) qs) ≡ option_or (option_or known (cond b (Some r.last) None)) (cond b (Some i) None) =
    place_taken qs i r.other n r.within r.other_at
    ∙ ap (λ (o : Option ℕ). option_or o (place_on r.other n i)) here
    ∙ ap (λ (m : List ℕ). option_or (option_or known (cond b (Some r.last) None)) (cond (bytes_eq m n) (Some i) None)) (sym r.same) in
    have ∙ here ∙ repeat_by_test b known r.last i ∙ sym next

-- all requirements were taken
pub places_whole : (qs : List RequirementFields) (i : ℕ) (n : List ℕ) (was : Option ℕ) → length qs ≤ i → was ≡ place_from n 0 (take i qs) → was ≡ place_from n 0 qs
places_whole qs i n was l have = have ∙ ap (place_from n 0) (take_all i qs l)

pub same_there : (qs : List RequirementFields) (i : ℕ) (p q : RequirementFields) → i < length qs → p ≡ get_or qs i p → q ≡ get_or qs i q → p ≡ q
same_there qs i p q l a b = a ∙ get_or_default qs i p q l ∙ sym b

or_none : (o : Option ℕ) → o ≡ option_or o None
or_none None = refl
or_none (Some k) = refl

some_or : (o other : Option ℕ) → is_some o ≡ true → o ≡ option_or o other
some_or None other e = cc
some_or (Some k) other e = refl

not_some : (o : Option ℕ) → is_some o ≡ false → o ≡ None
not_some None e = refl
not_some (Some k) e = cc

kept_by_test : (b : Bool) (o : Option ℕ) (k : ℕ) → (b ≡ true → is_some o ≡ true) → o ≡ option_or o (cond b (Some k) None)
kept_by_test true o k h = some_or o (Some k) (h refl)
kept_by_test false o k h = or_none o

new_by_test : (b : Bool) (o : Option ℕ) (k : ℕ) → (b ≡ true → o ≡ None) → cond b (Some k) o ≡ option_or o (cond b (Some k) None)
new_by_test true o k h = sym (ap (λ (x : Option ℕ). option_or x (Some k)) (h refl))
new_by_test false o k h = or_none o

-- a place is kept of the name
pub kept_still : (f : List ℕ → Option ℕ) (name n : List ℕ) (k : ℕ) → is_some (f name) ≡ true → f n ≡ option_or (f n) (cond (bytes_eq name n) (Some k) None)
kept_still f name n k h = kept_by_test (bytes_eq name n) (f n) k (λ t. subst (λ (m : List ℕ). is_some (f m) ≡ true) ((bytes_eq-Decides name n).0 t) h)

-- a place is put, where none is kept of the name
pub kept_now : (f : List ℕ → Option ℕ) (name n : List ℕ) (k : ℕ) → is_some (f name) ≡ false → cond (bytes_eq name n) (Some k) (f n) ≡ option_or (f n) (cond (bytes_eq name n) (Some k) None)
kept_now f name n k h = new_by_test (bytes_eq name n) (f n) k (λ t. subst (λ (m : List ℕ). f m ≡ None) ((bytes_eq-Decides name n).0 t) (not_some (f name) h))

-- the number of a name that the one before has too
pub repeated_number : (qs : List RequirementFields) (place : ℕ) (numbers : List ℕ) → AreFirstNumbers qs place numbers → RepeatsName qs place → HasNumber qs place (get_or numbers (place - 1) 0)
repeated_number qs place numbers are r q at =
    let size : length (take place qs) ≡ place = length-take-le place qs (omega (arith, r.within)) in
    let last : place - 1 ≡ r.last = omega (arith, r.before) in
    let same : r.other ≡ q = r.other_at ∙ get_or_default qs place r.other q r.within ∙ sym at in
    ap (λ (k : ℕ). get_or numbers k 0) last
    ∙ ap (λ (z : List ℕ). get_or z r.last 0) are
    ∙ get_or-map (λ (x : RequirementFields). first_on x.name qs) (take place qs) r.last r.one 0 (omega (arith, size, r.before))
    ∙ ap (λ (x : RequirementFields). first_on x.name qs) (get_or-take place qs r.last r.one (omega (arith, r.before)) ∙ sym r.one_at)
    ∙ ap (λ (m : List ℕ). first_on m qs) (r.same ∙ ap (λ (x : RequirementFields). x.name) same)

place_by_test : (b : Bool) (i m k : ℕ) (rest : Option ℕ) → k ≡ (if b then 0 else suc m) → (b ≡ false → rest ≡ Some (i + 1 + m)) → cond b (Some i) rest ≡ Some (i + k)
place_by_test true i m k rest e h = ap Some (omega (arith, e))
place_by_test false i m k rest e h = h refl ∙ ap Some (omega (arith, e))

within_by_test : (b : Bool) (m n : ℕ) → b ≡ false → (if b then 0 else suc m) < suc n → m < n
within_by_test true m n e l = cc
within_by_test false m n e l = omega (arith, l)

pub place_there : (n : List ℕ) (i : ℕ) (qs : List RequirementFields) → first_on n qs < length qs → place_from n i qs ≡ Some (i + first_on n qs)
place_there n i [] l = absurd (omega (arith, l))
place_there n i (q ∷ qs) l = place_by_test (bytes_eq q.name n) i (first_on n qs) (first_on n (q ∷ qs)) (place_from n (i + 1) qs) refl
    (λ e. place_there n (i + 1) qs (within_by_test (bytes_eq q.name n) (first_on n qs) (length qs) e l))

-- what is kept for a requirement's name is its number
pub kept_number : {S : Type 0} (qs : List RequirementFields) (places : HashMap (List ℕ) ℕ S) (k : ℕ) (q : RequirementFields) (number : ℕ) → AreFirstPlaces qs places → k < length qs → q ≡ get_or qs k q → number ≡ or_zero (get bytes_eq places q.name) → number ≡ first_on q.name qs
kept_number qs places k q number first l at is =
    let near = first_upto qs k q l at in
    let there : place_from q.name 0 qs ≡ Some (0 + first_on q.name qs) = place_there q.name 0 qs (omega (arith, near, l)) in
    let none : 0 + first_on q.name qs ≡ first_on q.name qs = omega arith in
    is ∙ ap or_zero (first q.name ∙ there) ∙ none

pub number_more : (qs : List RequirementFields) (i : ℕ) (q : RequirementFields) (done now : List ℕ) (number : ℕ) → now ≡ done ++ number ∷ [] → done ≡ map (λ (x : RequirementFields). first_on x.name qs) (take i qs) → number ≡ first_on q.name qs
    → i < length qs → q ≡ get_or qs i q → now ≡ map (λ (x : RequirementFields). first_on x.name qs) (take (i + 1) qs)
number_more qs i q done now number e h is l at =
    e ∙ ap (λ (z : List ℕ). z ++ number ∷ []) h
    ∙ ap (λ (k : ℕ). map (λ (x : RequirementFields). first_on x.name qs) (take i qs) ++ k ∷ []) (is ∙ ap (λ (x : RequirementFields). first_on x.name qs) at)
    ∙ sym (map_more (λ (x : RequirementFields). first_on x.name qs) qs i q l)

pub number_at : (qs : List RequirementFields) (k : ℕ) (q : RequirementFields) → k < length qs → q ≡ get_or qs k q → get_or (numbers_of qs) k 0 ≡ first_on q.name qs
number_at qs k q l at = get_or-map (λ (x : RequirementFields). first_on x.name qs) qs k q 0 l ∙ ap (λ (x : RequirementFields). first_on x.name qs) (sym at)

pub some_at : (qs : List RequirementFields) (k : ℕ) → k < length qs → (q : RequirementFields) × (q ≡ get_or qs k q)
some_at [] k l = absurd (omega (arith, l))
some_at (z ∷ zs) zero l = (z, refl)
some_at (z ∷ zs) (suc k) l = some_at zs k (omega (arith, l))

pub numbers_count : (qs : List RequirementFields) (v : List ℕ) → v ≡ numbers_of qs → length v ≡ length qs
numbers_count qs v e = ap length e ∙ length-map qs (λ (x : RequirementFields). first_on x.name qs)

-- each number is a place
pub numbers_below : (qs : List RequirementFields) (v : List ℕ) → v ≡ numbers_of qs → All (λ (n : ℕ). n < length v) v
numbers_below qs v e = subst (λ (z : List ℕ). All (λ (n : ℕ). n < length z) z) (sym e) (All-from_get_or (λ (n : ℕ). n < length (numbers_of qs)) (numbers_of qs) 0 (λ k h.
    let size : length (numbers_of qs) ≡ length qs = length-map qs (λ (x : RequirementFields). first_on x.name qs) in
    let l : k < length qs = omega (arith, h, size) in
    let q = some_at qs k l in
    let at : get_or (numbers_of qs) k 0 ≡ first_on q.0.name qs = number_at qs k q.0 l q.1 in
    let near = first_upto qs k q.0 l q.1 in
    omega (arith, at, near, l, size)))

-- ---- the next place of another truth

-- what a loop over numbers knows of the last ones
pub record AreNextFrom (numbers truths seen next : List ℕ) (i : ℕ) : Type 0 where
  pub count : length seen ≡ length numbers
  pub size : length next ≡ length numbers
  pub first : (m : ℕ) → m < length numbers → IsFirstFrom numbers i m (get_or seen m 0)
  pub later : AreOthersFrom numbers truths next i

pub next_start : (numbers truths seen next : List ℕ) (n i : ℕ) → n ≡ length numbers → i ≡ length numbers → seen ≡ replicate n n → next ≡ replicate n n → AreNextFrom numbers truths seen next i
next_start numbers truths seen next n i e f s h = record {
  count = ap length s ∙ length-replicate n n ∙ e;
  size = ap length h ∙ length-replicate n n ∙ e;
  first = λ m l. subst (IsFirstFrom numbers i m) (sym (ap (λ (z : List ℕ). get_or z m 0) s ∙ get_or-replicate n m n 0 (omega (arith, l, e)))) (record {
    after = omega (arith, e, f);
    apart = λ j a b k. absurd (omega (arith, a, b, e, f));
    same = λ l. absurd (omega (arith, l, e));
  });
  later = λ k a b. absurd (omega (arith, a, b, f));
}

pub next_more : (numbers truths seen next : List ℕ) (i n number place : ℕ) → All (λ (m : ℕ). m < length numbers) numbers → n ≡ i + 1 → i < length numbers → number ≡ get_or numbers i number → AreNextFrom numbers truths seen next n
    → IsOtherFrom numbers truths (i + 1) (get_or numbers i 0) (get_or truths i 0) place
    → AreNextFrom numbers truths (set seen number i) (set next i place) i
next_more numbers truths seen next i n number place below e l at h found =
    let own : get_or numbers i 0 ≡ number = get_or_default numbers i 0 number l ∙ sym at in
    let there : number < length numbers = subst (λ (m : ℕ). m < length numbers) (sym at) (below i number l) in
    let kept : number < length seen = subst (λ (m : ℕ). number < m) (sym h.count) there in
    let room : i < length next = subst (λ (m : ℕ). i < m) (sym h.size) l in
    record {
      count = length-set seen number i ∙ h.count;
      size = length-set next i place ∙ h.size;
      first = λ m b. elim (cases_eq m number) [
        | inl same ↦ subst (IsFirstFrom numbers i m) (sym (ap (λ (x : ℕ). get_or (set seen number i) x 0) same ∙ get_or-set_same seen number i 0 kept)) (record {
          after = omega arith;
          apart = λ j a c k. absurd (omega (arith, a, c));
          same = λ c. own ∙ sym same;
        })
        | inr ne ↦ (let old = h.first m b in
            let from = old.after in
            subst (IsFirstFrom numbers i m) (sym (get_or-set_other seen number m i 0 ne)) (record {
              after = omega (arith, from, e);
              apart = λ j a c k. elim (cases_eq j i) [
                | inl here ↦ ne (sym k ∙ ap (λ (x : ℕ). get_or numbers x 0) here ∙ own)
                | inr later ↦ old.apart j (omega (arith, a, later, e)) c k
              ];
              same = old.same;
            }))
      ];
      later = λ k a b. elim (cases_eq k i) [
        | inl here ↦ subst (λ (x : ℕ). IsOtherFrom numbers truths (x + 1) (get_or numbers x 0) (get_or truths x 0) (get_or (set next i place) x 0)) (sym here)
            (subst (IsOtherFrom numbers truths (i + 1) (get_or numbers i 0) (get_or truths i 0)) (sym (get_or-set_same next i place 0 room)) found)
        | inr later ↦ subst (IsOtherFrom numbers truths (k + 1) (get_or numbers k 0) (get_or truths k 0)) (sym (get_or-set_other next i k place 0 later)) (h.later k (omega (arith, a, later, e)) b)
      ];
    }

pub next_whole : (numbers truths seen next : List ℕ) (i : ℕ) → AreNextFrom numbers truths seen next i → i ≡ 0 → AreNextOthers numbers truths next
next_whole numbers truths seen next i h e k l = h.later k (omega (arith, e)) l
