-- Places of requirements by the extras that their markers name.
use Rattle.std.specs.Prelude.{◌⊎◌, Contains, slice_get}
use Rattle.std.proofs.Common.{◌≡◌, ◌||◌, ◌+◌, ◌<◌, ◌≤◌, inl, inr, ℕ, zero, suc, List, [], ◌∷◌, ◌++◌, length, get_or, set, drop, cond, Bool, true, false, Global, Option, Some, None, String, Vec, arith, refl, sym, ap, subst, ◌∙◌, bytes_eq, string_bytes}
use Rattle.std.specs.HashMap.{get_by_text}
use Rattle.std.proofs.lemmas.Bool.{cases_eq}
use Rattle.std.proofs.lemmas.Grind.{get_or-set_at}
use Rattle.std.proofs.lemmas.List.{drop_all, drop_more, get_or-set_other, length-set}
use Rattle.std.proofs.lemmas.List.Elements.{Contains-append_left, Contains-append_right}
use Rattle.std.proofs.lemmas.Option.{none-some, slice_get-get_or, slice_get_within, get_or_from_slice_get}
use Rattle.std.proofs.lemmas.Slice.Eq.{bytes_eq-Decides}
use Rattle.ul_base.specs.declared.node.Node.{Node}
use Rattle.ul_comparison.specs.Formulas.{Formula, Formulas}
use Rattle.ul_comparison.specs.Truth.{is_empty}
use Rattle.ul_marker.specs.Views.{marker_view, markers_view}
use Rattle.ul_marker.specs.declared.marker.Marker.{Marker, All, Any, Extra}
use Rattle.ul_requirement.specs.Fields.{RequirementFields}
use Rattle.ul_requirement.specs.Truth.{marker_names, may_apply_with, names_extra, some_names_extra}
use Rattle.ul_region.specs.Extras.{AreCandidates, HasNamed, HaveAll, IsExtraIndex, IsFound, Keeps, names, places_at, places_in, places_with}
use Rattle.ul_region.specs.declared.extra_index.ExtraIndex.{ExtraIndex}
use Rattle.ul_region.proofs.MarkerFacts.{view_all, view_any, view_extra}

in_none : {A : Type 0} (x : A) → Contains [] x → ⊥
in_none x c = absurd (omega (arith, c.1))

-- ---- what is kept

pub keeps_itself : (i : ExtraIndex) → Keeps i i
keeps_itself i x k c = c

pub keeps_then : (i j n : ExtraIndex) → Keeps i j → Keeps j n → Keeps i n
keeps_then i j n first then x k c = then x k (first x k c)

found_kept : (i j : ExtraIndex) (x : List ℕ) (k : ℕ) → Keeps i j → IsFound i x k → IsFound j x k
found_kept i j x k kept (inl c) = inl (kept x k c)
found_kept i j x k kept (inr c) = inr (kept [] k c)

-- ---- one list more

push_stays : (lists : List (Vec ℕ Global)) (list : Vec ℕ Global) (n : ℕ) (k : ℕ) → Contains (places_in (slice_get lists n)) k → Contains (places_in (slice_get (lists ++ list ∷ []) n)) k
push_stays [] list n k c = absurd (in_none k c)
push_stays (l ∷ lists) list zero k c = c
push_stays (l ∷ lists) list (suc n) k c = push_stays lists list n k c

open_stays : (lists now : List (Vec ℕ Global)) (list : Vec ℕ Global) (o : Option ℕ) (k : ℕ) → now ≡ lists ++ list ∷ [] → Contains (places_with lists o) k → Contains (places_with now o) k
open_stays lists now list None k e c = c
open_stays lists now list (Some n) k e c = subst (λ (l : List (Vec ℕ Global)). Contains (places_in (slice_get l n)) k) (sym e) (push_stays lists list n k c)

open_by : (lists now : List (Vec ℕ Global)) (list : Vec ℕ Global) (was : Option ℕ) (n k : ℕ) (b : Bool) → now ≡ lists ++ list ∷ [] → (b ≡ true → places_with lists was ≡ [])
    → Contains (places_with lists was) k → Contains (places_with now (cond b (Some n) was)) k
open_by lists now list was n k true e none c = absurd (in_none k (subst (λ (l : List ℕ). Contains l k) (none refl) c))
open_by lists now list was n k false e none c = open_stays lists now list was k e c

-- an extra that had no places has a list
pub opened : (i j : ExtraIndex) (list : Vec ℕ Global) (key x : List ℕ) (n : ℕ) → key ≡ x → places_at i x ≡ [] → j.places.items ≡ i.places.items ++ list ∷ []
    → ((y : List ℕ) → get_by_text j.numbers y ≡ cond (bytes_eq key y) (Some n) (get_by_text i.numbers y)) → Keeps i j
opened i j list key x n own none pushed put y k c =
    subst (λ (o : Option ℕ). Contains (places_with j.places.items o) k) (sym (put y ∙ ap (λ (l : List ℕ). cond (bytes_eq l y) (Some n) (get_by_text i.numbers y)) own))
    (open_by i.places.items j.places.items list (get_by_text i.numbers y) n k (bytes_eq x y) pushed
    (λ same. ap (places_at i) (sym ((bytes_eq-Decides x y).0 same)) ∙ none) c)

-- ---- one place more

module _ (lists : List (Vec ℕ Global)) (n : ℕ) (was now : Vec ℕ Global) (place : ℕ) (lt : n < length lists) (at : was ≡ get_or lists n was) (pushed : now.items ≡ was.items ++ place ∷ []) where
  set_at : slice_get (set lists n now) n ≡ Some now
  set_at = slice_get-get_or (set lists n now) n now (omega (arith, lt, length-set lists n now)) ∙ ap Some (get_or-set_at lists n n now now refl lt)

  set_other : (m : ℕ) (list : Vec ℕ Global) → (m ≡ n → ⊥) → slice_get lists m ≡ Some list → slice_get (set lists n now) m ≡ Some list
  set_other m list apart e =
      slice_get-get_or (set lists n now) m list (omega (arith, slice_get_within lists m list e, length-set lists n now))
      ∙ ap Some (get_or-set_other lists n m now list apart ∙ get_or_from_slice_get lists m list list e)

  put_stays : (o : Option ℕ) (k : ℕ) → Contains (places_with lists o) k → Contains (places_with (set lists n now) o) k
  put_stays None k c = c
  put_stays (Some m) k c = stays (slice_get lists m) refl c
    where
      stays : (found : Option (Vec ℕ Global)) → slice_get lists m ≡ found → Contains (places_in found) k → Contains (places_in (slice_get (set lists n now) m)) k
      stays None e h = absurd (in_none k h)
      stays (Some list) e h = elim (cases_eq m n) [
        | inl same ↦ (let own : list ≡ was = sym (get_or_from_slice_get lists m list was e) ∙ (ap (λ (i : ℕ). get_or lists i was) same ∙ sym at) in
            subst (λ (i : ℕ). Contains (places_in (slice_get (set lists n now) i)) k) (sym same)
            (subst (λ (f : Option (Vec ℕ Global)). Contains (places_in f) k) (sym set_at)
            (subst (λ (l : List ℕ). Contains l k) (sym pushed)
            (Contains-append_left was.items (place ∷ []) k (subst (λ (l : Vec ℕ Global). Contains l.items k) own h)))))
        | inr apart ↦ subst (λ (f : Option (Vec ℕ Global)). Contains (places_in f) k) (sym (set_other m list apart e)) h
      ]

  put_there : Contains (places_with (set lists n now) (Some n)) place
  put_there = subst (λ (f : Option (Vec ℕ Global)). Contains (places_in f) place) (sym set_at)
      (subst (λ (l : List ℕ). Contains l place) (sym pushed) (Contains-append_right was.items (place ∷ []) place (0, omega arith, refl)))

-- the other extras keep their places, and so does this one
pub put_keeps : (i j : ExtraIndex) (n place : ℕ) (was now : Vec ℕ Global) → n < length i.places.items → was ≡ get_or i.places.items n was → now.items ≡ was.items ++ place ∷ []
    → j.numbers ≡ i.numbers → j.places.items ≡ set i.places.items n now → Keeps i j
put_keeps i j n place was now lt at pushed numbers places y k c =
    subst (λ m. Contains (places_with j.places.items (get_by_text m y)) k) (sym numbers)
    (subst (λ (l : List (Vec ℕ Global)). Contains (places_with l (get_by_text i.numbers y)) k) (sym places)
    (put_stays i.places.items n was now place lt at pushed (get_by_text i.numbers y) k c))

-- and the place is there
pub put_has : (i j : ExtraIndex) (x : List ℕ) (n place : ℕ) (was now : Vec ℕ Global) → n < length i.places.items → was ≡ get_or i.places.items n was → now.items ≡ was.items ++ place ∷ []
    → get_by_text i.numbers x ≡ Some n → j.numbers ≡ i.numbers → j.places.items ≡ set i.places.items n now → Contains (places_at j x) place
put_has i j x n place was now lt at pushed number numbers places =
    subst (λ m. Contains (places_with j.places.items (get_by_text m x)) place) (sym numbers)
    (subst (λ (o : Option ℕ). Contains (places_with j.places.items o) place) (sym number)
    (subst (λ (l : List (Vec ℕ Global)). Contains (places_with l (Some n)) place) (sym places)
    (put_there i.places.items n was now place lt at pushed)))

-- ---- markers

empty_is : (literal : List ℕ) → is_empty literal ≡ true → literal ≡ []
empty_is [] e = refl
empty_is (b ∷ bs) e = cc

named_by : (i : ExtraIndex) (literal x : List ℕ) (k : ℕ) (empty same : Bool) → is_empty literal ≡ empty → bytes_eq literal x ≡ same → Contains (places_at i literal) k → (empty || same) ≡ true → IsFound i x k
named_by i literal x k true same e s c h = inr (subst (λ (l : List ℕ). Contains (places_at i l) k) (empty_is literal e) c)
named_by i literal x k false true e s c h = inl (subst (λ (l : List ℕ). Contains (places_at i l) k) ((bytes_eq-Decides literal x).0 s) c)
named_by i literal x k false false e s c h = cc

-- a comparison with an extra names it, and the empty one names any
pub literal_named : (i j : ExtraIndex) (literal : List ℕ) (k : ℕ) → Keeps i j → Contains (places_at j literal) k → HasNamed (names literal) k i j
literal_named i j literal k keeps c = record {
  keeps = keeps;
  named = λ x h. named_by j literal x k (is_empty literal) (bytes_eq literal x) refl refl c h;
}

-- the same of a marker that is one
pub literal_is : (i j : ExtraIndex) (m : Marker) (literal : String Global) (equal : Bool) (bytes : List ℕ) (k : ℕ) → m ≡ Extra literal equal → bytes ≡ string_bytes literal
    → HasNamed (names bytes) k i j → HasNamed (λ x. names_extra x (marker_view m)) k i j
literal_is i j m literal equal bytes k e s h =
    subst (λ (f : Formula). HasNamed (λ x. names_extra x f) k i j) (sym (ap marker_view e ∙ view_extra literal equal)) (subst (λ (l : List ℕ). HasNamed (names l) k i j) s h)

-- of a marker of parts
pub all_are : (i j : ExtraIndex) (m : Marker) (parts : Vec Marker Global) (ms : List Marker) (k : ℕ) → m ≡ All parts → ms ≡ parts.items
    → HasNamed (λ x. some_names_extra x (markers_view ms)) k i j → HasNamed (λ x. names_extra x (marker_view m)) k i j
all_are i j m parts ms k e s h =
    subst (λ (f : Formula). HasNamed (λ x. names_extra x f) k i j) (sym (ap marker_view e ∙ view_all parts)) (subst (λ (l : List Marker). HasNamed (λ x. some_names_extra x (markers_view l)) k i j) s h)

pub any_are : (i j : ExtraIndex) (m : Marker) (parts : Vec Marker Global) (ms : List Marker) (k : ℕ) → m ≡ Any parts → ms ≡ parts.items
    → HasNamed (λ x. some_names_extra x (markers_view ms)) k i j → HasNamed (λ x. names_extra x (marker_view m)) k i j
any_are i j m parts ms k e s h =
    subst (λ (f : Formula). HasNamed (λ x. names_extra x f) k i j) (sym (ap marker_view e ∙ view_any parts)) (subst (λ (l : List Marker). HasNamed (λ x. some_names_extra x (markers_view l)) k i j) s h)

-- other comparisons name none
pub none_named : (i : ExtraIndex) (k : ℕ) → HasNamed (λ x. false) k i i
none_named i k = record { keeps = keeps_itself i; named = λ x h. cc }

-- each extra that some of these name is there, or some of those that are left name it
pub record AreLeft (parts left : Formulas) (k : ℕ) (before now : ExtraIndex) : Type 0 where
  pub keeps : Keeps before now
  pub named : (x : List ℕ) → some_names_extra x parts ≡ true → IsFound now x k ⊎ (some_names_extra x left ≡ true)

module _ (parts : List Marker) (k : ℕ) (before : ExtraIndex) where
  pub left_first : AreLeft (markers_view parts) (markers_view (drop 0 parts)) k before before
  left_first = record { keeps = keeps_itself before; named = λ x h. inr h }

  left_by : (now after : ExtraIndex) (x : List ℕ) (i : ℕ) (b : Bool) (f : Formula) → names_extra x f ≡ b → HasNamed (λ y. names_extra y f) k now after
      → (b || some_names_extra x (markers_view (drop (i + 1) parts))) ≡ true → IsFound after x k ⊎ (some_names_extra x (markers_view (drop (i + 1) parts)) ≡ true)
  left_by now after x i true f e one h = inl (one.named x e)
  left_by now after x i false f e one h = inr h

  -- one part more
  pub left_more : (now after : ExtraIndex) (i : ℕ) (m : Marker) → i < length parts → m ≡ get_or parts i m → HasNamed (λ x. names_extra x (marker_view m)) k now after
      → AreLeft (markers_view parts) (markers_view (drop i parts)) k before now → AreLeft (markers_view parts) (markers_view (drop (i + 1) parts)) k before after
  left_more now after i m lt at one so_far = record {
    keeps = keeps_then before now after so_far.keeps one.keeps;
    named = λ x h. elim (so_far.named x h) [
      | inl found ↦ inl (found_kept now after x k one.keeps found)
      | inr left ↦ (let rest : drop i parts ≡ m ∷ drop (i + 1) parts = drop_more parts i m lt ∙ ap (λ (y : Marker). y ∷ drop (i + 1) parts) (sym at) in
          left_by now after x i (names_extra x (marker_view m)) (marker_view m) refl one
          (subst (λ (ms : List Marker). some_names_extra x (markers_view ms) ≡ true) rest left))
    ];
  }

  -- no part is left
  pub left_none : (now : ExtraIndex) (i : ℕ) → length parts ≤ i → AreLeft (markers_view parts) (markers_view (drop i parts)) k before now → HasNamed (λ x. some_names_extra x (markers_view parts)) k before now
  left_none now i l so_far = record {
    keeps = so_far.keeps;
    named = λ x h. elim (so_far.named x h) [
      | inl found ↦ found
      | inr left ↦ (let none : false ≡ true = subst (λ (ms : List Marker). some_names_extra x (markers_view ms) ≡ true) (drop_all i parts l) left in cc)
    ];
  }

-- ---- requirements

-- of each extra the index has each place, of those below one, of a requirement whose marker names it
abbrev pub IsIndexBelow : List RequirementFields → ℕ → ExtraIndex → Type 0
IsIndexBelow qs n index = (k : ℕ) (q : RequirementFields) (x : List ℕ) → k < n → slice_get qs k ≡ Some q → marker_names q.marker x ≡ true → IsFound index x k

-- one requirement more
pub index_more : (qs : List RequirementFields) (n : ℕ) (q : RequirementFields) (i j : ExtraIndex) → n < length qs → q ≡ get_or qs n q → HasNamed (marker_names q.marker) n i j → IsIndexBelow qs n i → IsIndexBelow qs (n + 1) j
index_more qs n q i j lt at one below k p x l there h = elim (cases_eq k n) [
  | inl same ↦ (let own : p ≡ q = sym (get_or_from_slice_get qs k p q there) ∙ (ap (λ (m : ℕ). get_or qs m q) same ∙ sym at) in
      subst (λ (m : ℕ). IsFound j x m) (sym same) (one.named x (subst (λ (r : RequirementFields). marker_names r.marker x ≡ true) own h)))
  | inr apart ↦ found_kept i j x k one.keeps (below k p x (omega (arith, l, apart)) there h)
]

-- all requirements
pub index_all : (qs : List RequirementFields) (n : ℕ) (i : ExtraIndex) → length qs ≤ n → IsIndexBelow qs n i → IsExtraIndex qs i
index_all qs n i l below k q x at h = below k q x (omega (arith, l, slice_get_within qs k q at)) at h

-- ---- candidates

-- those that an index has of an extra are all that may be true with it
pub all_there : (qs : List RequirementFields) (n : Node) (x : List ℕ) (index : ExtraIndex) (places : List ℕ) → n.extra ≡ Some x → IsExtraIndex qs index → AreCandidates index x places → HaveAll qs n places
all_there qs n x index places e is found k q at may = found.all k (is k q x at (subst (λ (o : Option (List ℕ)). may_apply_with q o ≡ true) e may))
