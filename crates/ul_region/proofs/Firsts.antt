-- Loops over requirements that are asked about, in order.
use Rattle.std.proofs.Common.{◌≡◌, ℕ, suc, ◌+◌, ◌-◌, ◌<◌, ◌≤◌, List, [], ◌∷◌, map, take, length, get_or, Bool, false, Some, Decides, refl, ap, sym, subst, ◌∙◌, arith, inl, inr, ⊎_elim}
use Rattle.std.specs.Prelude.{All, Contains, slice_get}
use Rattle.std.proofs.lemmas.Bool.{cases_lt, cases_eq}
use Rattle.std.proofs.lemmas.List.{get_or-map, length-map}
use Rattle.std.proofs.lemmas.List.Elements.{All-more}
use Rattle.std.proofs.lemmas.Option.{same_Some, slice_get_within, slice_get-get_or, get_or_from_slice_get}
use Rattle.ul_requirement.specs.Fields.{RequirementFields}
use Rattle.ul_base.proofs.ForCallers.{contains_cases, none_at_all, none_in}
use Rattle.ul_region.specs.Numbers.{IsOtherFrom}
use Rattle.ul_region.specs.Rows.{AreLinked, next_in, number_in, requirement_of, truth_in}
use Rattle.ul_region.specs.declared.rows.Asked.{Asked}

-- none of the requirements is such
abbrev pub NoneOf : (RequirementFields → Type 0) → List Asked → Type 0
NoneOf P xs = All (λ (a : Asked). P a.requirement.now → ⊥) xs

none_more : (P : RequirementFields → Type 0) (xs : List Asked) (i : ℕ) (a : Asked) → i < length xs → a ≡ get_or xs i a → NoneOf P (take i xs) → (P a.requirement.now → ⊥) → NoneOf P (take (i + 1) xs)
none_more P xs i a l e h f = All-more (λ (b : Asked). P b.requirement.now → ⊥) xs i a l h (subst (λ (b : Asked). P b.requirement.now → ⊥) e f)

-- the list stands behind a reference, as `ys`
pub none_so_far : (P : RequirementFields → Type 0) (xs ys : List Asked) (i : ℕ) (a : Asked) → ys ≡ xs → i < length ys → a ≡ get_or ys i a → NoneOf P (take i xs) → (P a.requirement.now → ⊥) → NoneOf P (take (i + 1) xs)
none_so_far P xs ys i a same l e h f = none_more P xs i a (subst (λ (zs : List Asked). i < length zs) same l) (subst (λ (zs : List Asked). a ≡ get_or zs i a) same e) h f

pub none_at_end : (P : RequirementFields → Type 0) (xs ys : List Asked) (i : ℕ) → ys ≡ xs → length ys ≤ i → NoneOf P (take i xs) → (q : RequirementFields) → Contains (map requirement_of xs) q → P q → ⊥
none_at_end P xs ys i same l h = none_at_all requirement_of P xs i (subst (λ (zs : List Asked). length zs ≤ i) same l) h

pub item_in : (xs ys : List Asked) (i : ℕ) (a : Asked) → ys ≡ xs → i < length ys → a ≡ get_or ys i a → Contains xs a
item_in xs ys i a same l e = subst (λ (zs : List Asked). Contains zs a) same (i, l, sym e)

pub fails : (P : Type 0) (b : Bool) → Decides b P → b ≡ false → P → ⊥
fails P b d e p = cc (d.1 p)

-- ---- a walk over the requirements on one name

-- one of the requirements stands at a place
place_of : (xs : List Asked) (q : RequirementFields) → Contains (map requirement_of xs) q → (k : ℕ) × (b : Asked) × (slice_get xs k ≡ Some b) × (b.requirement.now ≡ q)
place_of [] q c = absurd (none_in q c)
place_of (x ∷ xs) q c = ⊎_elim (λ e. (0, x, refl, sym e)) (λ r. let p = place_of xs q r in (suc p.0, p.1, p.2, p.3)) (contains_cases x.requirement.now (map requirement_of xs) q c)

-- none of the requirements before a place is such, and the one at the place is on the name
pub record IsWalked (P : RequirementFields → Type 0) (asked : List Asked) (number place : ℕ) : Type 0 where
  pub none : (j : ℕ) (b : Asked) → slice_get asked j ≡ Some b → j < place → P b.requirement.now → ⊥
  pub on : place < length asked → get_or (map number_in asked) place 0 ≡ number

-- those of one truth and one name are such alike
abbrev pub AreAlike : (RequirementFields → Type 0) → List Asked → Type 0
AreAlike P asked = (a b : Asked) → Contains asked a → Contains asked b → a.name ≡ b.name → a.truth ≡ b.truth → P a.requirement.now → P b.requirement.now

-- those that are such are on the name
abbrev pub AreOn : (RequirementFields → Type 0) → List Asked → ℕ → Type 0
AreOn P asked number = (b : Asked) → Contains asked b → P b.requirement.now → b.name ≡ number

number_read : (asked : List Asked) (k : ℕ) (b : Asked) → slice_get asked k ≡ Some b → get_or (map number_in asked) k 0 ≡ b.name
number_read asked k b e = get_or-map number_in asked k b 0 (slice_get_within asked k b e) ∙ ap number_in (get_or_from_slice_get asked k b b e)

next_read : (asked : List Asked) (k : ℕ) (b : Asked) → slice_get asked k ≡ Some b → get_or (map next_in asked) k 0 ≡ b.next
next_read asked k b e = get_or-map next_in asked k b 0 (slice_get_within asked k b e) ∙ ap next_in (get_or_from_slice_get asked k b b e)

truth_read : (asked : List Asked) (k : ℕ) (b : Asked) → slice_get asked k ≡ Some b → get_or (map truth_in asked) k 0 ≡ b.truth
truth_read asked k b e = get_or-map truth_in asked k b 0 (slice_get_within asked k b e) ∙ ap truth_in (get_or_from_slice_get asked k b b e)

contained : (asked : List Asked) (k : ℕ) (b : Asked) → slice_get asked k ≡ Some b → Contains asked b
contained asked k b e = (k, slice_get_within asked k b e, get_or_from_slice_get asked k b b e)

pub walk_begins : (P : RequirementFields → Type 0) (asked : List Asked) (a : Asked) → AreLinked asked → Contains asked a → AreOn P asked a.name → IsWalked P asked a.name a.name
walk_begins P asked a links c on = let first = links.first a c in record {
  none = λ j b e l p. first.apart j (omega arith) l (number_read asked j b e ∙ on b (contained asked j b e) p);
  on = λ l. first.same (subst (λ (n : ℕ). a.name < n) (sym (length-map asked number_in)) l);
}

-- what a link says of the place that it leads to
link : (asked : List Asked) (number place : ℕ) (b : Asked) → AreLinked asked → slice_get asked place ≡ Some b → get_or (map number_in asked) place 0 ≡ number → IsOtherFrom (map number_in asked) (map truth_in asked) (place + 1) number b.truth b.next
link asked number place b links at on =
    subst (λ (n : ℕ). IsOtherFrom (map number_in asked) (map truth_in asked) (place + 1) n b.truth b.next) on
    (subst (λ (t : ℕ). IsOtherFrom (map number_in asked) (map truth_in asked) (place + 1) (get_or (map number_in asked) place 0) t b.next) (truth_read asked place b at)
    (subst (IsOtherFrom (map number_in asked) (map truth_in asked) (place + 1) (get_or (map number_in asked) place 0) (get_or (map truth_in asked) place 0)) (next_read asked place b at)
    (links.next place (subst (λ (n : ℕ). place < n) (sym (length-map asked number_in)) (slice_get_within asked place b at)))))

pub walk_more : (P : RequirementFields → Type 0) (asked ys : List Asked) (number place : ℕ) (b : Asked) → AreLinked asked → AreAlike P asked → AreOn P asked number → ys ≡ asked → place < length ys → b ≡ get_or ys place b → (P b.requirement.now → ⊥) → IsWalked P asked number place
    → IsWalked P asked number b.next
walk_more P asked ys number place b links alike on same l at not_so h =
    let here : slice_get asked place ≡ Some b = subst (λ (zs : List Asked). slice_get zs place ≡ Some b) same (slice_get-get_or ys place b l ∙ ap Some (sym at)) in
    let named : get_or (map number_in asked) place 0 ≡ number = h.on (slice_get_within asked place b here) in
    let next = link asked number place b links here named in
    record {
      none = λ j x e m p. elim (cases_lt j place) [
        | inl before ↦ h.none j x e before p
        | inr from ↦ elim (cases_eq j place) [
          | inl equal ↦ not_so (subst (λ (y : Asked). P y.requirement.now) (same_Some x b (sym e ∙ (ap (slice_get asked) equal ∙ here))) p)
          | inr apart ↦ (let own : x.name ≡ number = on x (contained asked j x e) p in
              let truth : get_or (map truth_in asked) j 0 ≡ b.truth = next.alike j (omega (arith, from, apart)) m (number_read asked j x e ∙ own) in
              not_so (alike x b (contained asked j x e) (contained asked place b here) (own ∙ (sym named ∙ number_read asked place b here)) (sym (truth_read asked j x e) ∙ truth) p))
        ]
      ];
      on = λ m. next.same (subst (λ (n : ℕ). b.next < n) (sym (length-map asked number_in)) m);
    }

-- a walk goes on
pub walk_rises : (P : RequirementFields → Type 0) (asked ys : List Asked) (number place : ℕ) (b : Asked) → AreLinked asked → ys ≡ asked → place < length ys → b ≡ get_or ys place b → IsWalked P asked number place → length asked - b.next < length asked - place
walk_rises P asked ys number place b links same l at h =
    let here : slice_get asked place ≡ Some b = subst (λ (zs : List Asked). slice_get zs place ≡ Some b) same (slice_get-get_or ys place b l ∙ ap Some (sym at)) in
    let inside = slice_get_within asked place b here in
    let next = (link asked number place b links here (h.on inside)).after in
    omega (arith, inside, next)

pub walk_ends : (P : RequirementFields → Type 0) (asked ys : List Asked) (number place : ℕ) → ys ≡ asked → length ys ≤ place → IsWalked P asked number place → (q : RequirementFields) → Contains (map requirement_of asked) q → P q → ⊥
walk_ends P asked ys number place same l h q c p =
    let x = place_of asked q c in
    let inside = slice_get_within asked x.0 x.1 x.2 in
    let size : length ys ≡ length asked = ap length same in
    h.none x.0 x.1 x.2 (omega (arith, inside, size, l)) (subst P (sym x.3) p)
