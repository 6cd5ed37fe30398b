-- What a choice of versions serves.
use Rattle.std.proofs.Common.{◌≡◌, ℕ, suc, ◌+◌, ◌<◌, ◌≤◌, inl, inr, List, [], ◌∷◌, Bool, true, false, drop, get_or, length, Option, Some, None, slice_get, refl, sym, subst, ap, ◌∙◌, arith}
use Rattle.std.specs.Prelude.{Contains, is_some}
use Rattle.std.proofs.lemmas.Bool.{cases_lt, true≢false}
use Rattle.std.proofs.lemmas.List.{get_or-drop, get_or_past}
use Rattle.std.proofs.lemmas.Option.{none-some, same_Some, slice_get_within, get_or_from_slice_get}
use Rattle.ul_ranges.specs.Flags.{has}
use Rattle.ul_problem.specs.Plain.{Plain, needs_of}
use Rattle.ul_problem.specs.Problems.{IsWellFormed}
use Rattle.ul_problem.specs.Terms.{Selection, is_among}
use Rattle.ul_problem.specs.declared.problem.Need.{Need}
use Rattle.ul_problem.proofs.ForCallers.{one_place}
use Rattle.ul_blame.specs.Needs.{all_needs, StandsIn}
use Rattle.ul_blame.specs.Serving.{IsMet, Meets, IsServed}
use Rattle.ul_blame.specs.Turns.{left_of}
use Rattle.ul_blame.specs.Choices.{chosen, HasBaseAt, IsFitAt, AreFit, AreListed, HasRoots, IsMetAt, MeetsKept}
use Rattle.ul_blame.specs.declared.needs.CoreNeed.{CoreNeed}
use Rattle.ul_blame.proofs.Alike.{serves_bare}
use Rattle.ul_blame.proofs.Flagged.{EachKept, each_kept}
use Rattle.ul_blame.proofs.Standing.{stands_in}
use Rattle.ul_blame.proofs.Written.{one_read}

-- what was answered is the answer
none_is : (o : Option ℕ) (v : ℕ) → o ≡ None → o ≡ Some v → ⊥
none_is o v e f = none-some v (sym e ∙ f)

one_is : (o : Option ℕ) (v w : ℕ) → o ≡ Some v → o ≡ Some w → v ≡ w
one_is o v w e f = same_Some v w (sym e ∙ f)

-- ---- a node

-- no base is at any version
pub no_base : (σ : Selection) (o : Option ℕ) (v : ℕ) → o ≡ None → HasBaseAt σ o v
no_base σ o v e b f = absurd (none_is o b e f)

-- the base is at the version
pub base_at : (σ : Selection) (o : Option ℕ) (v b w : ℕ) → o ≡ Some b → σ b ≡ Some w → w ≡ v → HasBaseAt σ o v
base_at σ o v b w e f g c h = subst (λ (n : ℕ). σ n ≡ Some v) (one_is o b c e h) (f ∙ ap Some g)

-- what is chosen of the nodes before a place is fit
abbrev pub AreFitBefore : Plain → Selection → ℕ → Type 0
AreFitBefore p σ i = (n v : ℕ) → n < i → σ n ≡ Some v → IsFitAt p σ n v

pub fit_more : (p : Plain) (σ : Selection) (i : ℕ) → AreFitBefore p σ i → ((v : ℕ) → σ i ≡ Some v → IsFitAt p σ i v) → AreFitBefore p σ (i + 1)
fit_more p σ i h now n v l e = elim (cases_lt n i) [
  | inl b ↦ h n v b e
  | inr a ↦ (let s : n ≡ i = omega (arith, l, a) in subst (λ (m : ℕ). σ m ≡ Some v → IsFitAt p σ m v) (sym s) (now v) e)
]

-- no node is chosen past the end
pub fit_all : (p : Plain) (choice : List (Option ℕ)) (i : ℕ) → length choice ≤ i → AreFitBefore p (chosen choice) i → AreFit p (chosen choice)
fit_all p choice i l h n v e = elim (cases_lt n i) [
  | inl b ↦ h n v b e
  | inr a ↦ absurd (none_is (chosen choice n) v (get_or_past choice n None (omega (arith, l, a))) e)
]

-- ---- the roots

-- the roots before a place are chosen
abbrev pub HasRootsBefore : Selection → List ℕ → ℕ → Type 0
HasRootsBefore σ roots i = (k n : ℕ) → k < i → slice_get roots k ≡ Some n → (v : ℕ) × (σ n ≡ Some v)

some_of : (o : Option ℕ) → is_some o ≡ true → (v : ℕ) × (o ≡ Some v)
some_of None e = absurd (true≢false (sym e))
some_of (Some v) e = (v, refl)

pub roots_more : (σ : Selection) (roots : List ℕ) (i d : ℕ) → HasRootsBefore σ roots i → is_some (σ (get_or roots i d)) ≡ true → HasRootsBefore σ roots (i + 1)
roots_more σ roots i d h s k n l at = elim (cases_lt k i) [
  | inl b ↦ h k n b at
  | inr a ↦ (let same : k ≡ i = omega (arith, l, a) in
      subst (λ (m : ℕ). (v : ℕ) × (σ m ≡ Some v)) (get_or_from_slice_get roots i n d (ap (slice_get roots) (sym same) ∙ at)) (some_of (σ (get_or roots i d)) s))
]

pub roots_all : (σ : Selection) (roots : List ℕ) (i : ℕ) → length roots ≤ i → HasRootsBefore σ roots i → HasRoots σ roots
roots_all σ roots i l h n c = let r = one_place roots n c in let w = slice_get_within roots r.0 n r.1 in h r.0 n (omega (arith, l, w)) r.1

-- ---- the needs

-- the target is chosen at a permitted version
pub reached : (p : Plain) (σ : Selection) (c : CoreNeed) (need : Need) (v : ℕ) → slice_get (needs_of p c.node c.version) c.place ≡ Some need → σ need.node ≡ Some v → has v need.permitted ≡ true → IsMet p σ c
reached p σ c need v at e h other there f =
    subst (Meets σ c.node c.version) (same_Some need other (sym at ∙ there)) (λ _. ap (λ o. is_among o need.permitted) e ∙ h) f

-- past the end no need is to be met
pub past_met : (p : Plain) (σ : Selection) (flags : List Bool) (needs : List CoreNeed) (k : ℕ) → length needs ≤ k → IsMetAt p σ flags needs k
past_met p σ flags needs k l c at f = let w = slice_get_within needs k c at in absurd (omega (arith, l, w))

-- nor is one whose flag isn't set
pub unset_met : (p : Plain) (σ : Selection) (flags : List Bool) (needs : List CoreNeed) (k : ℕ) → get_or flags k false ≡ false → IsMetAt p σ flags needs k
unset_met p σ flags needs k e c at f = absurd (true≢false (sym f ∙ e))

-- the needs at the first of some places are met
abbrev pub AreMetBefore : Plain → Selection → List Bool → List CoreNeed → List ℕ → ℕ → Type 0
AreMetBefore p σ flags needs places i = (j k : ℕ) → j < i → slice_get places j ≡ Some k → IsMetAt p σ flags needs k

pub places_more : (p : Plain) (σ : Selection) (flags : List Bool) (needs : List CoreNeed) (places : List ℕ) (i d : ℕ) → AreMetBefore p σ flags needs places i → IsMetAt p σ flags needs (get_or places i d)
    → AreMetBefore p σ flags needs places (i + 1)
places_more p σ flags needs places i d h now j k l at = elim (cases_lt j i) [
  | inl b ↦ h j k b at
  | inr a ↦ (let same : j ≡ i = omega (arith, l, a) in subst (IsMetAt p σ flags needs) (get_or_from_slice_get places i k d (ap (slice_get places) (sym same) ∙ at)) now)
]

pub places_all : (p : Plain) (σ : Selection) (flags : List Bool) (needs : List CoreNeed) (places : List ℕ) (i : ℕ) → length places ≤ i → AreMetBefore p σ flags needs places i
    → (k : ℕ) → Contains places k → IsMetAt p σ flags needs k
places_all p σ flags needs places i l h k c = let r = one_place places k c in let w = slice_get_within places r.0 k r.1 in h r.0 k (omega (arith, l, w)) r.1

-- the needs from a place to before another are met
abbrev pub AreMetFrom : Plain → Selection → List Bool → List CoreNeed → ℕ → ℕ → Type 0
AreMetFrom p σ flags needs place i = (k : ℕ) → place ≤ k → k < i → IsMetAt p σ flags needs k

pub from_more : (p : Plain) (σ : Selection) (flags : List Bool) (needs : List CoreNeed) (place i : ℕ) → AreMetFrom p σ flags needs place i → IsMetAt p σ flags needs i → AreMetFrom p σ flags needs place (i + 1)
from_more p σ flags needs place i h now k s l = elim (cases_lt k i) [
  | inl b ↦ h k s b
  | inr a ↦ (let same : i ≡ k = omega (arith, l, a) in subst (IsMetAt p σ flags needs) same now)
]

pub from_all : (p : Plain) (σ : Selection) (flags : List Bool) (needs : List CoreNeed) (place i : ℕ) → length needs ≤ i → AreMetFrom p σ flags needs place i → (k : ℕ) → place ≤ k → IsMetAt p σ flags needs k
from_all p σ flags needs place i l h k s = elim (cases_lt k i) [
  | inl b ↦ h k s b
  | inr a ↦ past_met p σ flags needs k (omega (arith, l, a))
]

-- those before a place that are set, and those from it on
pub all_met : (p : Plain) (σ : Selection) (flags : List Bool) (needs : List CoreNeed) (place : ℕ) (kept : List ℕ) → AreListed flags place kept → ((k : ℕ) → Contains kept k → IsMetAt p σ flags needs k)
    → ((k : ℕ) → place ≤ k → IsMetAt p σ flags needs k) → MeetsKept p σ flags needs
all_met p σ flags needs place kept listed at from k = elim (cases_lt k place) [
  | inl b ↦ (λ c is f. at k (listed k b f) c is f)
  | inr a ↦ from k a
]

-- the need at a place is met
pub met_here : (p : Plain) (σ : Selection) (needs : List CoreNeed) (i : ℕ) (d c : CoreNeed) → IsMet p σ (get_or needs i d) → slice_get needs i ≡ Some c → IsMet p σ c
met_here p σ needs i d c h at = subst (IsMet p σ) (get_or_from_slice_get needs i c d at) h

-- it stands in the problem
pub stands_here : (p : Plain) (needs : List CoreNeed) (i : ℕ) (d : CoreNeed) → IsWellFormed p → needs ≡ all_needs p → i < length needs → StandsIn p (get_or needs i d)
stands_here p needs i d wf same l = stands_in p (get_or needs i d) wf (subst (λ (xs : List CoreNeed). Contains xs (get_or needs i d)) same (one_read needs i d l))

behind : (flags : List Bool) (k : ℕ) → get_or (drop 1 flags) k false ≡ get_or flags (suc k) false
behind flags k = get_or-drop 1 flags k false ∙ ap (λ n. get_or flags n false) (omega arith)

each_from_places : {A : Type 0} (P : A → Type 0) (flags : List Bool) (xs : List A) → ((k : ℕ) (x : A) → slice_get xs k ≡ Some x → get_or flags k false ≡ true → P x) → EachKept P flags xs
each_from_places P flags [] h = tt
each_from_places P flags (x ∷ xs) h = (λ e. h 0 x refl e, each_from_places P (drop 1 flags) xs (λ k y at f. h (suc k) y at (sym (behind flags k) ∙ f)))

-- what is chosen serves with the needs whose flags are set
pub choice_serves : (p : Plain) (choice : List (Option ℕ)) (flags : List Bool) (all : List CoreNeed) → all ≡ all_needs p → HasRoots (chosen choice) p.roots → AreFit p (chosen choice) → MeetsKept p (chosen choice) flags all
    → IsServed p (left_of p flags)
choice_serves p choice flags all same roots fit met = (
  chosen choice,
  record {
    serves = serves_bare p (chosen choice) (λ n v e. (fit n v e).within) roots (λ n v e. (fit n v e).fit) (λ n v b e g. (fit n v e).same_base b g);
    meets = each_kept (IsMet p (chosen choice)) flags (all_needs p) (each_from_places (IsMet p (chosen choice)) flags (all_needs p) (subst (MeetsKept p (chosen choice) flags) same met));
  },
)
