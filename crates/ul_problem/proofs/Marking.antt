-- Marks of the targets of needs.
use Rattle.std.proofs.Common.{◌≡◌, ℕ, zero, suc, ◌+◌, ◌<◌, ◌≤◌, List, [], ◌∷◌, ◌++◌, Bool, true, false, Option, Some, None, take, drop, length, get_or, set, slice_get, arith, refl, sym, ap, subst, ◌∙◌, inl, inr, ◌⊎◌}
use Rattle.std.specs.Prelude.{◌↔◌}
use Rattle.std.proofs.lemmas.Bool.{cases_eq, true≢false}
use Rattle.std.proofs.lemmas.List.{get_or-set_same, get_or-set_other, length-set, take_more, take_all}
use Rattle.std.proofs.lemmas.Option.{same_Some, slice_get_read, slice_get_within}
use Rattle.ul_problem.specs.Plain.{base_in}
use Rattle.ul_problem.specs.Marks.{AreMarked, IsBaseMarked, IsNeedMarked}
use Rattle.ul_problem.specs.Problems.{HasTarget, IsAfterBase, IsNeedAfter, AreNeedsAfter, AreNeeds}
use Rattle.ul_problem.specs.declared.problem.Need.{Need}
use Rattle.ul_problem.specs.declared.problem.NodeFacts.{NodeFacts}
use Rattle.ul_problem.proofs.Loops.{IsAlike, needs_more}

target_left : (n : ℕ) (xs ys : List Need) → HasTarget n xs → HasTarget n (xs ++ ys)
target_left n [] ys h = absurd h
target_left n (x ∷ xs) ys (inl e) = inl e
target_left n (x ∷ xs) ys (inr h) = inr (target_left n xs ys h)

target_last : (n : ℕ) (xs : List Need) (y : Need) → y.node ≡ n → HasTarget n (xs ++ y ∷ [])
target_last n [] y e = inl e
target_last n (x ∷ xs) y e = inr (target_last n xs y e)

target_cases : (n : ℕ) (xs : List Need) (y : Need) → HasTarget n (xs ++ y ∷ []) → HasTarget n xs ⊎ (y.node ≡ n)
target_cases n [] y (inl e) = inr e
target_cases n [] y (inr h) = absurd h
target_cases n (x ∷ xs) y (inl e) = inl (inl e)
target_cases n (x ∷ xs) y (inr h) = elim (target_cases n xs y h) [ inl i ↦ inl (inr i) | inr e ↦ inr e ]

-- the first needs of a list are right, and just their targets are marked
pub record IsMarking (nodes : List NodeFacts) (needs : List Need) (k : ℕ) (marks : List Bool) : Type 0 where
  pub long : length marks ≡ length nodes
  pub exact : (n : ℕ) → (get_or marks n false ≡ true) ↔ HasTarget n (take k needs)
  pub within : (i : ℕ) (need : Need) → i < k → slice_get needs i ≡ Some need → need.node < length nodes
  pub alike : IsAlike (AreNeedsAfter nodes (take k needs) (drop k needs)) (AreNeeds nodes needs)

base_alike : (marks : List Bool) (earlier : List Need) (o : Option ℕ) → ((n : ℕ) → (get_or marks n false ≡ true) ↔ HasTarget n earlier) → IsBaseMarked marks o ↔ IsAfterBase earlier o
base_alike marks earlier None h = (λ a. a, λ a. a)
base_alike marks earlier (Some b) h = h b

pub need_alike : (nodes : List NodeFacts) (needs : List Need) (k : ℕ) (marks : List Bool) (need : Need) → IsMarking nodes needs k marks
    → IsNeedMarked nodes marks need ↔ IsNeedAfter nodes (take k needs) need
need_alike nodes needs k marks need m =
    let b = base_alike marks (take k needs) (base_in (slice_get nodes need.node)) m.exact in
    (λ h. (h.0, h.1, b.0 h.2), λ h. (h.0, h.1, b.1 h.2))

pub marking_more : (nodes : List NodeFacts) (needs : List Need) (k : ℕ) (marks : List Bool) (need : Need) → k < length needs → need ≡ get_or needs k need
    → IsNeedMarked nodes marks need → IsMarking nodes needs k marks → IsMarking nodes needs (k + 1) (set marks need.node true)
marking_more nodes needs k marks need l e h m =
    let t : take (k + 1) needs ≡ take k needs ++ need ∷ [] = take_more needs k need l ∙ ap (λ (y : Need). take k needs ++ y ∷ []) (sym e) in
    let inside : need.node < length marks = let a = m.long in let b = h.0 in omega arith in
    record {
      long = length-set marks need.node true ∙ m.long;
      exact = λ n. elim (cases_eq n need.node) [
        | inl s ↦ (
          λ _. subst (HasTarget n) (sym t) (target_last n (take k needs) need (sym s)),
          λ _. ap (λ (i : ℕ). get_or (set marks need.node true) i false) s ∙ get_or-set_same marks need.node true false inside,
        )
        | inr ne ↦ (
          λ g. subst (HasTarget n) (sym t) (target_left n (take k needs) (need ∷ []) ((m.exact n).0 (sym (get_or-set_other marks need.node n true false ne) ∙ g))),
          λ g. get_or-set_other marks need.node n true false ne ∙ (m.exact n).1 (elim (target_cases n (take k needs) need (subst (HasTarget n) t g)) [ inl i ↦ i | inr s ↦ absurd (ne (sym s)) ]),
        )
      ];
      within = λ i x a f. elim (cases_eq i k) [
        | inl s ↦ subst (λ (y : Need). y.node < length nodes) (same_Some need x (sym (slice_get_read needs (length needs) k need refl l e) ∙ ap (slice_get needs) (sym s) ∙ f)) h.0
        | inr ne ↦ m.within i x (omega arith) f
      ];
      alike = needs_more nodes needs k need (AreNeeds nodes needs) l e ((need_alike nodes needs k marks need m).0 h) m.alike;
    }

none_left : (nodes : List NodeFacts) (earlier needs : List Need) (k : ℕ) → length needs ≤ k → AreNeedsAfter nodes earlier (drop k needs)
none_left nodes earlier [] zero h = tt
none_left nodes earlier [] (suc k) h = tt
none_left nodes earlier (x ∷ xs) zero h = absurd (omega arith)
none_left nodes earlier (x ∷ xs) (suc k) h = none_left nodes earlier xs k (omega arith)

pub marking_ends : (nodes : List NodeFacts) (needs : List Need) (k : ℕ) (marks : List Bool) → length needs ≤ k → IsMarking nodes needs k marks
    → AreNeeds nodes needs × AreMarked (length nodes) needs marks
marking_ends nodes needs k marks l m = (
  m.alike.to (none_left nodes (take k needs) needs k l),
  record {
    long = m.long;
    targets = λ n e. subst (HasTarget n) (take_all k needs l) ((m.exact n).0 e);
    within = λ i need e. m.within i need (let a = slice_get_within needs i need e in omega arith) e;
  },
)

-- the marks of the first targets of a list are cleared
pub record IsClearing (size : ℕ) (needs : List Need) (k : ℕ) (marks : List Bool) : Type 0 where
  pub long : length marks ≡ size
  pub targets : (n : ℕ) → get_or marks n false ≡ true → HasTarget n (drop k needs)
  pub within : (i : ℕ) (need : Need) → slice_get needs i ≡ Some need → need.node < size
