-- What is known of reached nodes, as a loop collects it.
use Rattle.std.specs.Prelude.{slice_get}
use Rattle.std.proofs.Common.{◌≡◌, ◌<◌, ◌≤◌, ◌+◌, ℕ, zero, suc, List, [], ◌∷◌, ◌++◌, length, get_or, drop, set, Option, Some, None, le_refl, refl, sym, ap, subst, ◌∙◌, arith}
use Rattle.std.proofs.lemmas.List.{append_assoc, append-nil, drop_all}
use Rattle.std.proofs.lemmas.Option.{slice_get_within, get_or_from_slice_get}
use Rattle.ul_index.specs.Regions.{Region}
use Rattle.ul_problem.specs.declared.problem.NodeFacts.{NodeFacts}
use Rattle.ul_prepared.specs.declared.prepared.Planned.{Planned}
use Rattle.ul_prepared.specs.declared.prepared.Prepared.{Prepared}
use Rattle.ul_placing.specs.Facts.{AreFacts, IsFacts}
use Rattle.ul_placing.specs.declared.aims.NodeAims.{NodeAims}
use Rattle.ul_placing.proofs.Lists.{there, read_there, rest_more}

rest_at : {A : Type 0} (xs : List A) (k : ℕ) (x : A) → slice_get xs k ≡ Some x → drop k xs ≡ x ∷ drop (k + 1) xs
rest_at xs k x e = rest_more xs k x (slice_get_within xs k x e) (sym (get_or_from_slice_get xs k x x e))

-- ---- the list from which a loop takes

set_before : {A : Type 0} (xs : List A) (i k : ℕ) (y : A) → i < k → slice_get (set xs i y) k ≡ slice_get xs k
set_before [] i k y l = refl
set_before (z ∷ zs) zero zero y l = absurd (omega (arith, l))
set_before (z ∷ zs) zero (suc k) y l = refl
set_before (z ∷ zs) (suc i) zero y l = absurd (omega (arith, l))
set_before (z ∷ zs) (suc i) (suc k) y l = set_before zs i k y (omega (arith, l))

-- what stands behind a place stands there when something else is put at the place
pub same_behind : {A : Type 0} (all now : List A) (i : ℕ) (y : A) → ((k : ℕ) → i ≤ k → slice_get now k ≡ slice_get all k) → (k : ℕ) → i + 1 ≤ k → slice_get (set now i y) k ≡ slice_get all k
same_behind all now i y same k l = set_before now i k y (omega (arith, l)) ∙ same k (omega (arith, l))

-- what is taken at a place stood there
pub taken_at : {A : Type 0} (now all : List A) (i : ℕ) (x y : A) → i < length now → x ≡ get_or now i x → ((k : ℕ) → i ≤ k → slice_get now k ≡ slice_get all k) → y ≡ x → slice_get all i ≡ Some y
taken_at now all i x y l e same d = sym (same i (le_refl i)) ∙ (read_there now i x l e ∙ ap Some (sym d))

-- ---- what a loop collects

module _ (R : Region) (all : Prepared) (ranks : List ℕ) (ps : List Planned) (aims : List (Option NodeAims)) where
  -- what was collected, and then what is left
  abbrev pub IsFactsTo : ℕ → List NodeFacts → Type 0
  IsFactsTo i done = (rest : List NodeFacts) → AreFacts R all ranks (drop i ps) (drop i aims) rest → AreFacts R all ranks ps aims (done ++ rest)

  moved : (i : ℕ) (p : Planned) (o : Option NodeAims) (fs : List NodeFacts) → slice_get ps i ≡ Some p → slice_get aims i ≡ Some o → AreFacts R all ranks (p ∷ drop (i + 1) ps) (o ∷ drop (i + 1) aims) fs → AreFacts R all ranks (drop i ps) (drop i aims) fs
  moved i p o fs e d h = subst (λ (z : List Planned). AreFacts R all ranks z (drop i aims) fs) (sym (rest_at ps i p e))
      (subst (λ (z : List (Option NodeAims)). AreFacts R all ranks (p ∷ drop (i + 1) ps) z fs) (sym (rest_at aims i o d)) h)

  -- a node that wasn't looked at
  pub facts_pass : (i : ℕ) (done : List NodeFacts) → length aims ≡ length ps → slice_get aims i ≡ Some None → IsFactsTo i done → IsFactsTo (i + 1) done
  facts_pass i done long e h rest k =
      let p = there ps i (subst (λ (n : ℕ). i < n) long (slice_get_within aims i None e)) in
      h rest (moved i p.0 None rest p.1 e k)

  -- one that was
  pub facts_more : (i : ℕ) (done now : List NodeFacts) (p : Planned) (a : NodeAims) (f : NodeFacts) → slice_get ps i ≡ Some p → slice_get aims i ≡ Some (Some a) → now ≡ done ++ f ∷ [] → IsFacts R all ranks p a f → IsFactsTo i done → IsFactsTo (i + 1) now
  facts_more i done now p a f e d grown is h rest k =
      subst (λ (z : List NodeFacts). AreFacts R all ranks ps aims z) (sym (append_assoc done (f ∷ []) rest) ∙ ap (λ (z : List NodeFacts). z ++ rest) (sym grown))
      (h (f ∷ rest) (moved i p (Some a) (f ∷ rest) e d (record { facts = f; rest = rest; are = refl; is = is; more = k })))

  none_left : (xs : List Planned) (ys : List (Option NodeAims)) → xs ≡ [] → ys ≡ [] → AreFacts R all ranks xs ys []
  none_left xs ys e d = subst (λ (z : List Planned). AreFacts R all ranks z ys []) (sym e) (subst (λ (z : List (Option NodeAims)). AreFacts R all ranks [] z []) (sym d) refl)

  -- at the end
  pub facts_all : (i : ℕ) (done : List NodeFacts) → length aims ≡ length ps → length aims ≤ i → IsFactsTo i done → AreFacts R all ranks ps aims done
  facts_all i done long l h = subst (λ (z : List NodeFacts). AreFacts R all ranks ps aims z) (append-nil done)
      (h [] (none_left (drop i ps) (drop i aims) (drop_all i ps (subst (λ (n : ℕ). n ≤ i) long l)) (drop_all i aims l)))
