-- The worked examples hold.
use Rattle.std.proofs.Common.{◌≡◌, ◌∙◌, ℕ, List, [], ◌∷◌, Bool, true, false, inr, sym, ap, refl, arith}
use Rattle.ul_generations.specs.declared.outcomes.Outcome.{Outcome}
use Rattle.ul_generations.specs.declared.outcomes.Outcome.TheVariants.{Done, Split, Refused}
use Rattle.ul_generations.specs.Generations.{Answer, too_many, refused_at, leaves_are, IsForkAnswer}
use Rattle.ul_generations.specs.Vectors.{leaf, refusal, IsHalves, RowVectors, AnswerVectors}
use Rattle.ul_generations.proofs.Once.{answer_once}

pub worked_rows : RowVectors
worked_rows = record { regions = refl; leaves = refl; none = refl; first = refl; second = refl; next = refl; before = tt; not_before = λ b. b }

two_leaves : IsForkAnswer IsHalves 8 (1 ∷ 2 ∷ []) (leaves_are (leaf (false ∷ []) 3 ∷ leaf (true ∷ []) 5 ∷ []))
two_leaves = (
  2,
  inr record {
    within = omega arith;
    outcomes = Split 3 5 ∷ [];
    are = (refl, tt);
    later = 2 ∷ [];
    sizes = refl;
    follows = inr record { within = omega arith; outcomes = Done 3 ∷ Done 5 ∷ []; are = (refl, (refl, tt)); later = []; sizes = refl; follows = (refl, refl) };
  },
)

first_child : IsForkAnswer IsHalves 9 (1 ∷ 2 ∷ []) (refused_at (refusal (false ∷ []) 7))
first_child = (
  2,
  inr record {
    within = omega arith;
    outcomes = Split 7 7 ∷ [];
    are = (refl, tt);
    later = 2 ∷ [];
    sizes = refl;
    follows = inr record { within = omega arith; outcomes = Refused 7 ∷ Refused 7 ∷ []; are = (refl, (refl, tt)); later = []; sizes = refl; follows = (refl, refl) };
  },
)

-- the judge has one outcome for each region
determined : (r : ℕ) (a b : Outcome ℕ ℕ ℕ) → IsHalves r a → IsHalves r b → a ≡ b
determined r a b p q = p ∙ sym q

-- the path of the first leaf, or of the refused region
abbrev first_path : Answer ℕ ℕ ℕ → List Bool
first_path (too_many n) = []
first_path (refused_at r) = r.path
first_path (leaves_are []) = []
first_path (leaves_are (l ∷ ls)) = l.path

paths_not : false ∷ [] ≡ true ∷ [] → ⊥
paths_not e = cc

leaves_not : (let a : Answer ℕ ℕ ℕ = leaves_are (leaf (false ∷ []) 3 ∷ leaf (true ∷ []) 5 ∷ []) in a) ≡ leaves_are (leaf (true ∷ []) 5 ∷ leaf (false ∷ []) 3 ∷ []) → ⊥
leaves_not e = paths_not (ap first_path e)

refusal_not : (let a : Answer ℕ ℕ ℕ = refused_at (refusal (false ∷ []) 7) in a) ≡ refused_at (refusal (true ∷ []) 7) → ⊥
refusal_not e = paths_not (ap first_path e)

pub worked_answers : AnswerVectors
worked_answers = record {
  whole = (1, inr record { within = omega arith; outcomes = Done 4 ∷ []; are = (refl, tt); later = []; sizes = refl; follows = (refl, refl) });
  refused_at_once = (1, inr record { within = omega arith; outcomes = Refused 7 ∷ []; are = (refl, tt); later = []; sizes = refl; follows = (refl, refl) });
  two = two_leaves;
  first_refused_child = first_child;
  not_turned = λ h. leaves_not (answer_once IsHalves determined 8 (1 ∷ 2 ∷ []) (1 ∷ 2 ∷ []) _ _ two_leaves h).1;
  not_second = λ h. refusal_not (answer_once IsHalves determined 9 (1 ∷ 2 ∷ []) (1 ∷ 2 ∷ []) _ _ first_child h).1;
}
