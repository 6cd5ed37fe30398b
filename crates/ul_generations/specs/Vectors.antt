-- Worked examples: rows, and the fork answer of a small judge.
use Rattle.std.specs.Prelude.{◌≡◌, ℕ, List, [], ◌∷◌, Bool, true, false, Some, None, ◌==◌, if◌then◌else◌}
use Rattle.ul_generations.specs.declared.outcomes.Outcome.{Outcome}
use Rattle.ul_generations.specs.declared.outcomes.Outcome.TheVariants.{Done, Split, Refused}
use Rattle.ul_generations.specs.declared.rows.Leaf.{Leaf}
use Rattle.ul_generations.specs.declared.rows.Row.{Row}
use Rattle.ul_generations.specs.declared.rows.Row.TheVariants.{Closed, Open}
use Rattle.ul_generations.specs.Rows.{Refusal, open_regions, leaves_of, first_refused, expand}
use Rattle.ul_generations.specs.Generations.{refused_at, leaves_are, IsForkAnswer}
use Rattle.ul_generations.specs.Laws.{IsBefore}

-- regions, what leaves have and refusals are numbers
abbrev pub leaf : List Bool → ℕ → Leaf ℕ ℕ
leaf path n = record { path = path; region = n; done = n }

-- an open region
abbrev pub fork : List Bool → ℕ → Row ℕ ℕ
fork path n = Open (record { path = path; region = n })

-- a refused region
abbrev pub refusal : List Bool → ℕ → Refusal ℕ ℕ
refusal path n = record { path = path; region = n; refusal = n }

-- a leaf on path 0, and two open regions on 10 and 11
abbrev pub rows : List (Row ℕ ℕ)
rows = Closed (leaf (false ∷ []) 3) ∷ fork (true ∷ false ∷ []) 5 ∷ fork (true ∷ true ∷ []) 6 ∷ []

-- outcomes of the two: one is done and the other split
abbrev pub done_and_split : List (Outcome ℕ ℕ ℕ)
done_and_split = Done 5 ∷ Split 1 2 ∷ []

-- both are refused
abbrev pub both_refused : List (Outcome ℕ ℕ ℕ)
both_refused = Refused 5 ∷ Refused 6 ∷ []

-- the second is refused
abbrev pub second_refused : List (Outcome ℕ ℕ ℕ)
second_refused = Done 5 ∷ Refused 6 ∷ []

-- the parts of rows, and what follows them
pub record RowVectors : Type 0 where
  pub regions : open_regions rows ≡ 5 ∷ 6 ∷ []
  pub leaves : leaves_of rows ≡ leaf (false ∷ []) 3 ∷ []
  pub none : first_refused rows done_and_split ≡ None
  pub first : first_refused rows both_refused ≡ Some (refusal (true ∷ false ∷ []) 5)
  pub second : first_refused rows second_refused ≡ Some (refusal (true ∷ true ∷ []) 6)
  pub next : expand rows done_and_split ≡ Closed (leaf (false ∷ []) 3) ∷ Closed (leaf (true ∷ false ∷ []) 5) ∷ fork (true ∷ true ∷ false ∷ []) 1 ∷ fork (true ∷ true ∷ true ∷ []) 2 ∷ []
  pub before : IsBefore (false ∷ true ∷ []) (true ∷ [])
  pub not_before : ¬ IsBefore (true ∷ false ∷ []) (true ∷ [])

-- 8 is split into 3 and 5, 9 into 7 and 7, 7 is refused, and each other number is done
abbrev pub halves : ℕ → Outcome ℕ ℕ ℕ
halves n = if n == 8 then Split 3 5 else (if n == 9 then Split 7 7 else (if n == 7 then Refused 7 else Done n))

-- the outcome is that of the judge
abbrev pub IsHalves : ℕ → Outcome ℕ ℕ ℕ → Type 0
IsHalves n o = o ≡ halves n

-- a region that is done, one that is refused, one that is split, and one whose children are refused
pub record AnswerVectors : Type 0 where
  pub whole : IsForkAnswer IsHalves 4 (1 ∷ []) (leaves_are (leaf [] 4 ∷ []))
  pub refused_at_once : IsForkAnswer IsHalves 7 (1 ∷ []) (refused_at (refusal [] 7))
  pub two : IsForkAnswer IsHalves 8 (1 ∷ 2 ∷ []) (leaves_are (leaf (false ∷ []) 3 ∷ leaf (true ∷ []) 5 ∷ []))
  pub first_refused_child : IsForkAnswer IsHalves 9 (1 ∷ 2 ∷ []) (refused_at (refusal (false ∷ []) 7))
  pub not_turned : ¬ IsForkAnswer IsHalves 8 (1 ∷ 2 ∷ []) (leaves_are (leaf (true ∷ []) 5 ∷ leaf (false ∷ []) 3 ∷ []))
  pub not_second : ¬ IsForkAnswer IsHalves 9 (1 ∷ 2 ∷ []) (refused_at (refusal (true ∷ []) 7))
