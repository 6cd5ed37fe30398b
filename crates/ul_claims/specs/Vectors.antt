-- Worked examples of the definitions: what the word and the seats may be, what a draw is, and what is said of several seats.
use Rattle.std.specs.Prelude.{◌≡◌, ℕ, ◌-◌, List, [], ◌∷◌, Some, None}
use Rattle.atomic_table.specs.Table.{State}
use Rattle.atomic_table.specs.Seated.{TableId}
use Rattle.ul_claims.specs.declared.steps.Tally.{Tally}
use Rattle.ul_claims.specs.Rule.{parts_in_all, tally, EachOnce}
use Rattle.ul_claims.specs.Seats.{SeatView, IsDraw, below, IsDrawn, times_drawn, AreAll, HadNone}

-- a word, the list of the first seat, and the lists of the seats that were split from it
abbrev pub one_split : ℕ → List ℕ → List ℕ → State ℕ Tally
one_split word first second = record { words = word ∷ []; homes = []; views = tally (parts_in_all - 1) first ∷ tally 1 second ∷ [] }

-- the same with two seats that were split from the first
abbrev pub two_split : ℕ → List ℕ → List ℕ → List ℕ → State ℕ Tally
two_split word first second third = record { words = word ∷ []; homes = []; views = tally (parts_in_all - 2) first ∷ tally 1 second ∷ tally 1 third ∷ [] }

-- words and seats that stand together: the first three, and those of two numbers in other seats
pub record AreShown : Type 0 where
  pub fresh : EachOnce (one_split 0 [] [])
  pub in_turn : EachOnce (one_split 3 (0 ∷ 2 ∷ []) (1 ∷ []))
  pub three_seats : EachOnce (two_split 4 (0 ∷ 3 ∷ []) (2 ∷ []) (1 ∷ []))
  pub one_seat_alone : EachOnce (one_split 2 [] (0 ∷ 1 ∷ []))

-- words and seats that don't: a number twice, in two seats and in one; one left out; one that the word hasn't reached; none for a word above 0; a lost part
pub record AreNotShown : Type 0 where
  pub twice : ¬ EachOnce (one_split 2 (0 ∷ 1 ∷ []) (1 ∷ []))
  pub twice_in_one : ¬ EachOnce (one_split 1 (0 ∷ 0 ∷ []) [])
  pub left_out : ¬ EachOnce (one_split 3 (0 ∷ []) (2 ∷ []))
  pub not_reached : ¬ EachOnce (one_split 2 (0 ∷ 1 ∷ []) (2 ∷ []))
  pub not_drawn : ¬ EachOnce (one_split 1 [] [])
  pub lost_part : ¬ EachOnce record { words = 0 ∷ []; homes = []; views = tally (parts_in_all - 1) [] ∷ [] }

-- a seat that was split off, of claims with a limit
abbrev pub seat_with : TableId → ℕ → List ℕ → SeatView
seat_with table limit drawn = record { claims = record { table = table; limit = limit }; parts = 1; drawn = drawn }

-- draws that are right: below the limit, the limit itself, and beyond it
pub record AreDraws (table : TableId) : Type 0 where
  pub first : IsDraw (seat_with table 5 []) (Some 0) (seat_with table 5 (0 ∷ []))
  pub last_below : IsDraw (seat_with table 5 (0 ∷ 3 ∷ [])) (Some 4) (seat_with table 5 (0 ∷ 3 ∷ 4 ∷ []))
  pub at_limit : IsDraw (seat_with table 5 (0 ∷ 3 ∷ [])) None (seat_with table 5 (0 ∷ 3 ∷ 5 ∷ []))
  pub beyond : IsDraw (seat_with table 5 (0 ∷ 5 ∷ [])) None (seat_with table 5 (0 ∷ 5 ∷ 6 ∷ []))

-- draws that aren't: None below the limit, a claim at it, a number that isn't greater, one that isn't added, another one than is answered, and lost draws
pub record AreNotDraws (table : TableId) : Type 0 where
  pub none_early : ¬ IsDraw (seat_with table 5 (0 ∷ 3 ∷ [])) None (seat_with table 5 (0 ∷ 3 ∷ 4 ∷ []))
  pub none_late : ¬ IsDraw (seat_with table 5 (0 ∷ 3 ∷ [])) (Some 5) (seat_with table 5 (0 ∷ 3 ∷ 5 ∷ []))
  pub not_greater : ¬ IsDraw (seat_with table 5 (0 ∷ 3 ∷ [])) (Some 2) (seat_with table 5 (0 ∷ 3 ∷ 2 ∷ []))
  pub not_added : ¬ IsDraw (seat_with table 5 (0 ∷ [])) (Some 1) (seat_with table 5 (0 ∷ []))
  pub another : ¬ IsDraw (seat_with table 5 (0 ∷ 1 ∷ [])) (Some 3) (seat_with table 5 (0 ∷ 1 ∷ 2 ∷ []))
  pub lost : ¬ IsDraw (seat_with table 5 (0 ∷ [])) (Some 1) (seat_with table 5 (1 ∷ []))

-- two seats with a limit of 3: 0, 3 and 1 were drawn, of which 3 was answered None
abbrev pub two_seats : TableId → ℕ → List SeatView
two_seats table limit = record (seat_with table limit (0 ∷ 3 ∷ [])) { parts = parts_in_all - 1 } ∷ seat_with table limit (1 ∷ []) ∷ []

-- what is said of several seats
pub record AreGathered (table : TableId) : Type 0 where
  pub below_limit : below 3 (0 ∷ 5 ∷ 2 ∷ 3 ∷ []) ≡ 0 ∷ 2 ∷ []
  pub drawn : IsDrawn (two_seats table 3) 1
  pub drawn_beyond : IsDrawn (two_seats table 3) 3
  pub not_drawn : ¬ IsDrawn (two_seats table 3) 2
  pub once : times_drawn 3 (two_seats table 3) ≡ 1
  pub all : AreAll (two_seats table 3)
  pub not_all : ¬ AreAll (seat_with table 3 (1 ∷ []) ∷ [])
  pub had_none : HadNone (two_seats table 3)
  pub had_no_none : ¬ HadNone (two_seats table 4)
