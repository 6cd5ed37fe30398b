-- Claims and their seats as contracts see them, and what is said of a draw and of several seats.
use Rattle.std.specs.Prelude.{◌≡◌, ℕ, ◌+◌, ◌<◌, ◌≤◌, ◌^◌, nat_lt, List, [], ◌∷◌, ◌++◌, All, Any, Contains, Option, MatchOption, sum_by, length, filter}
use Rattle.std.specs.List.Sorted.{IsStrictlyIncreasing}
use Rattle.atomic_table.specs.Seated.{TableId}
use Rattle.atomic_table.specs.Table.{Me}
use Rattle.ul_claims.specs.declared.steps.Tally.{Tally}
use Rattle.ul_claims.specs.Claimed.{IsClaim}
use Rattle.ul_claims.specs.Rule.{parts_in_all, tally, times, IsDrawOf}

-- claims: which table has their word, and the limit of their numbers
pub record ClaimsView : Type 0 where
  pub table : TableId
  pub limit : ℕ

-- a seat: whose it is, its parts, and all numbers that it drew, in order. The first seat begins with all parts and gives one to each seat that is split from it
pub record SeatView : Type 0 where
  pub claims : ClaimsView
  pub parts : ℕ
  pub drawn : List ℕ

-- a seat of these claims with all parts, which drew nothing
abbrev pub first_seat : ClaimsView → SeatView
first_seat claims = record { claims = claims; parts = parts_in_all; drawn = [] }

-- a seat of these claims that was split off and drew nothing
abbrev pub split_seat : ClaimsView → SeatView
split_seat claims = record { claims = claims; parts = 1; drawn = [] }

-- One draw: the word held a number, greater than all that the seat drew before, and then holds one more; one event Claim
-- of the core draws it. It stands at the end of the seat's list, and is the answer where it is below the limit; else there
-- is none. So a seat that drew n drew at most n + 1 numbers.
pub record IsDraw (before : SeatView) (answer : Option ℕ) (after : SeatView) : Type 0 where
  pub number : ℕ
  pub word : IsDrawOf number (tally before.parts before.drawn)
  pub claim : IsClaim number
  pub list : after ≡ record before { drawn = before.drawn ++ number ∷ [] }
  pub greater : All (λ x. x < number) before.drawn
  pub few : length after.drawn ≤ number + 1
  pub reply : MatchOption answer (before.claims.limit ≤ number) (λ n. (n ≡ number) × (number < before.claims.limit))

-- the numbers below the limit, in the order in which they stand
abbrev pub below : ℕ → List ℕ → List ℕ
below limit xs = filter (λ x. nat_lt x limit) xs

-- one of the seats drew the number
abbrev pub IsDrawn : List SeatView → ℕ → Type 0
IsDrawn seats n = Any (λ s. Contains s.drawn n) seats

-- how often the seats drew the number
abbrev pub times_drawn : ℕ → List SeatView → ℕ
times_drawn n seats = sum_by (λ s. times n s.drawn) seats

-- the first seat and each that was split from it: together they have all parts
abbrev pub AreAll : List SeatView → Type 0
AreAll seats = sum_by (λ s. s.parts) seats ≡ parts_in_all

-- a draw by one of the seats was answered None: it drew the limit or more
abbrev pub HadNone : List SeatView → Type 0
HadNone seats = Any (λ s. Any (λ n. s.claims.limit ≤ n) s.drawn) seats

-- what the fields of a seat keep: it holds no slot, its kept numbers are those of its list that are below the limit, its list rises, and there is room for all below the limit
pub record Keeps (slots : List (ℕ × ℕ)) (limit parts : ℕ) (drawn kept : List ℕ) (room : ℕ) : Type 0 where
  pub free : slots ≡ []
  pub below_limit : kept ≡ below limit drawn
  pub rising : IsStrictlyIncreasing drawn
  pub some_part : 0 < parts
  pub few : length drawn ≤ 2 ^ 32
  pub has_room : limit ≤ room

-- what a seat knows once it has taken in another
abbrev pub joined_me : Me ℕ Tally → SeatView → Me ℕ Tally
joined_me me seat = (tally (me.0.parts + seat.parts) (me.0.drawn ++ seat.drawn), me.1)
