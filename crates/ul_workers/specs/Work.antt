-- What a worker has at its start, in its loop and at its end, and what the places of the results have.
use Rattle.std.specs.Prelude.{◌≡◌, ℕ, ◌-◌, ◌<◌, ◌≤◌, false, List, [], ◌∷◌, ◌++◌, map, length, All, sum_by, Option, Some, slice_index_or}
use Rattle.std.specs.List.{slice_get}
use Rattle.std.specs.Vec.{vec_capacity}
use Rattle.ul_interner.specs.Known.{TableId}
use Rattle.ul_claims.specs.Rule.{parts_in_all}
use Rattle.ul_claims.specs.Seats.{ClaimsView, SeatView, split_seat, IsDrawn}
use Rattle.ul_interner.specs.Known.{Held, Knows}
use Rattle.ul_workers.specs.declared.threads.Worker.{Worker}

-- the first seat after so many were split from it
abbrev pub first_after : ClaimsView → ℕ → SeatView
first_after claims count = record { claims = claims; parts = parts_in_all - count; drawn = [] }

-- the parts of seats together
abbrev pub parts_of_seats : List SeatView → ℕ
parts_of_seats = sum_by (λ (s : SeatView). s.parts)

-- the numbers of the results
abbrev pub numbers : {O : Type 0} → List (ℕ × O) → List ℕ
numbers = map (λ p. p.0)

module _ {L O : Type 0} where
  -- a worker that has done nothing
  pub record Fresh (claims : ClaimsView) (w : Worker L O) : Type 0 where
    pub seat : w.seat ≡ split_seat claims
    pub results : w.results.items ≡ []
    pub room : claims.limit ≤ vec_capacity w.results
    pub failed : w.failed ≡ false

  -- what a worker has done so far
  pub record Going (fits : ℕ → O → Type 0) (known : Held L → O → Type 0) (claims : ClaimsView) (first : Held L) (w : Worker L O) : Type 0 where
    pub own : w.seat.claims ≡ claims
    pub parts : w.seat.parts ≡ 1
    pub drawn : w.seat.drawn ≡ numbers w.results.items
    pub few : length w.seat.drawn ≤ claims.limit
    pub good : All (λ p. fits p.0 p.1 × known w.pass p.1) w.results.items
    pub learns : Knows first w.pass
    pub room : claims.limit ≤ vec_capacity w.results
    pub failed : w.failed ≡ false

  -- what a worker has done at the end: where it didn't fail, it drew the numbers of its results, and then one that is the limit or more
  pub record Worked (fits : ℕ → O → Type 0) (known : Held L → O → Type 0) (claims : ClaimsView) (first : Held L) (w : Worker L O) : Type 0 where
    pub own : w.seat.claims ≡ claims
    pub parts : w.seat.parts ≡ 1
    pub drawn : w.failed ≡ false → (l : ℕ) × (claims.limit ≤ l) × (w.seat.drawn ≡ numbers w.results.items ++ l ∷ [])
    pub good : All (λ p. fits p.0 p.1 × known w.pass p.1) w.results.items
    pub learns : Knows first w.pass

  -- it has done so from some pass of the table on
  abbrev pub WorkedFrom : (fits : ℕ → O → Type 0) (known : Held L → O → Type 0) → ClaimsView → TableId → Worker L O → Type 0
  WorkedFrom fits known claims table w = (first : Held L) × (first.table ≡ table) × Worked fits known claims first w

  -- a worker that may begin
  abbrev pub MayBegin : (ready : Held L → ℕ → Type 0) → ClaimsView → TableId → Worker L O → Type 0
  MayBegin ready claims table w =
      (claims.limit ≤ 4096) × (w.pass.table ≡ table) × Fresh claims w × ((n : ℕ) → n < claims.limit → ready w.pass n)

  -- each worker has done so
  abbrev pub HaveWorked : (fits : ℕ → O → Type 0) (known : Held L → O → Type 0) → ClaimsView → List (Worker L O) → List (Worker L O) → Type 0
  HaveWorked fits known claims before after =
      (i : ℕ) (d : Worker L O) → i < length before → Worked fits known claims (slice_index_or before i d).pass (slice_index_or after i d)

-- a number below the limit, whose result fits it
abbrev pub Within : {O : Type 0} → ℕ → (ℕ → O → Type 0) → ℕ → O → Type 0
Within limit fits k o = (k < limit) × fits k o

-- place k is filled
abbrev pub Filled : {O : Type 0} → List (Option O) → ℕ → Type 0
Filled {O} places k = (o : O) × (slice_get places k ≡ Some (Some o))

-- what is placed fits its place, and is known
abbrev pub Good : {O : Type 0} → (ℕ → O → Type 0) → (O → Type 0) → List (Option O) → Type 0
Good {O} fits known places = (k : ℕ) (o : O) → slice_get places k ≡ Some (Some o) → fits k o × known o

-- each number below the limit that one of the seats drew has its place filled
abbrev pub Full : {O : Type 0} → ℕ → List SeatView → List (Option O) → Type 0
Full limit seats places = (k : ℕ) → k < limit → IsDrawn seats k → Filled places k

-- each result stands in its place
abbrev pub AreIn : {O : Type 0} → List (Option O) → List O → Type 0
AreIn {O} places results = (k : ℕ) (o : O) → slice_get results k ≡ Some o → slice_get places k ≡ Some (Some o)
