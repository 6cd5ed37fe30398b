-- What holds of the claim word and of all seats between any two steps: each number below the word was drawn once, by one seat.
-- It is the usual law of a ticket counter on fetch_add.
use Rattle.std.specs.Prelude.{◌≡◌, ℕ, ◌+◌, ◌*◌, ◌<◌, ◌≤◌, ◌^◌, ◌==◌, if◌then◌else◌, nat_lt, All, Contains, List, [], ◌∷◌, ◌++◌, length, slice_index, slice_set}
use mathlib.Core.Option.{some}
use lib.ListN.{get_elem?}
use Rattle.atomic_table.specs.Table.{State, Me, Step}
use Rattle.ul_claims.specs.declared.steps.Tally.{Tally}
use Rattle.ul_claims.specs.Claimed.{Shows, IsClaim}

-- the parts of all seats together, 2^31 + 1: the first seat begins with them, and each seat that is split off has one of them
abbrev pub parts_in_all : ℕ
parts_in_all = 2 ^ 31 + 1

-- what a seat knows: its parts, and the numbers that it drew, in order
abbrev pub tally : ℕ → List ℕ → Tally
tally parts drawn = record { parts = parts; drawn = drawn }

-- how often x stands in the list
abbrev pub times : ℕ → List ℕ → ℕ
times x [] = 0
times x (y ∷ ys) = (if y == x then 1 else 0) + times x ys

-- f of each seat, added up
abbrev pub total : (Tally → ℕ) → List Tally → ℕ
total f [] = 0
total f (v ∷ vs) = f v + total f vs

-- 1 for a number below n, else 0
abbrev pub once_below : ℕ → ℕ → ℕ
once_below x n = if nat_lt x n then 1 else 0

-- a seat with no part is spent and has no list; with its parts goes how long its list can be, 2^32 a part
abbrev pub Fits : Tally → Type 0
Fits v = (v.parts ≡ 0 → v.drawn ≡ []) × (length v.drawn ≤ 2 ^ 32 * v.parts)

-- the rule: there is one word, which shows the claim number of the core; no part is lost; each number below the word stands once in the list of one seat,
-- and no other number stands in any; the word is how many numbers were drawn, which the parts bound
pub record EachOnce (s : State ℕ Tally) : Type 0 where
  pub width : length s.words ≡ 1
  pub core : Shows (slice_index s.words 0)
  pub parts : total (λ v. v.parts) s.views ≡ parts_in_all
  pub once : (x : ℕ) → total (λ v. times x v.drawn) s.views ≡ once_below x (slice_index s.words 0)
  pub sums : total (λ v. length v.drawn) s.views ≡ slice_index s.words 0
  pub fits : (j : ℕ) (v : Tally) → get_elem? s.views j ≡ some v → Fits v

-- What a draw of n by a seat with the view v is: the word held n, then it holds one more; n then stands at the end of the
-- seat's list, and the rule held before and holds after. The other seats are as they were.
pub record IsDrawOf (n : ℕ) (v : Tally) : Type 0 where
  pub before : State ℕ Tally
  pub seat : ℕ
  pub rule_before : EachOnce before
  pub word : slice_index before.words 0 ≡ n
  pub here : get_elem? before.views seat ≡ some v
  pub after : State ℕ Tally
  pub word_after : slice_index after.words 0 ≡ n + 1
  pub views_after : after.views ≡ slice_set before.views seat (tally v.parts (v.drawn ++ n ∷ []))
  pub rule_after : EachOnce after

-- what a draw tells its seat: the number that the word had stands at the end of the list and is greater than all before it
abbrev pub Draws : Step ℕ → Me ℕ Tally → ℕ → Me ℕ Tally → Type 0
Draws st m r m' = (m' ≡ (tally m.0.parts (m.0.drawn ++ r ∷ []), m.1)) × All (λ x. x < r) m.0.drawn × IsClaim r × IsDrawOf r m.0

-- what a look at the word tells a seat: no number is twice in its list; where it has all parts, the list has just the numbers below the word
abbrev pub Looks : Step ℕ → Me ℕ Tally → ℕ → Me ℕ Tally → Type 0
Looks st m r m' = (m' ≡ m) × ((x : ℕ) → times x m.0.drawn ≤ 1) × (m.0.parts ≡ parts_in_all → (x : ℕ) → times x m.0.drawn ≡ once_below x r)

-- a number stands in one seat's list alone, once, and the word has passed it
pub record HasOneSeat (s : State ℕ Tally) (x : ℕ) : Type 0 where
  pub one : (i j : ℕ) (v w : Tally) → get_elem? s.views i ≡ some v → get_elem? s.views j ≡ some w → Contains v.drawn x → Contains w.drawn x → i ≡ j
  pub once : (i : ℕ) (v : Tally) → get_elem? s.views i ≡ some v → times x v.drawn ≤ 1
  pub below : (i : ℕ) (v : Tally) → get_elem? s.views i ≡ some v → Contains v.drawn x → x < slice_index s.words 0

-- whatever the threads did: no number stands in two seats' lists
abbrev pub EachNumberHasOneSeat : Type 0
EachNumberHasOneSeat = (s : State ℕ Tally) → EachOnce s → (x : ℕ) → HasOneSeat s x
