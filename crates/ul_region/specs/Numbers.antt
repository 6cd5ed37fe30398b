-- Numbers of names: the place of the first requirement on the name.
use Rattle.std.specs.Prelude.{◌≡◌, ◌<◌, ◌≤◌, ◌+◌, ℕ, suc, List, [], ◌∷◌, Option, Some, None, cond, length, get_or, map, take, if◌then◌else◌}
use Rattle.std.specs.Borrow.{Bor}
use Rattle.std.specs.HashMap.{HashMap, get}
use Rattle.std.specs.Str.{bytes_eq}
use Rattle.ul_requirement.specs.Fields.{RequirementFields}

-- requirements that are lent
abbrev pub fields_in : List (Bor RequirementFields) → List RequirementFields
fields_in rs = map (λ (r : Bor RequirementFields). r.now) rs

-- the place of the first requirement on a name, or how many there are
abbrev pub first_on : List ℕ → List RequirementFields → ℕ
first_on n [] = 0
first_on n (q ∷ qs) = if bytes_eq q.name n then 0 else suc (first_on n qs)

-- of each requirement the number of its name
abbrev pub numbers_of : List RequirementFields → List ℕ
numbers_of qs = map (λ (q : RequirementFields). first_on q.name qs) qs

-- the place of the first requirement on a name, where the first of them stands at place i, and none where there is none
abbrev pub place_from : List ℕ → ℕ → List RequirementFields → Option ℕ
place_from n i [] = None
place_from n i (q ∷ qs) = cond (bytes_eq q.name n) (Some i) (place_from n (i + 1) qs)

-- of each name the place of the first requirement on it
abbrev pub AreFirstPlaces : {S : Type 0} → List RequirementFields → HashMap (List ℕ) ℕ S → Type 0
AreFirstPlaces qs places = (n : List ℕ) → get bytes_eq places n ≡ place_from n 0 qs

-- of each name the place of the first requirement on it among the first requirements, so many
abbrev pub ArePlacesOfFirst : {S : Type 0} → List RequirementFields → ℕ → HashMap (List ℕ) ℕ S → Type 0
ArePlacesOfFirst qs count places = (n : List ℕ) → get bytes_eq places n ≡ place_from n 0 (take count qs)

-- the place, where the requirement is on the name
abbrev pub place_on : RequirementFields → List ℕ → ℕ → Option ℕ
place_on q n place = cond (bytes_eq q.name n) (Some place) None

-- the requirement at a place is on the same name as the one before it
pub record RepeatsName (qs : List RequirementFields) (place : ℕ) : Type 0 where
  pub last : ℕ
  pub before : place ≡ last + 1
  pub within : place < length qs
  pub one : RequirementFields
  pub one_at : one ≡ get_or qs last one
  pub other : RequirementFields
  pub other_at : other ≡ get_or qs place other
  pub same : one.name ≡ other.name

-- the number of the name of the requirement at a place
abbrev pub HasNumber : List RequirementFields → ℕ → ℕ → Type 0
HasNumber qs place number = (q : RequirementFields) → q ≡ get_or qs place q → number ≡ first_on q.name qs

-- of the first requirements, so many, the numbers of their names
abbrev pub AreFirstNumbers : List RequirementFields → ℕ → List ℕ → Type 0
AreFirstNumbers qs count numbers = numbers ≡ map (λ (q : RequirementFields). first_on q.name qs) (take count qs)

-- a place, where there is one, and else 0
abbrev pub or_zero : Option ℕ → ℕ
or_zero None = 0
or_zero (Some place) = place

-- the first place from one on that has a number, or how many numbers there are
pub record IsFirstFrom (numbers : List ℕ) (from number place : ℕ) : Type 0 where
  pub after : from ≤ place
  pub apart : (j : ℕ) → from ≤ j → j < place → get_or numbers j 0 ≡ number → ⊥
  pub same : place < length numbers → get_or numbers place 0 ≡ number

-- the first place from one on that has a number and another truth than a given one, or how many numbers there are; the places
-- before it that have the number have that truth
pub record IsOtherFrom (numbers truths : List ℕ) (from number truth place : ℕ) : Type 0 where
  pub after : from ≤ place
  pub alike : (j : ℕ) → from ≤ j → j < place → get_or numbers j 0 ≡ number → get_or truths j 0 ≡ truth
  pub same : place < length numbers → get_or numbers place 0 ≡ number
  pub other : place < length numbers → get_or truths place 0 ≡ truth → ⊥

-- of the number and the truth at each place from one on the next place that has the number and another truth
abbrev pub AreOthersFrom : List ℕ → List ℕ → List ℕ → ℕ → Type 0
AreOthersFrom numbers truths next from = (k : ℕ) → from ≤ k → k < length numbers → IsOtherFrom numbers truths (k + 1) (get_or numbers k 0) (get_or truths k 0) (get_or next k 0)

-- of the number and the truth at each place the next place that has the number and another truth
abbrev pub AreNextOthers : List ℕ → List ℕ → List ℕ → Type 0
AreNextOthers numbers truths next = (k : ℕ) → k < length numbers → IsOtherFrom numbers truths (k + 1) (get_or numbers k 0) (get_or truths k 0) (get_or next k 0)
