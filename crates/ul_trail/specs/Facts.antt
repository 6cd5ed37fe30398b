-- What the facts of a trail leave open.
use Rattle.std.specs.Prelude.{◌≡◌, ℕ, zero, suc, List, [], ◌∷◌, Bool, true, false, cond, Option, Some, None, ◌<◌, nat_eq, nat_le, length, max, ◌⊎◌}
use Rattle.ul_ranges.specs.Flags.{has}
use Rattle.ul_problem.specs.Terms.{node_of, set_of, allows}
use Rattle.ul_problem.specs.declared.term.Term.{Term}
use Rattle.ul_trail.specs.declared.fact.Fact.{Fact}

-- no fact excludes the option of the node: a version, or being absent
abbrev pub is_open : List Fact → ℕ → Option ℕ → Bool
is_open [] n o = true
is_open (f ∷ fs) n o = cond (nat_eq (node_of f.term) n) (cond (allows f.term o) (is_open fs n o) false) (is_open fs n o)

-- a term holds of what is derived: of each option of its node that no fact excludes
abbrev pub IsHeld : List Fact → Term → Type 0
IsHeld facts t = (o : Option ℕ) → is_open facts (node_of t) o ≡ true → allows t o ≡ true

-- a term fails of what is derived: it holds of none of those options
abbrev pub IsFailed : List Fact → Term → Type 0
IsFailed facts t = (o : Option ℕ) → is_open facts (node_of t) o ≡ true → allows t o ≡ false

-- the terms all hold of what is derived
abbrev pub AreHeld : List Fact → List Term → Type 0
AreHeld facts [] = Unit {0}
AreHeld facts (t ∷ ts) = IsHeld facts t × AreHeld facts ts

-- all but the term t, which stands among them, are held
abbrev pub AreHeldBut : List Fact → Term → List Term → Type 0
AreHeldBut facts t [] = ⊥
AreHeldBut facts t (u ∷ us) = ((u ≡ t) × AreHeld facts us) ⊎ (IsHeld facts u × AreHeldBut facts t us)

-- a set of one version
abbrev pub one_of : ℕ → ℕ → List Bool
one_of zero v = []
one_of (suc size) zero = true ∷ one_of size (suc size)
one_of (suc size) (suc v) = false ∷ one_of size v

-- the version of a decision: the first of its set
abbrev pub first_of : List Bool → ℕ
first_of [] = 0
first_of (b ∷ bs) = cond b 0 (suc (first_of bs))

-- a root or a decision, which is a fact without a cause, in front of others
abbrev pub pick_with : Option ℕ → Term → List (ℕ × ℕ) → List (ℕ × ℕ)
pick_with None t rest = (node_of t, first_of (set_of t)) ∷ rest
pick_with (Some c) t rest = rest

-- the roots and decisions among the facts, each a node and its version
abbrev pub picks_of : List Fact → List (ℕ × ℕ)
picks_of [] = []
picks_of (f ∷ fs) = pick_with f.cause f.term (picks_of fs)

-- facts of levels up to one
abbrev pub up_to : ℕ → List Fact → List Fact
up_to l [] = []
up_to l (f ∷ fs) = cond (nat_le f.level l) (f ∷ up_to l fs) (up_to l fs)

-- the highest level of a fact
abbrev pub level_of : List Fact → ℕ
level_of [] = 0
level_of (f ∷ fs) = max f.level (level_of fs)

-- all facts are of one level
abbrev pub AreAt : ℕ → List Fact → Type 0
AreAt level [] = Unit {0}
AreAt level (f ∷ fs) = (f.level ≡ level) × AreAt level fs

-- the term says of a node what the facts leave open
pub record IsMirror (facts : List Fact) (n size : ℕ) (q : Term) : Type 0 where
  pub node : node_of q ≡ n
  pub fits : length (set_of q) ≡ size
  pub same : (o : Option ℕ) → allows q o ≡ is_open facts n o

-- the set has the versions of a node that no fact excludes
pub record IsAllowed (facts : List Fact) (n size : ℕ) (s : List Bool) : Type 0 where
  pub length_is : length s ≡ size
  pub each : (v : ℕ) → v < size → has v s ≡ is_open facts n (Some v)
