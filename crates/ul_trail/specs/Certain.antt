-- What is certain: a version of a node, where no other option of the node is open.
use Rattle.std.specs.Prelude.{◌≡◌, ℕ, List, Bool, true, Option, Some, None, ◌<◌, length, slice_get}
use Rattle.ul_ranges.specs.Flags.{has}
use Rattle.ul_problem.specs.Terms.{node_of, set_of, allows}
use Rattle.ul_problem.specs.Plain.{Plain, size_of}
use Rattle.ul_problem.specs.declared.term.Term.{Term}
use Rattle.ul_problem.specs.declared.term.Term.TheVariants.{In}
use Rattle.ul_trail.specs.declared.fact.Fact.{Fact}
use Rattle.ul_trail.specs.Facts.{IsHeld, one_of}

-- the one member of a set; or it has none, or of any member another one
abbrev pub IsOnlyMember : List Bool → Option ℕ → Type 0
IsOnlyMember s (Some v) = (v < length s) × (has v s ≡ true) × ((k : ℕ) → has k s ≡ true → k ≡ v)
IsOnlyMember s None = (v : ℕ) → has v s ≡ true → (k : ℕ) × (has k s ≡ true) × (k ≡ v → ⊥)

-- the version is the one option that the term allows; or of any option it allows another one, if it allows any
abbrev pub IsOnlyOption : Term → Option ℕ → Type 0
IsOnlyOption q (Some v) = (v < length (set_of q)) × ((o : Option ℕ) → allows q o ≡ true → o ≡ Some v)
IsOnlyOption q None = (v : ℕ) → allows q (Some v) ≡ true → (o : Option ℕ) × (allows q o ≡ true) × (o ≡ Some v → ⊥)

-- the version is the only open option of the node of the fact at a place; or no version of that node is
abbrev pub IsCertainAt : Plain → List Fact → ℕ → Option (ℕ × ℕ) → Type 0
IsCertainAt p facts k (Some e) =
    ((f : Fact) → slice_get facts k ≡ Some f → node_of f.term ≡ e.0) × (e.0 < length p.nodes) × (e.1 < size_of p e.0)
    × IsHeld facts (In e.0 (one_of (size_of p e.0) e.1))
IsCertainAt p facts k None = (f : Fact) (v : ℕ) → slice_get facts k ≡ Some f → IsHeld facts (In (node_of f.term) (one_of (size_of p (node_of f.term)) v)) → ⊥
