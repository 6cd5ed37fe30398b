-- Terms: what they say of a selection. A term `n S` holds where the selection has the node n at a version in the set S, and
-- `not n S` holds where that isn't so.
use Rattle.std.specs.Prelude.{◌≡◌, ℕ, List, [], ◌∷◌, Bool, true, false, cond, not, Option, Some, None, ◌<◌, nat_eq}
use Rattle.ul_ranges.specs.Flags.{has, both, either, less, is_blank}
use Rattle.ul_problem.specs.declared.term.Term.{Term}
use Rattle.ul_problem.specs.declared.term.Term.TheVariants.{In, NotIn}
use Rattle.ul_problem.specs.declared.term.Relation.{Relation}
use Rattle.ul_problem.specs.declared.term.Relation.TheVariants.{Holds, Fails, Unknown}

-- a version of a node by the selection, if the node is in it
abbrev pub Selection : Type 0
Selection = ℕ → Option ℕ

-- a picked version is in the set
abbrev pub is_among : Option ℕ → List Bool → Bool
is_among None s = false
is_among (Some v) s = has v s

-- the node that a term speaks of
abbrev pub node_of : Term → ℕ
node_of (In n s) = n
node_of (NotIn n s) = n

-- the set that a term speaks of
abbrev pub set_of : Term → List Bool
set_of (In n s) = s
set_of (NotIn n s) = s

-- the term holds of a node that is picked so
abbrev pub allows : Term → Option ℕ → Bool
allows (In n s) o = is_among o s
allows (NotIn n s) o = not (is_among o s)

-- the term holds of the selection
abbrev pub holds : Selection → Term → Bool
holds σ t = allows t (σ (node_of t))

-- the terms all hold
abbrev pub all_hold : Selection → List Term → Bool
all_hold σ [] = true
all_hold σ (t ∷ ts) = cond (holds σ t) (all_hold σ ts) false

-- the term that holds where both do: of one node, by intersection, difference or union of the sets
abbrev pub meet_of : Term → Term → Term
meet_of (In n s) (In m t) = In n (both s t)
meet_of (In n s) (NotIn m t) = In n (less s t)
meet_of (NotIn n s) (In m t) = In n (less t s)
meet_of (NotIn n s) (NotIn m t) = NotIn n (either s t)

-- the term that holds where one of the two does
abbrev pub join_of : Term → Term → Term
join_of (In n s) (In m t) = In n (either s t)
join_of (In n s) (NotIn m t) = NotIn n (less t s)
join_of (NotIn n s) (In m t) = NotIn n (less s t)
join_of (NotIn n s) (NotIn m t) = NotIn n (both s t)

-- the term that holds where this one doesn't
abbrev pub negation : Term → Term
negation (In n s) = NotIn n s
negation (NotIn n s) = In n s

-- wherever the known term holds the other does
abbrev pub Tells : Term → Term → Type 0
Tells known t = (o : Option ℕ) → allows known o ≡ true → allows t o ≡ true

-- wherever the known term holds the other doesn't
abbrev pub Denies : Term → Term → Type 0
Denies known t = (o : Option ℕ) → allows known o ≡ true → allows t o ≡ false

-- the term on a node, where one of the list is
abbrev pub term_on : ℕ → List Term → Option Term
term_on k [] = None
term_on k (t ∷ ts) = cond (nat_eq (node_of t) k) (Some t) (term_on k ts)

-- a term on a node, or none, holds
abbrev pub may_hold : Option Term → Option ℕ → Bool
may_hold None o = true
may_hold (Some t) o = allows t o

-- the nodes of the terms strictly increase, from above a first one on
abbrev pub IsOrderedFrom : ℕ → List Term → Type 0
IsOrderedFrom low [] = Unit {0}
IsOrderedFrom low (t ∷ ts) = (low < node_of t) × IsOrderedFrom (node_of t) ts

-- the nodes of the terms strictly increase, so there is at most one term on a node
abbrev pub IsOrdered : List Term → Type 0
IsOrdered [] = Unit {0}
IsOrdered (t ∷ ts) = IsOrderedFrom (node_of t) ts

-- Holds goes before Fails, where both could be said
abbrev pub relation_from_of : Bool → Bool → Relation
relation_from_of h f = cond h Holds (cond f Fails Unknown)

-- what a known term tells of another
abbrev pub relation_of : Term → Term → Relation
relation_of (In n s) (In m t) = relation_from_of (is_blank (less s t)) (is_blank (both s t))
relation_of (In n s) (NotIn m t) = relation_from_of (is_blank (both s t)) (is_blank (less s t))
relation_of (NotIn n s) (In m t) = relation_from_of false (is_blank (less t s))
relation_of (NotIn n s) (NotIn m t) = relation_from_of (is_blank (less t s)) false

-- a relation says what is so: Holds where the known term tells the other, Fails where it denies it and doesn't tell it,
-- Unknown where it does neither
abbrev pub IsTold : Term → Term → Relation → Type 0
IsTold known t Holds = Tells known t
IsTold known t Fails = Denies known t × (Tells known t → ⊥)
IsTold known t Unknown = (Tells known t → ⊥) × (Denies known t → ⊥)

-- two terms of one node meet where the node is picked as both say, and join where it is picked as one of them says
abbrev pub MeetHolds : Type 0
MeetHolds = (t u : Term) (o : Option ℕ) → allows (meet_of t u) o ≡ cond (allows t o) (allows u o) false

-- a joined term holds of a pick where one of the two does
abbrev pub JoinHolds : Type 0
JoinHolds = (t u : Term) (o : Option ℕ) → allows (join_of t u) o ≡ cond (allows t o) true (allows u o)

-- what `relation_of` says is so
abbrev pub RelationIsExact : Type 0
RelationIsExact = (known t : Term) → IsTold known t (relation_of known t)

-- a negation holds of a pick where the term doesn't
abbrev pub NegationHolds : Type 0
NegationHolds = (t : Term) (o : Option ℕ) → allows (negation t) o ≡ not (allows t o)
