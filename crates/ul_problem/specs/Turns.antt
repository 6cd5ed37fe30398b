-- A turn of the merge of two lists of terms by their nodes.
use Rattle.std.specs.Prelude.{◌≡◌, ℕ, ◌≤◌, ◌++◌, List, take, cond, Option, Some, None, length, nat_eq, nat_lt}
use Rattle.std.specs.Option.{option_to_list}
use Rattle.ul_problem.specs.Terms.{node_of, set_of}
use Rattle.ul_problem.specs.Steps.{resolvent_term}
use Rattle.ul_problem.specs.declared.term.Term.{Term}
use Rattle.ul_problem.specs.declared.resolving.Turn.{Turn}

-- two terms on one node have sets of one size
abbrev pub AreLevel : Option Term → Option Term → Type 0
AreLevel None u = Unit {0}
AreLevel (Some t) None = Unit {0}
AreLevel (Some t) (Some u) = node_of t ≡ node_of u → length (set_of t) ≡ length (set_of u)

-- the resolvent's term where one side alone has a term
abbrev pub lone_of : ℕ → Term → Option Term
lone_of m t = cond (nat_eq (node_of t) m) None (Some t)

-- the first term of the left side is taken
abbrev pub left_turn : ℕ → Term → Turn
left_turn m t = record { left = 1; right = 0; term = lone_of m t }

-- the first term of the right side is taken
abbrev pub right_turn : ℕ → Term → Turn
right_turn m u = record { left = 0; right = 1; term = lone_of m u }

-- the first terms of both sides are taken, on one node
abbrev pub both_turn : ℕ → Term → Term → Turn
both_turn m t u = record { left = 1; right = 1; term = resolvent_term m (node_of t) (Some t) (Some u) }

-- a turn takes the first term of the side whose node is earlier, or of both where the node is one
abbrev pub turn_of : ℕ → Option Term → Option Term → Turn
turn_of m None None = record { left = 0; right = 0; term = None }
turn_of m None (Some u) = right_turn m u
turn_of m (Some t) None = left_turn m t
turn_of m (Some t) (Some u) =
    cond (nat_eq (node_of t) (node_of u)) (both_turn m t u) (cond (nat_lt (node_of u) (node_of t)) (right_turn m u) (left_turn m t))

-- a term, where there is one, stands at a place of a list, and the next place follows it
pub record IsPassed (terms : List Term) (place : ℕ) (term : Option Term) (next : ℕ) : Type 0 where
  pub within : next ≤ length terms
  pub front : take next terms ≡ take place terms ++ option_to_list term
