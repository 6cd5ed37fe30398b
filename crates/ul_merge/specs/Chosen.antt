-- What selections have for nodes, found by places.
use Rattle.std.specs.Prelude.{◌≡◌, ℕ, List, Option, Some, None, find, nat_eq}
use Rattle.std.specs.HashMap.{HashMap, get}
use Rattle.std.specs.List.{slice_get}
use Rattle.ul_base.specs.declared.node.Node.{Node}
use Rattle.ul_version.specs.Fields.{Fields}
use Rattle.ul_index.specs.Results.{option_bind}
use Rattle.ul_index.specs.Serves.{Selection, choice_of}
use Rattle.ul_merge.specs.Numbers.{node_number}

-- the first pick whose node has the number
abbrev pub first_of : Selection → ℕ → Option (Node × Fields)
first_of s u = find (λ d. nat_eq (node_number d.0) u) s

-- at the place of each number stands the first pick whose node has it, and the others have no place
abbrev pub ArePlaces : {S : Type 0} → Selection → HashMap ℕ ℕ S → Type 0
ArePlaces s places = (u : ℕ) → option_bind (get nat_eq places u) (slice_get s) ≡ first_of s u

-- what the selection at a place has for a node
abbrev pub choice_in : Option Selection → Node → Option Fields
choice_in None n = None
choice_in (Some s) n = choice_of s n

-- the same of the selection at a place of a list; none past its end
abbrev pub choice_at : List Selection → ℕ → Node → Option Fields
choice_at ss i n = choice_in (slice_get ss i) n
