-- How many options facts leave open: of all nodes, and level by level. An option of a node is one of its versions, or being absent.
use Rattle.std.specs.Prelude.{◌≡◌, ℕ, zero, suc, ◌+◌, List, [], ◌∷◌, Bool, cond, Some, None, ◌≤◌, nat_le, get_or, length}
use Rattle.ul_problem.specs.Plain.{Plain}
use Rattle.ul_problem.specs.declared.problem.NodeFacts.{NodeFacts}
use Rattle.ul_trail.specs.declared.fact.Fact.{Fact}
use Rattle.ul_trail.specs.Facts.{is_open, up_to, level_of}

-- one where it is so
abbrev pub one_if : Bool → ℕ
one_if b = cond b 1 0

-- how many of a node's first versions are open
abbrev pub versions_open : List Fact → ℕ → ℕ → ℕ
versions_open facts n zero = 0
versions_open facts n (suc v) = one_if (is_open facts n (Some v)) + versions_open facts n v

-- how many options of the first nodes are open
abbrev pub open_below : List ℕ → List Fact → ℕ → ℕ
open_below sizes facts zero = 0
open_below sizes facts (suc n) = (one_if (is_open facts n None) + versions_open facts n (get_or sizes n 0)) + open_below sizes facts n

-- the options that the facts leave open, of nodes with these numbers of versions
abbrev pub open_in : List ℕ → List Fact → ℕ
open_in sizes facts = open_below sizes facts (length sizes)

-- how many versions each of these nodes has
abbrev pub size_list : List NodeFacts → List ℕ
size_list [] = []
size_list (f ∷ fs) = length f.versions ∷ size_list fs

-- how many versions each node of a problem has
abbrev pub sizes_of : Plain → List ℕ
sizes_of p = size_list p.nodes

-- the number of a level: what the facts up to it leave open, or more than that can be where it isn't reached
abbrev pub level_number : List ℕ → List Fact → ℕ → ℕ → ℕ
level_number sizes facts top l = cond (nat_le l top) (open_in sizes (up_to l facts)) (suc (open_in sizes []))

-- the numbers of k levels, from the level l on
abbrev pub level_numbers : List ℕ → List Fact → ℕ → ℕ → ℕ → List ℕ
level_numbers sizes facts top zero l = []
level_numbers sizes facts top (suc k) l = level_number sizes facts top l ∷ level_numbers sizes facts top k (suc l)

-- one number a level, from 0 to the number of nodes
abbrev pub levels_of : List ℕ → List Fact → List ℕ
levels_of sizes facts = level_numbers sizes facts (level_of facts) (suc (length sizes)) 0

-- each level up to the last has a fact
abbrev pub AreReached : List Fact → Type 0
AreReached facts = (l : ℕ) → l ≤ level_of facts → level_of (up_to l facts) ≡ l
