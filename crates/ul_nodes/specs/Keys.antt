-- Levels and keys of trees as plain data, and the branches of a node.
use Rattle.std.specs.Prelude.{ℕ, zero, suc, List, [], ◌∷◌, map, Bool, true, false, Option, Some, None, All, ◌≡◌}
use Rattle.std.specs.Ordering.{is_eq}
use Rattle.ul_comparison.specs.Atoms.{atom_key, text_number}
use Rattle.ul_nodes.specs.Plain.{Plain, truth, node, Branches, done, branch, text_cmp, pick}
use Rattle.ul_nodes.specs.Apply.{same_bool, both_keys}
use Rattle.ul_nodes.specs.Levels.{extra_level, python_level, text_level, atom_level}
use Rattle.ul_nodes.specs.declared.level.Level.{Level}
use Rattle.ul_nodes.specs.declared.level.Level.TheVariants.{Extra, Python, Text, Opaque}
use Rattle.ul_nodes.specs.declared.level.Key.{Key}
use Rattle.ul_nodes.specs.declared.level.Key.TheVariants.{Literal, Number, Holds}

-- the numbers of a level
abbrev pub level_view : Level → List ℕ
level_view Extra = extra_level
level_view Python = python_level
level_view (Text variable) = text_level variable
level_view (Opaque atom) = atom_level atom.now

-- the numbers of a key
abbrev pub key_view : Key → List ℕ
key_view (Literal text) = text.now
key_view (Number number) = number ∷ []
key_view Holds = 1 ∷ []

-- the first number of a level
abbrev pub level_rank : Level → ℕ
level_rank Extra = 0
level_rank Python = 1
level_rank (Text variable) = suc (suc (text_number variable))
level_rank (Opaque atom) = 10

-- the numbers of a level after its first
abbrev pub level_rest : Level → List ℕ
level_rest Extra = []
level_rest Python = []
level_rest (Text variable) = []
level_rest (Opaque atom) = atom_key atom.now

-- the top level of a tree, if it is a node
abbrev pub top_of : Plain → Option (List ℕ)
top_of (truth b) = None
top_of (node l d bs) = Some l

-- the part without a key; a truth is its own part
abbrev pub rest_of : Plain → Plain
rest_of (truth b) = truth b
rest_of (node l d bs) = d

-- the branches of a tree; a truth has none
abbrev pub branches_of : Plain → Branches
branches_of (truth b) = done
branches_of (node l d bs) = bs

-- the part that a value takes among a tree's branches
abbrev pub part_by : Bool → List ℕ → Plain → Plain
part_by carried value t = pick (branches_of t) carried value (rest_of t)

-- how many branches there are
abbrev pub branch_count : Branches → ℕ
branch_count done = 0
branch_count (branch k c rest) = suc (branch_count rest)

-- the branches from a place on
abbrev pub branches_from : ℕ → Branches → Branches
branches_from zero bs = bs
branches_from (suc n) done = done
branches_from (suc n) (branch k c rest) = branches_from n rest

-- the branch at a place
abbrev pub IsBranchAt : Branches → ℕ → List ℕ → Plain → Type 0
IsBranchAt bs index key part = branches_from index bs ≡ branch key part (branches_from (suc index) bs)

-- whether a tree's top level is this one
abbrev pub is_level : List ℕ → Plain → Bool
is_level l (truth b) = false
is_level l (node k d bs) = is_eq (text_cmp l k)

-- keys in a row
abbrev pub keys_view : List Key → List (List ℕ)
keys_view ks = map key_view ks

-- which keys the branches of a level have: a literal at the extra and at the text variables, a number at the
-- interpreter, and that it holds at an opaque comparison
abbrev pub has_kind : List ℕ → Key → Bool
has_kind [] k = false
has_kind (zero ∷ []) (Literal text) = true
has_kind (zero ∷ []) (Number number) = false
has_kind (zero ∷ []) Holds = false
has_kind (suc zero ∷ []) (Literal text) = false
has_kind (suc zero ∷ []) (Number number) = true
has_kind (suc zero ∷ []) Holds = false
has_kind (suc (suc i) ∷ []) (Literal text) = true
has_kind (suc (suc i) ∷ []) (Number number) = false
has_kind (suc (suc i) ∷ []) Holds = false
has_kind (a ∷ b ∷ rest) (Literal text) = false
has_kind (a ∷ b ∷ rest) (Number number) = false
has_kind (a ∷ b ∷ rest) Holds = true

-- keys that the branches of a level have
abbrev pub AreKeysOf : List ℕ → List Key → Type 0
AreKeysOf l ks = All (λ k. has_kind l k ≡ true) ks

-- keys with values, where the keys are those of a level
abbrev pub KeysOf : {A : Type 0} → List ℕ → List (Key × A) → Type 0
KeysOf l xs = All (λ x. has_kind l x.0 ≡ true) xs

-- whether a key is one that the branches of a tree's top level have
abbrev pub is_key_of : Plain → Key → Bool
is_key_of (truth b) k = false
is_key_of (node l d bs) k = has_kind l k

-- whether a key is a literal, or a number
abbrev pub is_literal_key : Key → Bool
is_literal_key (Literal text) = true
is_literal_key (Number number) = false
is_literal_key Holds = false

-- whether a key is a number
abbrev pub is_number_key : Key → Bool
is_number_key (Literal text) = false
is_number_key (Number number) = true
is_number_key Holds = false

-- branches after branches
abbrev pub then_branches : Branches → Branches → Branches
then_branches done qs = qs
then_branches (branch k p ps) qs = branch k p (then_branches ps qs)

-- whether two trees are equal truths, or nodes of one level
abbrev pub same_tops : Plain → Plain → Bool
same_tops (truth a) (truth b) = same_bool a b
same_tops (truth a) (node k e cs) = false
same_tops (node l d bs) (truth b) = false
same_tops (node l d bs) (node k e cs) = is_eq (text_cmp l k)

-- the keys of two trees at a level, each once
abbrev pub keys_of_both : Level → Plain → Plain → List (List ℕ)
keys_of_both level a b = both_keys (level_view level) a b
