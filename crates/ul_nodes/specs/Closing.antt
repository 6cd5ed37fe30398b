-- A level that is closed: its branches and its other part, in the lists that its nodes have, and the tree of these.
use Rattle.std.specs.Prelude.{ℕ, zero, suc, ◌<◌, List, [], ◌∷◌, ◌++◌, map, length, Bool, true, false, string_bytes, ◌≡◌}
use Rattle.ul_nodes.specs.Levels.{extra_level, python_level, text_level, atom_level}
use Rattle.ul_nodes.specs.Plain.{Plain, truth, node, Branches, done, branch}
use Rattle.ul_nodes.specs.declared.closing.Closed.{Closed}
use Rattle.ul_nodes.specs.declared.closing.Closed.TheVariants.{Part, Extra, Python, Text, Opaque}
use Rattle.ul_nodes.specs.declared.level.Key.{Key}
use Rattle.ul_nodes.specs.declared.level.Key.TheVariants.{Literal, Number, Holds}

-- the branches of keys and parts; a branch without a key where the numbers of keys and parts differ
abbrev pub keyed_branches : List (List ℕ) → List Plain → Branches
keyed_branches [] [] = done
keyed_branches [] (p ∷ ps) = branch [] p done
keyed_branches (k ∷ ks) [] = branch [] (truth false) done
keyed_branches (k ∷ ks) (p ∷ ps) = branch k p (keyed_branches ks ps)

-- the branches of the pieces after the first; a branch without a key where the numbers of starts and parts differ
abbrev pub pieces_of : List ℕ → List Plain → Branches
pieces_of [] [] = done
pieces_of [] (p ∷ ps) = branch [] p done
pieces_of (s ∷ ss) [] = branch [] (truth false) done
pieces_of (s ∷ ss) (p ∷ ps) = branch (s ∷ []) p (pieces_of ss ps)

-- a node without branches
abbrev pub shapeless : Plain
shapeless = node python_level (truth false) done

-- the node of the interpreter
abbrev pub python_of : List ℕ → List Plain → Plain
python_of [] ps = shapeless
python_of (suc s ∷ ss) ps = shapeless
python_of (zero ∷ ss) [] = shapeless
python_of (zero ∷ ss) (p ∷ ps) = node python_level p (pieces_of ss ps)

-- the tree of a closed level
abbrev pub closed_view : {A : Type 0} → (A → Plain) → Closed A → Plain
closed_view view (Part part) = view part
closed_view view (Extra texts parts other) = node extra_level (view other) (keyed_branches (map string_bytes texts.items) (map view parts.items))
closed_view view (Python starts parts) = python_of starts.items (map view parts.items)
closed_view view (Text variable texts parts other) = node (text_level variable) (view other) (keyed_branches (map string_bytes texts.items) (map view parts.items))
closed_view view (Opaque atom holds fails) = node (atom_level atom.now) (view fails) (branch (1 ∷ []) (view holds) done)

-- all parts of a closed level, in order
abbrev pub closed_parts : {A : Type 0} → Closed A → List A
closed_parts (Part part) = part ∷ []
closed_parts (Extra texts parts other) = parts.items ++ (other ∷ [])
closed_parts (Python starts parts) = parts.items
closed_parts (Text variable texts parts other) = parts.items ++ (other ∷ [])
closed_parts (Opaque atom holds fails) = holds ∷ fails ∷ []

-- each text has its part
abbrev pub IsEven : {A : Type 0} → Closed A → Type 0
IsEven (Part part) = Unit {0}
IsEven (Extra texts parts other) = length texts.items ≡ length parts.items
IsEven (Python starts parts) = Unit {0}
IsEven (Text variable texts parts other) = length texts.items ≡ length parts.items
IsEven (Opaque atom holds fails) = Unit {0}

-- the number of a key
abbrev pub number_of : Key → ℕ
number_of (Literal text) = 0
number_of (Number number) = number
number_of Holds = 0

-- the parts of branches
abbrev pub branch_parts : {A : Type 0} → List (Key × A) → List A
branch_parts made = map (λ e. e.1) made

-- the parts of a level: the other part comes first where branches are carried, else last
abbrev pub level_parts : {A : Type 0} → Bool → A → List (Key × A) → List A
level_parts true other made = other ∷ branch_parts made
level_parts false other made = branch_parts made ++ (other ∷ [])

-- an opaque comparison has one branch at most, since it has one key
abbrev pub HasOneMark : {A : Type 0} → List ℕ → List (Key × A) → Type 0
HasOneMark (a ∷ b ∷ rest) made = length made < 2
HasOneMark _ made = Unit {0}
