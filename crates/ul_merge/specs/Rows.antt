-- What is gathered, as rows: which leaf chose what, and which targets the requirements of a release have there.
use Rattle.std.specs.Prelude.{ℕ, ◌+◌, List, [], ◌∷◌, ◌++◌, map, Option, Some, None}
use Rattle.ul_base.specs.declared.node.Node.{Node}
use Rattle.ul_version.specs.Fields.{Fields}
use Rattle.ul_requirement.specs.Fields.{RequirementFields}
use Rattle.ul_requirement.specs.Truth.{targets}
use Rattle.ul_index.specs.Serves.{Selection, choice_of}
use Rattle.ul_lock.specs.Walk.{Pick}
use Rattle.ul_sound.specs.Merged.{Pair}
use Rattle.ul_merge.specs.Chosen.{choice_at}
use Rattle.ul_merge.specs.Keys.{pair_of, pick_of}
use Rattle.ul_merge.specs.declared.gathering.Entry.{Entry}
use Rattle.ul_merge.specs.declared.keys.ExtraKey.{ExtraKey}
use Rattle.ul_merge.specs.declared.keys.PairKey.{PairKey}
use Rattle.ul_merge.specs.declared.keys.PickKey.{PickKey}
use Rattle.ul_merge.specs.declared.members.Member.{Member}
use Rattle.ul_merge.specs.declared.targets.Aim.{Aim}
use Rattle.ul_merge.specs.declared.targets.Use.{Use}

-- ---- of all leaves

-- a node that a leaf chose, with the leaf's place
abbrev pub MemberFields : Type 0
MemberFields = Node × ℕ

-- a member as plain data
abbrev pub member_of : Member → MemberFields
member_of m = (m.node.now, m.leaf)

-- under its name and version
abbrev pub member_row : Entry PairKey Member → Pair × MemberFields
member_row e = (pair_of e.key, member_of e.value)

-- the row of a node, if it is chosen
abbrev pub chosen_member : Node → ℕ → Option Fields → List (Pair × MemberFields)
chosen_member n i None = []
chosen_member n i (Some v) = ((n.name, v), (n, i)) ∷ []

-- the rows of some picks of a leaf's selection
abbrev pub leaf_members : ℕ → Selection → Selection → List (Pair × MemberFields)
leaf_members i s [] = []
leaf_members i s (d ∷ ds) = chosen_member d.0 i (choice_of s d.0) ++ leaf_members i s ds

-- the rows of leaves, the first one's place given
abbrev pub all_members : ℕ → List Selection → List (Pair × MemberFields)
all_members i [] = []
all_members i (s ∷ ss) = leaf_members i s s ++ all_members (i + 1) ss

-- ---- of a package

-- which leaves chose its base
abbrev pub base_row : Option (List ℕ) → ℕ → List ℕ
base_row None i = i ∷ []
base_row (Some x) i = []

-- of all members
abbrev pub base_rows : List MemberFields → List ℕ
base_rows [] = []
base_rows (m ∷ ms) = base_row m.0.extra m.1 ++ base_rows ms

-- which leaves chose its extras
abbrev pub extra_row : Option (List ℕ) → ℕ → List (List ℕ × ℕ)
extra_row None i = []
extra_row (Some x) i = (x, i) ∷ []

-- of all members
abbrev pub extra_rows : List MemberFields → List (List ℕ × ℕ)
extra_rows [] = []
extra_rows (m ∷ ms) = extra_row m.0.extra m.1 ++ extra_rows ms

-- an entry as plain data
abbrev pub extra_entry : Entry ExtraKey ℕ → List ℕ × ℕ
extra_entry e = (e.key.name.now, e.value)

-- ---- of a node at a version

-- a target of a requirement, with the requirement's place
abbrev pub aim_of : Aim → Node × ℕ
aim_of a = (a.target, a.requirement)

-- targets of the requirement at a place
abbrev pub aims_at : ℕ → List Node → List (Node × ℕ)
aims_at i ns = map (λ n. (n, i)) ns

-- the targets of requirements, the first one with its place
abbrev pub aim_rows : ℕ → List RequirementFields → List (Node × ℕ)
aim_rows i [] = []
aim_rows i (r ∷ rs) = aims_at i (targets r) ++ aim_rows (i + 1) rs

-- a target at its version, with the places of a leaf that chose it and of a requirement that aims at it
abbrev pub use_row : Entry PickKey Use → Pick × Use
use_row e = (pick_of e.key, e.value)

-- the row of a target, if it is chosen
abbrev pub chosen_use : Node → Use → Option Fields → List (Pick × Use)
chosen_use n u None = []
chosen_use n u (Some v) = ((n, v), u) ∷ []

-- of one target, for these leaves
abbrev pub aim_uses : List Selection → Node × ℕ → List ℕ → List (Pick × Use)
aim_uses ss a [] = []
aim_uses ss a (i ∷ is) = chosen_use a.0 (record { leaf = i; requirement = a.1 }) (choice_at ss i a.0) ++ aim_uses ss a is

-- of targets
abbrev pub all_uses : List Selection → List ℕ → List (Node × ℕ) → List (Pick × Use)
all_uses ss users [] = []
all_uses ss users (a ∷ aims) = aim_uses ss a users ++ all_uses ss users aims
