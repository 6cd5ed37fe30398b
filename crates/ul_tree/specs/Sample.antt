-- The world of a tree's first path to true.
use Rattle.std.specs.Prelude.{ℕ, zero, suc, ◌+◌, ◌/◌, ◌%◌, ◌^◌, List, [], ◌∷◌, ◌++◌, length, slice_index, slice_set, Bool, true, false, ◌||◌, Option, Some, None, if◌then◌else◌, ◌≡◌}
use Rattle.std.specs.Str.{bytes_eq}
use Rattle.ul_comparison.specs.Atoms.{AtomFields}
use Rattle.ul_comparison.specs.Worlds.{WorldFields, IsWorld}
use Rattle.ul_comparison.specs.declared.variable.AtomKind.{AtomKind}
use Rattle.ul_comparison.specs.declared.variable.AtomKind.TheVariants.{Contains, Within, Below, AtMost, Same}
use Rattle.ul_comparison.specs.declared.variable.Variable.{Variable}
use Rattle.ul_comparison.specs.declared.variable.Variable.TheVariants.{OsName, SysPlatform, PlatformMachine, PlatformPythonImplementation, PlatformRelease, PlatformSystem, PlatformVersion, PythonVersion, PythonFullVersion, ImplementationName, ImplementationVersion, Extras}
use Rattle.ul_nodes.specs.Levels.{IsExtra}
use Rattle.ul_nodes.specs.Plain.{Plain, truth, node, Branches, done, branch, carries}
use Rattle.ul_nodes.specs.Reduced.{IsReduced}
use Rattle.ul_tree.specs.Values.{tree_holds}

-- ---- the first path to true

-- a level, and the value that a path takes there
pub record Step : Type 0 where
  pub level : List ℕ
  pub value : List ℕ

-- whether a branch has this key
abbrev pub has_key : Branches → List ℕ → Bool
has_key done text = false
has_key (branch k c rest) text = bytes_eq k text || has_key rest text

-- the lengths of all keys together
abbrev pub key_lengths : Branches → ℕ
key_lengths done = 0
key_lengths (branch k c rest) = length k + key_lengths rest

-- the first of a text, the text with one `x` behind it, with two, .. that is no key, among so many
abbrev pub fresh_from : ℕ → Branches → List ℕ → List ℕ
fresh_from zero bs text = text
fresh_from (suc n) bs text = if has_key bs text then fresh_from n bs (text ++ 120 ∷ []) else text

-- the shortest of the empty text, `x`, `xx` .. that is no key: a text longer than every key is none
abbrev pub fresh : Branches → List ℕ
fresh bs = fresh_from (suc (key_lengths bs)) bs []

-- the value that a path takes where no branch of a level of points stands: an opaque comparison doesn't hold
abbrev pub beside : List ℕ → Branches → List ℕ
beside [] bs = fresh bs
beside (a ∷ []) bs = fresh bs
beside (a ∷ b ∷ rest) bs = 0 ∷ []

-- the first path that there is
abbrev pub or_else : Option (List Step) → Option (List Step) → Option (List Step)
or_else None q = q
or_else (Some p) q = Some p

-- a path that begins with this value of a level
abbrev pub longer_path : List ℕ → List ℕ → Option (List Step) → Option (List Step)
longer_path l v None = None
longer_path l v (Some steps) = Some (record { level = l; value = v } ∷ steps)

-- the first path to true: by the pieces of the interpreter in their order; by the points in their order, then
-- the other part; by the part where an opaque comparison holds, then the other
abbrev mutual
  pub first_path : Plain → Option (List Step)
  first_path (truth true) = Some []
  first_path (truth false) = None
  first_path (node l d bs) =
      if carries l then or_else (longer_path l (0 ∷ []) (first_path d)) (first_in l bs) else or_else (first_in l bs) (longer_path l (beside l bs) (first_path d))

  pub first_in : List ℕ → Branches → Option (List Step)
  first_in l done = None
  first_in l (branch k c rest) = or_else (longer_path l k (first_path c)) (first_in l rest)

-- ---- its world

-- the variable at a place in the order of variables
abbrev pub variable_of : ℕ → Variable
variable_of zero = OsName
variable_of (suc zero) = SysPlatform
variable_of (suc (suc zero)) = PlatformMachine
variable_of (suc (suc (suc zero))) = PlatformPythonImplementation
variable_of (suc (suc (suc (suc zero)))) = PlatformRelease
variable_of (suc (suc (suc (suc (suc zero))))) = PlatformSystem
variable_of (suc (suc (suc (suc (suc (suc zero)))))) = PlatformVersion
variable_of (suc (suc (suc (suc (suc (suc (suc zero))))))) = PythonVersion
variable_of (suc (suc (suc (suc (suc (suc (suc (suc zero)))))))) = PythonFullVersion
variable_of (suc (suc (suc (suc (suc (suc (suc (suc (suc zero))))))))) = ImplementationName
variable_of (suc (suc (suc (suc (suc (suc (suc (suc (suc (suc zero)))))))))) = ImplementationVersion
variable_of (suc (suc (suc (suc (suc (suc (suc (suc (suc (suc (suc n))))))))))) = Extras

-- the kind at a place in the order of kinds
abbrev pub kind_of : ℕ → AtomKind
kind_of zero = Contains
kind_of (suc zero) = Within
kind_of (suc (suc zero)) = Below
kind_of (suc (suc (suc zero))) = AtMost
kind_of (suc (suc (suc (suc n)))) = Same

-- the atom of a level
abbrev pub atom_of : List ℕ → AtomFields
atom_of [] = record { variable = OsName; kind = Contains; literal = [] }
atom_of (a ∷ []) = record { variable = OsName; kind = Contains; literal = [] }
atom_of (a ∷ v ∷ []) = record { variable = variable_of v; kind = Contains; literal = [] }
atom_of (a ∷ v ∷ k ∷ literal) = record { variable = variable_of v; kind = kind_of k; literal = literal }

-- the atom of a level, if its value says that it holds
abbrev pub held : List ℕ → List ℕ → List AtomFields
held l (suc zero ∷ []) = atom_of l ∷ []
held l _ = []

-- a world with the value of one level more
abbrev pub with_level : List ℕ → List ℕ → WorldFields → WorldFields
with_level [] v w = w
with_level (zero ∷ []) v w = w
with_level (suc zero ∷ []) v w =
    record w { major = (slice_index v 0 / 2 ^ 32) / 2 ^ 32; minor = (slice_index v 0 / 2 ^ 32) % 2 ^ 32; patch = slice_index v 0 % 2 ^ 32 }
with_level (suc (suc i) ∷ []) v w = record w { texts = slice_set w.texts i v }
with_level (a ∷ b ∷ rest) v w = record w { truths = w.truths ++ held (a ∷ b ∷ rest) v }

-- a world with the values of a path
abbrev pub with_steps : WorldFields → List Step → WorldFields
with_steps w [] = w
with_steps w (s ∷ steps) = with_steps (with_level s.level s.value w) steps

-- a world with the values of a path, where there is one
abbrev pub with_path : WorldFields → Option (List Step) → WorldFields
with_path w None = w
with_path w (Some steps) = with_steps w steps

-- a world with the values of a tree's first path to true
abbrev pub sample_from : WorldFields → Plain → WorldFields
sample_from w t = with_path w (first_path t)

-- interpreter 0.0.0, empty texts, and no opaque comparison holds
abbrev pub empty_world : WorldFields
empty_world = record { major = 0; minor = 0; patch = 0; texts = [] ∷ [] ∷ [] ∷ [] ∷ [] ∷ [] ∷ [] ∷ [] ∷ []; truths = [] }

-- the world of a tree's first path to true: the interpreter is the start of the path's piece; a text variable has
-- the path's point, or a text that is no point, and is empty where the path doesn't ask for it; the opaque
-- comparisons are those that hold on the path
abbrev pub sample_of : Plain → WorldFields
sample_of t = sample_from empty_world t

-- ---- laws

-- whether a tree asks for the extra, which is the first of the levels
abbrev pub asks_extra : Plain → Bool
asks_extra (truth b) = false
asks_extra (node [] d bs) = false
asks_extra (node (zero ∷ []) d bs) = true
asks_extra (node (suc i ∷ []) d bs) = false
asks_extra (node (a ∷ b ∷ rest) d bs) = false

-- the sample of a tree that isn't false and asks for no extra is a world, where the tree holds with every extra
pub record SampleHolds : Type 0 where
  pub world : (t : Plain) → IsReduced t → (t ≡ truth false → ⊥) → asks_extra t ≡ false → IsWorld (sample_of t)
  pub holds : (t : Plain) → IsReduced t → (t ≡ truth false → ⊥) → asks_extra t ≡ false → (x : List ℕ) → tree_holds t (sample_of t) x ≡ true

-- a tree that isn't false holds somewhere, and, if it asks for no extra, in some world with every extra
pub record HoldsSomewhere : Type 0 where
  pub world : (t : Plain) → IsReduced t → (t ≡ truth false → ⊥) → (w : WorldFields) × (x : List ℕ) × IsWorld w × IsExtra x × (tree_holds t w x ≡ true)
  pub without_extra : (t : Plain) → IsReduced t → (t ≡ truth false → ⊥) → asks_extra t ≡ false → (w : WorldFields) × IsWorld w × ((x : List ℕ) → tree_holds t w x ≡ true)
