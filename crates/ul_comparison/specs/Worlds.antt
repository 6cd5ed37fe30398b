-- Environments in which markers are evaluated: an interpreter, the texts of the text variables, and the
-- opaque comparisons that hold (PEP 508, "Environment Markers").
use Rattle.std.specs.Prelude.{◌≡◌, ◌<◌, ◌^◌, ℕ, List, [], ◌∷◌, All, Option, Some, None, length, slice_index_or}
use Rattle.std.specs.declared.cmp.Ordering.TheVariants.{Less}
use Rattle.ul_comparison.specs.Atoms.{AtomFields, IsAtom, atom_cmp, text_number}
use Rattle.ul_comparison.specs.declared.variable.Variable.{Variable}

-- the interpreter's three numbers, eight texts in the order of the text variables, and the atoms that hold
pub record WorldFields : Type 0 where
  pub major : ℕ
  pub minor : ℕ
  pub patch : ℕ
  pub texts : List (List ℕ)
  pub truths : List AtomFields

-- the world of these
abbrev pub world_fields : ℕ × ℕ × ℕ → List (List ℕ) → List AtomFields → WorldFields
world_fields python texts truths = record { major = python.0; minor = python.1; patch = python.2; texts = texts; truths = truths }

-- an atom comes after another, if there is another
abbrev pub IsAfter : Option AtomFields → AtomFields → Type 0
IsAfter None a = Unit {0}
IsAfter (Some b) a = atom_cmp b a ≡ Less

-- atoms in increasing order, each once, all of them after one
abbrev pub Rise : Option AtomFields → List AtomFields → Type 0
Rise b [] = Unit {0}
Rise b (a ∷ rest) = IsAfter b a × Rise (Some a) rest

-- a world: numbers below 2^32, eight texts, and atoms that increase
pub record IsWorld (w : WorldFields) : Type 0 where
  pub major : w.major < 2 ^ 32
  pub minor : w.minor < 2 ^ 32
  pub patch : w.patch < 2 ^ 32
  pub texts : length w.texts ≡ 8
  pub atoms : All IsAtom w.truths
  pub increasing : Rise None w.truths

-- the text of a variable
abbrev pub text_at : WorldFields → Variable → List ℕ
text_at w v = slice_index_or w.texts (text_number v) []
