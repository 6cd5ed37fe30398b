-- The comparisons of markers (PEP 508, "Environment Markers"): a variable or `extra` on one side and a literal
-- on the other, and what each says.
use Rattle.std.specs.Prelude.{ℕ, ◌==◌, ◌||◌, Bool, true, false, List, [], ◌∷◌, Option, Some, None, if◌then◌else◌}
use Rattle.std.specs.List.{slice_split}
use Rattle.std.specs.Option.{option_map_or}
use Rattle.ul_base.specs.Names.{name_of}
use Rattle.ul_version.specs.Fields.{Fields}
use Rattle.ul_version.specs.Reading.{◌>>=◌, version_of}
use Rattle.ul_specifier.specs.Reading.{clause_with}
use Rattle.ul_specifier.specs.declared.clause.Op.{Op}
use Rattle.ul_specifier.specs.declared.clause.Op.TheVariants.{Equal, Unequal, AtLeast, AtMost, More, Less, Compatible, Distinct}
use Rattle.ul_comparison.specs.Atoms.{is_extras, is_text, may_stand}
use Rattle.ul_comparison.specs.Formulas.{Formula, extra, python, python_list, text, opaque}
use Rattle.ul_comparison.specs.declared.variable.AtomKind.{AtomKind}
use Rattle.ul_comparison.specs.declared.variable.AtomKind.TheVariants as Kind
use Rattle.ul_comparison.specs.declared.variable.Variable.{Variable}
use Rattle.ul_comparison.specs.declared.variable.Variable.TheVariants.{PythonVersion, PythonFullVersion}
use Rattle.ul_marker.specs.declared.words.Token.{Token}
use Rattle.ul_marker.specs.declared.words.Token.TheVariants.{In, Not, Extra, Named, Sign, Literal}

-- ---- variables and literals

-- for a version of Python, whether it has all its numbers
abbrev pub python_full : Variable → Option Bool
python_full PythonVersion = Some false
python_full PythonFullVersion = Some true
python_full other = None

-- a literal beside `extra`: where it is a name, its normal form (PEP 685)
unfoldable pub extra_literal : List ℕ → List ℕ
extra_literal literal = option_map_or (λ name. name) (name_of literal) literal

-- space or comma, between two versions of a list
abbrev pub parts_versions : ℕ → Bool
parts_versions b = b == 32 || b == 44

-- the versions that the pieces of a list spell, of which empty ones count for nothing
unfoldable pub versions_of : List (List ℕ) → Option (List Fields)
versions_of [] = Some []
versions_of ([] ∷ pieces) = versions_of pieces
versions_of ((b ∷ piece) ∷ pieces) = version_of (b ∷ piece) >>= λ v. versions_of pieces >>= λ vs. Some (v ∷ vs)

-- the versions that a literal lists
abbrev pub version_list : List ℕ → Option (List Fields)
version_list literal = versions_of (slice_split parts_versions literal)

-- the token's literal
abbrev pub literal_of : Token → Option (List ℕ)
literal_of (Literal bytes) = Some bytes
literal_of other = None

-- ---- what comparisons say

-- an opaque comparison, or its negation
abbrev pub opaquely : Variable → AtomKind → List ℕ → Bool → Formula
opaquely variable kind literal positive = opaque (record { variable = variable; kind = kind; literal = literal }) positive

-- `extra` equals a literal, or doesn't
abbrev pub extra_of : List ℕ → Bool → Formula
extra_of literal equal = extra (extra_literal literal) equal

-- `extra` and a literal
abbrev pub extra_sign : Op → List ℕ → Option Formula
extra_sign Equal literal = Some (extra_of literal true)
extra_sign Unequal literal = Some (extra_of literal false)
extra_sign other literal = None

-- a text variable or `implementation_version` equals a literal, or doesn't
abbrev pub equality : Variable → List ℕ → Bool → Formula
equality variable literal equal = if is_text variable then text variable literal equal else opaquely variable Kind.Same literal equal

-- a text variable or `implementation_version` and a literal: `>=` is the negation of `<`, and `>` of `<=`; `~=` says
-- nothing of texts, and an exclusion has no sign
abbrev pub text_sign : Variable → Op → List ℕ → Option Formula
text_sign variable Equal literal = Some (equality variable literal true)
text_sign variable Unequal literal = Some (equality variable literal false)
text_sign variable Less literal = Some (opaquely variable Kind.Below literal true)
text_sign variable AtLeast literal = Some (opaquely variable Kind.Below literal false)
text_sign variable AtMost literal = Some (opaquely variable Kind.AtMost literal true)
text_sign variable More literal = Some (opaquely variable Kind.AtMost literal false)
text_sign variable Compatible literal = None
text_sign variable Distinct literal = None

-- a version of Python, or another variable, and a literal
abbrev pub python_sign : Variable → Op → List ℕ → Option Bool → Option Formula
python_sign variable op literal (Some full) = clause_with op literal >>= λ clause. Some (python full clause)
python_sign variable op literal None = text_sign variable op literal

-- a variable, a sign and a literal; `extras` has no sign
unfoldable pub sign_formula : Token → Op → List ℕ → Option Formula
sign_formula Extra op literal = extra_sign op literal
sign_formula (Named variable) op literal = if is_extras variable then None else python_sign variable op literal (python_full variable)
sign_formula other op literal = None

-- the sign that says the same with its sides exchanged; `~=` and an exclusion have none
abbrev pub mirror_sign : Op → Option Op
mirror_sign Equal = Some Equal
mirror_sign Unequal = Some Unequal
mirror_sign AtLeast = Some AtMost
mirror_sign AtMost = Some AtLeast
mirror_sign More = Some Less
mirror_sign Less = Some More
mirror_sign Compatible = None
mirror_sign Distinct = None

-- a version of Python in a list of versions, or another variable as a substring of a literal
abbrev pub python_within : Variable → List ℕ → Bool → Option Bool → Option Formula
python_within variable literal positive (Some full) = version_list literal >>= λ versions. Some (python_list full versions positive)
python_within variable literal positive None = Some (opaquely variable Kind.Within literal positive)

-- a variable in a literal
abbrev pub variable_within : Variable → List ℕ → Bool → Option Formula
variable_within variable literal positive = python_within variable literal positive (python_full variable)

-- a variable `in` a literal, or `not in` it, as `extras` never is
unfoldable pub within : Bool → Token → List ℕ → Option Formula
within positive (Named variable) literal = if is_extras variable then None else variable_within variable literal positive
within positive other literal = None

-- a literal `in` a variable, or `not in` it; in `extras` a name in its normal form
unfoldable pub containment : Bool → Token → List ℕ → Option Formula
containment positive (Named variable) literal =
    if may_stand variable literal then Some (opaquely variable Kind.Contains literal positive) else None
containment positive other literal = None

-- ---- sides

-- two sides and a sign: the left one's literal, if it is one
abbrev pub signed_sides : Token → Op → Token → Option (List ℕ) → Option Formula
signed_sides left op right (Some literal) = mirror_sign op >>= λ sign. sign_formula right sign literal
signed_sides left op right None = literal_of right >>= λ literal. sign_formula left op literal

-- two sides and `in` or `not in`: the left one's literal, if it is one
abbrev pub in_sides : Bool → Token → Token → Option (List ℕ) → Option Formula
in_sides positive left right (Some literal) = containment positive right literal
in_sides positive left right None = literal_of right >>= λ literal. within positive left literal

-- three tokens: a sign or `in` between two sides
abbrev pub three : Token → Token → Token → Option Formula
three left (Sign op) right = signed_sides left op right (literal_of left)
three left In right = in_sides true left right (literal_of left)
three left other right = None

-- the words `not in`
abbrev pub is_not_in : Token → Token → Bool
is_not_in Not In = true
is_not_in first second = false

-- the comparison that tokens are
unfoldable pub comparison_of : List Token → Option Formula
comparison_of (left ∷ middle ∷ right ∷ []) = three left middle right
comparison_of (left ∷ first ∷ second ∷ right ∷ []) = if is_not_in first second then in_sides false left right (literal_of left) else None
comparison_of other = None
