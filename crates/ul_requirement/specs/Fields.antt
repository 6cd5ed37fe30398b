-- Requirements, releases and packages as plain data.
use Rattle.std.specs.Prelude.{◌≡◌, ℕ, ◌==◌, ◌&&◌, ◌||◌, nat_le, nat_lt, List, [], ◌∷◌, All, Bool, true, not, length, Option, Some, None}
use Rattle.std.specs.Char.{is_ascii_digit}
use Rattle.std.specs.List.{list_all}
use Rattle.std.specs.List.Sorted.{IsStrictlySortedBy}
use Rattle.std.specs.Cmp.Lexicographic.{slice_cmp}
use Rattle.std.specs.Ordering.{nat_cmp, on}
use Rattle.std.specs.declared.cmp.Ordering.TheVariants.{Equal}
use Rattle.ul_base.specs.Names.{name_cmp}
use Rattle.ul_version.specs.Ascii.{backslash, double_quote, space, tilde}
use Rattle.ul_version.specs.Fields.{Fields}
use Rattle.ul_version.specs.Order.{version_cmp}
use Rattle.ul_specifier.specs.Clauses.{ClauseFields}
use Rattle.ul_comparison.specs.Formulas.{Formula, IsFormula}
use Rattle.ul_requirement.specs.declared.wish.Mode.{Mode}
use Rattle.ul_requirement.specs.declared.wish.Prereleases.{Prereleases}
use Rattle.ul_requirement.specs.declared.wish.Strategy.{Strategy}

-- a requirement of PEP 508: a name with extras, the clauses that a version has to meet, and a marker
pub record RequirementFields : Type 0 where
  pub name : List ℕ
  pub extras : List (List ℕ)
  pub specifiers : List ClauseFields
  pub marker : Option Formula

-- a marker that a text can spell, if there is a marker
abbrev pub MayBeFormula : Option Formula → Type 0
MayBeFormula None = Unit {0}
MayBeFormula (Some m) = IsFormula m

-- what is true of each requirement
pub record IsRequirement (q : RequirementFields) : Type 0 where
  pub extras : IsStrictlySortedBy name_cmp q.extras
  pub marker : MayBeFormula q.marker

-- a file and the sum of its bytes
pub record FileFields : Type 0 where
  pub file : List ℕ
  pub sha256 : List ℕ

-- a byte of a file's name: printable ASCII, but no space, `"` or `\`
abbrev pub is_file_byte : ℕ → Bool
is_file_byte b = nat_lt space b && (nat_le b tilde && not (b == double_quote || b == backslash))

-- one or more such bytes
abbrev pub is_file_name : List ℕ → Bool
is_file_name text = nat_lt 0 (length text) && list_all is_file_byte text

-- a hexadecimal digit in lower case
abbrev pub is_hex : ℕ → Bool
is_hex b = is_ascii_digit b || (nat_le 97 b && nat_le b 102)

-- a sum of SHA-256: 64 hexadecimal digits
abbrev pub is_digest : List ℕ → Bool
is_digest text = length text == 64 && list_all is_hex text

-- what is true of each file
pub record IsFile (f : FileFields) : Type 0 where
  pub file : is_file_name f.file ≡ true
  pub sha256 : is_digest f.sha256 ≡ true

-- files stand in the order of their names, each once
abbrev pub FilesRise : List FileFields → Type 0
FilesRise = IsStrictlySortedBy (on (λ f. f.file) (slice_cmp nat_cmp))

-- a release: its version, the interpreters that it asks for, its requirements, and where it comes from: the name of a
-- package index that isn't the usual one, or `direct` for a path, a URL, a repository or a member of a workspace; none
-- where nothing is said
pub record ReleaseFields : Type 0 where
  pub version : Fields
  pub python : List ClauseFields
  pub requirements : List RequirementFields
  pub yanked : Bool
  pub files : List FileFields
  pub source : Option (List ℕ)

-- what is true of each release
pub record IsRelease (r : ReleaseFields) : Type 0 where
  pub files : FilesRise r.files

-- a package: how many releases its document lists, which of its pre-releases count, and its usable releases, in the order
-- of the document
pub record PackageFields : Type 0 where
  pub name : List ℕ
  pub entries : ℕ
  pub prereleases : Prereleases
  pub releases : List ReleaseFields

-- another release has another version
abbrev pub IsOtherVersion : ReleaseFields → ReleaseFields → Type 0
IsOtherVersion r s = version_cmp r.version s.version ≡ Equal → ⊥

-- the versions of releases differ
abbrev pub VersionsDiffer : List ReleaseFields → Type 0
VersionsDiffer [] = Unit {0}
VersionsDiffer (r ∷ rs) = All (IsOtherVersion r) rs × VersionsDiffer rs

-- what is true of each package
pub record IsPackage (p : PackageFields) : Type 0 where
  pub differ : VersionsDiffer p.releases

-- the mode, the strategy, and the pairs of name and version that an old lock has beside its root
pub record WishFields : Type 0 where
  pub mode : Mode
  pub strategy : Strategy
  pub kept : List (List ℕ × Fields)
