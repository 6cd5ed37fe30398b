-- A clause of a version specifier as plain data (PEP 440, "Version specifiers").
use Rattle.std.specs.Prelude.{◌≡◌, ◌<◌, ◌||◌, Bool, true, false, not, List, [], ◌∷◌, length, is_some}
use Rattle.ul_version.specs.Fields.{Fields, IsVersion}
use Rattle.ul_specifier.specs.declared.clause.Op.{Op}
use Rattle.ul_specifier.specs.declared.clause.Op.TheVariants.{Equal, Unequal, AtLeast, AtMost, More, Less, Compatible, Distinct}

-- an operator, a version, and whether `.*` follows the version
pub record ClauseFields : Type 0 where
  pub op : Op
  pub version : Fields
  pub prefix : Bool

-- `==` or `!=`
abbrev pub is_equality : Op → Bool
is_equality Equal = true
is_equality Unequal = true
is_equality AtLeast = false
is_equality AtMost = false
is_equality More = false
is_equality Less = false
is_equality Compatible = false
is_equality Distinct = false

-- `==`
abbrev pub is_equal : Op → Bool
is_equal Equal = true
is_equal Unequal = false
is_equal AtLeast = false
is_equal AtMost = false
is_equal More = false
is_equal Less = false
is_equal Compatible = false
is_equal Distinct = false

-- an exclusion: any version but one, its local part counted. No text spells it.
abbrev pub is_exclusion : Op → Bool
is_exclusion Equal = false
is_exclusion Unequal = false
is_exclusion AtLeast = false
is_exclusion AtMost = false
is_exclusion More = false
is_exclusion Less = false
is_exclusion Compatible = false
is_exclusion Distinct = true

-- `!=` or an exclusion: what says which versions are not admitted
abbrev pub is_negative : Op → Bool
is_negative Equal = false
is_negative Unequal = true
is_negative AtLeast = false
is_negative AtMost = false
is_negative More = false
is_negative Less = false
is_negative Compatible = false
is_negative Distinct = true

-- `~=`
abbrev pub is_compatible : Op → Bool
is_compatible Equal = false
is_compatible Unequal = false
is_compatible AtLeast = false
is_compatible AtMost = false
is_compatible More = false
is_compatible Less = false
is_compatible Compatible = true
is_compatible Distinct = false

-- a list that isn't empty
abbrev pub is_filled : {X : Type 0} → List X → Bool
is_filled [] = false
is_filled (x ∷ xs) = true

-- a version with a local part
abbrev pub has_local : Fields → Bool
has_local f = is_filled f.local

-- a version that has an epoch and a release alone
abbrev pub is_bare : Fields → Bool
is_bare f = not (is_some f.pre || (is_some f.post || (is_some f.dev || has_local f)))

-- a local part may stand with `==`, with `!=` and in an exclusion
abbrev pub may_have_local : Op → Bool
may_have_local op = is_equality op || is_exclusion op

-- a clause that some text spells, or an exclusion: `.*` stands with `==` and `!=` after an epoch and a release
-- alone, a local part with `==`, with `!=` and in an exclusion alone, and `~=` has two release numbers or more
pub record IsClause (c : ClauseFields) : Type 0 where
  pub version : IsVersion c.version
  pub prefix : c.prefix ≡ true → (is_equality c.op ≡ true) × (is_bare c.version ≡ true)
  pub local : has_local c.version ≡ true → may_have_local c.op ≡ true
  pub compatible : is_compatible c.op ≡ true → 1 < length c.version.release

-- a clause other than an exclusion
abbrev pub IsSpelled : ClauseFields → Type 0
IsSpelled c = is_exclusion c.op ≡ false
