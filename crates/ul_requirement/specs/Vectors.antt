-- Worked examples: texts and the requirements that they spell, texts without a reading, truths at nodes, and nodes at
-- which requirements may be true.
use Rattle.std.specs.Prelude.{◌≡◌, ℕ, Bool, true, false, List, [], ◌∷◌, codes, Option, Some, None}
use Rattle.ul_version.specs.Fields.{plain}
use Rattle.ul_specifier.specs.Clauses.{ClauseFields}
use Rattle.ul_specifier.specs.declared.clause.Op.{Op}
use Rattle.ul_specifier.specs.declared.clause.Op.TheVariants.{Equal, AtLeast, Less}
use Rattle.ul_comparison.specs.Formulas.{Formula, extra, python, text, all, any, formulas_of}
use Rattle.ul_comparison.specs.Worlds.{WorldFields}
use Rattle.ul_comparison.specs.declared.variable.Variable.TheVariants.{OsName, SysPlatform}
use Rattle.ul_requirement.specs.Fields.{RequirementFields}
use Rattle.ul_requirement.specs.Reading.{reading_of, requirement, by_url, unread}
use Rattle.ul_requirement.specs.Truth.{applies_at, base, may_apply, targets, with_extra}

-- a requirement of a name
abbrev pub asks : List ℕ → List (List ℕ) → List ClauseFields → Option Formula → RequirementFields
asks name extras specifiers marker = record { name = name; extras = extras; specifiers = specifiers; marker = marker }

-- a clause of an operator and a release
abbrev pub clause : Op → List ℕ → Bool → ClauseFields
clause op release prefix = record { op = op; version = plain release; prefix = prefix }

-- python_version < '3.11'
abbrev pub old_python : Formula
old_python = python false (clause Less (3 ∷ 11 ∷ []) false)

-- os_name == 'a'
abbrev pub on_a : Formula
on_a = text OsName (codes "a") true

-- texts and their requirements
pub record Readings : Type 0 where
  pub name : reading_of (codes " Foo._-Bar\n") ≡ requirement (asks (codes "foo-bar") [] [] None)
  pub whole : reading_of (codes "requests [Security,tests] >= 2.8, == 2.8.* ; python_version < '3.11'")
      ≡ requirement (asks (codes "requests") (codes "security" ∷ codes "tests" ∷ []) (clause AtLeast (2 ∷ 8 ∷ []) false ∷ clause Equal (2 ∷ 8 ∷ []) true ∷ []) (Some old_python))
  pub tight : reading_of (codes "a[b]>=1;os_name=='a'") ≡ requirement (asks (codes "a") (codes "b" ∷ []) (clause AtLeast (1 ∷ []) false ∷ []) (Some on_a))
  pub extras_in_order : reading_of (codes "a[ c,B ,b]") ≡ requirement (asks (codes "a") (codes "b" ∷ codes "c" ∷ []) [] None)
  pub no_extras : reading_of (codes "a [ ]") ≡ requirement (asks (codes "a") [] [] None)
  pub parentheses : reading_of (codes "tomli (>=1) ; python_version < \"3.11\"") ≡ requirement (asks (codes "tomli") [] (clause AtLeast (1 ∷ []) false ∷ []) (Some old_python))
  pub empty_parentheses : reading_of (codes "a()") ≡ requirement (asks (codes "a") [] [] None)
  pub last_comma : reading_of (codes "a>=1,") ≡ requirement (asks (codes "a") [] (clause AtLeast (1 ∷ []) false ∷ []) None)
  pub marker_alone : reading_of (codes "a ;os_name=='a'") ≡ requirement (asks (codes "a") [] [] (Some on_a))

-- texts of requirements by a URL, and what they require
pub record Addresses : Type 0 where
  pub plain : reading_of (codes "a @ https://x/y") ≡ by_url (Some (asks (codes "a") [] [] None))
  pub extras : reading_of (codes "a[b]@x") ≡ by_url (Some (asks (codes "a") (codes "b" ∷ []) [] None))
  pub marked : reading_of (codes "a @ https://example.org/a-1.whl ; sys_platform == 'win32'")
      ≡ by_url (Some (asks (codes "a") [] [] (Some (text SysPlatform (codes "win32") true))))
  pub semicolon_in_url : reading_of (codes "a @ u;os_name=='a'") ≡ by_url (Some (asks (codes "a") [] [] None))
  pub semicolon_behind_tab : reading_of (codes "a @ u\t;os_name=='a'") ≡ by_url (Some (asks (codes "a") [] [] (Some on_a)))

-- and those that have no such form
pub record NoAddresses : Type 0 where
  pub nothing_behind : reading_of (codes "a@") ≡ by_url None
  pub blank_behind : reading_of (codes "a @ ") ≡ by_url None
  pub line_behind : reading_of (codes "a@\nb") ≡ by_url None
  pub two_urls : reading_of (codes "a @ u v") ≡ by_url None
  pub no_marker : reading_of (codes "a @ u ;") ≡ by_url None
  pub line_before_marker : reading_of (codes "a @ u\n;os_name=='a'") ≡ by_url None

-- texts without a reading
pub record NoReadings : Type 0 where
  pub empty : reading_of (codes " ") ≡ unread
  pub no_name : reading_of (codes "!!") ≡ unread
  pub dash_first : reading_of (codes "-a") ≡ unread
  pub dot_last : reading_of (codes "a.>=1") ≡ unread
  pub two_names : reading_of (codes "a b") ≡ unread
  pub no_version : reading_of (codes "a==") ≡ unread
  pub comma : reading_of (codes "a ,") ≡ unread
  pub open_extras : reading_of (codes "a[b") ≡ unread
  pub comma_alone : reading_of (codes "a[,]") ≡ unread
  pub comma_last : reading_of (codes "a[b,]") ≡ unread
  pub extra_no_name : reading_of (codes "a[!]@x") ≡ unread
  pub open_parenthesis : reading_of (codes "a (>=1") ≡ unread
  pub closed_parenthesis : reading_of (codes "a >=1)") ≡ unread
  pub behind_parentheses : reading_of (codes "a(>=1)b") ≡ unread
  pub nested_parentheses : reading_of (codes "a((>=1))") ≡ unread
  pub no_marker : reading_of (codes "a;") ≡ unread
  pub inner_line : reading_of (codes "a\n>=1") ≡ unread
  pub line_in_parentheses : reading_of (codes "a(>=1\n)") ≡ unread
  pub line_before_marker : reading_of (codes "a;\nos_name=='a'") ≡ unread

-- a requirement for the extra `x` alone, and one where `os_name` is `a` or with the extra
abbrev pub with_x : RequirementFields
with_x = asks (codes "q") [] [] (Some (extra (codes "x") true))

-- a requirement of the extra `x` and of each world at which `os_name` is `a`
abbrev pub with_x_or_a : RequirementFields
with_x_or_a = asks (codes "q") (codes "u" ∷ codes "v" ∷ []) [] (Some (any (formulas_of (extra (codes "x") true ∷ on_a ∷ []))))

-- a world of this `os_name`
abbrev pub world_of_os : List ℕ → WorldFields
world_of_os os = record { major = 3; minor = 12; patch = 0; texts = os ∷ [] ∷ [] ∷ [] ∷ [] ∷ [] ∷ [] ∷ [] ∷ []; truths = [] }

-- where requirements apply, and what they aim at
pub record Truths : Type 0 where
  pub at_base : applies_at with_x (base (codes "p")) (world_of_os []) ≡ false
  pub own_extra : applies_at with_x (with_extra (codes "p") (codes "x")) (world_of_os []) ≡ true
  pub other_extra : applies_at with_x (with_extra (codes "p") (codes "y")) (world_of_os []) ≡ false
  pub base_by_world : applies_at with_x_or_a (base (codes "p")) (world_of_os (codes "a")) ≡ true
  pub of_the_base_already : applies_at with_x_or_a (with_extra (codes "p") (codes "x")) (world_of_os (codes "a")) ≡ false
  pub of_the_extra_alone : applies_at with_x_or_a (with_extra (codes "p") (codes "x")) (world_of_os (codes "b")) ≡ true
  pub without_marker : applies_at (asks (codes "q") [] [] None) (base (codes "p")) (world_of_os []) ≡ true
  pub without_marker_at_extra : applies_at (asks (codes "q") [] [] None) (with_extra (codes "p") (codes "x")) (world_of_os []) ≡ false
  pub aims : targets with_x_or_a ≡ base (codes "q") ∷ with_extra (codes "q") (codes "u") ∷ with_extra (codes "q") (codes "v") ∷ []

-- a requirement of a marker
abbrev pub marked : Formula → RequirementFields
marked m = asks (codes "q") [] [] (Some m)

-- the nodes at which requirements may be true
pub record MayBeTrue : Type 0 where
  pub named : may_apply (marked (extra (codes "a") true)) (with_extra (codes "p") (codes "a")) ≡ true
  pub other_named : may_apply (marked (extra (codes "a") true)) (with_extra (codes "p") (codes "b")) ≡ false
  pub negated : may_apply (marked (extra (codes "a") false)) (with_extra (codes "p") (codes "a")) ≡ true
  pub other_negated : may_apply (marked (extra (codes "a") false)) (with_extra (codes "p") (codes "b")) ≡ false
  pub empty_literal : may_apply (marked (extra [] true)) (with_extra (codes "p") (codes "a")) ≡ true
  pub empty_literal_negated : may_apply (marked (extra [] false)) (with_extra (codes "p") (codes "b")) ≡ true
  pub named_within : may_apply (marked (all (formulas_of (on_a ∷ any (formulas_of (extra (codes "a") true ∷ extra (codes "b") true ∷ [])) ∷ [])))) (with_extra (codes "p") (codes "b")) ≡ true
  pub of_the_base_alone : may_apply (marked on_a) (with_extra (codes "p") (codes "a")) ≡ false
  pub without_marker : may_apply (asks (codes "q") [] [] None) (with_extra (codes "p") (codes "a")) ≡ false
  pub at_base : may_apply (marked (extra (codes "a") true)) (base (codes "p")) ≡ true
