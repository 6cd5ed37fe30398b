-- Worked examples: what lines are read as, and which versions meet `==VERSION`.
use Rattle.std.specs.Prelude.{◌≡◌, ℕ, List, [], ◌∷◌, Bool, true, false, codes, Some, None}
use Rattle.ul_version.specs.Fields.{Fields, plain}
use Rattle.ul_version.specs.declared.fields.Segment.TheVariants.{Word}
use Rattle.ul_comparison.specs.Formulas.{Formula, python, text}
use Rattle.ul_comparison.specs.Printed.{bound_clause}
use Rattle.ul_comparison.specs.declared.variable.Variable.TheVariants.{SysPlatform}
use Rattle.ul_specifier.specs.Meaning.{meets_list}
use Rattle.ul_requirement.specs.Reading.{reading_of, requirement, unread}
use Rattle.ul_requirement.specs.Truth.{base, with_extra}
use Rattle.laws_exports.specs.Pins.{exactly}
use Rattle.laws_exports.specs.Requirements.{pinned}

-- `python_full_version < '3.11.0'`
abbrev pub below_3_11 : Formula
below_3_11 = python true (bound_clause false 3 11 0)

-- `sys_platform == 'win32'`
abbrev pub on_windows : Formula
on_windows = text SysPlatform (codes "win32") true

-- what lines are read as
pub record ReadingExamples : Type 0 where
  pub below : reading_of (codes "numpy==1.26 ; python_full_version < '3.11.0'\n")
      ≡ requirement (pinned (base (codes "numpy")) (plain (1 ∷ 26 ∷ [])) (Some below_3_11))
  pub everywhere : reading_of (codes "a==1\n") ≡ requirement (pinned (base (codes "a")) (plain (1 ∷ [])) None)
  pub extra : reading_of (codes "a[x-y]==1 ; sys_platform == 'win32'\n")
      ≡ requirement (pinned (with_extra (codes "a") (codes "x-y")) (plain (1 ∷ [])) (Some on_windows))
  pub extras_compared : reading_of (codes "a==1 ; 'x' in extras\n") ≡ unread

-- a release with the local part `a`
abbrev pub with_a : List ℕ → Fields
with_a numbers = record (plain numbers) { local = Word (codes "a") ∷ [] }

-- whether a version meets `==` another
abbrev pub is_met : Fields → Fields → Bool
is_met v u = meets_list (exactly v) u

-- which versions meet `==VERSION`
pub record PinExamples : Type 0 where
  pub zeros : is_met (plain (1 ∷ 0 ∷ [])) (plain (1 ∷ [])) ≡ true
  pub local : is_met (plain (1 ∷ 0 ∷ [])) (with_a (1 ∷ 0 ∷ [])) ≡ true
  pub own_local : is_met (with_a (1 ∷ 0 ∷ [])) (with_a (1 ∷ [])) ≡ true
  pub without_local : is_met (with_a (1 ∷ 0 ∷ [])) (plain (1 ∷ 0 ∷ [])) ≡ false
  pub next : is_met (plain (1 ∷ 0 ∷ [])) (plain (1 ∷ 1 ∷ [])) ≡ false
  pub post : is_met (plain (1 ∷ 0 ∷ [])) (record (plain (1 ∷ 0 ∷ [])) { post = Some 1 }) ≡ false
