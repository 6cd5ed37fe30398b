-- A negation is true exactly where the formula isn't.
use Rattle.std.proofs.Common.{◌≡◌, ◌&&◌, ◌||◌, ◌∙◌, ℕ, List, Bool, true, false, cond, not, ap, refl, sym}
use Rattle.std.specs.Ordering.{is_eq, is_gt, is_lt}
use Rattle.ul_version.specs.Fields.{Fields, is_post_of, is_pre_of, plain}
use Rattle.ul_version.specs.Order.{version_cmp}
use Rattle.ul_specifier.specs.Clauses.{has_local}
use Rattle.ul_specifier.specs.Meaning.{begins_as, equals, is_at_least, is_less, is_more, matches, meets_clause, series}
use Rattle.ul_specifier.specs.declared.clause.Op.{Op}
use Rattle.ul_specifier.specs.declared.clause.Op.TheVariants.{Equal, Unequal, AtLeast, AtMost, More, Less, Compatible, Distinct}
use Rattle.ul_comparison.specs.Formulas.{Formula, extra, python, python_list, text, opaque, all, any, Formulas, none, more}
use Rattle.ul_comparison.specs.Truth.{all_hold, any_holds, as_asked, equals_extra, is_listed, marker_holds, python_release}
use Rattle.ul_comparison.specs.Worlds.{WorldFields, text_at}
use Rattle.ul_comparison.specs.Atoms.{has_atom}
use Rattle.std.specs.Str.{bytes_eq}
use Rattle.ul_groups.specs.Negated.{NegationIsNot, Negations, each_negated, negated, negated_clause}

not_not : (b : Bool) → b ≡ not (not b)
not_not true = refl
not_not false = refl

asked_not : (asked b : Bool) → as_asked (not asked) b ≡ not (as_asked asked b)
asked_not true b = refl
asked_not false b = not_not b

not_and : (a b : Bool) → (not a || not b) ≡ not (a && b)
not_and true b = refl
not_and false b = refl

not_or : (a b : Bool) → (not a && not b) ≡ not (a || b)
not_or true b = refl
not_or false b = refl

or_true : (b : Bool) → (b || true) ≡ true
or_true true = refl
or_true false = refl

or_false : (b : Bool) → (b || false) ≡ b
or_false true = refl
or_false false = refl

and_true : (b : Bool) → (b && true) ≡ b
and_true true = refl
and_true false = refl

-- a version with a release alone is less where it is less in the order of versions
less_alone : (V : Fields) (r : List ℕ) → is_less V (plain r) ≡ is_lt (version_cmp (plain r) V)
less_alone V r =
    ap (λ (b : Bool). is_lt (version_cmp (plain r) V) && b) (or_true (is_pre_of V)) ∙ and_true (is_lt (version_cmp (plain r) V))

-- and greater where it is greater
more_alone : (V : Fields) (r : List ℕ) → is_more V (plain r) ≡ is_gt (version_cmp (plain r) V)
more_alone V r =
    ap (λ (b : Bool). is_gt (version_cmp (plain r) V) && (b && true)) (or_true (is_post_of V)) ∙ and_true (is_gt (version_cmp (plain r) V))

-- and equal, whether V has a local part or not, where it is equal
equals_alone : (V : Fields) (r : List ℕ) → equals V (plain r) ≡ is_eq (version_cmp (plain r) V)
equals_alone V r = by (has_local V)
  where
    by : (b : Bool) → cond b (is_eq (version_cmp (plain r) V)) (is_eq (version_cmp (plain r) V)) ≡ is_eq (version_cmp (plain r) V)
    by true = refl
    by false = refl

-- an interpreter meets the negation of a clause exactly where it doesn't meet the clause
clause_negated : (full : Bool) (op : Op) (V : Fields) (prefix : Bool) (w : WorldFields) (x : List ℕ)
    → marker_holds (negated_clause full op V prefix) w x ≡ not (meets_clause (record { op = op; version = V; prefix = prefix }) (plain (python_release full w)))
unfolding meets_clause
clause_negated full Equal V prefix w x = refl
clause_negated full Unequal V prefix w x = not_not (matches V prefix (plain (python_release full w)))
clause_negated full AtLeast V prefix w x =
    less_alone V (python_release full w) ∙ not_not (is_lt (version_cmp (plain (python_release full w)) V))
clause_negated full AtMost V prefix w x =
    more_alone V (python_release full w) ∙ not_not (is_gt (version_cmp (plain (python_release full w)) V))
clause_negated full More V prefix w x = ap not (sym (more_alone V (python_release full w)))
clause_negated full Less V prefix w x = ap not (sym (less_alone V (python_release full w)))
clause_negated full Compatible V prefix w x =
    let c : Fields = plain (python_release full w) in
    ap (λ (b : Bool). is_less V c || b) (or_false (not (begins_as (series V) c)))
    ∙ ap (λ (b : Bool). b || not (begins_as (series V) c)) (less_alone V (python_release full w) ∙ not_not (is_lt (version_cmp c V)))
    ∙ not_and (is_at_least V c) (begins_as (series V) c)
clause_negated full Distinct V prefix w x =
    equals_alone V (python_release full w) ∙ not_not (is_eq (version_cmp (plain (python_release full w)) V))

mutual
  one_negated : (f : Formula) (w : WorldFields) (x : List ℕ) → marker_holds (negated f) w x ≡ not (marker_holds f w x)
  one_negated (extra literal equal) w x = asked_not equal (equals_extra literal x)
  one_negated (python full clause) w x = clause_negated full clause.op clause.version clause.prefix w x
  one_negated (python_list full versions within) w x = asked_not within (is_listed versions (python_release full w))
  one_negated (text variable literal equal) w x = asked_not equal (bytes_eq (text_at w variable) literal)
  one_negated (opaque atom positive) w x = asked_not positive (has_atom w.truths atom)
  one_negated (all fs) w x = any_negated fs w x
  one_negated (any fs) w x = all_negated fs w x

  any_negated : (fs : Formulas) (w : WorldFields) (x : List ℕ) → any_holds (each_negated fs) w x ≡ not (all_hold fs w x)
  any_negated none w x = refl
  any_negated (more f fs) w x =
      ap (λ (b : Bool). b || any_holds (each_negated fs) w x) (one_negated f w x)
      ∙ ap (λ (b : Bool). not (marker_holds f w x) || b) (any_negated fs w x)
      ∙ not_and (marker_holds f w x) (all_hold fs w x)

  all_negated : (fs : Formulas) (w : WorldFields) (x : List ℕ) → all_hold (each_negated fs) w x ≡ not (any_holds fs w x)
  all_negated none w x = refl
  all_negated (more f fs) w x =
      ap (λ (b : Bool). b && all_hold (each_negated fs) w x) (one_negated f w x)
      ∙ ap (λ (b : Bool). not (marker_holds f w x) && b) (all_negated fs w x)
      ∙ not_or (marker_holds f w x) (any_holds fs w x)

-- the negations of formulas are all true exactly where none of them is
pub each_is_not : (fs : Formulas) (w : WorldFields) (x : List ℕ) → all_hold (each_negated fs) w x ≡ not (any_holds fs w x)
each_is_not = all_negated

pub negation_is_not : NegationIsNot
negation_is_not = one_negated

pub negations : Negations
negations = record { text = refl; joined = refl; at_least = refl; series = refl; compatible = refl; distinct = refl }
