-- Printed comparisons are told by what they say.
use Rattle.std.proofs.Common.{◌≡◌, ◌∙◌, Bool, true, false, true≢false, [], get_or, refl, sym, ap}
use Rattle.ul_version.specs.Fields.{Fields}
use Rattle.ul_specifier.specs.Clauses.{ClauseFields}
use Rattle.ul_specifier.specs.declared.clause.Op.{Op}
use Rattle.ul_specifier.specs.declared.clause.Op.TheVariants.{AtLeast}
use Rattle.ul_comparison.specs.Formulas.{Formula, extra, python, text, opaque}
use Rattle.ul_comparison.specs.Printed.{Comparison, atom_is, bound, comparison_formula, extra_is, text_is}
use Rattle.ul_marker.specs.PrintedPaths.{ComparisonsAreTold}
use Rattle.ul_marker.specs.PrintedViews.{IsNoComparison, IsNoInterpreter}

-- the comparison of a formula, where it is the formula of one
abbrev lower_of : Op → Bool
lower_of AtLeast = true
lower_of other = false

abbrev told : Formula → Comparison
told (extra literal equal) = extra_is literal equal
told (python full c) = bound (lower_of c.op) (get_or c.version.release 0 0) (get_or c.version.release 1 0) (get_or c.version.release 2 0)
told (text v literal equal) = text_is v literal equal
told (opaque a holds) = atom_is a holds
told other = extra_is [] true

told-back : (c : Comparison) → told (comparison_formula c) ≡ c
told-back (bound true major minor patch) = refl
told-back (bound false major minor patch) = refl
told-back (extra_is literal equal) = refl
told-back (text_is v literal equal) = refl
told-back (atom_is a holds) = refl

-- comparisons that say the same are one
pub comparisons-told : ComparisonsAreTold
comparisons-told c d e = sym (told-back c) ∙ ap told e ∙ told-back d

-- ---- what says nothing that is printed

-- a version that is none of an interpreter's
pub not_interpreter : (full : Bool) (c : ClauseFields) → IsNoInterpreter c.version → IsNoComparison (python full c)
not_interpreter full c none (bound lower major minor patch) is e =
    none major minor patch is.0 is.1 is.2 (sym (ap version_in e))
  where
    version_in : Formula → Fields
    version_in (python f d) = d.version
    version_in other = c.version
not_interpreter full c none (extra_is literal equal) is e = cc
not_interpreter full c none (text_is v literal equal) is e = cc
not_interpreter full c none (atom_is a holds) is e = cc

-- `.*`
pub not_whole : (full : Bool) (c : ClauseFields) → c.prefix ≡ true → IsNoComparison (python full c)
not_whole full c starred (bound lower major minor patch) is e = true≢false (sym (ap prefix_in e ∙ starred))
  where
    prefix_in : Formula → Bool
    prefix_in (python f d) = d.prefix
    prefix_in other = false
not_whole full c starred (extra_is literal equal) is e = cc
not_whole full c starred (text_is v literal equal) is e = cc
not_whole full c starred (atom_is a holds) is e = cc
