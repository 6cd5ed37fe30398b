-- A negation is a formula that a text can spell, where the formula is.
use Rattle.std.proofs.Common.{◌≡◌, ◌-◌, ◌<◌, List, [], ◌∷◌, Bool, true, false, true≢false, length, map, arith, refl, ap, sym, subst}
use Rattle.std.proofs.lemmas.List.{length-take}
use Rattle.std.proofs.lemmas.List.Elements.{All-nil, All-take}
use Rattle.ul_version.specs.Fields.{Fields, IsNumber64, IsSegment, IsVersion}
use Rattle.ul_specifier.specs.Clauses.{ClauseFields, IsClause, is_compatible, may_have_local}
use Rattle.ul_specifier.specs.Meaning.{series}
use Rattle.ul_specifier.specs.declared.clause.Op.{Op}
use Rattle.ul_specifier.specs.declared.clause.Op.TheVariants.{Equal, Unequal, AtLeast, AtMost, More, Less, Compatible, Distinct}
use Rattle.ul_comparison.specs.Formulas.{AreFormulas, Formula, Formulas, IsFormula, extra, python, python_list, text, opaque, all, any, formulas_of, none, more}
use Rattle.ul_groups.specs.Negated.{each_negated, negated, negated_clause}

not_true : {A : Type 0} → false ≡ true → A
not_true e = absurd (true≢false (sym e))

-- the series of a version with two numbers or more is a version
pub series_is_version : (V : Fields) → IsVersion V → 1 < length V.release → IsVersion (series V)
series_is_version V h long = record {
  nonempty = omega (arith, long, length-take (length V.release - 1) V.release);
  epoch_fits = h.epoch_fits;
  release_fits = All-take IsNumber64 (length V.release - 1) V.release h.release_fits;
  pre_fits = tt;
  post_fits = tt;
  dev_fits = tt;
  segments = All-nil IsSegment;
}

-- what an interpreter meets where it doesn't meet a clause is one or two clauses
clause_negated : (full : Bool) (op : Op) (V : Fields) (prefix : Bool) → IsClause (record { op = op; version = V; prefix = prefix })
    → IsFormula (negated_clause full op V prefix)
clause_negated full Equal V prefix h = record { version = h.version; prefix = h.prefix; local = h.local; compatible = h.compatible }
clause_negated full Unequal V prefix h = record { version = h.version; prefix = h.prefix; local = h.local; compatible = h.compatible }
clause_negated full AtLeast V prefix h = record { version = h.version; prefix = h.prefix; local = h.local; compatible = h.compatible }
clause_negated full AtMost V prefix h = record { version = h.version; prefix = h.prefix; local = h.local; compatible = h.compatible }
clause_negated full More V prefix h = record { version = h.version; prefix = h.prefix; local = h.local; compatible = h.compatible }
clause_negated full Less V prefix h = record { version = h.version; prefix = h.prefix; local = h.local; compatible = h.compatible }
clause_negated full Compatible V prefix h = (
  record { version = h.version; prefix = not_true; local = h.local; compatible = not_true },
  (
    record { version = series_is_version V h.version (h.compatible refl); prefix = λ e. (refl, refl); local = not_true; compatible = not_true },
    tt,
  ),
)
clause_negated full Distinct V prefix h = record { version = h.version; prefix = not_true; local = λ e. refl; compatible = not_true }

-- so for a clause of that operator
pub clause_of : (full : Bool) (c : ClauseFields) (op : Op) → c.op ≡ op → IsClause c → IsFormula (negated_clause full op c.version c.prefix)
clause_of full c op e h = subst (λ (o : Op). IsFormula (negated_clause full o c.version c.prefix)) e (clause_negated full c.op c.version c.prefix h)

-- what `~=V` asks for without `.*`, which never follows it
pub compatible_alone : (c : ClauseFields) → c.op ≡ Compatible → IsClause c
    → IsClause (record { op = Compatible; version = c.version; prefix = false })
compatible_alone c e h = record {
  version = h.version;
  prefix = not_true;
  local = λ l. subst (λ (o : Op). may_have_local o ≡ true) e (h.local l);
  compatible = λ t. h.compatible (ap is_compatible e);
}

-- `<V`, where `~=V` is a clause
pub below_of : (V : Fields) → IsClause (record { op = Compatible; version = V; prefix = false })
    → IsClause (record { op = Less; version = V; prefix = false })
below_of V h = record { version = h.version; prefix = not_true; local = h.local; compatible = not_true }

mutual
  pub negated_formula : (f : Formula) → IsFormula f → IsFormula (negated f)
  negated_formula (extra literal equal) h = h
  negated_formula (python full clause) h = clause_negated full clause.op clause.version clause.prefix h
  negated_formula (python_list full versions within) h = h
  negated_formula (text variable literal equal) h = h
  negated_formula (opaque atom positive) h = h
  negated_formula (all fs) h = negated_formulas fs h
  negated_formula (any fs) h = negated_formulas fs h

  pub negated_formulas : (fs : Formulas) → AreFormulas fs → AreFormulas (each_negated fs)
  negated_formulas none h = tt
  negated_formulas (more f fs) h = (negated_formula f h.0, negated_formulas fs h.1)

-- the negations of a list
pub each_is_map : (fs : List Formula) → each_negated (formulas_of fs) ≡ formulas_of (map negated fs)
each_is_map [] = refl
each_is_map (f ∷ fs) = ap (more (negated f)) (each_is_map fs)
