-- Comparisons with their sides exchanged, and negated ones.
use Rattle.std.proofs.Common.{◌≡◌, ℕ, List, [], ◌∷◌, refl, sym, ◌∙◌, Bool, true, false, true≢false, Option, Some, None}
use Rattle.std.specs.Prelude.{not, codes, if◌then◌else◌}
use Rattle.std.specs.List.{list_all, slice_split}
use Rattle.ul_version.specs.Fields.{Fields, plain}
use Rattle.ul_version.specs.Reading.{◌>>=◌, is_white, version_of}
use Rattle.ul_version.proofs.ForCallers.{inside}
use Rattle.ul_specifier.specs.Clauses.{ClauseFields, is_bare}
use Rattle.ul_specifier.specs.Laws.{meets_with}
use Rattle.ul_specifier.specs.Reading.{before_end, clause_after, clause_with, is_version_byte, may_stand, star_of, star_clause, trimmed_text, plain_clause, version_clause}
use Rattle.ul_specifier.specs.declared.clause.Op.{Op}
use Rattle.ul_specifier.specs.declared.clause.Op.TheVariants.{Equal, Unequal, AtLeast, AtMost, More, Less}
use Rattle.ul_specifier.proofs.ForCallers as Clauses
use Rattle.ul_comparison.specs.Atoms.{is_extras, is_text, may_stand as stands}
use Rattle.ul_marker.specs.Comparisons.{comparison_of, containment, mirror_sign, opaquely, parts_versions, python_full, python_sign, python_within, sign_formula, text_sign, variable_within, versions_of, within}
use Rattle.ul_comparison.specs.Formulas.{Formula, python, python_list, text}
use Rattle.ul_marker.specs.Reading.{atom_at, before_close, chain_at, chain_with, each, inner_tokens, chain_formula, formula_of, part_at, pieces_from}
use Rattle.ul_marker.specs.ReadingLaws.{AreOpposed, HasTokens, MirroredIsSame, NegatedRelations, NotInIsNegation, subject}
use Rattle.ul_comparison.specs.Truth.{python_release}
use Rattle.ul_marker.specs.declared.reading.Chain.{Chain}
use Rattle.ul_marker.specs.declared.reading.Chain.TheVariants.{Conjunction, Disjunction}
use Rattle.ul_comparison.specs.declared.variable.AtomKind.TheVariants as Kind
use Rattle.ul_comparison.specs.declared.variable.Variable.{Variable}
use Rattle.ul_marker.specs.declared.words.Dialect.{Dialect}
use Rattle.ul_marker.specs.declared.words.Token.{Token}
use Rattle.ul_marker.specs.declared.words.Token.TheVariants.{In, Not, Extra, Sign, Literal}
use Rattle.ul_marker.proofs.Chains.{atom-comparison}

-- ---- texts of one comparison

single : (chain : Chain) (read : List Token → Option Formula) (ts : List Token) → pieces_from chain 0 ts ≡ ts ∷ [] → chain_with chain read ts ≡ read ts
unfolding chain_with each
single chain read ts e = rw e (go (read ts))
  where
    go : (answer : Option Formula) → ((answer >>= λ f. Some (f ∷ [])) >>= λ fs. Some (chain_formula chain fs)) ≡ answer
    go None = refl
    go (Some f) = refl

-- tokens in which nothing joins and nothing is enclosed are read as a comparison
pub sole : (ts : List Token) → pieces_from Conjunction 0 ts ≡ ts ∷ [] → pieces_from Disjunction 0 ts ≡ ts ∷ [] → inner_tokens ts ≡ None
    → chain_at Disjunction 64 ts ≡ comparison_of ts
unfolding chain_at part_at
sole ts p q e =
    single Disjunction (part_at Disjunction 64) ts q ∙ single Conjunction (atom_at 64) ts p ∙ atom-comparison 64 ts e

read-tokens : (dialect : Dialect) (input : List ℕ) (ts : List Token) → HasTokens dialect input ts → pieces_from Conjunction 0 ts ≡ ts ∷ [] → pieces_from Disjunction 0 ts ≡ ts ∷ []
    → inner_tokens ts ≡ None → formula_of dialect input ≡ comparison_of ts
read-tokens dialect input ts h p q e = rw h (sole ts p q e)

sign-right : (dialect : Dialect) (input : List ℕ) (variable : Option Variable) (op : Op) (literal : List ℕ) → HasTokens dialect input (subject variable ∷ Sign op ∷ Literal literal ∷ [])
    → formula_of dialect input ≡ sign_formula (subject variable) op literal
unfolding pieces_from inner_tokens before_close comparison_of
sign-right dialect input None op literal h = read-tokens dialect input _ h refl refl refl
sign-right dialect input (Some v) op literal h = read-tokens dialect input _ h refl refl refl

sign-left : (dialect : Dialect) (input : List ℕ) (variable : Option Variable) (op : Op) (literal : List ℕ) → HasTokens dialect input (Literal literal ∷ Sign op ∷ subject variable ∷ [])
    → formula_of dialect input ≡ (mirror_sign op >>= λ sign. sign_formula (subject variable) sign literal)
unfolding pieces_from inner_tokens before_close comparison_of
sign-left dialect input None op literal h = read-tokens dialect input _ h refl refl refl
sign-left dialect input (Some v) op literal h = read-tokens dialect input _ h refl refl refl

in-right : (dialect : Dialect) (input : List ℕ) (variable : Option Variable) (literal : List ℕ) → HasTokens dialect input (subject variable ∷ In ∷ Literal literal ∷ [])
    → formula_of dialect input ≡ within true (subject variable) literal
unfolding pieces_from inner_tokens before_close comparison_of
in-right dialect input None literal h = read-tokens dialect input _ h refl refl refl
in-right dialect input (Some v) literal h = read-tokens dialect input _ h refl refl refl

not-right : (dialect : Dialect) (input : List ℕ) (variable : Option Variable) (literal : List ℕ) → HasTokens dialect input (subject variable ∷ Not ∷ In ∷ Literal literal ∷ [])
    → formula_of dialect input ≡ within false (subject variable) literal
unfolding pieces_from inner_tokens before_close comparison_of
not-right dialect input None literal h = read-tokens dialect input _ h refl refl refl
not-right dialect input (Some v) literal h = read-tokens dialect input _ h refl refl refl

in-left : (dialect : Dialect) (input : List ℕ) (variable : Option Variable) (literal : List ℕ) → HasTokens dialect input (Literal literal ∷ In ∷ subject variable ∷ [])
    → formula_of dialect input ≡ containment true (subject variable) literal
unfolding pieces_from inner_tokens before_close comparison_of
in-left dialect input None literal h = read-tokens dialect input _ h refl refl refl
in-left dialect input (Some v) literal h = read-tokens dialect input _ h refl refl refl

not-left : (dialect : Dialect) (input : List ℕ) (variable : Option Variable) (literal : List ℕ) → HasTokens dialect input (Literal literal ∷ Not ∷ In ∷ subject variable ∷ [])
    → formula_of dialect input ≡ containment false (subject variable) literal
unfolding pieces_from inner_tokens before_close comparison_of
not-left dialect input None literal h = read-tokens dialect input _ h refl refl refl
not-left dialect input (Some v) literal h = read-tokens dialect input _ h refl refl refl

pub mirrored_is_same : MirroredIsSame
mirrored_is_same dialect input other variable literal op sign e h k =
    sign-left dialect input variable op literal h ∙ rw e (sym (sign-right dialect other variable sign literal k))

-- ---- clauses

not-not : (a b : Bool) → a ≡ not b → b ≡ not a
not-not true true e = absurd (true≢false e)
not-not true false e = refl
not-not false true e = refl
not-not false false e = absurd (true≢false (sym e))

-- two operators whose clauses stand in the same places and are opposed at releases
record Opposite (op other : Op) : Type 0 where
  stars : star_of op ≡ star_of other
  stand : (V : Fields) → may_stand op V ≡ may_stand other V
  without : (V : Fields) (release : List ℕ) → meets_with other V false (plain release) ≡ not (meets_with op V false (plain release))
  starred : (V : Fields) (prefix : Bool) (release : List ℕ) → star_of op ≡ Some prefix → meets_with other V prefix (plain release) ≡ not (meets_with op V prefix (plain release))

-- the formula of a clause
abbrev clause-formula : Bool → Option ClauseFields → Option Formula
clause-formula full part = part >>= λ clause. Some (python full clause)

unstarred-opposed : (op other : Op) (full : Bool) (V : Fields) → Opposite op other → AreOpposed (clause-formula full (plain_clause op V)) (clause-formula full (plain_clause other V))
unfolding plain_clause
unstarred-opposed op other full V o = rw (← o.stand V) (go (may_stand op V))
  where
    go : (b : Bool) → AreOpposed (clause-formula full (if b then Some (record { op = op; version = V; prefix = false }) else None))
        (clause-formula full (if b then Some (record { op = other; version = V; prefix = false }) else None))
    go true = λ w x. o.without V (python_release full w)
    go false = tt

starred-opposed : (op other : Op) (full : Bool) (V : Fields) → Opposite op other → AreOpposed (clause-formula full (star_clause op V)) (clause-formula full (star_clause other V))
unfolding star_clause
starred-opposed op other full V o = rw (← o.stars) (go (star_of op) refl (is_bare V))
  where
    go : (star : Option Bool) → star_of op ≡ star → (b : Bool)
        → AreOpposed (clause-formula full (star >>= λ prefix. if b then Some (record { op = op; version = V; prefix = prefix }) else None))
        (clause-formula full (star >>= λ prefix. if b then Some (record { op = other; version = V; prefix = prefix }) else None))
    go None e b = tt
    go (Some prefix) e true = λ w x. o.starred V prefix (python_release full w) e
    go (Some prefix) e false = tt

version-opposed : (op other : Op) (full : Bool) (input : List ℕ) (front : Option (List ℕ)) → Opposite op other
    → AreOpposed (clause-formula full (version_clause op input front)) (clause-formula full (version_clause other input front))
version-opposed op other full input None o = go (version_of input)
  where
    go : (read : Option Fields) → AreOpposed (clause-formula full (read >>= plain_clause op)) (clause-formula full (read >>= plain_clause other))
    go None = tt
    go (Some V) = unstarred-opposed op other full V o
version-opposed op other full input (Some front) o = go (version_of front)
  where
    go : (read : Option Fields) → AreOpposed (clause-formula full (read >>= star_clause op)) (clause-formula full (read >>= star_clause other))
    go None = tt
    go (Some V) = starred-opposed op other full V o

clause-opposed : (op other : Op) (full : Bool) (literal : List ℕ) → Opposite op other → AreOpposed (clause-formula full (clause_with op literal)) (clause-formula full (clause_with other literal))
unfolding clause_with clause_after
clause-opposed op other full literal o =
    let input = trimmed_text is_white literal in
    go (list_all is_version_byte input) (before_end (codes ".*") input)
  where
    go : (b : Bool) (front : Option (List ℕ)) → AreOpposed (clause-formula full (if b then version_clause op (trimmed_text is_white literal) front else None))
        (clause-formula full (if b then version_clause other (trimmed_text is_white literal) front else None))
    go true front = version-opposed op other full (trimmed_text is_white literal) front o
    go false front = tt

equal-unequal : Opposite Equal Unequal
equal-unequal = record {
  stars = refl;
  stand = λ V. refl;
  without = λ V release. Clauses.unequal V (plain release) false;
  starred = λ V prefix release e. Clauses.unequal V (plain release) prefix;
}

less-at_least : Opposite Less AtLeast
less-at_least = record {
  stars = refl;
  stand = λ V. refl;
  without = λ V release. not-not _ _ (Clauses.less V (plain release) refl refl);
  starred = λ V prefix release e. rw (inside prefix false (sym e)) (not-not _ _ (Clauses.less V (plain release) refl refl));
}

at_most-more : Opposite AtMost More
at_most-more = record {
  stars = refl;
  stand = λ V. refl;
  without = λ V release. Clauses.more V (plain release) refl refl;
  starred = λ V prefix release e. absurd (cc e);
}

-- ---- negated comparisons

-- two operators that are opposed beside text variables
record OppositeTexts (op other : Op) : Type 0 where
  texts : (v : Variable) (literal : List ℕ) → AreOpposed (text_sign v op literal) (text_sign v other literal)
  extras : (literal : List ℕ) → AreOpposed (sign_formula Extra op literal) (sign_formula Extra other literal)

signed-opposed : (op other : Op) (variable : Option Variable) (literal : List ℕ) → Opposite op other → OppositeTexts op other
    → AreOpposed (sign_formula (subject variable) op literal) (sign_formula (subject variable) other literal)
unfolding sign_formula
signed-opposed op other None literal o t = t.extras literal
signed-opposed op other (Some v) literal o t = chosen (is_extras v)
  where
    go : (full : Option Bool) → AreOpposed (python_sign v op literal full) (python_sign v other literal full)
    go None = t.texts v literal
    go (Some full) = clause-opposed op other full literal o

    chosen : (extras : Bool) → AreOpposed (if extras then None else python_sign v op literal (python_full v)) (if extras then None else python_sign v other literal (python_full v))
    chosen true = tt
    chosen false = go (python_full v)

equal-unequal-texts : OppositeTexts Equal Unequal
unfolding sign_formula
equal-unequal-texts = record {
  texts = λ v literal. elim (is_text v) as (λ (b : Bool). AreOpposed (Some (if b then text v literal true else opaquely v Kind.Same literal true)) (Some (if b then text v literal false else opaquely v Kind.Same literal false))) [
    | true ↦ λ w x. refl
    | false ↦ λ w x. refl
  ];
  extras = λ literal w x. refl;
}

less-at_least-texts : OppositeTexts Less AtLeast
unfolding sign_formula
less-at_least-texts = record { texts = λ v literal w x. refl; extras = λ literal. tt }

at_most-more-texts : OppositeTexts AtMost More
unfolding sign_formula
at_most-more-texts = record { texts = λ v literal w x. refl; extras = λ literal. tt }

within-opposed : (variable : Option Variable) (literal : List ℕ) → AreOpposed (within true (subject variable) literal) (within false (subject variable) literal)
unfolding within
within-opposed None literal = tt
within-opposed (Some v) literal = chosen (is_extras v)
  where
    listed : (full : Bool) (read : Option (List Fields)) → AreOpposed (read >>= λ versions. Some (python_list full versions true)) (read >>= λ versions. Some (python_list full versions false))
    listed full None = tt
    listed full (Some versions) = λ w x. refl

    go : (full : Option Bool) → AreOpposed (python_within v literal true full) (python_within v literal false full)
    go None = λ w x. refl
    go (Some full) = listed full (versions_of (slice_split parts_versions literal))

    chosen : (extras : Bool) → AreOpposed (if extras then None else variable_within v literal true) (if extras then None else variable_within v literal false)
    chosen true = tt
    chosen false = go (python_full v)

contained-opposed : (variable : Option Variable) (literal : List ℕ) → AreOpposed (containment true (subject variable) literal) (containment false (subject variable) literal)
unfolding containment
contained-opposed None literal = tt
contained-opposed (Some v) literal = go (stands v literal)
  where
    go : (b : Bool) → AreOpposed (if b then Some (opaquely v Kind.Contains literal true) else None) (if b then Some (opaquely v Kind.Contains literal false) else None)
    go true = λ w x. refl
    go false = tt

pub negated_relations : NegatedRelations
negated_relations = record {
  unequal = λ dialect input other variable literal h k.
      rw (sign-right dialect input variable Equal literal h, sign-right dialect other variable Unequal literal k) (signed-opposed Equal Unequal variable literal equal-unequal equal-unequal-texts);
  at_least = λ dialect input other variable literal h k.
      rw (sign-right dialect input variable Less literal h, sign-right dialect other variable AtLeast literal k) (signed-opposed Less AtLeast variable literal less-at_least less-at_least-texts);
  more = λ dialect input other variable literal h k.
      rw (sign-right dialect input variable AtMost literal h, sign-right dialect other variable More literal k) (signed-opposed AtMost More variable literal at_most-more at_most-more-texts);
  not_in = λ dialect input other variable literal h k.
      rw (in-right dialect input variable literal h, not-right dialect other variable literal k) (within-opposed variable literal);
}

pub not_in_is_negation : NotInIsNegation
not_in_is_negation dialect input other variable literal h k =
    rw (in-left dialect input variable literal h, not-left dialect other variable literal k) (contained-opposed variable literal)
