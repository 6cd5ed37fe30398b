-- A formula asks for `extra` or `extras` exactly where its tokens have the variable.
use Rattle.std.proofs.Common.{◌≡◌, ◌∙◌, ℕ, zero, suc, Bool, true, false, List, [], ◌∷◌, ◌++◌, Option, Some, None, refl, sym, ap, subst}
use Rattle.std.specs.Prelude.{◌||◌, if◌then◌else◌}
use Rattle.std.specs.List.{list_any, slice_split}
use Rattle.std.proofs.lemmas.List.Folds.{list_any-append}
use Rattle.ul_version.specs.Reading.{is_white}
use Rattle.ul_version.proofs.ForCallers.{bind_some, cond_some, inside}
use Rattle.ul_specifier.specs.Reading.{clause_with, trimmed_text}
use Rattle.ul_specifier.specs.declared.clause.Op.{Op}
use Rattle.ul_specifier.specs.declared.clause.Op.TheVariants.{Equal, Unequal, AtLeast, AtMost, More, Less, Compatible, Distinct}
use Rattle.ul_comparison.specs.Atoms.{is_extras, is_text, may_stand}
use Rattle.ul_comparison.specs.Formulas.{Formula, Formulas, formulas_of, python, python_list, text}
use Rattle.ul_comparison.specs.declared.variable.AtomKind.{AtomKind}
use Rattle.ul_comparison.specs.declared.variable.AtomKind.TheVariants as Kind
use Rattle.ul_comparison.specs.declared.variable.Variable.{Variable}
use Rattle.ul_marker.specs.Comparisons.{containment, equality, extra_of, opaquely, parts_versions, python_full, python_sign, python_within, sign_formula, text_sign, variable_within, versions_of, within}
use Rattle.ul_marker.specs.Grammar.{AreJoined, IsAtomOf, IsChain, IsComparison, IsConjunction, IsMarker, Spells}
use Rattle.ul_marker.specs.Parts.{asks_extra, asks_extras, atoms_in, atoms_of, some_asks_extra}
use Rattle.ul_marker.specs.Reading.{chain_formula, join, locked_marker_of, marker_of, printed_marker_of}
use Rattle.ul_marker.specs.ReadingLaws.{DialectsAgree}
use Rattle.ul_marker.specs.Words.{is_unread, tokens_of, with_readings}
use Rattle.ul_marker.specs.declared.reading.Chain.{Chain}
use Rattle.ul_marker.specs.declared.reading.Chain.TheVariants.{Conjunction, Disjunction}
use Rattle.ul_marker.specs.declared.words.Dialect.{Dialect}
use Rattle.ul_marker.specs.declared.words.Dialect.TheVariants.{Document, Lock, Printed}
use Rattle.ul_marker.specs.declared.words.Token.{Token}
use Rattle.ul_marker.specs.declared.words.Token.TheVariants.{Open, Close, And, Or, In, Not, Extra, Named, Sign, Literal}
use Rattle.ul_marker.proofs.PrintedBack.{all-read}
use Rattle.ul_marker.proofs.Spelled.{reading_is_grammar}
use Rattle.ul_marker.proofs.Valid.{none_else, read-tokens}

or_false : (b : Bool) → (b || false) ≡ b
or_false true = refl
or_false false = refl

-- ---- one comparison

-- a formula asks for what a token is
record Told (t : Token) (f : Formula) : Type 0 where
  extra : is_unread Lock t ≡ asks_extra f
  extras : is_unread Document t ≡ asks_extras f

one_told : (t : Token) (f g : Formula) → Some f ≡ Some g → Told t f → Told t g
one_told t f g e h = subst (λ (x : Formula). Told t x) (inside f g e) h

-- a formula of another kind than `extra` and opaque ones, of another variable than `extras`
named_told : (v : Variable) (f : Formula) → is_extras v ≡ false → asks_extra f ≡ false → asks_extras f ≡ false → Told (Named v) f
named_told v f n a b = record { extra = sym a; extras = n ∙ sym b }

opaque_told : (v : Variable) (kind : AtomKind) (literal : List ℕ) (positive : Bool) → Told (Named v) (opaquely v kind literal positive)
opaque_told v kind literal positive = record { extra = refl; extras = sym (or_false (is_extras v)) }

equality_told : (v : Variable) (literal : List ℕ) (equal : Bool) → is_extras v ≡ false → Told (Named v) (equality v literal equal)
equality_told v literal equal n = elim (is_text v) as (λ (b : Bool). Told (Named v) (if b then text v literal equal else opaquely v Kind.Same literal equal)) [
  | true ↦ named_told v (text v literal equal) n refl refl
  | false ↦ opaque_told v Kind.Same literal equal
]

text_told : (v : Variable) (op : Op) (literal : List ℕ) (f : Formula) → is_extras v ≡ false → text_sign v op literal ≡ Some f → Told (Named v) f
text_told v Equal literal f n e = one_told (Named v) (equality v literal true) f e (equality_told v literal true n)
text_told v Unequal literal f n e = one_told (Named v) (equality v literal false) f e (equality_told v literal false n)
text_told v Less literal f n e = one_told (Named v) (opaquely v Kind.Below literal true) f e (opaque_told v Kind.Below literal true)
text_told v AtLeast literal f n e = one_told (Named v) (opaquely v Kind.Below literal false) f e (opaque_told v Kind.Below literal false)
text_told v AtMost literal f n e = one_told (Named v) (opaquely v Kind.AtMost literal true) f e (opaque_told v Kind.AtMost literal true)
text_told v More literal f n e = one_told (Named v) (opaquely v Kind.AtMost literal false) f e (opaque_told v Kind.AtMost literal false)
text_told v Compatible literal f n e = absurd (cc e)
text_told v Distinct literal f n e = absurd (cc e)

python_told : (v : Variable) (op : Op) (literal : List ℕ) (full : Option Bool) (f : Formula) → is_extras v ≡ false → python_sign v op literal full ≡ Some f → Told (Named v) f
python_told v op literal None f n e = text_told v op literal f n e
python_told v op literal (Some full) f n e =
    let (clause, read, some) = bind_some (clause_with op literal) _ _ e in
    one_told (Named v) (python full clause) f some (named_told v (python full clause) n refl refl)

sign_told : (t : Token) (op : Op) (literal : List ℕ) (f : Formula) → sign_formula t op literal ≡ Some f → Told t f
unfolding sign_formula
sign_told Extra Equal literal f e = one_told Extra (extra_of literal true) f e (record { extra = refl; extras = refl })
sign_told Extra Unequal literal f e = one_told Extra (extra_of literal false) f e (record { extra = refl; extras = refl })
sign_told Extra AtLeast literal f e = absurd (cc e)
sign_told Extra AtMost literal f e = absurd (cc e)
sign_told Extra More literal f e = absurd (cc e)
sign_told Extra Less literal f e = absurd (cc e)
sign_told Extra Compatible literal f e = absurd (cc e)
sign_told Extra Distinct literal f e = absurd (cc e)
sign_told (Named v) op literal f e =
    let own = none_else (is_extras v) (python_sign v op literal (python_full v)) f e in
    python_told v op literal (python_full v) f own.0 own.1
sign_told Open op literal f e = absurd (cc e)
sign_told Close op literal f e = absurd (cc e)
sign_told And op literal f e = absurd (cc e)
sign_told Or op literal f e = absurd (cc e)
sign_told In op literal f e = absurd (cc e)
sign_told Not op literal f e = absurd (cc e)
sign_told (Sign sign) op literal f e = absurd (cc e)
sign_told (Literal other) op literal f e = absurd (cc e)

list_told : (v : Variable) (literal : List ℕ) (positive : Bool) (full : Option Bool) (f : Formula) → is_extras v ≡ false → python_within v literal positive full ≡ Some f
    → Told (Named v) f
list_told v literal positive None f n e = one_told (Named v) (opaquely v Kind.Within literal positive) f e (opaque_told v Kind.Within literal positive)
list_told v literal positive (Some full) f n e =
    let (versions, read, some) = bind_some (versions_of (slice_split parts_versions literal)) _ _ e in
    one_told (Named v) (python_list full versions positive) f some (named_told v (python_list full versions positive) n refl refl)

within_told : (positive : Bool) (t : Token) (literal : List ℕ) (f : Formula) → within positive t literal ≡ Some f → Told t f
unfolding within
within_told positive (Named v) literal f e =
    let own = none_else (is_extras v) (variable_within v literal positive) f e in
    list_told v literal positive (python_full v) f own.0 own.1
within_told positive Extra literal f e = absurd (cc e)
within_told positive Open literal f e = absurd (cc e)
within_told positive Close literal f e = absurd (cc e)
within_told positive And literal f e = absurd (cc e)
within_told positive Or literal f e = absurd (cc e)
within_told positive In literal f e = absurd (cc e)
within_told positive Not literal f e = absurd (cc e)
within_told positive (Sign sign) literal f e = absurd (cc e)
within_told positive (Literal other) literal f e = absurd (cc e)

contained_told : (positive : Bool) (t : Token) (literal : List ℕ) (f : Formula) → containment positive t literal ≡ Some f → Told t f
unfolding containment
contained_told positive (Named v) literal f e =
    let own = cond_some (may_stand v literal) (Some (opaquely v Kind.Contains literal positive)) f e in
    one_told (Named v) (opaquely v Kind.Contains literal positive) f own.1 (opaque_told v Kind.Contains literal positive)
contained_told positive Extra literal f e = absurd (cc e)
contained_told positive Open literal f e = absurd (cc e)
contained_told positive Close literal f e = absurd (cc e)
contained_told positive And literal f e = absurd (cc e)
contained_told positive Or literal f e = absurd (cc e)
contained_told positive In literal f e = absurd (cc e)
contained_told positive Not literal f e = absurd (cc e)
contained_told positive (Sign sign) literal f e = absurd (cc e)
contained_told positive (Literal other) literal f e = absurd (cc e)

-- ---- tokens

-- a formula asks for what tokens have
record Tells (ts : List Token) (f : Formula) : Type 0 where
  extra : list_any (is_unread Lock) ts ≡ asks_extra f
  extras : list_any (is_unread Document) ts ≡ asks_extras f

-- where one token alone is a variable
of_one : (ts us : List Token) (t : Token) (f : Formula) → ts ≡ us → list_any (is_unread Lock) us ≡ (is_unread Lock t || false)
    → list_any (is_unread Document) us ≡ (is_unread Document t || false) → Told t f → Tells ts f
of_one ts us t f same a b h = record {
  extra = ap (list_any (is_unread Lock)) same ∙ a ∙ or_false (is_unread Lock t) ∙ h.extra;
  extras = ap (list_any (is_unread Document)) same ∙ b ∙ or_false (is_unread Document t) ∙ h.extras;
}

comparison_tells : (ts : List Token) (f : Formula) → IsComparison ts f → Tells ts f
comparison_tells ts f h = elim h [
  | IsComparison.variable_sign t op literal same e ↦ of_one ts (t ∷ Sign op ∷ Literal literal ∷ []) t f same refl refl (sign_told t op literal f e)
  | IsComparison.literal_sign literal op sign t same m e ↦ of_one ts (Literal literal ∷ Sign op ∷ t ∷ []) t f same refl refl (sign_told t sign literal f e)
  | IsComparison.variable_in t literal same e ↦ of_one ts (t ∷ In ∷ Literal literal ∷ []) t f same refl refl (within_told true t literal f e)
  | IsComparison.literal_in literal t same e ↦ of_one ts (Literal literal ∷ In ∷ t ∷ []) t f same refl refl (contained_told true t literal f e)
  | IsComparison.variable_not_in t literal same e ↦ of_one ts (t ∷ Not ∷ In ∷ Literal literal ∷ []) t f same refl refl (within_told false t literal f e)
  | IsComparison.literal_not_in literal t same e ↦ of_one ts (Literal literal ∷ Not ∷ In ∷ t ∷ []) t f same refl refl (contained_told false t literal f e)
]

-- a relation whose formulas ask for what their tokens have
abbrev AllTell : (List Token → Formula → Type 0) → Type 0
AllTell Rel = (ts : List Token) (f : Formula) → Rel ts f → Tells ts f

enclosed_has : (dialect : Dialect) (inner : List Token) → is_unread dialect Open ≡ false → is_unread dialect Close ≡ false
    → list_any (is_unread dialect) (Open ∷ (inner ++ (Close ∷ []))) ≡ list_any (is_unread dialect) inner
enclosed_has dialect inner opens closes =
    rw (opens, list_any-append (is_unread dialect) inner (Close ∷ []), closes) (or_false (list_any (is_unread dialect) inner))

atom_tells : (Inside : List Token → Formula → Type 0) → AllTell Inside → AllTell (IsAtomOf Inside)
atom_tells Inside tell ts f h = elim h [
  | IsAtomOf.parenthesized inner same is ↦ let own = tell inner f is in record {
    extra = ap (list_any (is_unread Lock)) same ∙ enclosed_has Lock inner refl refl ∙ own.extra;
    extras = ap (list_any (is_unread Document)) same ∙ enclosed_has Document inner refl refl ∙ own.extras;
  }
  | IsAtomOf.comparison is ↦ comparison_tells ts f is
]

-- some formula asks for what tokens have
record SomeTell (ts : List Token) (fs : List Formula) : Type 0 where
  extra : list_any (is_unread Lock) ts ≡ list_any asks_extra fs
  extras : list_any (is_unread Document) ts ≡ list_any asks_extras fs

joined_has : (dialect : Dialect) (between : Token) (piece rest : List Token) → is_unread dialect between ≡ false
    → list_any (is_unread dialect) (piece ++ (between ∷ rest)) ≡ (list_any (is_unread dialect) piece || list_any (is_unread dialect) rest)
joined_has dialect between piece rest still = rw (list_any-append (is_unread dialect) piece (between ∷ rest), still) refl

joined_tell : (Part : List Token → Formula → Type 0) (between : Token) → AllTell Part → is_unread Lock between ≡ false → is_unread Document between ≡ false
    → (fs : List Formula) (ts : List Token) → AreJoined Part between ts fs → SomeTell ts fs
joined_tell Part between tell a b [] ts h = absurd h
joined_tell Part between tell a b (f ∷ []) ts h =
    let own = tell ts f h in record { extra = own.extra ∙ sym (or_false (asks_extra f)); extras = own.extras ∙ sym (or_false (asks_extras f)) }
joined_tell Part between tell a b (f ∷ g ∷ fs) ts h =
    let (piece, rest, part, others, shape) = h in
    let own = tell piece f part in
    let more = joined_tell Part between tell a b (g ∷ fs) rest others in record {
      extra = ap (list_any (is_unread Lock)) shape ∙ joined_has Lock between piece rest a ∙ rw (own.extra, more.extra) refl;
      extras = ap (list_any (is_unread Document)) shape ∙ joined_has Document between piece rest b ∙ rw (own.extras, more.extras) refl;
    }

some_extra : (fs : List Formula) → some_asks_extra (formulas_of fs) ≡ list_any asks_extra fs
some_extra [] = refl
some_extra (f ∷ fs) = ap (λ b. asks_extra f || b) (some_extra fs)

some_extras : (fs : List Formula) → list_any (λ atom. is_extras atom.variable) (atoms_in (formulas_of fs)) ≡ list_any asks_extras fs
some_extras [] = refl
some_extras (f ∷ fs) =
    list_any-append (λ atom. is_extras atom.variable) (atoms_of f) (atoms_in (formulas_of fs)) ∙ ap (λ b. asks_extras f || b) (some_extras fs)

join_extra : (chain : Chain) (fs : Formulas) → asks_extra (join chain fs) ≡ some_asks_extra fs
join_extra Conjunction fs = refl
join_extra Disjunction fs = refl

join_extras : (chain : Chain) (fs : Formulas) → asks_extras (join chain fs) ≡ list_any (λ atom. is_extras atom.variable) (atoms_in fs)
join_extras Conjunction fs = refl
join_extras Disjunction fs = refl

chain_extra : (chain : Chain) (fs : List Formula) → list_any asks_extra fs ≡ asks_extra (chain_formula chain fs)
chain_extra chain [] = sym (join_extra chain (formulas_of []))
chain_extra chain (f ∷ []) = or_false (asks_extra f)
chain_extra chain (f ∷ g ∷ fs) = sym (join_extra chain (formulas_of (f ∷ g ∷ fs)) ∙ some_extra (f ∷ g ∷ fs))

chain_extras : (chain : Chain) (fs : List Formula) → list_any asks_extras fs ≡ asks_extras (chain_formula chain fs)
chain_extras chain [] = sym (join_extras chain (formulas_of []))
chain_extras chain (f ∷ []) = or_false (asks_extras f)
chain_extras chain (f ∷ g ∷ fs) = sym (join_extras chain (formulas_of (f ∷ g ∷ fs)) ∙ some_extras (f ∷ g ∷ fs))

chain_tells : (chain : Chain) (Part : List Token → Formula → Type 0) (between : Token) → AllTell Part → is_unread Lock between ≡ false → is_unread Document between ≡ false
    → AllTell (IsChain chain Part between)
chain_tells chain Part between tell a b ts f h =
    let (fs, are, same) = h in
    let some = joined_tell Part between tell a b fs ts are in record {
      extra = some.extra ∙ chain_extra chain fs ∙ ap asks_extra (sym same);
      extras = some.extras ∙ chain_extras chain fs ∙ ap asks_extras (sym same);
    }

inside_tells : (Inside : List Token → Formula → Type 0) → AllTell Inside → AllTell (IsChain Disjunction (IsConjunction Inside) Or)
inside_tells Inside tell = chain_tells Disjunction (IsConjunction Inside) Or (chain_tells Conjunction (IsAtomOf Inside) And (atom_tells Inside tell) refl refl) refl refl

marker_tells : (depth : ℕ) → AllTell (IsMarker depth)
unfolding IsMarker
marker_tells zero = inside_tells (λ inner f. ⊥) (λ ts f h. absurd h)
marker_tells (suc depth) = inside_tells (IsMarker depth) (marker_tells depth)

-- ---- texts

all_read : (dialect : Dialect) (tokens : Option (List Token)) (ts : List Token) → with_readings dialect tokens ≡ Some ts → list_any (is_unread dialect) ts ≡ false
all_read dialect None ts e = absurd (cc e)
all_read dialect (Some found) ts e = go (list_any (is_unread dialect) found) refl e
  where
    go : (b : Bool) → list_any (is_unread dialect) found ≡ b → (if b then None else Some found) ≡ Some ts → list_any (is_unread dialect) ts ≡ false
    go true q e = absurd (cc e)
    go false q e = ap (list_any (is_unread dialect)) (sym (inside found ts e)) ∙ q

reads_all : (dialect : Dialect) (tokens : Option (List Token)) (ts : List Token) → tokens ≡ Some ts → list_any (is_unread dialect) ts ≡ false → with_readings dialect tokens ≡ Some ts
reads_all dialect tokens ts e q = ap (with_readings dialect) e ∙ ap (λ (b : Bool). if b then None else Some ts) q

-- what a dialect reads is read where it is printed, and each of its tokens has a reading there
to_printed : (dialect : Dialect) (input : List ℕ) (f : Formula) → Spells dialect input f
    → Spells Printed input f × ((ts : List Token) × IsMarker 64 ts f × (list_any (is_unread dialect) ts ≡ false))
to_printed dialect input f s =
    let tokens = tokens_of (trimmed_text is_white input) in
    let (ts, read, is) = s in
    let own : tokens ≡ Some ts = read-tokens dialect tokens ts read in
    ((ts, ap (with_readings Printed) own ∙ all-read ts, is), (ts, is, all_read dialect tokens ts read))

from_printed : (dialect : Dialect) (input : List ℕ) (f : Formula) → Spells Printed input f → ((ts : List Token) → IsMarker 64 ts f → list_any (is_unread dialect) ts ≡ false)
    → Spells dialect input f
from_printed dialect input f s none =
    let tokens = tokens_of (trimmed_text is_white input) in
    let (ts, read, is) = s in
    (ts, reads_all dialect tokens ts (read-tokens Printed tokens ts read) (none ts is), is)

pub dialects_agree : DialectsAgree
unfolding marker_of locked_marker_of printed_marker_of
dialects_agree = record {
  document = λ input f. (
    λ e. let (printed, (ts, is, none)) = to_printed Document input f ((reading_is_grammar Document input f).0 e) in
        ((reading_is_grammar Printed input f).1 printed, sym (marker_tells 64 ts f is).extras ∙ none),
    λ h. (reading_is_grammar Document input f).1
        (from_printed Document input f ((reading_is_grammar Printed input f).0 h.0) (λ ts is. (marker_tells 64 ts f is).extras ∙ h.1)),
  );
  lock = λ input f. (
    λ e. let (printed, (ts, is, none)) = to_printed Lock input f ((reading_is_grammar Lock input f).0 e) in
        ((reading_is_grammar Printed input f).1 printed, sym (marker_tells 64 ts f is).extra ∙ none),
    λ h. (reading_is_grammar Lock input f).1
        (from_printed Lock input f ((reading_is_grammar Printed input f).0 h.0) (λ ts is. (marker_tells 64 ts f is).extra ∙ h.1)),
  );
}
