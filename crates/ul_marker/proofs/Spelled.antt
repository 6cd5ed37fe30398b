-- What is read is what the grammar spells.
use Rattle.std.proofs.Common.{◌≡◌, ℕ, zero, suc, ◌<◌, List, [], ◌∷◌, ◌++◌, length, refl, sym, ap, subst, ◌∙◌, arith, Bool, true, false, true≢false, inl, inr, Option, Some, None}
use Rattle.std.specs.Prelude.{◌==◌, ◌&&◌}
use Rattle.std.specs.Option.{option_map_or}
use Rattle.std.proofs.lemmas.Bool.{and_parts, cases_Bool, ne_eqb}
use Rattle.std.proofs.lemmas.List.{append-nil, append_assoc}
use Rattle.ul_version.specs.Reading.{is_white}
use Rattle.ul_version.proofs.ForCallers.{bind_some}
use Rattle.ul_version.proofs.ForCallers.{cond_some, inside}
use Rattle.ul_specifier.specs.Reading.{trimmed_text}
use Rattle.ul_specifier.specs.declared.clause.Op.{Op}
use Rattle.ul_marker.specs.Comparisons.{comparison_of, containment, in_sides, is_not_in, literal_of, mirror_sign, sign_formula, signed_sides, three, within}
use Rattle.ul_comparison.specs.Formulas.{Formula}
use Rattle.ul_marker.specs.Grammar.{AreJoined, IsAtomOf, IsChain, IsComparison, IsConjunction, IsDisjunction, IsMarker, comparison, literal_in, literal_not_in, literal_sign, parenthesized, variable_in, variable_not_in, variable_sign}
use Rattle.ul_marker.specs.Reading.{atom_at, atom_with, before_close, chain_at, chain_with, cuts, each, inner_tokens, is_close, is_open, chain_formula, joiner, joins, onto_first, open_count, part_at, pieces_from}
use Rattle.ul_marker.specs.ReadingLaws.{ReadingIsGrammar, SpelledOnce}
use Rattle.ul_marker.specs.Words.{dialect_tokens}
use Rattle.ul_marker.specs.declared.reading.Chain.{Chain}
use Rattle.ul_marker.specs.declared.reading.Chain.TheVariants.{Conjunction, Disjunction}
use Rattle.ul_marker.specs.declared.words.Token.{Token}
use Rattle.ul_marker.specs.declared.words.Token.TheVariants.{Open, Close, And, Or, In, Not, Extra, Named, Sign, Literal}
use Rattle.ul_marker.proofs.Chains.{before_first, pieces-filled}

-- ---- tokens that nothing cuts

-- pieces of tokens with others after them: nothing is cut, and no parenthesis stays open
abbrev pub Passes : Chain → ℕ → List Token → Type 0
Passes chain n ts = (rest : List Token) → pieces_from chain n (ts ++ rest) ≡ before_first ts (pieces_from chain n rest)

-- a token that joins nothing and neither opens nor closes a parenthesis
pub record IsStill (t : Token) : Type 0 where
  pub uncut : (chain : Chain) (n : ℕ) → cuts chain n t ≡ false
  pub level : (n : ℕ) → open_count t n ≡ n

and-false : (b : Bool) → (b && false) ≡ false
and-false true = refl
and-false false = refl

pub extra-still : IsStill Extra
extra-still = record { uncut = λ chain n. elim chain as (λ (k : Chain). cuts k n Extra ≡ false) [ Conjunction ↦ and-false (n == 0) | Disjunction ↦ and-false (n == 0) ]; level = λ n. refl }

named-still : (v : _) → IsStill (Named v)
named-still v = record { uncut = λ chain n. elim chain as (λ (k : Chain). cuts k n (Named v) ≡ false) [ Conjunction ↦ and-false (n == 0) | Disjunction ↦ and-false (n == 0) ]; level = λ n. refl }

pub sign-still : (op : Op) → IsStill (Sign op)
sign-still op = record { uncut = λ chain n. elim chain as (λ (k : Chain). cuts k n (Sign op) ≡ false) [ Conjunction ↦ and-false (n == 0) | Disjunction ↦ and-false (n == 0) ]; level = λ n. refl }

pub literal-still : (bytes : List ℕ) → IsStill (Literal bytes)
literal-still bytes = record { uncut = λ chain n. elim chain as (λ (k : Chain). cuts k n (Literal bytes) ≡ false) [ Conjunction ↦ and-false (n == 0) | Disjunction ↦ and-false (n == 0) ]; level = λ n. refl }

pub in-still : IsStill In
in-still = record { uncut = λ chain n. elim chain as (λ (k : Chain). cuts k n In ≡ false) [ Conjunction ↦ and-false (n == 0) | Disjunction ↦ and-false (n == 0) ]; level = λ n. refl }

pub not-still : IsStill Not
not-still = record { uncut = λ chain n. elim chain as (λ (k : Chain). cuts k n Not ≡ false) [ Conjunction ↦ and-false (n == 0) | Disjunction ↦ and-false (n == 0) ]; level = λ n. refl }

onto-before : (t : Token) (pieces : List (List Token)) → onto_first t pieces ≡ before_first (t ∷ []) pieces
onto-before t [] = refl
onto-before t (piece ∷ pieces) = refl

before-before : (ts us : List Token) (pieces : List (List Token)) → before_first ts (before_first us pieces) ≡ before_first (ts ++ us) pieces
before-before ts us [] = refl
before-before ts us (piece ∷ pieces) = ap (λ (l : List Token). l ∷ pieces) (sym (append_assoc ts us piece))

before-none : (pieces : List (List Token)) → 0 < length pieces → before_first [] pieces ≡ pieces
before-none [] h = absurd (omega arith)
before-none (piece ∷ pieces) h = refl

-- a token that isn't cut stands before what follows
step : (chain : Chain) (n : ℕ) (t : Token) (ts : List Token) → cuts chain n t ≡ false → pieces_from chain n (t ∷ ts) ≡ before_first (t ∷ []) (pieces_from chain (open_count t n) ts)
unfolding pieces_from
step chain n t ts h = rw h (onto-before t (pieces_from chain (open_count t n) ts))

none-passes : (chain : Chain) (n : ℕ) → Passes chain n []
none-passes chain n rest = sym (before-none (pieces_from chain n rest) (pieces-filled chain n rest))

still-passes : (chain : Chain) (n : ℕ) (t : Token) (ts : List Token) → IsStill t → Passes chain n ts → Passes chain n (t ∷ ts)
still-passes chain n t ts s h rest =
    step chain n t (ts ++ rest) (s.uncut chain n)
    ∙ rw (s.level n, h rest) (before-before (t ∷ []) ts (pieces_from chain n rest))

append-passes : (chain : Chain) (n : ℕ) (ts us : List Token) → Passes chain n ts → Passes chain n us → Passes chain n (ts ++ us)
append-passes chain n ts us h k rest =
    ap (λ (l : List Token). pieces_from chain n l) (append_assoc ts us rest) ∙ h (us ++ rest)
    ∙ rw (k rest) (before-before ts us (pieces_from chain n rest))

-- ---- comparisons

-- a token that stands for a variable
pub record IsSubject (t : Token) : Type 0 where
  pub still : IsStill t
  pub no_literal : literal_of t ≡ None
  pub no_open : is_open t ≡ false

extra-subject : IsSubject Extra
extra-subject = record { still = extra-still; no_literal = refl; no_open = refl }

named-subject : (v : _) → IsSubject (Named v)
named-subject v = record { still = named-still v; no_literal = refl; no_open = refl }

pub signed-subject : (t : Token) (op : Op) (literal : List ℕ) (f : Formula) → sign_formula t op literal ≡ Some f → IsSubject t
unfolding sign_formula
signed-subject Extra op literal f e = extra-subject
signed-subject (Named v) op literal f e = named-subject v
signed-subject Open op literal f e = absurd (cc e)
signed-subject Close op literal f e = absurd (cc e)
signed-subject And op literal f e = absurd (cc e)
signed-subject Or op literal f e = absurd (cc e)
signed-subject In op literal f e = absurd (cc e)
signed-subject Not op literal f e = absurd (cc e)
signed-subject (Sign sign) op literal f e = absurd (cc e)
signed-subject (Literal bytes) op literal f e = absurd (cc e)

pub within-subject : (positive : Bool) (t : Token) (literal : List ℕ) (f : Formula) → within positive t literal ≡ Some f → IsSubject t
unfolding within
within-subject positive Extra literal f e = extra-subject
within-subject positive (Named v) literal f e = named-subject v
within-subject positive Open literal f e = absurd (cc e)
within-subject positive Close literal f e = absurd (cc e)
within-subject positive And literal f e = absurd (cc e)
within-subject positive Or literal f e = absurd (cc e)
within-subject positive In literal f e = absurd (cc e)
within-subject positive Not literal f e = absurd (cc e)
within-subject positive (Sign sign) literal f e = absurd (cc e)
within-subject positive (Literal bytes) literal f e = absurd (cc e)

pub contained-subject : (positive : Bool) (t : Token) (literal : List ℕ) (f : Formula) → containment positive t literal ≡ Some f → IsSubject t
unfolding containment
contained-subject positive Extra literal f e = extra-subject
contained-subject positive (Named v) literal f e = named-subject v
contained-subject positive Open literal f e = absurd (cc e)
contained-subject positive Close literal f e = absurd (cc e)
contained-subject positive And literal f e = absurd (cc e)
contained-subject positive Or literal f e = absurd (cc e)
contained-subject positive In literal f e = absurd (cc e)
contained-subject positive Not literal f e = absurd (cc e)
contained-subject positive (Sign sign) literal f e = absurd (cc e)
contained-subject positive (Literal bytes) literal f e = absurd (cc e)

still-three : (chain : Chain) (n : ℕ) (a b d : Token) → IsStill a → IsStill b → IsStill d → Passes chain n (a ∷ b ∷ d ∷ [])
still-three chain n a b d p q r =
    still-passes chain n a (b ∷ d ∷ []) p (still-passes chain n b (d ∷ []) q (still-passes chain n d [] r (none-passes chain n)))

still-four : (chain : Chain) (n : ℕ) (a b d g : Token) → IsStill a → IsStill b → IsStill d → IsStill g → Passes chain n (a ∷ b ∷ d ∷ g ∷ [])
still-four chain n a b d g p q r s = still-passes chain n a (b ∷ d ∷ g ∷ []) p (still-three chain n b d g q r s)

comparison-passes : (chain : Chain) (n : ℕ) (ts : List Token) (f : Formula) → IsComparison ts f → Passes chain n ts
comparison-passes chain n ts f (variable_sign variable op literal shape e) =
    rw shape (still-three chain n variable (Sign op) (Literal literal) (signed-subject variable op literal f e).still (sign-still op) (literal-still literal))
comparison-passes chain n ts f (literal_sign literal op sign variable shape mirror e) =
    rw shape (still-three chain n (Literal literal) (Sign op) variable (literal-still literal) (sign-still op) (signed-subject variable sign literal f e).still)
comparison-passes chain n ts f (variable_in variable literal shape e) =
    rw shape (still-three chain n variable In (Literal literal) (within-subject true variable literal f e).still in-still (literal-still literal))
comparison-passes chain n ts f (literal_in literal variable shape e) =
    rw shape (still-three chain n (Literal literal) In variable (literal-still literal) in-still (contained-subject true variable literal f e).still)
comparison-passes chain n ts f (variable_not_in variable literal shape e) =
    rw shape (still-four chain n variable Not In (Literal literal) (within-subject false variable literal f e).still not-still in-still (literal-still literal))
comparison-passes chain n ts f (literal_not_in literal variable shape e) =
    rw shape (still-four chain n (Literal literal) Not In variable (literal-still literal) not-still in-still (contained-subject false variable literal f e).still)

first-enclosed : (t : Token) (ts : List Token) → is_open t ≡ false → inner_tokens (t ∷ ts) ≡ None
unfolding inner_tokens
first-enclosed t ts h = rw h refl

-- what the grammar has as a comparison is read as one
record ReadsAs (ts : List Token) (f : Formula) : Type 0 where
  open_not : inner_tokens ts ≡ None
  is : comparison_of ts ≡ Some f

comparison-reads : (ts : List Token) (f : Formula) → IsComparison ts f → ReadsAs ts f
unfolding comparison_of
comparison-reads ts f (variable_sign variable op literal shape e) =
    let s = signed-subject variable op literal f e in
    rw shape (record { open_not = first-enclosed variable _ s.no_open; is = rw s.no_literal e })
comparison-reads ts f (literal_sign literal op sign variable shape mirror e) =
    rw shape (record { open_not = first-enclosed (Literal literal) _ refl; is = rw mirror e })
comparison-reads ts f (variable_in variable literal shape e) =
    let s = within-subject true variable literal f e in
    rw shape (record { open_not = first-enclosed variable _ s.no_open; is = rw s.no_literal e })
comparison-reads ts f (literal_in literal variable shape e) =
    rw shape (record { open_not = first-enclosed (Literal literal) _ refl; is = e })
comparison-reads ts f (variable_not_in variable literal shape e) =
    let s = within-subject false variable literal f e in
    rw shape (record { open_not = first-enclosed variable _ s.no_open; is = rw s.no_literal e })
comparison-reads ts f (literal_not_in literal variable shape e) =
    rw shape (record { open_not = first-enclosed (Literal literal) _ refl; is = e })

-- a token with a literal is that literal
literal-is : (t : Token) (literal : List ℕ) → literal_of t ≡ Some literal → t ≡ Literal literal
literal-is (Literal bytes) literal e = ap (λ (l : List ℕ). Literal l) (inside bytes literal e)
literal-is Open literal e = absurd (cc e)
literal-is Close literal e = absurd (cc e)
literal-is And literal e = absurd (cc e)
literal-is Or literal e = absurd (cc e)
literal-is In literal e = absurd (cc e)
literal-is Not literal e = absurd (cc e)
literal-is Extra literal e = absurd (cc e)
literal-is (Named v) literal e = absurd (cc e)
literal-is (Sign op) literal e = absurd (cc e)

signed-spelled : (left : Token) (op : Op) (right : Token) (own : Option (List ℕ)) (f : Formula) → literal_of left ≡ own → signed_sides left op right own ≡ Some f
    → IsComparison (left ∷ Sign op ∷ right ∷ []) f
signed-spelled left op right None f h e =
    let (literal, is, some) = bind_some (literal_of right) _ _ e in
    variable_sign left op literal (ap (λ (t : Token). left ∷ Sign op ∷ t ∷ []) (literal-is right literal is)) some
signed-spelled left op right (Some literal) f h e =
    let (sign, is, some) = bind_some (mirror_sign op) _ _ e in
    literal_sign literal op sign right (ap (λ (t : Token). t ∷ Sign op ∷ right ∷ []) (literal-is left literal h)) is some

in-spelled : (left right : Token) (own : Option (List ℕ)) (f : Formula) → literal_of left ≡ own → in_sides true left right own ≡ Some f
    → IsComparison (left ∷ In ∷ right ∷ []) f
in-spelled left right None f h e =
    let (literal, is, some) = bind_some (literal_of right) _ _ e in
    variable_in left literal (ap (λ (t : Token). left ∷ In ∷ t ∷ []) (literal-is right literal is)) some
in-spelled left right (Some literal) f h e = literal_in literal right (ap (λ (t : Token). t ∷ In ∷ right ∷ []) (literal-is left literal h)) e

not-spelled : (left right : Token) (own : Option (List ℕ)) (f : Formula) → literal_of left ≡ own → in_sides false left right own ≡ Some f
    → IsComparison (left ∷ Not ∷ In ∷ right ∷ []) f
not-spelled left right None f h e =
    let (literal, is, some) = bind_some (literal_of right) _ _ e in
    variable_not_in left literal (ap (λ (t : Token). left ∷ Not ∷ In ∷ t ∷ []) (literal-is right literal is)) some
not-spelled left right (Some literal) f h e = literal_not_in literal right (ap (λ (t : Token). t ∷ Not ∷ In ∷ right ∷ []) (literal-is left literal h)) e

three-spelled : (left middle right : Token) (f : Formula) → three left middle right ≡ Some f → IsComparison (left ∷ middle ∷ right ∷ []) f
three-spelled left (Sign op) right f e = signed-spelled left op right (literal_of left) f refl e
three-spelled left In right f e = in-spelled left right (literal_of left) f refl e
three-spelled left Open right f e = absurd (cc e)
three-spelled left Close right f e = absurd (cc e)
three-spelled left And right f e = absurd (cc e)
three-spelled left Or right f e = absurd (cc e)
three-spelled left Not right f e = absurd (cc e)
three-spelled left Extra right f e = absurd (cc e)
three-spelled left (Named v) right f e = absurd (cc e)
three-spelled left (Literal bytes) right f e = absurd (cc e)

in-is : (t : Token) → is_not_in Not t ≡ true → t ≡ In
in-is In e = refl
in-is Open e = absurd (true≢false (sym e))
in-is Close e = absurd (true≢false (sym e))
in-is And e = absurd (true≢false (sym e))
in-is Or e = absurd (true≢false (sym e))
in-is Not e = absurd (true≢false (sym e))
in-is Extra e = absurd (true≢false (sym e))
in-is (Named v) e = absurd (true≢false (sym e))
in-is (Sign op) e = absurd (true≢false (sym e))
in-is (Literal bytes) e = absurd (true≢false (sym e))

not_in-is : (a b : Token) → is_not_in a b ≡ true → (a ≡ Not) × (b ≡ In)
not_in-is Not b e = (refl, in-is b e)
not_in-is In b e = absurd (true≢false (sym e))
not_in-is Open b e = absurd (true≢false (sym e))
not_in-is Close b e = absurd (true≢false (sym e))
not_in-is And b e = absurd (true≢false (sym e))
not_in-is Or b e = absurd (true≢false (sym e))
not_in-is Extra b e = absurd (true≢false (sym e))
not_in-is (Named v) b e = absurd (true≢false (sym e))
not_in-is (Sign op) b e = absurd (true≢false (sym e))
not_in-is (Literal bytes) b e = absurd (true≢false (sym e))

-- tokens that are read as a comparison are one
pub comparison-spelled : (ts : List Token) (f : Formula) → comparison_of ts ≡ Some f → IsComparison ts f
unfolding comparison_of
comparison-spelled [] f e = absurd (cc e)
comparison-spelled (a ∷ []) f e = absurd (cc e)
comparison-spelled (a ∷ b ∷ []) f e = absurd (cc e)
comparison-spelled (a ∷ b ∷ d ∷ []) f e = three-spelled a b d f e
comparison-spelled (a ∷ b ∷ d ∷ g ∷ []) f e =
    let (words, some) = cond_some (is_not_in b d) (in_sides false a g (literal_of a)) f e in
    let are = not_in-is b d words in
    rw (are.0, are.1) (not-spelled a g (literal_of a) f refl some)
comparison-spelled (a ∷ b ∷ d ∷ g ∷ i ∷ ts) f e = absurd (cc e)

-- ---- parentheses

open-is : (t : Token) → is_open t ≡ true → t ≡ Open
open-is Open e = refl
open-is Close e = absurd (true≢false (sym e))
open-is And e = absurd (true≢false (sym e))
open-is Or e = absurd (true≢false (sym e))
open-is In e = absurd (true≢false (sym e))
open-is Not e = absurd (true≢false (sym e))
open-is Extra e = absurd (true≢false (sym e))
open-is (Named v) e = absurd (true≢false (sym e))
open-is (Sign op) e = absurd (true≢false (sym e))
open-is (Literal bytes) e = absurd (true≢false (sym e))

close-is : (t : Token) → is_close t ≡ true → t ≡ Close
close-is Close e = refl
close-is Open e = absurd (true≢false (sym e))
close-is And e = absurd (true≢false (sym e))
close-is Or e = absurd (true≢false (sym e))
close-is In e = absurd (true≢false (sym e))
close-is Not e = absurd (true≢false (sym e))
close-is Extra e = absurd (true≢false (sym e))
close-is (Named v) e = absurd (true≢false (sym e))
close-is (Sign op) e = absurd (true≢false (sym e))
close-is (Literal bytes) e = absurd (true≢false (sym e))

before-is : (ts inner : List Token) → before_close ts ≡ Some inner → ts ≡ inner ++ (Close ∷ [])
unfolding before_close
before-is [] inner e = absurd (cc e)
before-is (t ∷ []) inner e =
    let (closes, some) = cond_some (is_close t) (Some []) inner e in
    rw (close-is t closes, ← (inside [] inner some)) refl
before-is (t ∷ u ∷ ts) inner e =
    let (rest, is, some) = bind_some (before_close (u ∷ ts)) _ _ e in
    rw (← (inside (t ∷ rest) inner some)) (ap (λ (l : List Token). t ∷ l) (before-is (u ∷ ts) rest is))

enclosed-is : (ts inner : List Token) → inner_tokens ts ≡ Some inner → ts ≡ Open ∷ (inner ++ (Close ∷ []))
unfolding inner_tokens
enclosed-is [] inner e = absurd (cc e)
enclosed-is (t ∷ ts) inner e =
    let (opens, some) = cond_some (is_open t) (before_close ts) inner e in
    rw (open-is t opens) (ap (λ (l : List Token). Open ∷ l) (before-is ts inner some))

close-before : (inner : List Token) → before_close (inner ++ (Close ∷ [])) ≡ Some inner
unfolding before_close
close-before [] = refl
close-before (t ∷ []) = refl
close-before (t ∷ u ∷ ts) = rw (close-before (u ∷ ts)) refl

enclosed-inner : (inner : List Token) → inner_tokens (Open ∷ (inner ++ (Close ∷ []))) ≡ Some inner
unfolding inner_tokens
enclosed-inner inner = close-before inner

deep-uncut : (chain : Chain) (n : ℕ) (t : Token) → cuts chain (suc n) t ≡ false
deep-uncut chain n t = rw (ne_eqb (suc n) 0 (λ e. absurd (omega arith))) refl

parentheses-uncut : (chain : Chain) (n : ℕ) → (cuts chain n Open ≡ false) × (cuts chain n Close ≡ false)
parentheses-uncut Conjunction n = (and-false (n == 0), and-false (n == 0))
parentheses-uncut Disjunction n = (and-false (n == 0), and-false (n == 0))

-- a marker in parentheses isn't cut, since one more parenthesis is open within
parenthesized-passes : (chain : Chain) (n : ℕ) (inner : List Token) → Passes chain (suc n) inner → Passes chain n (Open ∷ (inner ++ (Close ∷ [])))
parenthesized-passes chain n inner h rest =
    let p = parentheses-uncut chain n in
    let q = parentheses-uncut chain (suc n) in
    let back : open_count Close (suc n) ≡ n = omega arith in
    step chain n Open ((inner ++ (Close ∷ [])) ++ rest) p.0
    ∙ ap (λ (l : List Token). before_first (Open ∷ []) (pieces_from chain (suc n) l)) (append_assoc inner (Close ∷ []) rest)
    ∙ rw (h (Close ∷ rest), step chain (suc n) Close rest q.1, back)
    (rw (before-before inner (Close ∷ []) (pieces_from chain n rest)) (before-before (Open ∷ []) (inner ++ (Close ∷ [])) (pieces_from chain n rest)))

-- ---- a reader and a relation

-- what a reader reads is what a relation relates, and within parentheses nothing of it is cut
pub record Agrees (read : List Token → Option Formula) (Rel : List Token → Formula → Type 0) : Type 0 where
  pub sound : (ts : List Token) (f : Formula) → read ts ≡ Some f → Rel ts f
  pub complete : (ts : List Token) (f : Formula) → Rel ts f → read ts ≡ Some f
  pub inner : (chain : Chain) (n : ℕ) (ts : List Token) (f : Formula) → Rel ts f → Passes chain (suc n) ts

-- what outside of parentheses isn't cut either
record Uncut (chain : Chain) (Rel : List Token → Formula → Type 0) : Type 0 where
  passes : (ts : List Token) (f : Formula) → Rel ts f → Passes chain 0 ts

none-agrees : Agrees (λ inner. None) (λ inner f. ⊥)
none-agrees = record {
  sound = λ ts f e. absurd (cc e);
  complete = λ ts f h. absurd h;
  inner = λ chain n ts f h. absurd h;
}

-- ---- atoms

atom-spelled : (read : List Token → Option Formula) (Rel : List Token → Formula → Type 0) → Agrees read Rel → (ts : List Token) (f : Formula) → atom_with read ts ≡ Some f → IsAtomOf Rel ts f
atom-spelled read Rel a ts f e = go (inner_tokens ts) refl e
  where
    go : (found : Option (List Token)) → inner_tokens ts ≡ found → option_map_or read found (comparison_of ts) ≡ Some f → IsAtomOf Rel ts f
    go None is some = comparison (comparison-spelled ts f some)
    go (Some inner) is some = parenthesized inner (enclosed-is ts inner is) (a.sound inner f some)

atom-read : (read : List Token → Option Formula) (Rel : List Token → Formula → Type 0) → Agrees read Rel → (ts : List Token) (f : Formula) → IsAtomOf Rel ts f → atom_with read ts ≡ Some f
atom-read read Rel a ts f (parenthesized inner shape h) = rw (shape, enclosed-inner inner) (a.complete inner f h)
atom-read read Rel a ts f (comparison h) = let r = comparison-reads ts f h in rw r.open_not r.is

atom-passes : (read : List Token → Option Formula) (Rel : List Token → Formula → Type 0) → Agrees read Rel → (chain : Chain) (n : ℕ) (ts : List Token) (f : Formula) → IsAtomOf Rel ts f
    → Passes chain n ts
atom-passes read Rel a chain n ts f (parenthesized inner shape h) = rw shape (parenthesized-passes chain n inner (a.inner chain n inner f h))
atom-passes read Rel a chain n ts f (comparison h) = comparison-passes chain n ts f h

-- ---- joined parts

-- tokens between which a joining token stands
abbrev joined_tokens : Token → List (List Token) → List Token
joined_tokens between [] = []
joined_tokens between (piece ∷ []) = piece
joined_tokens between (piece ∷ next ∷ pieces) = piece ++ (between ∷ joined_tokens between (next ∷ pieces))

onto-joined : (between t : Token) (pieces : List (List Token)) → 0 < length pieces → joined_tokens between (onto_first t pieces) ≡ t ∷ joined_tokens between pieces
onto-joined between t [] h = absurd (omega arith)
onto-joined between t (piece ∷ []) h = refl
onto-joined between t (piece ∷ next ∷ pieces) h = refl

empty-joined : (between : Token) (pieces : List (List Token)) → 0 < length pieces → joined_tokens between ([] ∷ pieces) ≡ between ∷ joined_tokens between pieces
empty-joined between [] h = absurd (omega arith)
empty-joined between (piece ∷ pieces) h = refl

joins-is : (chain : Chain) (t : Token) → joins chain t ≡ true → t ≡ joiner chain
joins-is Conjunction And e = refl
joins-is Conjunction Or e = absurd (true≢false (sym e))
joins-is Conjunction Open e = absurd (true≢false (sym e))
joins-is Conjunction Close e = absurd (true≢false (sym e))
joins-is Conjunction In e = absurd (true≢false (sym e))
joins-is Conjunction Not e = absurd (true≢false (sym e))
joins-is Conjunction Extra e = absurd (true≢false (sym e))
joins-is Conjunction (Named v) e = absurd (true≢false (sym e))
joins-is Conjunction (Sign op) e = absurd (true≢false (sym e))
joins-is Conjunction (Literal bytes) e = absurd (true≢false (sym e))
joins-is Disjunction Or e = refl
joins-is Disjunction And e = absurd (true≢false (sym e))
joins-is Disjunction Open e = absurd (true≢false (sym e))
joins-is Disjunction Close e = absurd (true≢false (sym e))
joins-is Disjunction In e = absurd (true≢false (sym e))
joins-is Disjunction Not e = absurd (true≢false (sym e))
joins-is Disjunction Extra e = absurd (true≢false (sym e))
joins-is Disjunction (Named v) e = absurd (true≢false (sym e))
joins-is Disjunction (Sign op) e = absurd (true≢false (sym e))
joins-is Disjunction (Literal bytes) e = absurd (true≢false (sym e))

-- the pieces, joined again, are the tokens
rejoined : (chain : Chain) (n : ℕ) (ts : List Token) → joined_tokens (joiner chain) (pieces_from chain n ts) ≡ ts
unfolding pieces_from
rejoined chain n [] = refl
rejoined chain n (t ∷ ts) = elim (cases_Bool (cuts chain n t)) [
  | inl cut ↦
      rw (cut, empty-joined (joiner chain) (pieces_from chain 0 ts) (pieces-filled chain 0 ts), rejoined chain 0 ts)
      (ap (λ (l : Token). l ∷ ts) (sym (joins-is chain t (and_parts (n == 0) (joins chain t) cut).1)))
  | inr keep ↦
      rw (keep, onto-joined (joiner chain) t (pieces_from chain (open_count t n) ts) (pieces-filled chain (open_count t n) ts), rejoined chain (open_count t n) ts) refl
]

each-spelled : (read : List Token → Option Formula) (Part : List Token → Formula → Type 0) (between : Token) → ((ts : List Token) (f : Formula) → read ts ≡ Some f → Part ts f)
    → (pieces : List (List Token)) (fs : List Formula) → 0 < length pieces → each read pieces ≡ Some fs → AreJoined Part between (joined_tokens between pieces) fs
unfolding each
each-spelled read Part between sound [] fs h e = absurd (omega arith)
each-spelled read Part between sound (piece ∷ []) fs h e =
    let (f, is, some) = bind_some (read piece) _ _ e in
    subst (λ (l : List Formula). AreJoined Part between piece l) (inside (f ∷ []) fs some) (sound piece f is)
each-spelled read Part between sound (piece ∷ next ∷ pieces) fs h e =
    let (f, is, more) = bind_some (read piece) _ _ e in
    let (gs, are, some) = bind_some (each read (next ∷ pieces)) _ _ more in
    let (g, one, others) = bind_some (read next) _ _ are in
    let (hs, rest, last) = bind_some (each read pieces) _ _ others in
    let same : g ∷ hs ≡ gs = inside (g ∷ hs) gs last in
    let back : each read (next ∷ pieces) ≡ Some (g ∷ hs) = are ∙ ap (λ (l : List Formula). Some l) (sym same) in
    subst (λ (l : List Formula). AreJoined Part between (joined_tokens between (piece ∷ next ∷ pieces)) l) (ap (λ (l : List Formula). f ∷ l) same ∙ inside (f ∷ gs) fs some)
    (piece, joined_tokens between (next ∷ pieces), sound piece f is, each-spelled read Part between sound (next ∷ pieces) (g ∷ hs) (omega arith) back, refl)

chain-spelled : (chain : Chain) (read : List Token → Option Formula) (Part : List Token → Formula → Type 0) → ((ts : List Token) (f : Formula) → read ts ≡ Some f → Part ts f)
    → (ts : List Token) (f : Formula) → chain_with chain read ts ≡ Some f → IsChain chain Part (joiner chain) ts f
unfolding chain_with
chain-spelled chain read Part sound ts f e =
    let (fs, are, some) = bind_some (each read (pieces_from chain 0 ts)) _ _ e in
    let whole = each-spelled read Part (joiner chain) sound (pieces_from chain 0 ts) fs (pieces-filled chain 0 ts) are in
    (fs, rw (rejoined chain 0 ts) at whole, sym (inside (chain_formula chain fs) f some))

last-piece : (chain : Chain) (ts : List Token) → Passes chain 0 ts → pieces_from chain 0 ts ≡ ts ∷ []
unfolding pieces_from
last-piece chain ts h =
    ap (λ (l : List Token). pieces_from chain 0 l) (sym (append-nil ts)) ∙ h [] ∙ ap (λ (l : List Token). l ∷ []) (append-nil ts)

joiner-cuts : (chain : Chain) → cuts chain 0 (joiner chain) ≡ true
joiner-cuts Conjunction = refl
joiner-cuts Disjunction = refl

first-piece : (chain : Chain) (piece rest : List Token) → Passes chain 0 piece → pieces_from chain 0 (piece ++ (joiner chain ∷ rest)) ≡ piece ∷ pieces_from chain 0 rest
unfolding pieces_from
first-piece chain piece rest h =
    h (joiner chain ∷ rest) ∙ rw (joiner-cuts chain) (ap (λ (l : List Token). l ∷ pieces_from chain 0 rest) (append-nil piece))

each-read : (chain : Chain) (read : List Token → Option Formula) (Part : List Token → Formula → Type 0) → ((ts : List Token) (f : Formula) → Part ts f → read ts ≡ Some f)
    → Uncut chain Part → (fs : List Formula) (ts : List Token) → AreJoined Part (joiner chain) ts fs → each read (pieces_from chain 0 ts) ≡ Some fs
unfolding each
each-read chain read Part complete u [] ts h = absurd h
each-read chain read Part complete u (f ∷ []) ts h = rw (last-piece chain ts (u.passes ts f h), complete ts f h) refl
each-read chain read Part complete u (f ∷ g ∷ fs) ts h =
    let (piece, rest, part, others, shape) = h in
    rw (shape, first-piece chain piece rest (u.passes piece f part), complete piece f part, each-read chain read Part complete u (g ∷ fs) rest others) refl

chain-read : (chain : Chain) (read : List Token → Option Formula) (Part : List Token → Formula → Type 0) → ((ts : List Token) (f : Formula) → Part ts f → read ts ≡ Some f)
    → Uncut chain Part → (ts : List Token) (f : Formula) → IsChain chain Part (joiner chain) ts f → chain_with chain read ts ≡ Some f
unfolding chain_with
chain-read chain read Part complete u ts f h =
    let (fs, are, same) = h in
    rw (each-read chain read Part complete u fs ts are, same) refl

-- joined parts pass where the joining token isn't cut
joined-passes : (chain : Chain) (n : ℕ) (between : Token) (Part : List Token → Formula → Type 0) → ((ts : List Token) (f : Formula) → Part ts f → Passes chain n ts)
    → cuts chain n between ≡ false → open_count between n ≡ n → (fs : List Formula) (ts : List Token) → AreJoined Part between ts fs → Passes chain n ts
joined-passes chain n between Part passes uncut level [] ts h = absurd h
joined-passes chain n between Part passes uncut level (f ∷ []) ts h = passes ts f h
joined-passes chain n between Part passes uncut level (f ∷ g ∷ fs) ts h =
    let (piece, rest, part, others, shape) = h in
    let after = joined-passes chain n between Part passes uncut level (g ∷ fs) rest others in
    let next : Passes chain n (between ∷ rest) = λ more. step chain n between (rest ++ more) uncut
    ∙ rw (level, after more) (before-before (between ∷ []) rest (pieces_from chain n more)) in
    rw shape (append-passes chain n piece (between ∷ rest) (passes piece f part) next)

-- ---- markers

marker-agrees : (read : List Token → Option Formula) (Rel : List Token → Formula → Type 0) → Agrees read Rel
    → Agrees (chain_with Disjunction (chain_with Conjunction (atom_with read))) (IsDisjunction Rel)
marker-agrees read Rel a =
    let atoms : Uncut Conjunction (IsAtomOf Rel) = record { passes = λ ts f h. atom-passes read Rel a Conjunction 0 ts f h } in
    let conjunctions : Uncut Disjunction (IsConjunction Rel) = record { passes = λ ts f h. joined-passes Disjunction 0 And (IsAtomOf Rel) (atom-passes read Rel a Disjunction 0) refl refl h.0 ts h.1 } in
    record {
      sound = chain-spelled Disjunction (chain_with Conjunction (atom_with read)) (IsConjunction Rel)
          (chain-spelled Conjunction (atom_with read) (IsAtomOf Rel) (atom-spelled read Rel a));
      complete = chain-read Disjunction (chain_with Conjunction (atom_with read)) (IsConjunction Rel)
          (chain-read Conjunction (atom_with read) (IsAtomOf Rel) (atom-read read Rel a) atoms) conjunctions;
      inner = λ chain n ts f h. joined-passes chain (suc n) Or (IsConjunction Rel)
          (λ us g k. joined-passes chain (suc n) And (IsAtomOf Rel) (atom-passes read Rel a chain (suc n)) (deep-uncut chain n And) refl k.0 us k.1)
          (deep-uncut chain n Or) refl h.0 ts h.1;
    }

pub depth-agrees : (depth : ℕ) → Agrees (chain_at Disjunction depth) (IsMarker depth)
unfolding chain_at part_at atom_at IsMarker
depth-agrees zero = marker-agrees (λ inner. None) (λ inner f. ⊥) none-agrees
depth-agrees (suc depth) = marker-agrees (chain_at Disjunction depth) (IsMarker depth) (depth-agrees depth)

pub reading_is_grammar : ReadingIsGrammar
reading_is_grammar dialect input f =
    let a = depth-agrees 64 in (
      λ e. let (ts, are, some) = bind_some (dialect_tokens dialect (trimmed_text is_white input)) _ _ e in (ts, are, a.sound ts f some),
      λ s. rw s.1 (a.complete s.0 f s.2),
    )

pub spelled_once : SpelledOnce
spelled_once dialect input f g s t = inside f g (sym ((reading_is_grammar dialect input f).1 s) ∙ (reading_is_grammar dialect input g).1 t)
