-- Reading agrees with the grammar.
use Rattle.std.proofs.Common.{◌≡◌, ◌⊎◌, inl, inr, ℕ, zero, suc, ◌-◌, ◌<◌, List, [], ◌∷◌, ◌++◌, length, drop, take, refl, sym, ap, subst, ◌∙◌, arith, Bool, true, false, true≢false, Option, Some, None}
use Rattle.std.specs.Prelude.{All, not, ◌==◌, nat_eq, codes}
use Rattle.std.specs.List.{list_all, slice_split, starts_with, ends_with, join_with_byte}
use borrow.Author.Tests.{eqb-true}
use Rattle.std.specs.Cmp.Lexicographic.{same_text, other_text}
use Rattle.std.proofs.Math.Seq.{take-append_seam}
use Rattle.std.proofs.lemmas.Bool.{and_parts, and_from, cases_Bool}
use Rattle.std.proofs.lemmas.Bool.Decides.{nat_tests}
use Rattle.std.proofs.lemmas.List.{length-append, take-append-drop}
use Rattle.std.proofs.lemmas.List.Folds.{list_all-append}
use Rattle.std.proofs.lemmas.List.Prefix.{end_rest}
use Rattle.std.proofs.lemmas.List.Splits.{join_with_byte-slice_split, length-slice_split, slice_split_at, slice_split_none}
use Rattle.ul_version.specs.Fields.{Fields}
use Rattle.ul_version.specs.Reading.{begins, is_white, or_else, version_of}
use Rattle.ul_version.proofs.ForCallers.{bind_some, cond_some}
use Rattle.ul_specifier.specs.Clauses.{ClauseFields, IsSpelled, is_bare, is_exclusion}
use Rattle.ul_specifier.specs.Grammar.{AreClauses, EndsInStar, IsOperand, IsPiece, IsRunOperand, operator_text, Spells, SpellsClause}
use Rattle.ul_specifier.specs.Reading.{after_all, after_operator, before_all, before_end, clause_after, clause_of, clause_with, clauses_of, is_blank, is_comma, is_version_byte, list_pieces, may_stand, operator, specifiers_of, star_of, star_clause, trimmed_text, unless_last, plain_clause, version_clause}
use Rattle.ul_specifier.specs.declared.clause.Op.{Op}
use Rattle.ul_specifier.specs.declared.clause.Op.TheVariants.{Equal, Unequal, AtLeast, AtMost, More, Less, Compatible, Distinct}
use Rattle.ul_specifier.proofs.Texts.{clauses_of-each, list_of, listed_last, listed_more}

-- ---- tests of each byte

-- what passes one test passes a weaker one
pub all-weaker : (p q : ℕ → Bool) (xs : List ℕ) → ((b : ℕ) → p b ≡ true → q b ≡ true) → list_all p xs ≡ true → list_all q xs ≡ true
all-weaker p q [] f h = refl
all-weaker p q (x ∷ xs) f h =
    let both = and_parts (p x) (list_all p xs) h in and_from (q x) (list_all q xs) (f x both.0) (all-weaker p q xs f both.1)

-- two parts that pass pass together
pub all-joined : (p : ℕ → Bool) (xs ys : List ℕ) → list_all p xs ≡ true → list_all p ys ≡ true → list_all p (xs ++ ys) ≡ true
all-joined p xs ys h g = list_all-append p xs ys ∙ and_from (list_all p xs) (list_all p ys) h g

-- a byte that isn't a comma
abbrev no_comma : ℕ → Bool
no_comma b = not (is_comma b)

falls : (b : Bool) → not b ≡ true → b ≡ false
falls true e = absurd (true≢false (sym e))
falls false e = refl

none-pass : (xs : List ℕ) → list_all no_comma xs ≡ true → All (λ x. is_comma x ≡ false) xs
none-pass [] h k d l = absurd (omega arith)
none-pass (x ∷ xs) h zero d l = falls (is_comma x) (and_parts (no_comma x) (list_all no_comma xs) h).0
none-pass (x ∷ xs) h (suc k) d l = none-pass xs (and_parts (no_comma x) (list_all no_comma xs) h).1 k d (omega arith)

-- ---- blanks

-- what was dropped in front
pub front-dropped : (test : ℕ → Bool) (text : List ℕ) → (front : List ℕ) × (list_all test front ≡ true) × (text ≡ front ++ after_all test text)
front-dropped test [] = ([], refl, refl)
front-dropped test (b ∷ text) = elim (cases_Bool (test b)) [
  | inl passes ↦
      let more = front-dropped test text in
      (b ∷ more.0, and_from (test b) (list_all test more.0) passes more.1, rw passes (ap (λ t. b ∷ t) more.2))
  | inr fails ↦ ([], refl, rw fails refl)
]

end-dropped_at : (test : ℕ → Bool) (b : ℕ) (kept back : List ℕ) → list_all test back ≡ true
    → (end : List ℕ) × (list_all test end ≡ true) × (b ∷ (kept ++ back) ≡ unless_last test b kept ++ end)
end-dropped_at test b [] back h = elim (cases_Bool (test b)) [
  | inl passes ↦ (b ∷ back, and_from (test b) (list_all test back) passes h, rw passes refl)
  | inr fails ↦ (back, h, rw fails refl)
]
end-dropped_at test b (c ∷ kept) back h = (back, h, refl)

-- what was dropped at the end
pub end-dropped : (test : ℕ → Bool) (text : List ℕ) → (end : List ℕ) × (list_all test end ≡ true) × (text ≡ before_all test text ++ end)
end-dropped test [] = ([], refl, refl)
end-dropped test (b ∷ text) =
    let more = end-dropped test text in
    let here = end-dropped_at test b (before_all test text) more.0 more.1 in
    (here.0, here.1, ap (λ t. b ∷ t) more.2 ∙ here.2)

-- a text that has none of these bytes is left as it is
pub nothing-dropped : (test : ℕ → Bool) (text : List ℕ) → list_all (λ b. not (test b)) text ≡ true → trimmed_text test text ≡ text
nothing-dropped test text h = ap (before_all test) (front-kept test text h) ∙ end-kept test text h
  where
    fails : (b : Bool) → not b ≡ true → b ≡ false
    fails true e = absurd (true≢false (sym e))
    fails false e = refl

    front-kept : (test : ℕ → Bool) (text : List ℕ) → list_all (λ b. not (test b)) text ≡ true → after_all test text ≡ text
    front-kept test [] h = refl
    front-kept test (b ∷ text) h = rw (fails (test b) (and_parts (not (test b)) (list_all (λ b. not (test b)) text) h).0) refl

    last-kept : (test : ℕ → Bool) (b : ℕ) (text : List ℕ) → test b ≡ false → unless_last test b text ≡ b ∷ text
    last-kept test b [] e = rw e refl
    last-kept test b (c ∷ text) e = refl

    end-kept : (test : ℕ → Bool) (text : List ℕ) → list_all (λ b. not (test b)) text ≡ true → before_all test text ≡ text
    end-kept test [] h = refl
    end-kept test (b ∷ text) h =
        let both = and_parts (not (test b)) (list_all (λ b. not (test b)) text) h in
        ap (unless_last test b) (end-kept test text both.1) ∙ last-kept test b text (fails (test b) both.0)

-- what stands after blanks and begins with another byte is what is left of it
blanks-skipped : (test : ℕ → Bool) (blanks text : List ℕ) → list_all test blanks ≡ true → begins test text ≡ false → after_all test (blanks ++ text) ≡ text
blanks-skipped test [] [] h e = refl
blanks-skipped test [] (b ∷ text) h e = rw e refl
blanks-skipped test (b ∷ blanks) text h e =
    let both = and_parts (test b) (list_all test blanks) h in rw both.0 (blanks-skipped test blanks text both.1 e)

-- ---- words at the ends

front-found : (word text : List ℕ) → starts_with nat_eq text word ≡ true → text ≡ word ++ drop (length word) text
front-found word text h = sym (take-append-drop (length word) text) ∙ ap (λ t. t ++ drop (length word) text) (sym (same_text word (take (length word) text) (sym h)))

end-found : (word text : List ℕ) → ends_with nat_eq text word ≡ true → text ≡ take (length text - length word) text ++ word
end-found word text h =
    sym (take-append-drop (length text - length word) text)
    ∙ ap (λ t. take (length text - length word) text ++ t) (sym (same_text word (drop (length text - length word) text) (sym h)))

-- a text ends with a word, with this before it, or doesn't
abbrev IsCut : List ℕ → List ℕ → Option (List ℕ) → Type 0
IsCut word text (Some front) = text ≡ front ++ word
IsCut word text None = ((front : List ℕ) × (text ≡ front ++ word)) → ⊥

length-front : (front star : List ℕ) → length (front ++ star) - length star ≡ length front
length-front front star = omega (arith, length-append front star)

-- the text before a word that it ends with
end-kept : (front star : List ℕ) → before_end star (front ++ star) ≡ Some front
end-kept front star = elim (cases_Bool (ends_with nat_eq (front ++ star) star)) [
  | inl ends ↦ rw ends (ap Some (ap (λ n. take n (front ++ star)) (length-front front star) ∙ take-append_seam front star))
  | inr other ↦ absurd (other_text star (drop (length (front ++ star) - length star) (front ++ star)) (sym other) (sym (end_rest (front ++ star) star front refl)))
]

not-end : (word text front : List ℕ) → ends_with nat_eq text word ≡ false → text ≡ front ++ word → ⊥
not-end word text front other e = other_text word (drop (length text - length word) text) (sym other) (sym (end_rest text word front e))

end-cut : (word text : List ℕ) → IsCut word text (before_end word text)
end-cut word text = elim (cases_Bool (ends_with nat_eq text word)) [
  | inl ends ↦ rw ends (end-found word text ends)
  | inr other ↦ rw other (λ ends. not-end word text ends.0 other ends.1)
]

no-cut : (word text : List ℕ) → (((front : List ℕ) × (text ≡ front ++ word)) → ⊥) → before_end word text ≡ None
no-cut word text never = elim (cases_Bool (ends_with nat_eq text word)) [
  | inl ends ↦ absurd (never (take (length text - length word) text, end-found word text ends))
  | inr other ↦ rw other refl
]

-- ---- operands

inside : {X : Type 0} (x y : X) → Some x ≡ Some y → x ≡ y
inside x y e = cc e

unstarred-spelled : (op : Op) (text : List ℕ) (V : Fields) (c : ClauseFields) → (EndsInStar text → ⊥) → version_of text ≡ Some V → plain_clause op V ≡ Some c → IsOperand op text c
unfolding plain_clause
unstarred-spelled op text V c never is e =
    let stands = cond_some (may_stand op V) (Some (record { op = op; version = V; prefix = false })) c e in
    IsOperand.version_alone V never is stands.0 (sym (inside _ c stands.1))

starred-spelled : (op : Op) (text front : List ℕ) (V : Fields) (c : ClauseFields) → text ≡ front ++ codes ".*" → version_of front ≡ Some V → star_clause op V ≡ Some c → IsOperand op text c
unfolding star_clause
starred-spelled op text front V c ends is e =
    let star = bind_some (star_of op) _ c e in
    let stands = cond_some (is_bare V) (Some (record { op = op; version = V; prefix = star.0 })) c star.2 in
    IsOperand.version_and_star front V star.0 ends is stands.0 star.1 (sym (inside _ c stands.1))

operand-spelled : (op : Op) (text : List ℕ) (front : Option (List ℕ)) (c : ClauseFields) → IsCut (codes ".*") text front → version_clause op text front ≡ Some c → IsOperand op text c
operand-spelled op text None c never e = let read = bind_some (version_of text) _ c e in unstarred-spelled op text read.0 c never read.1 read.2
operand-spelled op text (Some front) c ends e = let read = bind_some (version_of front) _ c e in starred-spelled op text front read.0 c ends read.1 read.2

-- what is read after an operator is an operand
pub after-spelled : (op : Op) (text : List ℕ) (c : ClauseFields) → clause_after op text ≡ Some c → IsRunOperand op text c
unfolding clause_after
after-spelled op text c e =
    let run = cond_some (list_all is_version_byte text) (version_clause op text (before_end (codes ".*") text)) c e in
    (run.0, operand-spelled op text (before_end (codes ".*") text) c (end-cut (codes ".*") text) run.1)

-- an operand is read after its operator
pub after-read : (op : Op) (text : List ℕ) (c : ClauseFields) → list_all is_version_byte text ≡ true → IsOperand op text c → clause_after op text ≡ Some c
unfolding clause_after plain_clause star_clause
after-read op text c run (IsOperand.version_alone V never is stands so) = rw (run, no-cut (codes ".*") text never, is, stands) (ap Some (sym so))
after-read op text c run (IsOperand.version_and_star front V prefix ends is bare star so) =
    let cut : before_end (codes ".*") text ≡ Some front = ap (before_end (codes ".*")) ends ∙ end-kept front (codes ".*") in
    rw (run, cut, is, star, bare) (ap Some (sym so))

operand-op : (op : Op) (text : List ℕ) (c : ClauseFields) → IsOperand op text c → c.op ≡ op
operand-op op text c (IsOperand.version_alone V never is stands so) = ap (λ (d : ClauseFields). d.op) so
operand-op op text c (IsOperand.version_and_star front V prefix ends is bare star so) = ap (λ (d : ClauseFields). d.op) so

-- no operand stands with an exclusion
operand-spelled_op : (op : Op) (text : List ℕ) (c : ClauseFields) → IsOperand op text c → is_exclusion op ≡ false
operand-spelled_op op text c (IsOperand.version_alone V never is stands so) = falls (is_exclusion op) (and_parts (not (is_exclusion op)) _ stands).0
operand-spelled_op op text c (IsOperand.version_and_star front V prefix ends is bare star so) = starred op star
  where
    starred : (op : Op) {prefix : Bool} → star_of op ≡ Some prefix → is_exclusion op ≡ false
    starred Equal e = refl
    starred Unequal e = refl
    starred AtLeast e = refl
    starred AtMost e = refl
    starred More e = refl
    starred Less e = refl
    starred Compatible e = refl
    starred Distinct e = cc e

-- what is read after an operator is no exclusion
after-no_exclusion : (op : Op) (text : List ℕ) (c : ClauseFields) → clause_after op text ≡ Some c → IsSpelled c
after-no_exclusion op text c e =
    let is = (after-spelled op text c e).1 in
    ap is_exclusion (operand-op op text c is) ∙ operand-spelled_op op text c is

-- ---- operators

-- an operator and what follows it are the text
abbrev IsOperator : List ℕ → Op × List ℕ → Type 0
IsOperator text o = text ≡ operator_text o.0 ++ o.1

one-operator : (op : Op) (text : List ℕ) (o : Op × List ℕ) → after_operator (operator_text op) op text ≡ Some o → IsOperator text o
one-operator op text o e = elim (cases_Bool (starts_with nat_eq text (operator_text op))) [
  | inl starts ↦
      let so : (op, drop (length (operator_text op)) text) ≡ o = inside _ o (rw starts at e) in
      subst (IsOperator text) so (front-found (operator_text op) text starts)
  | inr other ↦ absurd (none-some (rw other at e))
]
  where
    none-some : {X : Type 0} {x : X} → None ≡ Some x → ⊥
    none-some e = cc e

either-some : {X : Type 0} (x y : Option X) (z : X) → or_else x y ≡ Some z → (x ≡ Some z) ⊎ (y ≡ Some z)
either-some None y z e = inr e
either-some (Some x) y z e = inl e

operator-found : (text : List ℕ) (o : Op × List ℕ) → operator text ≡ Some o → IsOperator text o
unfolding operator
operator-found text o e =
    try Equal e (λ e. try Unequal e (λ e. try AtLeast e (λ e. try AtMost e (λ e. try Compatible e (λ e. try More e (λ e. one-operator Less text o e))))))
  where
    try : (op : Op) {rest : Option (Op × List ℕ)} → or_else (after_operator (operator_text op) op text) rest ≡ Some o → (rest ≡ Some o → IsOperator text o) → IsOperator text o
    try op {rest} e next = elim (either-some (after_operator (operator_text op) op text) rest o e) [
      | inl here ↦ one-operator op text o here
      | inr later ↦ next later
    ]

-- `=`
abbrev pub is_equals : ℕ → Bool
is_equals b = b == 61

other-way : (b : ℕ) → is_equals b ≡ false → nat_eq 61 b ≡ false
other-way b h = elim (cases_Bool (nat_eq 61 b)) [
  | inl same ↦ absurd (true≢false (sym (ap is_equals (sym (eqb-true 61 b same))) ∙ h))
  | inr other ↦ other
]

-- an operator in front is read
pub operator-read : (op : Op) (rest : List ℕ) → is_exclusion op ≡ false → begins is_equals rest ≡ false → operator (operator_text op ++ rest) ≡ Some (op, rest)
unfolding operator
operator-read Equal rest s h = refl
operator-read Unequal rest s h = refl
operator-read AtLeast rest s h = refl
operator-read AtMost rest s h = refl
operator-read Compatible rest s h = refl
operator-read More [] s h = refl
operator-read More (b ∷ rest) s h = rw (other-way b h) refl
operator-read Less [] s h = refl
operator-read Less (b ∷ rest) s h = rw (other-way b h) refl
operator-read Distinct rest s h = absurd (true≢false s)

-- ---- one clause

not-equals : (b : ℕ) → is_version_byte b ≡ true → is_equals b ≡ false
not-equals b h = grind (arith, nat_tests)

not-blank : (b : ℕ) → is_version_byte b ≡ true → is_blank b ≡ false
not-blank b h = grind (arith, nat_tests)

blank-not-equals : (b : ℕ) → is_blank b ≡ true → is_equals b ≡ false
blank-not-equals b h = grind (arith, nat_tests)

begins-other : (test : ℕ → Bool) (text : List ℕ) → ((b : ℕ) → is_version_byte b ≡ true → test b ≡ false) → list_all is_version_byte text ≡ true → begins test text ≡ false
begins-other test [] f h = refl
begins-other test (b ∷ text) f h = f b (and_parts (is_version_byte b) (list_all is_version_byte text) h).0

no-equals : (blanks operand : List ℕ) → list_all is_blank blanks ≡ true → list_all is_version_byte operand ≡ true → begins is_equals (blanks ++ operand) ≡ false
no-equals [] operand h run = begins-other is_equals operand not-equals run
no-equals (b ∷ blanks) operand h run = blank-not-equals b (and_parts (is_blank b) (list_all is_blank blanks) h).0

clause-spelled : (text : List ℕ) (c : ClauseFields) → clause_of text ≡ Some c → IsPiece text c
unfolding clause_of
clause-spelled text c e =
    let found = bind_some (operator (trimmed_text is_blank text)) _ c e in
    let op = found.0.0 in
    let rest = found.0.1 in
    let blanks = front-dropped is_blank rest in
    let operand = after-spelled op (after_all is_blank rest) c found.2 in
    let same : c.op ≡ op = operand-op op (after_all is_blank rest) c operand.1 in
    let whole : trimmed_text is_blank text ≡ operator_text op ++ rest = operator-found (trimmed_text is_blank text) found.0 found.1 in (
      blanks.0,
      after_all is_blank rest,
      blanks.1,
      subst (λ o. IsRunOperand o (after_all is_blank rest) c) (sym same) operand,
      whole ∙ ap (λ t. operator_text op ++ t) blanks.2 ∙ ap (λ o. operator_text o ++ (blanks.0 ++ after_all is_blank rest)) (sym same),
    )

one-read : (text : List ℕ) (c : ClauseFields) → IsPiece text c → clause_of text ≡ Some c
unfolding clause_of
one-read text c (blanks, operand, h, (run, is), whole) =
    let found : operator (trimmed_text is_blank text) ≡ Some (c.op, blanks ++ operand) =
    ap operator whole ∙ operator-read c.op (blanks ++ operand) (operand-spelled_op c.op operand c is) (no-equals blanks operand h run) in
    rw (found, blanks-skipped is_blank blanks operand h (begins-other is_blank operand not-blank run)) (after-read c.op operand c run is)

-- ---- no comma in a clause

version-no-comma : (b : ℕ) → is_version_byte b ≡ true → no_comma b ≡ true
version-no-comma b h = grind (arith, nat_tests)

blank-no-comma : (b : ℕ) → is_blank b ≡ true → no_comma b ≡ true
blank-no-comma b h = grind (arith, nat_tests)

operator-no-comma : (op : Op) → list_all no_comma (operator_text op) ≡ true
operator-no-comma Equal = refl
operator-no-comma Unequal = refl
operator-no-comma AtLeast = refl
operator-no-comma AtMost = refl
operator-no-comma More = refl
operator-no-comma Less = refl
operator-no-comma Compatible = refl
operator-no-comma Distinct = refl

piece-no-comma : (text : List ℕ) (c : ClauseFields) → IsPiece text c → list_all no_comma text ≡ true
piece-no-comma text c (blanks, operand, h, (run, is), whole) =
    let front = front-dropped is_blank text in
    let end = end-dropped is_blank (after_all is_blank text) in
    let inner : list_all no_comma (trimmed_text is_blank text) ≡ true =
    ap (list_all no_comma) whole
    ∙ all-joined no_comma (operator_text c.op) (blanks ++ operand) (operator-no-comma c.op)
    (all-joined no_comma blanks operand (all-weaker is_blank no_comma blanks blank-no-comma h) (all-weaker is_version_byte no_comma operand version-no-comma run)) in
    let back : list_all no_comma (after_all is_blank text) ≡ true =
    ap (list_all no_comma) end.2 ∙ all-joined no_comma (trimmed_text is_blank text) end.0 inner (all-weaker is_blank no_comma end.0 blank-no-comma end.1) in
    ap (list_all no_comma) front.2 ∙ all-joined no_comma front.0 (after_all is_blank text) (all-weaker is_blank no_comma front.0 blank-no-comma front.1) back

-- a clause's text isn't empty
piece-filled : (text : List ℕ) (c : ClauseFields) → IsPiece text c → 0 < length text
piece-filled [] c (blanks, operand, h, is, whole) = absurd (empty-operator c.op (blanks ++ operand) (operand-spelled_op c.op operand c is.1) whole)
  where
    empty-operator : (op : Op) (rest : List ℕ) → is_exclusion op ≡ false → [] ≡ operator_text op ++ rest → ⊥
    empty-operator Equal rest s e = cc e
    empty-operator Unequal rest s e = cc e
    empty-operator AtLeast rest s e = cc e
    empty-operator AtMost rest s e = cc e
    empty-operator More rest s e = cc e
    empty-operator Less rest s e = cc e
    empty-operator Compatible rest s e = cc e
    empty-operator Distinct rest s e = true≢false s
piece-filled (b ∷ text) c is = omega arith

-- ---- lists

clauses-nil : (cs : List ClauseFields) → Some [] ≡ Some cs → AreClauses [] cs
clauses-nil [] e = refl
clauses-nil (c ∷ cs) e = absurd (nil-cons e)
  where
    nil-cons : Some [] ≡ Some (c ∷ cs) → ⊥
    nil-cons e = cc e

clauses-first : (piece rest : List ℕ) (c : ClauseFields) (ds cs : List ClauseFields) → IsPiece piece c → AreClauses rest ds → c ∷ ds ≡ cs → AreClauses (piece ++ (44 ∷ rest)) cs
clauses-first piece rest c [] cs is none so =
    let empty : rest ≡ [] = none in
    subst (AreClauses (piece ++ (44 ∷ rest))) so (inr (piece, is, ap (λ t. piece ++ (44 ∷ t)) empty))
clauses-first piece rest c (d ∷ ds) cs is more so = subst (AreClauses (piece ++ (44 ∷ rest))) so (piece, rest, is, more, refl)

list-spelled : (pieces : List (List ℕ)) (cs : List ClauseFields) → clauses_of (list_pieces pieces) ≡ Some cs → AreClauses (join_with_byte 44 pieces) cs
unfolding clauses_of
list-spelled [] cs e = clauses-nil cs e
list-spelled ([] ∷ []) cs e = clauses-nil cs e
list-spelled ((b ∷ piece) ∷ []) cs e =
    let first = bind_some (clause_of (b ∷ piece)) _ cs e in
    subst (AreClauses (b ∷ piece)) (inside (first.0 ∷ []) cs first.2) (inl (clause-spelled (b ∷ piece) first.0 first.1))
list-spelled (piece ∷ next ∷ pieces) cs e =
    let first = bind_some (clause_of piece) _ cs (ap clauses_of (sym (listed_more piece (next ∷ pieces) (omega arith))) ∙ e) in
    let others = bind_some (clauses_of (list_pieces (next ∷ pieces))) _ cs first.2 in
    clauses-first piece (join_with_byte 44 (next ∷ pieces)) first.0 others.0 cs (clause-spelled piece first.0 first.1)
    (list-spelled (next ∷ pieces) others.0 others.1) (inside (first.0 ∷ others.0) cs others.2)

one-clause : (piece : List ℕ) (c : ClauseFields) → clause_of piece ≡ Some c → clauses_of (piece ∷ []) ≡ Some (c ∷ [])
unfolding clauses_of
one-clause piece c e = rw e refl

list-read : (text : List ℕ) (cs : List ClauseFields) → AreClauses text cs → list_of text ≡ Some cs
unfolding clauses_of
list-read text [] none = let empty : text ≡ [] = none in rw empty refl
list-read text (c ∷ []) (inl is) =
    rw (slice_split_none is_comma text (none-pass text (piece-no-comma text c is)), listed_last text (piece-filled text c is), one-read text c is) refl
list-read text (c ∷ []) (inr (piece, is, whole)) =
    ap list_of whole
    ∙ ap (λ pieces. clauses_of (list_pieces pieces)) (slice_split_at is_comma piece 44 [] (none-pass piece (piece-no-comma piece c is)) refl)
    ∙ ap clauses_of (listed_more piece ([] ∷ []) (omega arith))
    ∙ one-clause piece c (one-read piece c is)
list-read text (c ∷ d ∷ cs) (piece, rest, is, more, whole) =
    let filled : 0 < length (slice_split is_comma rest) = omega (arith, length-slice_split is_comma rest) in
    rw (
      whole,
      slice_split_at is_comma piece 44 rest (none-pass piece (piece-no-comma piece c is)) refl,
      listed_more piece (slice_split is_comma rest) filled,
      one-read piece c is,
      list-read rest (d ∷ cs) more,
    ) refl

-- ---- whole texts

pub spelled : (text : List ℕ) (cs : List ClauseFields) → specifiers_of text ≡ Some cs → Spells text cs
unfolding specifiers_of
spelled text cs e =
    subst (λ t. AreClauses t cs) (join_with_byte-slice_split 44 (trimmed_text is_white text)) (list-spelled (slice_split is_comma (trimmed_text is_white text)) cs e)

pub read : (text : List ℕ) (cs : List ClauseFields) → Spells text cs → specifiers_of text ≡ Some cs
unfolding specifiers_of
read text cs h = list-read (trimmed_text is_white text) cs h

pub one-spelled : (op : Op) (text : List ℕ) (c : ClauseFields) → clause_with op text ≡ Some c → SpellsClause op text c
unfolding clause_with
one-spelled op text c e = after-spelled op (trimmed_text is_white text) c e

pub with-read : (op : Op) (text : List ℕ) (c : ClauseFields) → SpellsClause op text c → clause_with op text ≡ Some c
unfolding clause_with
with-read op text c h = after-read op (trimmed_text is_white text) c h.0 h.1

-- no exclusion is read
pub clause_with-spelled : (op : Op) (text : List ℕ) (c : ClauseFields) → clause_with op text ≡ Some c → IsSpelled c
unfolding clause_with
clause_with-spelled op text c e = after-no_exclusion op _ c e

clause_of-spelled : (text : List ℕ) (c : ClauseFields) → clause_of text ≡ Some c → IsSpelled c
unfolding clause_of
clause_of-spelled text c e =
    let (o, is, some) = bind_some (operator (trimmed_text is_blank text)) _ c e in after-no_exclusion o.0 _ c some

pub specifiers-spelled : (text : List ℕ) (cs : List ClauseFields) → specifiers_of text ≡ Some cs → All IsSpelled cs
unfolding specifiers_of
specifiers-spelled text cs e = clauses_of-each IsSpelled clause_of-spelled _ cs e

-- what is read in two ways is one
pub one_of : {X : Type 0} {x y : X} → Some x ≡ Some y → x ≡ y
one_of e = cc e
