-- Every clause but an exclusion is read from some text.
use Rattle.std.proofs.Common.{◌≡◌, inl, ℕ, ◌<◌, List, [], ◌∷◌, ◌++◌, length, refl, sym, ap, subst, ◌∙◌, arith, Bool, true, false, true≢false, Some}
use Rattle.std.specs.Prelude.{All, ◌&&◌, ◌||◌, not, nat_lt, codes}
use Rattle.std.specs.List.{list_all}
use Rattle.std.proofs.lemmas.Bool.{lt-ltb}
use Rattle.std.proofs.lemmas.Bool.Decides.{nat_tests}
use Rattle.std.proofs.lemmas.List.Folds.{list_all-append}
use Rattle.std.proofs.lemmas.List.Elements.{All-head, All-tail}
use Rattle.ul_version.specs.Fields.{Fields, IsVersion}
use Rattle.ul_version.specs.Reading.{is_white}
use Rattle.ul_version.specs.Texts.{is_text_byte, version_text}
use Rattle.ul_version.proofs.ForCallers.{plain, version-read}
use Rattle.ul_specifier.specs.Clauses.{ClauseFields, IsClause, IsSpelled, has_local, is_compatible, is_equality, is_exclusion, may_have_local}
use Rattle.ul_specifier.specs.Grammar.{AreClauses, IsOperand, IsPiece, IsRunOperand, operator_text}
use Rattle.ul_specifier.specs.Reading.{clause_with, is_blank, is_version_byte, may_stand, specifiers_of, star_of, trimmed_text}
use Rattle.ul_specifier.specs.declared.clause.Op.{Op}
use Rattle.ul_specifier.specs.declared.clause.Op.TheVariants.{Equal, Unequal, AtLeast, AtMost, More, Less, Compatible, Distinct}
use Rattle.ul_specifier.proofs.Spelled.{all-joined, all-weaker, nothing-dropped, read, with-read}

-- the normal text of a clause's version, and `.*` where the clause asks for the front of a release
abbrev pub operand_text : Bool → Fields → List ℕ
operand_text true V = version_text V ++ codes ".*"
operand_text false V = version_text V

-- ---- bytes

text-version : (b : ℕ) → is_text_byte b ≡ true → is_version_byte b ≡ true
text-version b h = grind (arith, nat_tests)

version-white : (b : ℕ) → is_version_byte b ≡ true → not (is_white b) ≡ true
version-white b h = grind (arith, nat_tests)

version-blank : (b : ℕ) → is_version_byte b ≡ true → not (is_blank b) ≡ true
version-blank b h = grind (arith, nat_tests)

text-run : (V : Fields) → IsVersion V → list_all is_version_byte (version_text V) ≡ true
text-run V v = all-weaker is_text_byte is_version_byte (version_text V) text-version (plain V v).0

operand-run : (prefix : Bool) (V : Fields) → IsVersion V → list_all is_version_byte (operand_text prefix V) ≡ true
operand-run true V v = all-joined is_version_byte (version_text V) (codes ".*") (text-run V v) refl
operand-run false V v = text-run V v

star-not-plain : (text front : List ℕ) → list_all is_text_byte text ≡ true → text ≡ front ++ codes ".*" → ⊥
star-not-plain text front h e = true≢false (sym h ∙ ap (list_all is_text_byte) e ∙ list_all-append is_text_byte front (codes ".*") ∙ never (list_all is_text_byte front))
  where
    never : (b : Bool) → (b && false) ≡ false
    never true = refl
    never false = refl

-- ---- one clause

stands : (op : Op) (V : Fields) → is_exclusion op ≡ false → (has_local V ≡ true → may_have_local op ≡ true)
    → (is_compatible op ≡ true → 1 < length V.release) → may_stand op V ≡ true
stands op V spelled local long =
    parts (is_exclusion op) (is_equality op) (has_local V) (is_compatible op) (nat_lt 1 (length V.release)) spelled local
    (λ e. lt-ltb 1 (length V.release) (long e))
  where
    parts : (x e l m k : Bool) → x ≡ false → (l ≡ true → (e || x) ≡ true) → (m ≡ true → k ≡ true) → (not x && ((e || not l) && (not m || k))) ≡ true
    parts true e l m k s f g = absurd (true≢false s)
    parts false true l true k s f g = g refl
    parts false true l false k s f g = refl
    parts false false true m k s f g = absurd (true≢false (sym (f refl)))
    parts false false false true k s f g = g refl
    parts false false false false k s f g = refl

equality-star : (op : Op) → is_equality op ≡ true → star_of op ≡ Some true
equality-star Equal h = refl
equality-star Unequal h = refl
equality-star AtLeast h = absurd (true≢false (sym h))
equality-star AtMost h = absurd (true≢false (sym h))
equality-star More h = absurd (true≢false (sym h))
equality-star Less h = absurd (true≢false (sym h))
equality-star Compatible h = absurd (true≢false (sym h))
equality-star Distinct h = absurd (true≢false (sym h))

operand-is : (op : Op) (V : Fields) (prefix : Bool) → IsClause (record { op = op; version = V; prefix = prefix }) → is_exclusion op ≡ false
    → IsOperand op (operand_text prefix V) (record { op = op; version = V; prefix = prefix })
operand-is op V true is spelled =
    let both = is.prefix refl in
    IsOperand.version_and_star (version_text V) V true refl (version-read V is.version) both.1 (equality-star op both.0) refl
operand-is op V false is spelled =
    IsOperand.version_alone V (λ ends. star-not-plain (version_text V) ends.0 (plain V is.version).0 ends.1) (version-read V is.version)
    (stands op V spelled is.local is.compatible) refl

-- the text of a clause after its operator
abbrev pub clause_operand : ClauseFields → List ℕ
clause_operand c = operand_text c.prefix c.version

clause-run : (c : ClauseFields) → IsClause c → IsSpelled c → IsRunOperand c.op (clause_operand c) c
clause-run c is spelled = (operand-run c.prefix c.version is.version, operand-is c.op c.version c.prefix is spelled)

-- each clause but an exclusion is read from its operand
pub clause-read : (c : ClauseFields) → IsClause c → IsSpelled c → clause_with c.op (clause_operand c) ≡ Some c
clause-read c is spelled =
    let run = clause-run c is spelled in
    let same : trimmed_text is_white (clause_operand c) ≡ clause_operand c =
    nothing-dropped is_white (clause_operand c) (all-weaker is_version_byte (λ b. not (is_white b)) (clause_operand c) version-white run.0) in
    with-read c.op (clause_operand c) c (subst (λ t. IsRunOperand c.op t c) (sym same) run)

-- ---- lists

-- a clause's operator and operand
abbrev pub clause_text : ClauseFields → List ℕ
clause_text c = operator_text c.op ++ clause_operand c

-- clauses with a comma between each two
abbrev pub clauses_text : List ClauseFields → List ℕ
clauses_text [] = []
clauses_text (c ∷ []) = clause_text c
clauses_text (c ∷ d ∷ cs) = clause_text c ++ (codes "," ++ clauses_text (d ∷ cs))

operator-blank : (op : Op) → list_all (λ b. not (is_blank b)) (operator_text op) ≡ true
operator-blank Equal = refl
operator-blank Unequal = refl
operator-blank AtLeast = refl
operator-blank AtMost = refl
operator-blank More = refl
operator-blank Less = refl
operator-blank Compatible = refl
operator-blank Distinct = refl

operator-white : (op : Op) → list_all (λ b. not (is_white b)) (operator_text op) ≡ true
operator-white Equal = refl
operator-white Unequal = refl
operator-white AtLeast = refl
operator-white AtMost = refl
operator-white More = refl
operator-white Less = refl
operator-white Compatible = refl
operator-white Distinct = refl

clause-piece : (c : ClauseFields) → IsClause c → IsSpelled c → IsPiece (clause_text c) c
clause-piece c is spelled =
    let run = clause-run c is spelled in
    let free : list_all (λ b. not (is_blank b)) (clause_text c) ≡ true =
    all-joined (λ b. not (is_blank b)) (operator_text c.op) (clause_operand c) (operator-blank c.op)
    (all-weaker is_version_byte (λ b. not (is_blank b)) (clause_operand c) version-blank run.0) in
    ([], clause_operand c, refl, run, nothing-dropped is_blank (clause_text c) free)

clause-white : (c : ClauseFields) → IsClause c → IsSpelled c → list_all (λ b. not (is_white b)) (clause_text c) ≡ true
clause-white c is spelled =
    all-joined (λ b. not (is_white b)) (operator_text c.op) (clause_operand c) (operator-white c.op)
    (all-weaker is_version_byte (λ b. not (is_white b)) (clause_operand c) version-white (clause-run c is spelled).0)

clauses-white : (cs : List ClauseFields) → All IsClause cs → All IsSpelled cs → list_all (λ b. not (is_white b)) (clauses_text cs) ≡ true
clauses-white [] all so = refl
clauses-white (c ∷ []) all so = clause-white c (All-head IsClause c [] all) (All-head IsSpelled c [] so)
clauses-white (c ∷ d ∷ cs) all so =
    all-joined (λ b. not (is_white b)) (clause_text c) (codes "," ++ clauses_text (d ∷ cs)) (clause-white c (All-head IsClause c (d ∷ cs) all) (All-head IsSpelled c (d ∷ cs) so))
    (clauses-white (d ∷ cs) (All-tail IsClause c (d ∷ cs) all) (All-tail IsSpelled c (d ∷ cs) so))

clauses-are : (cs : List ClauseFields) → All IsClause cs → All IsSpelled cs → AreClauses (clauses_text cs) cs
clauses-are [] all so = refl
clauses-are (c ∷ []) all so = inl (clause-piece c (All-head IsClause c [] all) (All-head IsSpelled c [] so))
clauses-are (c ∷ d ∷ cs) all so = (
  clause_text c,
  clauses_text (d ∷ cs),
  clause-piece c (All-head IsClause c (d ∷ cs) all) (All-head IsSpelled c (d ∷ cs) so),
  clauses-are (d ∷ cs) (All-tail IsClause c (d ∷ cs) all) (All-tail IsSpelled c (d ∷ cs) so),
  refl,
)

-- each list of clauses but exclusions is read from its text
pub clauses-read : (cs : List ClauseFields) → All IsClause cs → All IsSpelled cs → specifiers_of (clauses_text cs) ≡ Some cs
clauses-read cs all so =
    let same : trimmed_text is_white (clauses_text cs) ≡ clauses_text cs = nothing-dropped is_white (clauses_text cs) (clauses-white cs all so) in
    read (clauses_text cs) cs (subst (λ t. AreClauses t cs) (sym same) (clauses-are cs all so))
