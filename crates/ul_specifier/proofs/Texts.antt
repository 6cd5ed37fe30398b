-- Lemmas on the pieces of a specifier's text.
use Rattle.std.proofs.Common.{◌≡◌, ℕ, zero, suc, ◌<◌, List, [], ◌∷◌, ◌++◌, length, refl, sym, ap, subst, ◌∙◌, arith, Bool, true, false, true≢false, Option, Some, None}
use Rattle.std.specs.Prelude.{All, ◌&&◌, ◌||◌, not, ◌==◌}
use Rattle.std.proofs.lemmas.List.{append-nil, append_assoc}
use Rattle.std.proofs.lemmas.Bool.{and_parts, ltb-true}
use Rattle.std.proofs.lemmas.List.Splits.{length-slice_split}
use Rattle.std.proofs.lemmas.List.Elements.{All-cons, All-nil}
use Rattle.std.specs.List.{list_all, slice_split}
use Rattle.ul_version.specs.Fields.{Fields, IsVersion}
use Rattle.ul_version.specs.Reading.{◌>>=◌, version_of}
use Rattle.ul_version.proofs.ForCallers.{bind_some, cond_some, versions}
use Rattle.ul_specifier.specs.Clauses.{ClauseFields, IsClause, has_local, is_bare, is_compatible, is_equality, is_exclusion}
use Rattle.ul_specifier.specs.Reading.{before_all, is_version_byte, is_comma, list_pieces, clause_of, clauses_of, clause_after, clause_with, version_clause, star_clause, plain_clause, star_of, may_stand, operator, specifiers_of}
use Rattle.ul_specifier.specs.declared.clause.Op.{Op}
use Rattle.ul_specifier.specs.declared.clause.Op.TheVariants.{Equal, Unequal, AtLeast, AtMost, More, Less, Compatible, Distinct}
use Rattle.ul_specifier.proofs.Public.{bare_no_local}

-- ---- the end of a text

-- a last byte that isn't dropped keeps the text whole
pub before_all-kept : (test : ℕ → Bool) (xs : List ℕ) (b : ℕ) → test b ≡ false → before_all test (xs ++ b ∷ []) ≡ xs ++ b ∷ []
before_all-kept test [] b w = rw w refl
before_all-kept test (x ∷ []) b w = rw w refl
before_all-kept test (x ∷ y ∷ xs) b w = rw (before_all-kept test (y ∷ xs) b w) refl

pub not_empty : (n : ℕ) → false ≡ (n == 0) → 0 < n
not_empty zero h = absurd (true≢false (sym h))
not_empty (suc n) h = omega arith

-- ---- what is read is a clause

star-equality : (op : Op) (prefix : Bool) → star_of op ≡ Some prefix → prefix ≡ true → is_equality op ≡ true
star-equality Equal prefix e h = refl
star-equality Unequal prefix e h = refl
star-equality AtLeast true e h = cc e
star-equality AtLeast false e h = absurd (true≢false (sym h))
star-equality AtMost prefix e h = cc e
star-equality More prefix e h = cc e
star-equality Less true e h = cc e
star-equality Less false e h = absurd (true≢false (sym h))
star-equality Compatible prefix e h = cc e
star-equality Distinct prefix e h = cc e

star-compatible : (op : Op) (prefix : Bool) → star_of op ≡ Some prefix → is_compatible op ≡ true → ⊥
star-compatible Equal prefix e h = true≢false (sym h)
star-compatible Unequal prefix e h = true≢false (sym h)
star-compatible AtLeast prefix e h = true≢false (sym h)
star-compatible AtMost prefix e h = true≢false (sym h)
star-compatible More prefix e h = true≢false (sym h)
star-compatible Less prefix e h = true≢false (sym h)
star-compatible Compatible prefix e h = cc e
star-compatible Distinct prefix e h = cc e

pub bare-clause : (op : Op) (V : Fields) (prefix : Bool) → star_of op ≡ Some prefix → is_bare V ≡ true → IsVersion V
    → IsClause (record { op = op; version = V; prefix = prefix })
bare-clause op V prefix star bare v = record {
  version = v;
  prefix = λ e. (star-equality op prefix star e, bare);
  local = λ e. absurd (bare_no_local V bare e);
  compatible = λ e. absurd (star-compatible op prefix star e);
}

local-stands : (e l k x : Bool) → ((e || not l) && k) ≡ true → l ≡ true → (e || x) ≡ true
local-stands true l k x h s = refl
local-stands false true k x h s = absurd (true≢false (sym h))
local-stands false false k x h s = absurd (true≢false (sym s))

long-stands : (e c k : Bool) → (e && (not c || k)) ≡ true → c ≡ true → k ≡ true
long-stands true true k h s = h
long-stands true false k h s = absurd (true≢false (sym s))
long-stands false c k h s = absurd (true≢false (sym h))

pub standing-clause : (op : Op) (V : Fields) → may_stand op V ≡ true → IsVersion V → IsClause (record { op = op; version = V; prefix = false })
standing-clause op V h v = record {
  version = v;
  prefix = λ e. absurd (true≢false (sym e));
  local = local-stands (is_equality op) (has_local V) _ (is_exclusion op) (and_parts (not (is_exclusion op)) _ h).1;
  compatible = λ e. ltb-true 1 (length V.release) (long-stands _ (is_compatible op) _ (and_parts (not (is_exclusion op)) _ h).1 e);
}

inside : (x y : ClauseFields) → Some x ≡ Some y → x ≡ y
inside x y e = cc e

starred-clause : (op : Op) (V : Fields) (c : ClauseFields) → IsVersion V → star_clause op V ≡ Some c → IsClause c
unfolding star_clause
starred-clause op V c v e =
    let (prefix, star, same) = bind_some (star_of op) _ _ e in
    let (bare, some) = cond_some (is_bare V) _ _ same in
    subst (λ (x : ClauseFields). IsClause x) (inside _ c some) (bare-clause op V prefix star bare v)

unstarred-clause : (op : Op) (V : Fields) (c : ClauseFields) → IsVersion V → plain_clause op V ≡ Some c → IsClause c
unfolding plain_clause
unstarred-clause op V c v e =
    let (stands, some) = cond_some (may_stand op V) _ _ e in
    subst (λ (x : ClauseFields). IsClause x) (inside _ c some) (standing-clause op V stands v)

version_clause-clause : (op : Op) (text : List ℕ) (front : Option (List ℕ)) (c : ClauseFields) → version_clause op text front ≡ Some c → IsClause c
version_clause-clause op text None c e =
    let (V, is, some) = bind_some (version_of text) _ _ e in unstarred-clause op V c (versions text V is) some
version_clause-clause op text (Some front) c e =
    let (V, is, some) = bind_some (version_of front) _ _ e in starred-clause op V c (versions front V is) some

pub clause_after-clause : (op : Op) (text : List ℕ) (c : ClauseFields) → clause_after op text ≡ Some c → IsClause c
unfolding clause_after
clause_after-clause op text c e = version_clause-clause op text _ c (cond_some (list_all is_version_byte text) _ _ e).1

pub clause_with-clause : (op : Op) (text : List ℕ) (c : ClauseFields) → clause_with op text ≡ Some c → IsClause c
unfolding clause_with
clause_with-clause op text c e = clause_after-clause op _ c e

clause_of-clause : (text : List ℕ) (c : ClauseFields) → clause_of text ≡ Some c → IsClause c
unfolding clause_of
clause_of-clause text c e = let (o, is, some) = bind_some (operator _) _ _ e in clause_after-clause o.0 _ c some

-- what holds of each clause that is read holds of each of a list
pub clauses_of-each : (P : ClauseFields → Type 0) → ((text : List ℕ) (c : ClauseFields) → clause_of text ≡ Some c → P c)
    → (pieces : List (List ℕ)) (cs : List ClauseFields) → clauses_of pieces ≡ Some cs → All P cs
unfolding clauses_of
clauses_of-each P one [] cs e =
    let same : [] ≡ cs = cc e in subst (λ (l : List ClauseFields). All P l) same (All-nil P)
clauses_of-each P one (piece ∷ pieces) cs e =
    let (c, is, more) = bind_some (clause_of piece) _ _ e in
    let (ds, are, some) = bind_some (clauses_of pieces) _ _ more in
    let same : c ∷ ds ≡ cs = cc some in
    subst (λ (l : List ClauseFields). All P l) same (All-cons P c ds (one piece c is) (clauses_of-each P one pieces ds are))

pub specifiers-clauses : (text : List ℕ) (cs : List ClauseFields) → specifiers_of text ≡ Some cs → All IsClause cs
unfolding specifiers_of
specifiers-clauses text cs e = clauses_of-each IsClause clause_of-clause _ cs e

-- ---- lists

-- a piece before others counts
pub listed_more : (piece : List ℕ) (pieces : List (List ℕ)) → 0 < length pieces → list_pieces (piece ∷ pieces) ≡ piece ∷ list_pieces pieces
listed_more piece [] h = absurd (omega arith)
listed_more [] (next ∷ pieces) h = refl
listed_more (b ∷ piece) (next ∷ pieces) h = refl

-- a last piece that isn't empty counts
pub listed_last : (piece : List ℕ) → 0 < length piece → list_pieces (piece ∷ []) ≡ piece ∷ []
listed_last [] h = absurd (omega arith)
listed_last (b ∷ piece) h = refl

-- the clauses of the list that a text is
abbrev pub list_of : List ℕ → Option (List ClauseFields)
list_of text = clauses_of (list_pieces (slice_split is_comma text))

-- clauses before those of a part
abbrev pub joined : List ClauseFields → Option (List ClauseFields) → Option (List ClauseFields)
joined cs part = part >>= λ ds. Some (cs ++ ds)

pub joined-start : (part : Option (List ClauseFields)) (cs : List ClauseFields) → cs ≡ [] → part ≡ joined cs part
joined-start None cs e = refl
joined-start (Some ds) cs e = rw e refl

joined_more : (cs : List ClauseFields) (c : ClauseFields) (part : Option (List ClauseFields)) → joined cs (part >>= λ ds. Some (c ∷ ds)) ≡ joined (cs ++ c ∷ []) part
joined_more cs c None = refl
joined_more cs c (Some ds) = ap (λ (l : List ClauseFields). Some l) (sym (append_assoc cs (c ∷ []) ds))

pub list-end : (text : List ℕ) (cs : List ClauseFields) → length text ≡ 0 → joined cs (list_of text) ≡ Some cs
unfolding clauses_of
list-end [] cs e = ap (λ (l : List ClauseFields). Some l) (append-nil cs)
list-end (b ∷ text) cs e = absurd (omega arith)

first-none : (pieces more : List (List ℕ)) (piece : List ℕ) (cs : List ClauseFields) → pieces ≡ piece ∷ more → clause_of piece ≡ None → joined cs (clauses_of pieces) ≡ None
unfolding clauses_of
first-none pieces more piece cs e none = rw (e, none) refl

pub list-none : (text piece rest : List ℕ) (cs : List ClauseFields) → slice_split is_comma text ≡ piece ∷ slice_split is_comma rest → clause_of piece ≡ None
    → joined cs (list_of text) ≡ None
list-none text piece rest cs e none =
    let filled : 0 < length (slice_split is_comma rest) = omega (arith, length-slice_split is_comma rest) in
    first-none (list_pieces (slice_split is_comma text)) _ piece cs (ap (λ (l : List (List ℕ)). list_pieces l) e ∙ listed_more piece (slice_split is_comma rest) filled) none

pub list-last_none : (text : List ℕ) (cs : List ClauseFields) → 0 < length text → slice_split is_comma text ≡ text ∷ [] → clause_of text ≡ None
    → joined cs (list_of text) ≡ None
list-last_none text cs h e none =
    first-none (list_pieces (slice_split is_comma text)) [] text cs (ap (λ (l : List (List ℕ)). list_pieces l) e ∙ listed_last text h) none

pub list-last : (text : List ℕ) (cs ds : List ClauseFields) (c : ClauseFields) → 0 < length text → slice_split is_comma text ≡ text ∷ [] → clause_of text ≡ Some c
    → ds ≡ cs ++ c ∷ [] → joined cs (list_of text) ≡ Some ds
unfolding clauses_of
list-last text cs ds c h e is so = rw (e, listed_last text h, is, so) refl

pub list-more : (text piece rest : List ℕ) (cs ds : List ClauseFields) (c : ClauseFields) → slice_split is_comma text ≡ piece ∷ slice_split is_comma rest
    → clause_of piece ≡ Some c → ds ≡ cs ++ c ∷ [] → joined cs (list_of text) ≡ joined ds (list_of rest)
unfolding clauses_of
list-more text piece rest cs ds c e is so =
    let filled : 0 < length (slice_split is_comma rest) = omega (arith, length-slice_split is_comma rest) in
    rw (e, listed_more piece (slice_split is_comma rest) filled, is, so) (joined_more cs c (list_of rest))
