-- Lemmas on tokens joined by `and` and `or`, and in parentheses.
use Rattle.std.proofs.Common.{◌≡◌, ℕ, zero, suc, ◌+◌, ◌-◌, ◌<◌, ◌≤◌, List, [], ◌∷◌, ◌++◌, length, drop, take, get_or, refl, sym, ap, ◌∙◌, arith, Bool, true, false, inl, inr, Option, Some, None}
use Rattle.std.specs.Prelude.{if◌then◌else◌}
use Rattle.std.proofs.lemmas.List.{drop_more, drop_all, take_all, take_more, append-nil, append_assoc}
use Rattle.std.proofs.lemmas.Bool.{cases_lt}
use Rattle.ul_version.specs.Reading.{◌>>=◌}
use Rattle.ul_marker.specs.Comparisons.{comparison_of}
use Rattle.ul_comparison.specs.Formulas.{Formula}
use Rattle.ul_marker.specs.Reading.{atom_at, before_close, chain_at, chain_with, cuts, each, inner_tokens, is_close, is_open, chain_formula, onto_first, open_count, part_at, pieces_from}
use Rattle.ul_marker.specs.Readers.{added_formulas}
use Rattle.ul_marker.specs.declared.reading.Chain.{Chain}
use Rattle.ul_marker.specs.declared.reading.Chain.TheVariants.{Conjunction, Disjunction}
use Rattle.ul_marker.specs.declared.words.Token.{Token}
use Rattle.ul_marker.specs.declared.words.Token.TheVariants.{Open, Close, And, Or, In, Not, Extra, Named, Sign, Literal}

-- ---- pieces

-- tokens before the first piece
abbrev pub before_first : List Token → List (List Token) → List (List Token)
before_first ts [] = ts ∷ []
before_first ts (piece ∷ pieces) = (ts ++ piece) ∷ pieces

onto-filled : (t : Token) (pieces : List (List Token)) → 0 < length (onto_first t pieces)
onto-filled t [] = omega arith
onto-filled t (piece ∷ pieces) = omega arith

cut-filled : (b : Bool) (t : Token) (xs ys : List (List Token)) → 0 < length (if b then [] ∷ xs else onto_first t ys)
cut-filled true t xs ys = omega arith
cut-filled false t xs ys = onto-filled t ys

pub pieces-filled : (chain : Chain) (n : ℕ) (tokens : List Token) → 0 < length (pieces_from chain n tokens)
unfolding pieces_from
pieces-filled chain n [] = omega arith
pieces-filled chain n (t ∷ ts) = cut-filled (cuts chain n t) t _ _

first-none : (pieces : List (List Token)) → 0 < length pieces → pieces ≡ before_first [] pieces
first-none [] h = absurd (omega arith)
first-none (piece ∷ pieces) h = refl

pub first-start : (chain : Chain) (tokens : List Token) → pieces_from chain 0 tokens ≡ before_first [] (pieces_from chain 0 tokens)
first-start chain tokens = first-none (pieces_from chain 0 tokens) (pieces-filled chain 0 tokens)

first-push : (ts : List Token) (t : Token) (pieces : List (List Token)) → before_first ts (onto_first t pieces) ≡ before_first (ts ++ t ∷ []) pieces
first-push ts t [] = refl
first-push ts t (piece ∷ pieces) = ap (λ (l : List Token). l ∷ pieces) (sym (append_assoc ts (t ∷ []) piece))

pub pieces-cut : (chain : Chain) (n : ℕ) (xs : List Token) (i : ℕ) (t : Token) → i < length xs → t ≡ get_or xs i t → cuts chain n t ≡ true
    → pieces_from chain 0 xs ≡ before_first (take i xs) (pieces_from chain n (drop i xs)) → pieces_from chain 0 xs ≡ take i xs ∷ pieces_from chain 0 (drop (i + 1) xs)
unfolding pieces_from
pieces-cut chain n xs i t lt is h so = so ∙ rw (drop_more xs i t lt, ← is, h, append-nil (take i xs)) refl

pub pieces-next : (chain : Chain) (n : ℕ) (xs : List Token) (i : ℕ) (t : Token) → i < length xs → t ≡ get_or xs i t → cuts chain n t ≡ false
    → pieces_from chain 0 xs ≡ before_first (take i xs) (pieces_from chain n (drop i xs))
    → pieces_from chain 0 xs ≡ before_first (take (i + 1) xs) (pieces_from chain (open_count t n) (drop (i + 1) xs))
unfolding pieces_from
pieces-next chain n xs i t lt is h so =
    so ∙ rw (drop_more xs i t lt, take_more xs i t lt, ← is, h) (first-push (take i xs) t (pieces_from chain (open_count t n) (drop (i + 1) xs)))

pub pieces-end : (chain : Chain) (n : ℕ) (xs : List Token) (i : ℕ) → length xs ≤ i
    → pieces_from chain 0 xs ≡ before_first (take i xs) (pieces_from chain n (drop i xs)) → pieces_from chain 0 xs ≡ xs ∷ []
unfolding pieces_from
pieces-end chain n xs i le so = so ∙ rw (drop_all i xs le, take_all i xs le, append-nil xs) refl

pub opened-le : (t : Token) (n : ℕ) → open_count t n ≤ n + 1
opened-le Open n = omega arith
opened-le Close n = omega arith
opened-le And n = omega arith
opened-le Or n = omega arith
opened-le In n = omega arith
opened-le Not n = omega arith
opened-le Extra n = omega arith
opened-le (Named v) n = omega arith
opened-le (Sign op) n = omega arith
opened-le (Literal bytes) n = omega arith

-- ---- parentheses

close-last : (u : Token) (ts : List Token) (n : ℕ) (last : Token) → n ≡ length ts → last ≡ get_or (u ∷ ts) n last → is_close last ≡ true
    → before_close (u ∷ ts) ≡ Some (take n (u ∷ ts))
unfolding before_close
close-last u [] n last e is h =
    let same : last ≡ u = rw e at is in rw (e, ← same, h) refl
close-last u (t ∷ ts) n last e is h =
    let next : last ≡ get_or (t ∷ ts) (length ts) last = rw e at is in
    rw (e, close-last t ts (length ts) last refl next h) refl

open-last : (u : Token) (ts : List Token) (n : ℕ) (last : Token) → n ≡ length ts → last ≡ get_or (u ∷ ts) n last → is_close last ≡ false
    → before_close (u ∷ ts) ≡ None
unfolding before_close
open-last u [] n last e is h =
    let same : last ≡ u = rw e at is in rw (← same, h) refl
open-last u (t ∷ ts) n last e is h =
    let next : last ≡ get_or (t ∷ ts) (length ts) last = rw e at is in
    rw (open-last t ts (length ts) last refl next h) refl

pub enclosed-short : (xs : List Token) → length xs ≤ 1 → inner_tokens xs ≡ None
unfolding inner_tokens before_close
enclosed-short [] h = refl
enclosed-short (t ∷ []) h = either (is_open t)
  where
    either : (b : Bool) → ◌≡◌ {A = Option (List Token)} (if b then None else None) None
    either true = refl
    either false = refl
enclosed-short (t ∷ u ∷ ts) h = absurd (omega arith)

-- the last place but one, and the last
two-less : (t u : Token) (ts : List Token) → length (t ∷ u ∷ ts) - 1 ≡ suc (length ts)
two-less t u ts = omega arith

pub enclosed-open : (xs : List Token) (first : Token) → 2 ≤ length xs → first ≡ get_or xs 0 first → is_open first ≡ false → inner_tokens xs ≡ None
unfolding inner_tokens
enclosed-open [] first h is e = absurd (omega arith)
enclosed-open (t ∷ ts) first h is e = let same : first ≡ t = is in rw (← same, e) refl

pub enclosed-close : (xs : List Token) (first last : Token) → 2 ≤ length xs → first ≡ get_or xs 0 first → is_open first ≡ true
    → last ≡ get_or xs (length xs - 1) last → is_close last ≡ false → inner_tokens xs ≡ None
unfolding inner_tokens
enclosed-close [] first last h is e at other = absurd (omega arith)
enclosed-close (t ∷ []) first last h is e at other = absurd (omega arith)
enclosed-close (t ∷ u ∷ ts) first last h is e at other =
    let same : first ≡ t = is in
    let place : last ≡ get_or (u ∷ ts) (length ts) last = rw (two-less t u ts) at at in
    rw (← same, e) (open-last u ts (length ts) last refl place other)

pub enclosed-both : (xs : List Token) (first last : Token) → 2 ≤ length xs → first ≡ get_or xs 0 first → is_open first ≡ true
    → last ≡ get_or xs (length xs - 1) last → is_close last ≡ true → inner_tokens xs ≡ Some (take (length xs - 1 - 1) (drop 1 xs))
unfolding inner_tokens
enclosed-both [] first last h is e at both = absurd (omega arith)
enclosed-both (t ∷ []) first last h is e at both = absurd (omega arith)
enclosed-both (t ∷ u ∷ ts) first last h is e at both =
    let same : first ≡ t = is in
    let place : last ≡ get_or (u ∷ ts) (length ts) last = rw (two-less t u ts) at at in
    let count : length (t ∷ u ∷ ts) - 1 - 1 ≡ length ts = omega arith in
    rw (← same, e, count) (close-last u ts (length ts) last refl place both)

-- ---- a formula for each piece

formulas-push : (fs : List Formula) (f : Formula) (part : Option (List Formula)) → added_formulas fs (part >>= λ gs. Some (f ∷ gs)) ≡ added_formulas (fs ++ f ∷ []) part
formulas-push fs f None = refl
formulas-push fs f (Some gs) = ap (λ (l : List Formula). Some l) (sym (append_assoc fs (f ∷ []) gs))

pub each-more : (read : List Token → Option Formula) (fs gs : List Formula) (pieces : List (List Token)) (piece : List Token) (rest : List (List Token)) (f : Formula)
    → pieces ≡ piece ∷ rest → read piece ≡ Some f → gs ≡ fs ++ f ∷ [] → added_formulas fs (each read pieces) ≡ added_formulas gs (each read rest)
unfolding each
each-more read fs gs pieces piece rest f e is so = rw (e, is, so) (formulas-push fs f (each read rest))

pub each-last : (read : List Token → Option Formula) (fs gs : List Formula) (pieces : List (List Token)) (piece : List Token) (f : Formula)
    → pieces ≡ piece ∷ [] → read piece ≡ Some f → gs ≡ fs ++ f ∷ [] → added_formulas fs (each read pieces) ≡ Some gs
unfolding each
each-last read fs gs pieces piece f e is so = rw (e, is, so) refl

pub each-none : (read : List Token → Option Formula) (fs : List Formula) (pieces : List (List Token)) (piece : List Token) (rest : List (List Token))
    → pieces ≡ piece ∷ rest → read piece ≡ None → added_formulas fs (each read pieces) ≡ None
unfolding each
each-none read fs pieces piece rest e is = rw (e, is) refl

-- ---- joined formulas

-- how far a chain stands above its parts
abbrev pub chain_weight : Chain → ℕ
chain_weight Conjunction = 2
chain_weight Disjunction = 4

-- the tokens before the first joining one are the first piece
pub piece-front : (chain : Chain) (xs : List Token) (n : ℕ) → (length xs ≤ n → pieces_from chain 0 xs ≡ xs ∷ [])
    → (n < length xs → pieces_from chain 0 xs ≡ take n xs ∷ pieces_from chain 0 (drop (n + 1) xs))
    → (others : List (List Token)) × (pieces_from chain 0 xs ≡ take n xs ∷ others)
piece-front chain xs n last more = elim (cases_lt n (length xs)) [
  | inl lt ↦ (pieces_from chain 0 (drop (n + 1) xs), more lt)
  | inr le ↦ let whole : take n xs ≡ xs = take_all n xs le in ([], rw whole (last le))
]

pub chain-none : (chain : Chain) (depth : ℕ) (tokens : List Token) → each (part_at chain depth) (pieces_from chain 0 tokens) ≡ None → chain_at chain depth tokens ≡ None
unfolding chain_at chain_with
chain-none chain depth tokens e = rw e refl

pub chain-some : (chain : Chain) (depth : ℕ) (tokens : List Token) (fs : List Formula) → each (part_at chain depth) (pieces_from chain 0 tokens) ≡ Some fs
    → chain_at chain depth tokens ≡ Some (chain_formula chain fs)
unfolding chain_at chain_with
chain-some chain depth tokens fs e = rw e refl

-- ---- atoms

pub atom-comparison : (depth : ℕ) (tokens : List Token) → inner_tokens tokens ≡ None → atom_at depth tokens ≡ comparison_of tokens
unfolding atom_at
atom-comparison zero tokens e = rw e refl
atom-comparison (suc depth) tokens e = rw e refl

pub atom-too_deep : (depth : ℕ) (tokens inner : List Token) → depth ≡ 0 → inner_tokens tokens ≡ Some inner → atom_at depth tokens ≡ None
unfolding atom_at
atom-too_deep zero tokens inner h e = rw e refl
atom-too_deep (suc depth) tokens inner h e = absurd (omega arith)

pub atom-inside : (depth less : ℕ) (tokens inner : List Token) → depth ≡ suc less → inner_tokens tokens ≡ Some inner → atom_at depth tokens ≡ chain_at Disjunction less inner
unfolding atom_at chain_at part_at
atom-inside depth less tokens inner h e = rw (h, e) refl
