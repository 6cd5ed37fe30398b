-- How deep the parentheses of a marker nest.
use Rattle.std.proofs.Common.{◌≡◌, ◌∙◌, ℕ, zero, suc, ◌+◌, ◌<◌, ◌≤◌, max, List, [], ◌∷◌, ◌++◌, arith, refl, Option, Some, None}
use Rattle.ul_comparison.specs.Formulas.{Formula}
use Rattle.ul_marker.specs.Grammar.{AreJoined, IsAtomOf, IsComparison, IsConjunction, IsDisjunction, IsMarker, comparison, literal_in, literal_not_in, literal_sign, parenthesized, variable_in, variable_not_in, variable_sign}
use Rattle.ul_marker.specs.Reading.{chain_at, marker_in, open_count}
use Rattle.ul_marker.specs.declared.reading.Chain.TheVariants.{Disjunction}
use Rattle.ul_marker.specs.declared.words.Token.{Token}
use Rattle.ul_marker.specs.declared.words.Token.TheVariants.{Close, And, Or, In, Not, Sign, Literal}
use Rattle.ul_marker.proofs.Spelled.{IsStill, contained-subject, depth-agrees, in-still, literal-still, not-still, sign-still, signed-subject, within-subject}
use Rattle.ul_marker.proofs.Tokens.{onto}

-- how many parentheses are open after tokens
abbrev pub level_after : ℕ → List Token → ℕ
level_after n [] = n
level_after n (t ∷ ts) = level_after (open_count t n) ts

-- how many are open at most
abbrev peak : ℕ → List Token → ℕ
peak n [] = n
peak n (t ∷ ts) = max n (peak (open_count t n) ts)

level-append : (n : ℕ) (ts us : List Token) → level_after n (ts ++ us) ≡ level_after (level_after n ts) us
level-append n [] us = refl
level-append n (t ∷ ts) us = level-append (open_count t n) ts us

-- one token more
pub level-push : (n : ℕ) (ts : List Token) (t : Token) → level_after n (ts ++ t ∷ []) ≡ open_count t (level_after n ts)
level-push n ts t = level-append n ts (t ∷ [])

peak-own : (n : ℕ) (ts : List Token) → n ≤ peak n ts
peak-own n [] = omega arith
peak-own n (t ∷ ts) = omega arith

peak-least : (n : ℕ) (ts us : List Token) → level_after n ts ≤ peak n (ts ++ us)
peak-least n [] us = peak-own n us
peak-least n (t ∷ ts) us = let more = peak-least (open_count t n) ts us in omega arith

peak-most : (n m : ℕ) (ts us : List Token) → peak n ts ≤ m → peak (level_after n ts) us ≤ m → peak n (ts ++ us) ≤ m
peak-most n m [] us a b = b
peak-most n m (t ∷ ts) us a b = let more = peak-most (open_count t n) m ts us (omega arith) b in omega arith

-- tokens leave no parenthesis open, and nest so deep at most
record Nests (depth n : ℕ) (ts : List Token) : Type 0 where
  most : peak n ts ≤ n + depth
  level : level_after n ts ≡ n

none-nests : (depth n : ℕ) → Nests depth n []
none-nests depth n = record { most = omega arith; level = refl }

still-nests : (depth n : ℕ) (t : Token) (ts : List Token) → IsStill t → Nests depth n ts → Nests depth n (t ∷ ts)
still-nests depth n t ts s h =
    let most : peak (open_count t n) ts ≤ n + depth = rw (s.level n) h.most in
    let level : level_after (open_count t n) ts ≡ n = rw (s.level n) h.level in
    record { most = omega arith; level = level }

append-nests : (depth n : ℕ) (ts us : List Token) → Nests depth n ts → Nests depth n us → Nests depth n (ts ++ us)
append-nests depth n ts us h k = record {
  most = peak-most n (n + depth) ts us h.most (rw h.level k.most);
  level = level-append n ts us ∙ rw h.level k.level;
}

three-nest : (depth n : ℕ) (a b d : Token) → IsStill a → IsStill b → IsStill d → Nests depth n (a ∷ b ∷ d ∷ [])
three-nest depth n a b d x y z = still-nests depth n a (b ∷ d ∷ []) x (still-nests depth n b (d ∷ []) y (still-nests depth n d [] z (none-nests depth n)))

four-nest : (depth n : ℕ) (a b d g : Token) → IsStill a → IsStill b → IsStill d → IsStill g → Nests depth n (a ∷ b ∷ d ∷ g ∷ [])
four-nest depth n a b d g x y z w = still-nests depth n a (b ∷ d ∷ g ∷ []) x (three-nest depth n b d g y z w)

comparison-nests : (depth n : ℕ) (ts : List Token) (f : Formula) → IsComparison ts f → Nests depth n ts
comparison-nests depth n ts f (variable_sign t op literal shape e) =
    rw shape (three-nest depth n t (Sign op) (Literal literal) (signed-subject t op literal f e).still (sign-still op) (literal-still literal))
comparison-nests depth n ts f (literal_sign literal op sign t shape turned e) =
    rw shape (three-nest depth n (Literal literal) (Sign op) t (literal-still literal) (sign-still op) (signed-subject t sign literal f e).still)
comparison-nests depth n ts f (variable_in t literal shape e) =
    rw shape (three-nest depth n t In (Literal literal) (within-subject _ t literal f e).still in-still (literal-still literal))
comparison-nests depth n ts f (literal_in literal t shape e) =
    rw shape (three-nest depth n (Literal literal) In t (literal-still literal) in-still (contained-subject _ t literal f e).still)
comparison-nests depth n ts f (variable_not_in t literal shape e) =
    rw shape (four-nest depth n t Not In (Literal literal) (within-subject _ t literal f e).still not-still in-still (literal-still literal))
comparison-nests depth n ts f (literal_not_in literal t shape e) =
    rw shape (four-nest depth n (Literal literal) Not In t (literal-still literal) not-still in-still (contained-subject _ t literal f e).still)

-- what a relation relates nests so deep at most
abbrev AllNest : ℕ → (List Token → Formula → Type 0) → Type 0
AllNest depth Rel = (n : ℕ) (ts : List Token) (f : Formula) → Rel ts f → Nests depth n ts

close-most : (depth n : ℕ) (inner : List Token) → Nests depth (suc n) inner → peak (suc n) (inner ++ (Close ∷ [])) ≤ n + suc depth
close-most depth n inner h =
    let most = h.most in
    peak-most (suc n) (n + suc depth) inner (Close ∷ []) (omega arith) (rw h.level (omega arith))

close-level : (depth n : ℕ) (inner : List Token) → Nests depth (suc n) inner → level_after (suc n) (inner ++ (Close ∷ [])) ≡ n
close-level depth n inner h = level-append (suc n) inner (Close ∷ []) ∙ rw h.level (omega arith)

atom-nests : (depth : ℕ) (Rel : List Token → Formula → Type 0) → AllNest depth Rel → AllNest (suc depth) (IsAtomOf Rel)
atom-nests depth Rel nests n ts f (parenthesized inner shape h) =
    let own = nests (suc n) inner f h in
    let most = close-most depth n inner own in
    rw shape (record { most = omega arith; level = close-level depth n inner own })
atom-nests depth Rel nests n ts f (comparison h) = comparison-nests (suc depth) n ts f h

flat-nests : AllNest zero (IsAtomOf (λ inner f. ⊥))
flat-nests n ts f (parenthesized inner shape h) = absurd h
flat-nests n ts f (comparison h) = comparison-nests zero n ts f h

joined-nest : (depth : ℕ) (between : Token) (Part : List Token → Formula → Type 0) → ((n : ℕ) → open_count between n ≡ n) → AllNest depth Part
    → (n : ℕ) (fs : List Formula) (ts : List Token) → AreJoined Part between ts fs → Nests depth n ts
joined-nest depth between Part still nests n [] ts h = absurd h
joined-nest depth between Part still nests n (f ∷ []) ts h = nests n ts f h
joined-nest depth between Part still nests n (f ∷ g ∷ fs) ts (piece, rest, part, others, shape) =
    let after = joined-nest depth between Part still nests n (g ∷ fs) rest others in
    let most : peak (open_count between n) rest ≤ n + depth = rw (still n) after.most in
    let level : level_after (open_count between n) rest ≡ n = rw (still n) after.level in
    let next : Nests depth n (between ∷ rest) = record { most = omega arith; level = level } in
    rw shape (append-nests depth n piece (between ∷ rest) (nests n piece f part) next)

from-atoms : (depth : ℕ) (Rel : List Token → Formula → Type 0) → AllNest depth (IsAtomOf Rel) → AllNest depth (IsDisjunction Rel)
from-atoms depth Rel nests n ts f h =
    joined-nest depth Or (IsConjunction Rel) (λ m. refl)
    (λ m us g k. joined-nest depth And (IsAtomOf Rel) (λ i. refl) nests m k.0 us k.1) n h.0 ts h.1

marker-nests : (depth : ℕ) → AllNest depth (IsMarker depth)
unfolding IsMarker
marker-nests zero = from-atoms zero (λ inner f. ⊥) flat-nests
marker-nests (suc depth) = from-atoms (suc depth) (IsMarker depth) (atom-nests depth (IsMarker depth) (marker-nests depth))

-- tokens that begin with too many parentheses are no marker's
pub too-deep : (ts us : List Token) → 64 < level_after 0 ts → chain_at Disjunction 64 (ts ++ us) ≡ None
too-deep ts us deep = go (chain_at Disjunction 64 (ts ++ us)) refl
  where
    go : (read : Option Formula) → chain_at Disjunction 64 (ts ++ us) ≡ read → chain_at Disjunction 64 (ts ++ us) ≡ None
    go None e = e
    go (Some f) e =
        let nests = marker-nests 64 0 (ts ++ us) f ((depth-agrees 64).sound (ts ++ us) f e) in
        let most = nests.most in
        let least = peak-least 0 ts us in
        absurd (omega arith)

-- a text whose tokens begin so has no reading
pub deep-none : (ts : List Token) (rest : Option (List Token)) → 64 < level_after 0 ts → marker_in (onto ts rest) ≡ None
deep-none ts None deep = refl
deep-none ts (Some us) deep = too-deep ts us deep
