-- Which held incompatibilities have a term on a node: those that propagation looks at where a fact on the node is new.
use Rattle.std.specs.Prelude.{◌≡◌, ℕ, suc, List, [], ◌∷◌, Bool, true, false, cond, ◌<◌, nat_eq, get_or, length}
use Rattle.ul_problem.specs.Terms.{node_of}
use Rattle.ul_problem.specs.declared.term.Term.{Term}

-- some term of a list is on the node
abbrev pub has_term : ℕ → List Term → Bool
has_term n [] = false
has_term n (t ∷ ts) = cond (nat_eq (node_of t) n) true (has_term n ts)

-- the places, from k on, of the lists with a term on the node
abbrev pub places_from : ℕ → ℕ → List (List Term) → List ℕ
places_from n k [] = []
places_from n k (ts ∷ rest) = cond (has_term n ts) (k ∷ places_from n (suc k) rest) (places_from n (suc k) rest)

-- the places, increasing, of the lists with a term on the node
abbrev pub places_on : ℕ → List (List Term) → List ℕ
places_on n terms = places_from n 0 terms

-- the row of each node has the places of the lists with a term on it
pub record IsWatched (terms : List (List Term)) (rows : List (List ℕ)) : Type 0 where
  pub row : (n : ℕ) → n < length rows → get_or rows n [] ≡ places_on n terms
