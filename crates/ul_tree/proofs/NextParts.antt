-- The first path of a reduced tree goes on into the first of its parts that isn't false.
use Rattle.std.proofs.Common.{◌≡◌, ◌≢◌, ℕ, suc, zero, ◌+◌, ◌/◌, ◌%◌, ◌^◌, ◌≤◌, ◌<◌, List, [], ◌∷◌, length, drop, get_or, map, Bool, true, false, cond, refl, ap, sym, ◌∙◌, subst, arith, set, Global, String, string_bytes, Option, Some, None}
use Rattle.std.proofs.lemmas.List.{drop_more, length-map, map-set, set_past}
use Rattle.ul_comparison.specs.Atoms.{AtomFields}
use Rattle.ul_comparison.specs.Worlds.{WorldFields}
use Rattle.ul_nodes.specs.Apply.{size, sizes}
use Rattle.ul_tree.specs.FirstParts.{is_false, first_branch}
use Rattle.ul_nodes.specs.Levels.{python_level}
use Rattle.ul_nodes.specs.Plain.{Plain, truth, node, Branches, done, branch, carries, carried_part}
use Rattle.ul_nodes.specs.Reduced.{Fits, FitsAll, HasBranch}
use Rattle.ul_tree.specs.Sample.{Step, beside, or_else, longer_path, first_path, first_in, with_level, with_path, sample_from}
use Rattle.ul_tree.specs.Views.{tree_view, pieces_view}
use Rattle.ul_nodes.specs.Closing.{pieces_of, python_of}
use Rattle.ul_tree.specs.declared.tree.Tree.{Tree}
use Rattle.ul_tree.proofs.Leads.{Stands, stands}

is_false_true : (c : Plain) → is_false c ≡ true → c ≡ truth false
is_false_true (truth true) h = cc
is_false_true (truth false) h = refl
is_false_true (node l d bs) h = cc

is_false_false : (c : Plain) → is_false c ≡ false → c ≢ truth false
is_false_false c h e = let p : true ≡ false = sym (ap is_false e) ∙ h in cc

-- a part of a tree into which its first path goes, by a value of the tree's level
pub record GoesOn (t : Plain) (l v : List ℕ) (c : Plain) : Type 0 where
  pub fits : Fits c l
  pub not_false : c ≢ truth false
  pub smaller : size c < size t
  pub sample : (w : WorldFields) → sample_from w t ≡ sample_from (with_level l v w) c

-- a path that stands is taken
taken : (l v : List ℕ) (p q : Option (List Step)) (w : WorldFields) → Stands p → with_path w (or_else (longer_path l v p) q) ≡ with_path (with_level l v w) p
taken l v None q w s = absurd s
taken l v (Some steps) q w s = refl

taken_last : (l v : List ℕ) (p : Option (List Step)) (w : WorldFields) → Stands p → with_path w (longer_path l v p) ≡ with_path (with_level l v w) p
taken_last l v None w s = absurd s
taken_last l v (Some steps) w s = refl

-- the first branch that isn't false, or that all are
abbrev Chosen : List ℕ → Branches → Option (List ℕ × Plain) → Type 0
Chosen l bs None = (first_in l bs ≡ None) × ((d : Plain) → HasBranch bs → FitsAll bs l d → d ≢ truth false)
Chosen l bs (Some p) =
    Fits p.1 l × (p.1 ≢ truth false) × (size p.1 ≤ sizes bs) × ((w : WorldFields) (q : Option (List Step)) → with_path w (or_else (first_in l bs) q) ≡ with_path (with_level l p.0 w) (first_path p.1))

chosen_more : (l k : List ℕ) (c : Plain) (rest : Branches) (o : Option (List ℕ × Plain)) → c ≡ truth false → Chosen l rest o → Chosen l (branch k c rest) o
chosen_more l k c rest None e h =
    (ap (λ z. or_else (longer_path l k (first_path z)) (first_in l rest)) e ∙ h.0, λ d b f q. f.3 (e ∙ sym q))
chosen_more l k c rest (Some p) e h =
    (h.0, h.1, omega (arith, h.2), λ w q. ap (λ z. with_path w (or_else (or_else (longer_path l k (first_path z)) (first_in l rest)) q)) e ∙ h.3 w q)

or_or : (a b c : Option (List Step)) → or_else (or_else a b) c ≡ or_else a (or_else b c)
or_or None b c = refl
or_or (Some x) b c = refl

chosen : (l : List ℕ) (bs : Branches) (d : Plain) → FitsAll bs l d → Chosen l bs (first_branch bs)
chosen l done d h = (refl, λ e b. absurd b)
chosen l (branch k c rest) d h = go (is_false c) refl (chosen l rest (carried_part (carries l) c d) h.4)
  where
    go : (t : Bool) → is_false c ≡ t → Chosen l rest (first_branch rest) → Chosen l (branch k c rest) (cond t (first_branch rest) (Some (k, c)))
    go true e ih = chosen_more l k c rest (first_branch rest) (is_false_true c e) ih
    go false e ih = (
      h.2,
      is_false_false c e,
      omega arith,
      λ w q. ap (with_path w) (or_or (longer_path l k (first_path c)) (first_in l rest) q)
          ∙ taken l k (first_path c) (or_else (first_in l rest) q) w (stands c l h.2 (is_false_false c e)),
    )

-- a level of points
points_path : (l : List ℕ) (d : Plain) (bs : Branches) → carries l ≡ false → first_path (node l d bs) ≡ or_else (first_in l bs) (longer_path l (beside l bs) (first_path d))
points_path l d bs m = ap (λ t. cond t (or_else (longer_path l (0 ∷ []) (first_path d)) (first_in l bs)) (or_else (first_in l bs) (longer_path l (beside l bs) (first_path d)))) m

pub point_goes_on : (l b : List ℕ) (d : Plain) (bs : Branches) → carries l ≡ false → Fits (node l d bs) b → (k : List ℕ) (c : Plain) → Some (k, c) ≡ first_branch bs → GoesOn (node l d bs) l k c
point_goes_on l b d bs m h k c e =
    let p : Chosen l bs (Some (k, c)) = subst (λ (o : Option (List ℕ × Plain)). Chosen l bs o) (sym e) (chosen l bs d h.3) in
    record {
      fits = p.0;
      not_false = p.1;
      smaller = omega (arith, p.2);
      sample = λ w. ap (with_path w) (points_path l d bs m) ∙ p.3 w (longer_path l (beside l bs) (first_path d));
    }

pub other_goes_on : (l b : List ℕ) (d : Plain) (bs : Branches) → carries l ≡ false → Fits (node l d bs) b → None ≡ first_branch bs → GoesOn (node l d bs) l (beside l bs) d
other_goes_on l b d bs m h e =
    let p : Chosen l bs None = subst (λ (o : Option (List ℕ × Plain)). Chosen l bs o) (sym e) (chosen l bs d h.3) in
    let n : d ≢ truth false = p.1 d h.1 h.3 in
    record {
      fits = h.2;
      not_false = n;
      smaller = omega arith;
      sample = λ w. ap (with_path w) (points_path l d bs m ∙ ap (λ o. or_else o (longer_path l (beside l bs) (first_path d))) p.0)
          ∙ taken_last l (beside l bs) (first_path d) w (stands d l h.2 n);
    }

-- the level of the interpreter
abbrev Piece : List ℕ → Plain → Branches → Option (List ℕ × Plain) → Type 0
Piece b d bs None = ⊥
Piece b d bs (Some p) = GoesOn (node python_level d bs) python_level p.0 p.1

later_piece : (b : List ℕ) (d : Plain) (bs : Branches) (o : Option (List ℕ × Plain)) → Fits (node python_level d bs) b → d ≡ truth false → Chosen python_level bs o → Piece b d bs o
later_piece b d bs None h e p = p.1 d h.1 h.3 e
later_piece b d bs (Some p) h e q = record {
  fits = q.0;
  not_false = q.1;
  smaller = omega (arith, q.2);
  sample = λ w. ap (λ z. with_path w (or_else (longer_path python_level (0 ∷ []) (first_path z)) (first_in python_level bs))) e
      ∙ ap (with_path w) (sym (or_none (first_in python_level bs))) ∙ q.3 w None;
}
  where
    or_none : (o : Option (List Step)) → or_else o None ≡ o
    or_none None = refl
    or_none (Some x) = refl

piece : (b : List ℕ) (d : Plain) (bs : Branches) → Fits (node python_level d bs) b → Piece b d bs (first_branch (branch (0 ∷ []) d bs))
piece b d bs h = go (is_false d) refl
  where
    go : (t : Bool) → is_false d ≡ t → Piece b d bs (cond t (first_branch bs) (Some (0 ∷ [], d)))
    go true e = later_piece b d bs (first_branch bs) h (is_false_true d e) (chosen python_level bs d h.3)
    go false e = record {
      fits = h.2;
      not_false = is_false_false d e;
      smaller = omega arith;
      sample = λ w. taken python_level (0 ∷ []) (first_path d) (first_in python_level bs) w (stands d python_level h.2 (is_false_false d e));
    }

-- the starts and the parts of a reduced node of the interpreter
record IsShaped (starts : List ℕ) (parts : List Plain) : Type 0 where
  level : length starts ≡ length parts
  node_is : (d : Plain) × (bs : Branches) × (python_of starts parts ≡ node python_level d bs) × (pieces_of starts parts ≡ branch (0 ∷ []) d bs)

pieces_level : (ss : List ℕ) (ps : List Plain) (d : Plain) → FitsAll (pieces_of ss ps) python_level d → length ss ≡ length ps
pieces_level [] [] d h = refl
pieces_level [] (p ∷ ps) d h = let q : [] ≡ h.0.0 ∷ [] = h.0.1 in cc
pieces_level (s ∷ ss) [] d h = let q : [] ≡ h.0.0 ∷ [] = h.0.1 in cc
pieces_level (s ∷ ss) (p ∷ ps) d h = ap suc (pieces_level ss ps (carried_part (carries python_level) p d) h.4)

shaped : (starts : List ℕ) (parts : List Plain) (b : List ℕ) → Fits (python_of starts parts) b → IsShaped starts parts
shaped [] ps b h = absurd h.1
shaped (suc s ∷ ss) ps b h = absurd h.1
shaped (zero ∷ ss) [] b h = absurd h.1
shaped (zero ∷ ss) (p ∷ ps) b h = record { level = ap suc (pieces_level ss ps p h.3); node_is = (p, pieces_of ss ps, refl, refl) }

pub pieces_even : (starts : List ℕ) (parts : List Tree) (b : List ℕ) → Fits (python_of starts (map tree_view parts)) b → length starts ≡ length parts
pieces_even starts parts b h = (shaped starts (map tree_view parts) b h).level ∙ length-map parts tree_view

pub piece_goes_on : (starts : List ℕ) (parts : List Plain) (b : List ℕ) → Fits (python_of starts parts) b → (k : List ℕ) (c : Plain) → Some (k, c) ≡ first_branch (pieces_of starts parts)
    → GoesOn (python_of starts parts) python_level k c
piece_goes_on starts parts b h k c e =
    let s = (shaped starts parts b h).node_is in
    let d : Plain = s.0 in
    let bs : Branches = s.1 in
    let f : Fits (node python_level d bs) b = subst (λ (z : Plain). Fits z b) s.2 h in
    let p : Piece b d bs (Some (k, c)) = subst (λ (o : Option (List ℕ × Plain)). Piece b d bs o) (sym (e ∙ ap first_branch s.3)) (piece b d bs f) in
    subst (λ (z : Plain). GoesOn z python_level k c) (sym s.2) p

-- an opaque comparison
pub holds_goes_on : (l b : List ℕ) (c d : Plain) → carries l ≡ false → Fits (node l d (branch (1 ∷ []) c done)) b → is_false c ≡ false → GoesOn (node l d (branch (1 ∷ []) c done)) l (1 ∷ []) c
holds_goes_on l b c d m h e =
    point_goes_on l b d (branch (1 ∷ []) c done) m h (1 ∷ []) c (sym (ap (λ t. cond t None (Some (1 ∷ [], c))) e))

pub fails_goes_on : (l b : List ℕ) (c d : Plain) → carries l ≡ false → Fits (node l d (branch (1 ∷ []) c done)) b → is_false c ≡ true → GoesOn (node l d (branch (1 ∷ []) c done)) l (beside l (branch (1 ∷ []) c done)) d
fails_goes_on l b c d m h e = other_goes_on l b d (branch (1 ∷ []) c done) m h (sym (ap (λ t. cond t None (Some (1 ∷ [], c))) e))

-- ---- what is collected on the way

-- the world of what is collected
abbrev seen : ℕ → List (String Global) → List AtomFields → WorldFields
seen n texts truths = record { major = (n / 2 ^ 32) / 2 ^ 32; minor = (n / 2 ^ 32) % 2 ^ 32; patch = n % 2 ^ 32; texts = map string_bytes texts; truths = truths }

pub set_seen : (n : ℕ) (xs : List (String Global)) (ts : List AtomFields) (i j : ℕ) (s : String Global) (w : WorldFields) → seen n xs ts ≡ w → i ≡ j → seen n (set xs i s) ts ≡ record w { texts = set w.texts j (string_bytes s) }
set_seen n xs ts i j s w e q =
    let a : seen n (set xs i s) ts ≡ record (seen n xs ts) { texts = set (map string_bytes xs) i (string_bytes s) } = ap (λ t. record (seen n xs ts) { texts = t }) (map-set string_bytes xs i s) in
    let f : WorldFields → WorldFields = λ u. record u { texts = set u.texts i (string_bytes s) } in
    let g : ℕ → WorldFields = λ k. record w { texts = set w.texts k (string_bytes s) } in
    a ∙ ap f e ∙ ap g q

pub kept_seen : (n : ℕ) (xs : List (String Global)) (ts : List AtomFields) (i j : ℕ) (s : String Global) (w : WorldFields) → seen n xs ts ≡ w → i ≡ j → length xs ≤ i → seen n xs ts ≡ record w { texts = set w.texts j (string_bytes s) }
kept_seen n xs ts i j s w e q h =
    let a : seen n xs ts ≡ record (seen n xs ts) { texts = set (map string_bytes xs) i (string_bytes s) } =
    ap (λ t. record (seen n xs ts) { texts = t }) (sym (set_past (map string_bytes xs) i (string_bytes s) (rw (length-map xs string_bytes) h))) in
    let f : WorldFields → WorldFields = λ u. record u { texts = set u.texts i (string_bytes s) } in
    let g : ℕ → WorldFields = λ k. record w { texts = set w.texts k (string_bytes s) } in
    a ∙ ap f e ∙ ap g q

-- one piece more
pub pieces_more : (starts : List ℕ) (parts : List Tree) (i : ℕ) (d : Tree) → length starts ≡ length parts → i < length parts → d ≡ get_or parts i d → is_false (tree_view d) ≡ true
    → first_branch (pieces_view (drop i starts) (drop i parts)) ≡ first_branch (pieces_view (drop (i + 1) starts) (drop (i + 1) parts))
pieces_more starts parts i d even less at false_ =
    ap (λ z. first_branch (pieces_view z (drop i parts))) (drop_more starts i 0 (omega (arith, even)))
    ∙ ap (λ z. first_branch (pieces_view (get_or starts i 0 ∷ drop (i + 1) starts) z)) (drop_more parts i d less)
    ∙ ap (λ z. first_branch (pieces_view (get_or starts i 0 ∷ drop (i + 1) starts) (z ∷ drop (i + 1) parts))) (sym at)
    ∙ ap (λ t. cond t (first_branch (pieces_view (drop (i + 1) starts) (drop (i + 1) parts))) (Some (get_or starts i 0 ∷ [], tree_view d))) false_
