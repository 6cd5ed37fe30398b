-- Parts of nodes, taken one after the other.
use Rattle.std.proofs.Common.{◌≡◌, ◌≢◌, ℕ, ◌<◌, ◌≤◌, ◌+◌, ◌^◌, List, [], ◌∷◌, ◌++◌, map, drop, length, get_or, Bool, true, false, eqb, refl, ap, sym, ◌∙◌, subst, arith, Option, Some, None, if◌then◌else◌}
use Rattle.std.proofs.lemmas.List.{drop_more, drop_all}
use Rattle.std.proofs.lemmas.List.Elements.{All-push}
use Rattle.std.proofs.lemmas.Bool.{eqb-true, eq-eqb}
use Rattle.std.specs.Borrow.{Bor}
use Rattle.ul_marker.specs.declared.printed.Comparison.{Comparison}
use Rattle.ul_tree.specs.Fans.{pieces_from, other_part, listed_points, filled_points, pointed_at}
use Rattle.ul_tree.specs.Joins.{trees_made}
use Rattle.ul_nodes.specs.Keys.{then_branches, has_kind, KeysOf}
use Rattle.ul_tree.specs.PathList as PathList
use Rattle.ul_nodes.specs.Plain.{Plain, truth, node, Branches, done, branch}
use Rattle.ul_tree.specs.Views.{tree_view}
use Rattle.ul_nodes.specs.Levels.{IsKey, python_level}
use Rattle.ul_nodes.specs.declared.level.Key.{Key}
use Rattle.ul_nodes.specs.declared.level.Key.TheVariants.{Number}
use Rattle.ul_tree.specs.declared.tree.Tree.{Tree}
use Rattle.ul_tree.proofs.ForCallers.{made_push, then_none}
use Rattle.ul_marker_text.specs.NodeViews.{IsKeyOf, AreKeysIn, keys_of_other}
use Rattle.ul_marker_text.specs.Nodes.{Part, gap, parts_view, number_branches, key_branches, AreKeys}
use Rattle.ul_marker_text.specs.StepViews.{comparison_key}
use Rattle.ul_marker_text.specs.declared.steps.Step.{Step}
use Rattle.ul_marker_text.specs.declared.steps.Step.TheVariants.{Interval, Point, Others}

-- a branch more, behind others
pub numbers_push : (xs : List (ℕ × Tree)) (n : ℕ) (t : Tree) (rest : Branches) → then_branches (number_branches (xs ++ (n, t) ∷ [])) rest ≡ then_branches (number_branches xs) (branch (n ∷ []) (tree_view t) rest)
numbers_push [] n t rest = refl
numbers_push (x ∷ xs) n t rest = ap (branch (x.0 ∷ []) (tree_view x.1)) (numbers_push xs n t rest)

pub points_push : (xs : List (Comparison × Tree)) (c : Comparison) (t : Tree) (rest : Branches) → then_branches (key_branches (xs ++ (c, t) ∷ [])) rest ≡ then_branches (key_branches xs) (branch (comparison_key c) (tree_view t) rest)
points_push [] c t rest = refl
points_push (x ∷ xs) c t rest = ap (branch (comparison_key x.0) (tree_view x.1)) (points_push xs c t rest)

-- ---- pieces

abbrev pub pieces_left : List (ℕ × Tree) → ℕ → List (Step × Tree) → Branches
pieces_left made next parts = then_branches (number_branches made) (pieces_from next (parts_view parts))

then_assoc : (a b c : Branches) → then_branches (then_branches a b) c ≡ then_branches a (then_branches b c)
then_assoc done b c = refl
then_assoc (branch k p a) b c = ap (branch k p) (then_assoc a b c)

-- a gap that is closed
pub gap_closed : (made : List (ℕ × Tree)) (next start : ℕ) (f : Tree) → next ≢ start → tree_view f ≡ truth false → number_branches (made ++ (next, f) ∷ []) ≡ then_branches (number_branches made) (gap next start)
gap_closed made next start f other e =
    sym (then_none (number_branches (made ++ (next, f) ∷ [])))
    ∙ numbers_push made next f done
    ∙ ap (λ z. then_branches (number_branches made) (branch (next ∷ []) z done)) e
    ∙ ap (λ b. then_branches (number_branches made) (if b then done else branch (next ∷ []) (truth false) done)) (sym (differ (eqb next start) refl))
  where
    differ : (b : Bool) → eqb next start ≡ b → eqb next start ≡ false
    differ true q = absurd (other (eqb-true next start q))
    differ false q = q

pub gap_none : (made : List (ℕ × Tree)) (next start : ℕ) → next ≡ start → number_branches made ≡ then_branches (number_branches made) (gap next start)
gap_none made next start same =
    sym (then_none (number_branches made)) ∙ ap (λ b. then_branches (number_branches made) (if b then done else branch (next ∷ []) (truth false) done)) (sym (eq-eqb next start same))

gap_piece : (next a b : ℕ) (p : Plain) (ps : List Part) → then_branches (gap next a) (branch (a ∷ []) p (pieces_from b ps)) ≡ pieces_from next ((PathList.interval a b, p) ∷ ps)
gap_piece next a b p ps = go (eqb next a)
  where
    go : (t : Bool) → then_branches (if t then done else branch (next ∷ []) (truth false) done) (branch (a ∷ []) p (pieces_from b ps))
        ≡ (if t then branch (a ∷ []) p (pieces_from b ps) else branch (next ∷ []) (truth false) (branch (a ∷ []) p (pieces_from b ps)))
    go true = refl
    go false = refl

pub piece_more : (made closed next_made : List (ℕ × Tree)) (next start finish : ℕ) (t : Tree) (parts rest : List (Step × Tree)) (all : Branches) → parts ≡ (Interval start finish, t) ∷ rest
    → number_branches closed ≡ then_branches (number_branches made) (gap next start) → next_made ≡ closed ++ (start, t) ∷ [] → pieces_left made next parts ≡ all → pieces_left next_made finish rest ≡ all
piece_more made closed next_made next start finish t parts rest all e g q h =
    let more = pieces_from finish (parts_view rest) in
    let piece = branch (start ∷ []) (tree_view t) more in
    ap (λ z. pieces_left z finish rest) q
    ∙ numbers_push closed start t more
    ∙ ap (λ z. then_branches z piece) g
    ∙ then_assoc (number_branches made) (gap next start) piece
    ∙ ap (then_branches (number_branches made)) (gap_piece next start finish (tree_view t) (parts_view rest))
    ∙ ap (λ z. then_branches (number_branches made) (pieces_from next (parts_view z))) (sym e)
    ∙ h

-- no part is left
pub nothing_left : {X : Type 0} (xs ys : List X) → xs ≡ ys → ys ≡ drop 1 xs → xs ≡ []
nothing_left [] ys e f = refl
nothing_left (x ∷ xs) ys e f = let p = ap length (e ∙ f) in absurd (omega (arith, p))

pub pieces_closed : (made closed : List (ℕ × Tree)) (next : ℕ) (parts : List (Step × Tree)) (all : Branches) → parts ≡ [] → number_branches closed ≡ then_branches (number_branches made) (gap next (2 ^ 96))
    → pieces_left made next parts ≡ all → number_branches closed ≡ all
pieces_closed made closed next parts all e g h = g ∙ ap (λ z. then_branches (number_branches made) (pieces_from next (parts_view z))) (sym e) ∙ h

pub pieces_point : (made : List (ℕ × Tree)) (next : ℕ) (c : Comparison) (t : Tree) (parts rest : List (Step × Tree)) (all : Branches) → parts ≡ (Point c, t) ∷ rest → pieces_left made next parts ≡ all → number_branches made ≡ all
pieces_point made next c t parts rest all e h = sym (then_none (number_branches made)) ∙ ap (λ z. then_branches (number_branches made) (pieces_from next (parts_view z))) (sym e) ∙ h

pub pieces_others : (made : List (ℕ × Tree)) (next : ℕ) (c : Comparison) (cs : Bor (List Comparison)) (t : Tree) (parts rest : List (Step × Tree)) (all : Branches) → parts ≡ (Others c cs, t) ∷ rest → pieces_left made next parts ≡ all → number_branches made ≡ all
pieces_others made next c cs t parts rest all e h = sym (then_none (number_branches made)) ∙ ap (λ z. then_branches (number_branches made) (pieces_from next (parts_view z))) (sym e) ∙ h

-- ---- points

abbrev pub points_left : List (Comparison × Tree) → List (Step × Tree) → Branches
points_left made parts = then_branches (key_branches made) (listed_points (parts_view parts))

pub listed_more : (made : List (Comparison × Tree)) (c : Comparison) (t : Tree) (parts rest : List (Step × Tree)) (all : Branches) → parts ≡ (Point c, t) ∷ rest → points_left made parts ≡ all → points_left (made ++ (c, t) ∷ []) rest ≡ all
listed_more made c t parts rest all e h = points_push made c t (listed_points (parts_view rest)) ∙ ap (λ z. points_left made z) (sym e) ∙ h

pub listed_interval : (made : List (Comparison × Tree)) (a b : ℕ) (t : Tree) (parts rest : List (Step × Tree)) (all : Branches) → parts ≡ (Interval a b, t) ∷ rest → points_left made parts ≡ all → key_branches made ≡ all
listed_interval made a b t parts rest all e h = sym (then_none (key_branches made)) ∙ ap (λ z. points_left made z) (sym e) ∙ h

pub listed_others : (made : List (Comparison × Tree)) (c : Comparison) (cs : Bor (List Comparison)) (t : Tree) (parts rest : List (Step × Tree)) (all : Branches) → parts ≡ (Others c cs, t) ∷ rest → points_left made parts ≡ all → key_branches made ≡ all
listed_others made c cs t parts rest all e h = sym (then_none (key_branches made)) ∙ ap (λ z. points_left made z) (sym e) ∙ h

pub listed_end : (made : List (Comparison × Tree)) (parts : List (Step × Tree)) (all : Branches) → parts ≡ [] → points_left made parts ≡ all → key_branches made ≡ all
listed_end made parts all e h = sym (then_none (key_branches made)) ∙ ap (λ z. points_left made z) (sym e) ∙ h

-- ---- keys of branches

-- branches of the code with keys of a level, and those that are left
pub record KeysLeft (level : List ℕ) (made : List (Key × Tree)) (left all : Branches) : Type 0 where
  pub view : then_branches (trees_made made) left ≡ all
  pub kinds : KeysOf level made
  pub valid : AreKeys level left → AreKeys level all
  pub back : AreKeys level all → AreKeys level left

pub keys_more : (level k : List ℕ) (key : Key) (t : Tree) (made : List (Key × Tree)) (left rest all : Branches) → left ≡ branch k (tree_view t) rest → IsKeyOf level k key → KeysLeft level made left all
    → KeysLeft level (made ++ (key, t) ∷ []) rest all
keys_more level k key t made left rest all e is h = record {
  view = made_push tree_view made (key, t) rest ∙ ap (λ z. then_branches (trees_made made) (branch z (tree_view t) rest)) is.view ∙ ap (then_branches (trees_made made)) (sym e) ∙ h.view;
  kinds = All-push (λ x. has_kind level x.0 ≡ true) made (key, t) h.kinds is.kind;
  valid = λ r. h.valid (subst (λ (z : Branches). AreKeys level z) (sym e) (is.valid, r));
  back = λ r. (subst (λ (z : Branches). AreKeys level z) e (h.back r)).1;
}

pub keys_wrong : (level k : List ℕ) (t : Plain) (made : List (Key × Tree)) (left rest all : Branches) → left ≡ branch k t rest → (IsKey level k → ⊥) → KeysLeft level made left all → AreKeys level all → ⊥
keys_wrong level k t made left rest all e wrong h r = wrong (subst (λ (z : Branches). AreKeys level z) e (h.back r)).0

pub keys_end : (level : List ℕ) (made : List (Key × Tree)) (left all : Branches) → left ≡ done → KeysLeft level made left all → AreKeysIn level all made
keys_end level made left all e h = record {
  view = sym (then_none (trees_made made)) ∙ ap (then_branches (trees_made made)) (sym e) ∙ h.view;
  kinds = h.kinds;
  valid = h.valid (subst (λ (z : Branches). AreKeys level z) (sym e) tt);
}

pub number_key : (n : ℕ) → n ≢ 0 → n < 2 ^ 96 → IsKeyOf python_level (n ∷ []) (Number n)
number_key n some low = record { view = refl; kind = refl; valid = (n, refl, omega arith, low) }

pub no_zero : (n : ℕ) → n ≡ 0 → IsKey python_level (n ∷ []) → ⊥
no_zero n e h = let p : n ≡ h.0 = ap (λ z. get_or z 0 0) h.1 in let q = h.2 in absurd (omega (arith, p, q, e))

pub no_high : (n : ℕ) → 2 ^ 96 ≤ n → IsKey python_level (n ∷ []) → ⊥
no_high n e h = let p : n ≡ h.0 = ap (λ z. get_or z 0 0) h.1 in let q = h.3 in absurd (omega (arith, p, q, e))

-- ---- the other part, and the part of a key

pub no_numbers : (xs : List (ℕ × Tree)) → length xs ≡ 0 → number_branches xs ≡ done
no_numbers [] h = refl
no_numbers (x ∷ xs) h = absurd (omega arith)

pub no_points : (xs : List (Comparison × Tree)) → length xs ≡ 0 → key_branches xs ≡ done
no_points [] h = refl
no_points (x ∷ xs) h = absurd (omega arith)

-- the points of keys, one more
pub filled_more : (made : List (Comparison × Tree)) (c : Comparison) (t : Tree) (row : List Comparison) (i : ℕ) (d : Comparison) (parts rest : List Part) (all : Branches) → i < length row → c ≡ get_or row i d
    → filled_points (comparison_key c ∷ map comparison_key (drop (i + 1) row)) parts ≡ branch (comparison_key c) (tree_view t) (filled_points (map comparison_key (drop (i + 1) row)) rest)
    → then_branches (key_branches made) (filled_points (map comparison_key (drop i row)) parts) ≡ all
    → then_branches (key_branches (made ++ (c, t) ∷ [])) (filled_points (map comparison_key (drop (i + 1) row)) rest) ≡ all
filled_more made c t row i d parts rest all h e f g =
    points_push made c t (filled_points (map comparison_key (drop (i + 1) row)) rest)
    ∙ ap (then_branches (key_branches made)) (sym f)
    ∙ ap (λ z. then_branches (key_branches made) (filled_points (comparison_key z ∷ map comparison_key (drop (i + 1) row)) parts)) e
    ∙ ap (λ z. then_branches (key_branches made) (filled_points (map comparison_key z) parts)) (sym (drop_more row i d h))
    ∙ g

pub filled_end : (made : List (Comparison × Tree)) (row : List Comparison) (i : ℕ) (parts : List Part) (all : Branches) → length row ≤ i
    → then_branches (key_branches made) (filled_points (map comparison_key (drop i row)) parts) ≡ all → key_branches made ≡ all
filled_end made row i parts all h g =
    sym (then_none (key_branches made)) ∙ ap (λ z. then_branches (key_branches made) (filled_points (map comparison_key z) parts)) (sym (drop_all i row h)) ∙ g

-- ---- the points of a node

pub listed_all : (parts : List Part) → other_part parts ≡ None → (l : List ℕ) → pointed_at l parts (other_part parts) ≡ node l (truth false) (listed_points parts)
listed_all parts e l = ap (pointed_at l parts) e

pub filled_all : (parts : List Part) (ks : List (List ℕ)) (d : Plain) → other_part parts ≡ Some (ks, d) → (l : List ℕ) → pointed_at l parts (other_part parts) ≡ node l d (filled_points ks parts)
filled_all parts ks d e l = ap (pointed_at l parts) e

-- the other part, by its keys
pub record HasOther (o : Option (List (List ℕ) × Plain)) (ks : List (List ℕ)) : Type 0 where
  pub part : Plain
  pub found : o ≡ Some (ks, part)

pub other_of : (o : Option (List (List ℕ) × Plain)) (ks : List (List ℕ)) → Some ks ≡ keys_of_other o → HasOther o ks
other_of None ks e = absurd cc
other_of (Some o) ks e = let q : ks ≡ o.0 = cc in record { part = o.1; found = ap (λ z. Some (z, o.1)) (sym q) }

pub no_other : (o : Option (List (List ℕ) × Plain)) → None ≡ keys_of_other o → o ≡ None
no_other None e = refl
no_other (Some o) e = absurd cc
