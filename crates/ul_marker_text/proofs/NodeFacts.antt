-- Nodes that are made of their parts.
use Rattle.std.proofs.Common.{◌≡◌, ◌≢◌, ℕ, ◌^◌, List, [], ◌∷◌, ◌++◌, Bool, true, false, not, ◌&&◌, eqb, refl, ap, sym, ◌∙◌, subst, Less, Equal, Greater, Option, Some, None, if◌then◌else◌}
use Rattle.std.specs.Ordering.{is_lt}
use Rattle.std.specs.Str.{bytes_eq}
use Rattle.std.specs.declared.cmp.Ordering.{Ordering}
use Rattle.std.proofs.lemmas.Bool.{and_parts}
use Rattle.ul_nodes.specs.Apply.{same, close}
use Rattle.ul_tree.specs.Fans.{pieces_from, opening_node, other_part, listed_points, filled_points, pointed_at, node_of}
use Rattle.ul_nodes.specs.Levels.{python_level}
use Rattle.ul_tree.specs.PathLaws.{step_level}
use Rattle.ul_tree.specs.PathList.{Step, interval, point, others}
use Rattle.ul_nodes.specs.Plain.{Plain, truth, node, Branches, done, branch, text_cmp, carries, carried_part}
use Rattle.ul_nodes.specs.Reduced.{Fits, FitsAll, StartsAfter, IsAfter, HasBranch}
use Rattle.ul_nodes.proofs.ForCallers.{same_true, same_false}
use Rattle.ul_marker_text.specs.NodeViews.{first_level, has_interval}
use Rattle.ul_marker_text.specs.Nodes.{Keeps, Part, KeepParts, KeepFirst, PartsFit, BranchesFit, AreKeys, is_after, are_apart}

-- ---- trees that keep others

-- the false tree keeps a tree that isn't reduced
pub keeps_none : (l : List ℕ) (given t : Plain) → t ≡ truth false → (Fits given l → ⊥) → Keeps l given t
keeps_none l given t e unfit = record { reduced = subst (λ (z : Plain). Fits z l) (sym e) tt; same = λ h. absurd (unfit h) }

pub keeps_itself : (l : List ℕ) (given t : Plain) → Fits t l → t ≡ given → Keeps l given t
keeps_itself l given t h e = record { reduced = h; same = λ f. e }

pub keeps_given : (l : List ℕ) (g h t : Plain) → g ≡ h → Keeps l g t → Keeps l h t
keeps_given l g h t e k = subst (λ (z : Plain). Keeps l z t) e k

-- ---- branches that are apart

lt_less : (o : Ordering) → is_lt o ≡ true → o ≡ Less
lt_less Less e = refl
lt_less Equal e = absurd cc
lt_less Greater e = absurd cc

after_is : (last : Option (List ℕ)) (k : List ℕ) → is_after last k ≡ true → IsAfter last k
after_is None k e = tt
after_is (Some j) k e = lt_less (text_cmp j k) e

is_after_key : (last : Option (List ℕ)) (k : List ℕ) → IsAfter last k → is_after last k ≡ true
is_after_key None k h = refl
is_after_key (Some j) k h = ap is_lt h

not_true : (b : Bool) → not b ≡ true → b ≡ false
not_true true e = absurd cc
not_true false e = refl

differ_false : (c d : Plain) → c ≢ d → same c d ≡ false
differ_false c d n = go (same c d) refl
  where
    go : (b : Bool) → same c d ≡ b → b ≡ false
    go true e = absurd (n (same_true c d e))
    go false e = refl

pub apart_fits : (bs : Branches) (l : List ℕ) (d : Plain) (last : Option (List ℕ)) → AreKeys l bs → BranchesFit l bs → are_apart last (carries l) d bs ≡ true → StartsAfter last bs × FitsAll bs l d
apart_fits done l d last k f e = (tt, tt)
apart_fits (branch j c rest) l d last k f e =
    let p = and_parts (is_after last j) (not (same c d) && are_apart (Some j) (carries l) (carried_part (carries l) c d) rest) e in
    let q = and_parts (not (same c d)) (are_apart (Some j) (carries l) (carried_part (carries l) c d) rest) p.1 in
    let more = apart_fits rest l (carried_part (carries l) c d) (Some j) k.1 f.1 q.1 in
    (after_is last j p.0, (k.0, more.0, f.0, same_false c d (not_true (same c d) q.0), more.1))

pub fits_apart : (bs : Branches) (l : List ℕ) (d : Plain) (last : Option (List ℕ)) → FitsAll bs l d → StartsAfter last bs → are_apart last (carries l) d bs ≡ true
fits_apart done l d last h a = refl
fits_apart (branch j c rest) l d last h a =
    rw (is_after_key last j a, differ_false c d h.3) (fits_apart rest l (carried_part (carries l) c d) (Some j) h.4 h.1)

none_starts : (bs : Branches) → StartsAfter None bs
none_starts done = tt
none_starts (branch k c rest) = tt

pub not_apart : (bs : Branches) (l b : List ℕ) (d : Plain) → are_apart None (carries l) d bs ≡ false → Fits (node l d bs) b → ⊥
not_apart bs l b d e h = let p : true ≡ false = sym (fits_apart bs l d None h.3 (none_starts bs)) ∙ e in cc

has_any : (bs : Branches) → bs ≢ done → HasBranch bs
has_any done n = absurd (n refl)
has_any (branch k c rest) n = tt

-- a node that passes all tests is reduced
pub node_fits : (bs : Branches) (l b : List ℕ) (d : Plain) → bs ≢ done → is_lt (text_cmp b l) ≡ true → AreKeys l bs → BranchesFit l bs → Fits d l → are_apart None (carries l) d bs ≡ true → Fits (node l d bs) b
node_fits bs l b d n e k f g a = (lt_less (text_cmp b l) e, has_any bs n, g, (apart_fits bs l d None k f a).1)

pub close_node : (bs : Branches) (l : List ℕ) (d : Plain) → bs ≢ done → close l d bs ≡ node l d bs
close_node done l d n = absurd (n refl)
close_node (branch k c rest) l d n = refl

-- keys of a reduced node
keys_fit : (bs : Branches) (l : List ℕ) (d : Plain) → FitsAll bs l d → AreKeys l bs
keys_fit done l d h = tt
keys_fit (branch k c rest) l d h = (h.0, keys_fit rest l (carried_part (carries l) c d) h.4)

pub no_keys : (bs : Branches) (l b : List ℕ) (d : Plain) → (AreKeys l bs → ⊥) → Fits (node l d bs) b → ⊥
no_keys bs l b d wrong h = wrong (keys_fit bs l d h.3)

-- ---- parts of branches

pub pieces_fit : (ps : List Part) (start : ℕ) → PartsFit python_level ps → BranchesFit python_level (pieces_from start ps)
pieces_fit [] start h = go (eqb start (2 ^ 96))
  where
    go : (t : Bool) → BranchesFit python_level (if t then done else branch (start ∷ []) (truth false) done)
    go true = tt
    go false = (tt, tt)
pieces_fit ((interval a b, p) ∷ ps) start h = go (eqb start a) (pieces_fit ps b h.1)
  where
    go : (t : Bool) → BranchesFit python_level (pieces_from b ps) → BranchesFit python_level (if t then branch (a ∷ []) p (pieces_from b ps) else branch (start ∷ []) (truth false) (branch (a ∷ []) p (pieces_from b ps)))
    go true more = (h.0, more)
    go false more = (tt, (h.0, more))
pieces_fit ((point l k, p) ∷ ps) start h = tt
pieces_fit ((others l ks, p) ∷ ps) start h = tt

pub listed_fit : (ps : List Part) (l : List ℕ) → PartsFit l ps → BranchesFit l (listed_points ps)
listed_fit [] l h = tt
listed_fit ((interval a b, p) ∷ ps) l h = tt
listed_fit ((point m k, p) ∷ ps) l h = (h.0, listed_fit ps l h.1)
listed_fit ((others m ks, p) ∷ ps) l h = tt

pub filled_fit : (ks : List (List ℕ)) (ps : List Part) (l : List ℕ) → PartsFit l ps → BranchesFit l (filled_points ks ps)
filled_fit [] ps l h = tt
filled_fit (k ∷ ks) [] l h = (tt, filled_fit ks [] l h)
filled_fit (k ∷ ks) ((interval a b, p) ∷ ps) l h = (tt, filled_fit ks ((interval a b, p) ∷ ps) l h)
filled_fit (k ∷ ks) ((point m j, p) ∷ ps) l h = go (bytes_eq k j) (filled_fit ks ps l h.1) (filled_fit ks ((point m j, p) ∷ ps) l h)
  where
    go : (t : Bool) → BranchesFit l (filled_points ks ps) → BranchesFit l (filled_points ks ((point m j, p) ∷ ps))
        → BranchesFit l (if t then branch k p (filled_points ks ps) else branch k (truth false) (filled_points ks ((point m j, p) ∷ ps)))
    go true x y = (h.0, x)
    go false x y = (tt, y)
filled_fit (k ∷ ks) ((others m js, p) ∷ ps) l h = (tt, filled_fit ks ((others m js, p) ∷ ps) l h)

part_of : Option (List (List ℕ) × Plain) → Plain
part_of None = truth false
part_of (Some o) = o.1

part_is : (o : List (List ℕ) × Plain) (ks : List (List ℕ)) (d : Plain) → Some o ≡ Some (ks, d) → o.1 ≡ d
unfolding part_of
part_is o ks d e = ap part_of e

pub other_fits : (ps : List Part) (l : List ℕ) (ks : List (List ℕ)) (d : Plain) → PartsFit l ps → other_part ps ≡ Some (ks, d) → Fits d l
other_fits [] l ks d h e = absurd cc
other_fits ((interval a b, p) ∷ ps) l ks d h e = absurd cc
other_fits ((point m k, p) ∷ ps) l ks d h e = other_fits ps l ks d h.1 e
other_fits ((others m js, p) ∷ ps) l ks d h e = subst (λ (z : Plain). Fits z l) (part_is (js, p) ks d e) h.0

-- ---- the node of parts

-- the node of the interpreter, without its first branch
pub opened_node : (bs rest : Branches) (k : List ℕ) (d : Plain) → bs ≡ branch k d rest → opening_node bs ≡ node python_level d rest
opened_node bs rest k d e = ap opening_node e

pub node_pieces : (ps : List Part) → has_interval ps ≡ true → node_of ps ≡ opening_node (pieces_from 0 ps)
node_pieces [] e = absurd cc
node_pieces ((interval a b, p) ∷ ps) e = refl
node_pieces ((point l k, p) ∷ ps) e = absurd cc
node_pieces ((others l ks, p) ∷ ps) e = absurd cc

pub node_points : (ps : List Part) (l : List ℕ) → has_interval ps ≡ false → first_level ps ≡ Some l → node_of ps ≡ pointed_at l ps (other_part ps)
node_points [] l e f = absurd cc
node_points ((interval a b, p) ∷ ps) l e f = absurd cc
node_points ((point m k, p) ∷ ps) l e f = let q : m ≡ l = cc in ap (λ z. pointed_at z ((point m k, p) ∷ ps) (other_part ps)) q
node_points ((others m ks, p) ∷ ps) l e f = let q : m ≡ l = cc in ap (λ z. pointed_at z ((others m ks, p) ∷ ps) (Some (ks, p))) q

pub interval_level : (ps : List Part) (l : List ℕ) → has_interval ps ≡ true → first_level ps ≡ Some l → l ≡ python_level
interval_level [] l e f = absurd cc
interval_level ((interval a b, p) ∷ ps) l e f = cc
interval_level ((point m k, p) ∷ ps) l e f = absurd cc
interval_level ((others m ks, p) ∷ ps) l e f = absurd cc

-- ---- a node of parts that keep others

-- each branch of one is the other's
pieces_keep : (ps qs : List Part) (start : ℕ) → KeepParts python_level ps qs → BranchesFit python_level (pieces_from start ps) → pieces_from start qs ≡ pieces_from start ps
pieces_keep [] [] start k h = refl
pieces_keep [] (q ∷ qs) start k h = absurd k
pieces_keep (p ∷ ps) [] start k h = absurd k
pieces_keep ((interval a b, p) ∷ ps) ((s, q) ∷ qs) start k h =
    ap (λ z. pieces_from start ((z, q) ∷ qs)) k.0 ∙ go (eqb start a) (pieces_keep ps qs b k.2) h
  where
    go : (t : Bool) → (BranchesFit python_level (pieces_from b ps) → pieces_from b qs ≡ pieces_from b ps) → BranchesFit python_level (if t then branch (a ∷ []) p (pieces_from b ps) else branch (start ∷ []) (truth false) (branch (a ∷ []) p (pieces_from b ps)))
        → (if t then branch (a ∷ []) q (pieces_from b qs) else branch (start ∷ []) (truth false) (branch (a ∷ []) q (pieces_from b qs)))
        ≡ (if t then branch (a ∷ []) p (pieces_from b ps) else branch (start ∷ []) (truth false) (branch (a ∷ []) p (pieces_from b ps)))
    go true more h = ap (λ z. branch (a ∷ []) z (pieces_from b qs)) (k.1.same h.0) ∙ ap (branch (a ∷ []) p) (more h.1)
    go false more h = ap (λ z. branch (start ∷ []) (truth false) (branch (a ∷ []) z (pieces_from b qs))) (k.1.same (h.1).0) ∙ ap (λ z. branch (start ∷ []) (truth false) (branch (a ∷ []) p z)) (more (h.1).1)
pieces_keep ((point l j, p) ∷ ps) ((s, q) ∷ qs) start k h = ap (λ z. pieces_from start ((z, q) ∷ qs)) k.0
pieces_keep ((others l ks, p) ∷ ps) ((s, q) ∷ qs) start k h = ap (λ z. pieces_from start ((z, q) ∷ qs)) k.0

listed_keep : (ps qs : List Part) (l : List ℕ) → KeepParts l ps qs → BranchesFit l (listed_points ps) → listed_points qs ≡ listed_points ps
listed_keep [] [] l k h = refl
listed_keep [] (q ∷ qs) l k h = absurd k
listed_keep (p ∷ ps) [] l k h = absurd k
listed_keep ((interval a b, p) ∷ ps) ((s, q) ∷ qs) l k h = ap (λ z. listed_points ((z, q) ∷ qs)) k.0
listed_keep ((point m j, p) ∷ ps) ((s, q) ∷ qs) l k h =
    ap (λ z. listed_points ((z, q) ∷ qs)) k.0 ∙ ap (λ z. branch j z (listed_points qs)) (k.1.same h.0) ∙ ap (branch j p) (listed_keep ps qs l k.2 h.1)
listed_keep ((others m ks, p) ∷ ps) ((s, q) ∷ qs) l k h = ap (λ z. listed_points ((z, q) ∷ qs)) k.0

filled_keep : (ks : List (List ℕ)) (ps qs : List Part) (l : List ℕ) → KeepParts l ps qs → BranchesFit l (filled_points ks ps) → filled_points ks qs ≡ filled_points ks ps
filled_keep [] ps qs l k h = refl
filled_keep (j ∷ js) [] [] l k h = refl
filled_keep (j ∷ js) [] (q ∷ qs) l k h = absurd k
filled_keep (j ∷ js) (p ∷ ps) [] l k h = absurd k
filled_keep (j ∷ js) ((interval a b, p) ∷ ps) ((s, q) ∷ qs) l k h =
    ap (λ z. filled_points (j ∷ js) ((z, q) ∷ qs)) k.0 ∙ ap (branch j (truth false)) (ap (λ z. filled_points js ((z, q) ∷ qs)) (sym k.0) ∙ filled_keep js ((interval a b, p) ∷ ps) ((s, q) ∷ qs) l k h.1)
filled_keep (j ∷ js) ((point m i, p) ∷ ps) ((s, q) ∷ qs) l k h = ap (λ z. filled_points (j ∷ js) ((z, q) ∷ qs)) k.0 ∙ go (bytes_eq j i) (filled_keep js ps qs l k.2) (filled_keep js ((point m i, p) ∷ ps) ((s, q) ∷ qs) l k) h
  where
    go : (t : Bool) → (BranchesFit l (filled_points js ps) → filled_points js qs ≡ filled_points js ps)
        → (BranchesFit l (filled_points js ((point m i, p) ∷ ps)) → filled_points js ((s, q) ∷ qs) ≡ filled_points js ((point m i, p) ∷ ps)) → BranchesFit l (if t then branch j p (filled_points js ps) else branch j (truth false) (filled_points js ((point m i, p) ∷ ps)))
        → (if t then branch j q (filled_points js qs) else branch j (truth false) (filled_points js ((point m i, q) ∷ qs)))
        ≡ (if t then branch j p (filled_points js ps) else branch j (truth false) (filled_points js ((point m i, p) ∷ ps)))
    go true x y h = ap (λ z. branch j z (filled_points js qs)) (k.1.same h.0) ∙ ap (branch j p) (x h.1)
    go false x y h = ap (branch j (truth false)) (ap (λ z. filled_points js ((z, q) ∷ qs)) (sym k.0) ∙ y h.1)
filled_keep (j ∷ js) ((others m is, p) ∷ ps) ((s, q) ∷ qs) l k h =
    ap (λ z. filled_points (j ∷ js) ((z, q) ∷ qs)) k.0 ∙ ap (branch j (truth false)) (ap (λ z. filled_points js ((z, q) ∷ qs)) (sym k.0) ∙ filled_keep js ((others m is, p) ∷ ps) ((s, q) ∷ qs) l k h.1)

-- the other part of one is the other's
OtherKeeps : List ℕ → Option (List (List ℕ) × Plain) → Option (List (List ℕ) × Plain) → Type 0
OtherKeeps l None None = Unit {0}
OtherKeeps l None (Some o) = ⊥
OtherKeeps l (Some o) None = ⊥
OtherKeeps l (Some o) (Some u) = (u.0 ≡ o.0) × Keeps l o.1 u.1

other_keep : (ps qs : List Part) (l : List ℕ) → KeepParts l ps qs → OtherKeeps l (other_part ps) (other_part qs)
unfolding OtherKeeps
other_keep [] [] l k = tt
other_keep [] (q ∷ qs) l k = absurd k
other_keep (p ∷ ps) [] l k = absurd k
other_keep ((interval a b, p) ∷ ps) ((s, q) ∷ qs) l k = subst (λ (z : Step). OtherKeeps l None (other_part ((z, q) ∷ qs))) (sym k.0) tt
other_keep ((point m i, p) ∷ ps) ((s, q) ∷ qs) l k = subst (λ (z : Step). OtherKeeps l (other_part ps) (other_part ((z, q) ∷ qs))) (sym k.0) (other_keep ps qs l k.2)
other_keep ((others m is, p) ∷ ps) ((s, q) ∷ qs) l k = subst (λ (z : Step). OtherKeeps l (Some (is, p)) (other_part ((z, q) ∷ qs))) (sym k.0) (refl, k.1)

branches_fit : (bs : Branches) (l : List ℕ) (d : Plain) → FitsAll bs l d → BranchesFit l bs
branches_fit done l d h = tt
branches_fit (branch k c rest) l d h = (h.2, branches_fit rest l (carried_part (carries l) c d) h.4)

pointed_keep : (ps qs : List Part) (l b : List ℕ) (o u : Option (List (List ℕ) × Plain)) → KeepParts l ps qs → OtherKeeps l o u → Fits (pointed_at l ps o) b → pointed_at l qs u ≡ pointed_at l ps o
unfolding OtherKeeps
pointed_keep ps qs l b None None k e h = ap (node l (truth false)) (listed_keep ps qs l k (branches_fit (listed_points ps) l (truth false) h.3))
pointed_keep ps qs l b None (Some u) k e h = absurd e
pointed_keep ps qs l b (Some o) None k e h = absurd e
pointed_keep ps qs l b (Some o) (Some u) k e h =
    ap (λ z. node l z (filled_points u.0 qs)) (e.1.same h.2) ∙ ap (λ z. node l o.1 (filled_points z qs)) e.0
    ∙ ap (node l o.1) (filled_keep o.0 ps qs l k (branches_fit (filled_points o.0 ps) l o.1 h.3))

opened_fit : (bs : Branches) (b : List ℕ) → Fits (opening_node bs) b → BranchesFit python_level bs
opened_fit done b h = tt
opened_fit (branch k d rest) b h = (h.2, branches_fit rest python_level d h.3)

node_keep : (p : Part) (ps qs : List Part) (b : List ℕ) → KeepParts (step_level p.0) (p ∷ ps) qs → Fits (node_of (p ∷ ps)) b → node_of qs ≡ node_of (p ∷ ps)
node_keep p ps [] b k h = absurd k
node_keep (interval x y, p) ps ((s, q) ∷ qs) b k h =
    let all = (interval x y, p) ∷ ps in
    ap (λ z. node_of ((z, q) ∷ qs)) k.0
    ∙ ap opening_node (ap (λ z. pieces_from 0 ((z, q) ∷ qs)) (sym k.0) ∙ pieces_keep all ((s, q) ∷ qs) 0 k (opened_fit (pieces_from 0 all) b h))
node_keep (point l j, p) ps ((s, q) ∷ qs) b k h =
    let all = (point l j, p) ∷ ps in
    let made = (s, q) ∷ qs in
    ap (λ z. node_of ((z, q) ∷ qs)) k.0
    ∙ ap (λ z. pointed_at l ((z, q) ∷ qs) (other_part ((z, q) ∷ qs))) (sym k.0)
    ∙ pointed_keep all made l b (other_part all) (other_part made) k (other_keep all made l k) h
node_keep (others l js, p) ps ((s, q) ∷ qs) b k h =
    let all = (others l js, p) ∷ ps in
    let made = (s, q) ∷ qs in
    ap (λ z. node_of ((z, q) ∷ qs)) k.0
    ∙ ap (λ z. pointed_at l ((z, q) ∷ qs) (other_part ((z, q) ∷ qs))) (sym k.0)
    ∙ pointed_keep all made l b (other_part all) (other_part made) k (other_keep all made l k) h

-- what keeps the node of parts that keep others keeps the node of the others
pub node_kept : (p : Part) (ps qs : List Part) (b : List ℕ) (t : Plain) → KeepParts (step_level p.0) (p ∷ ps) qs → Keeps b (node_of qs) t → Keeps b (node_of (p ∷ ps)) t
node_kept p ps qs b t k h = record {
  reduced = h.reduced;
  same = λ f. let e = node_keep p ps qs b k f in h.same (subst (λ (z : Plain). Fits z b) (sym e) f) ∙ e;
}

-- ---- parts that are made one after the other

pub parts_fit : (ps qs : List Part) (l : List ℕ) → KeepParts l ps qs → PartsFit l qs
parts_fit [] [] l k = tt
parts_fit [] (q ∷ qs) l k = absurd k
parts_fit (p ∷ ps) [] l k = absurd k
parts_fit (p ∷ ps) (q ∷ qs) l k = (k.1.reduced, parts_fit ps qs l k.2)

pub first_kept : (p : Part) (ps qs : List Part) (l : List ℕ) → KeepParts l (p ∷ ps) qs → first_level qs ≡ Some (step_level p.0)
first_kept p ps [] l k = absurd k
first_kept p ps (q ∷ qs) l k = ap (λ z. Some (step_level z)) k.0

pub keep_more : (given made : List Part) (s : Step) (p q : Plain) (left : List Part) (l : List ℕ) → KeepFirst l given made ((s, p) ∷ left) → Keeps l p q → KeepFirst l given (made ++ (s, q) ∷ []) left
keep_more [] [] s p q left l k h = absurd cc
keep_more (g ∷ given) [] s p q left l k h =
    let first : (s, p) ≡ g = cc in
    let more : left ≡ given = cc in
    (ap (λ z. z.0) first, subst (λ (z : Plain). Keeps l z q) (ap (λ z. z.1) first) h, more)
keep_more [] (m ∷ made) s p q left l k h = absurd k
keep_more (g ∷ given) (m ∷ made) s p q left l k h = (k.0, k.1, keep_more given made s p q left l k.2 h)

pub keep_all : (given made left : List Part) (l : List ℕ) → left ≡ [] → KeepFirst l given made left → KeepParts l given made
keep_all [] [] left l e k = tt
keep_all (g ∷ given) [] left l e k = absurd cc
keep_all [] (m ∷ made) left l e k = absurd k
keep_all (g ∷ given) (m ∷ made) left l e k = (k.0, k.1, keep_all given made left l e k.2)
