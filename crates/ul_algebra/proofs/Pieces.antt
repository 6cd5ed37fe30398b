-- The lists that a node is made of.
use Rattle.std.specs.List.{All}
use Rattle.std.proofs.lemmas.List.{length-map}
use Rattle.std.proofs.lemmas.List.Elements.{All-push}
use Rattle.std.proofs.Common.{true, false, Bool, Global, String, string_bytes, arith, ◌≡◌, ℕ, zero, suc, List, [], ◌∷◌, ◌++◌, map, length, refl, ap, sym, ◌∙◌, subst}
use Rattle.ul_nodes.specs.Plain.{node, branch}
use Rattle.ul_nodes.specs.Closing.{keyed_branches, branch_parts, level_parts}
use Rattle.ul_nodes.specs.declared.level.Key.{Key}
use Rattle.ul_algebra.specs.Made.{Seen}
use Rattle.ul_algebra.specs.Spelled.{tree_of, keyed_node, branches_by, other_of}

other_last : (ks : List (List ℕ)) (ps : List Seen) (other : Seen) → length ks ≡ length ps → other_of ks (map tree_of (ps ++ other ∷ [])) ≡ tree_of other
other_last [] [] other e = refl
other_last [] (p ∷ ps) other e = absurd (omega (arith, e))
other_last (k ∷ ks) [] other e = absurd (omega (arith, e))
other_last (k ∷ ks) (p ∷ ps) other e = other_last ks ps other (omega (arith, e))

branches_first : (ks : List (List ℕ)) (ps : List Seen) (other : Seen) → length ks ≡ length ps → branches_by ks (map tree_of (ps ++ other ∷ [])) ≡ keyed_branches ks (map tree_of ps)
branches_first [] [] other e = refl
branches_first [] (p ∷ ps) other e = absurd (omega (arith, e))
branches_first (k ∷ ks) [] other e = absurd (omega (arith, e))
branches_first (k ∷ ks) (p ∷ ps) other e = ap (branch k (tree_of p)) (branches_first ks ps other (omega (arith, e)))

-- a node of texts, whose parts are theirs and the other one
pub keyed_is : (l : List ℕ) (texts : List (String Global)) (ps all : List Seen) (other : Seen) (points : List (List ℕ)) → length texts ≡ length ps → all ≡ ps ++ other ∷ [] → points ≡ map string_bytes texts
    → keyed_node l points (map tree_of all) ≡ node l (tree_of other) (keyed_branches (map string_bytes texts) (map tree_of ps))
keyed_is l texts ps all other points e s q =
    let ks = map string_bytes texts in
    let n : length ks ≡ length ps = length-map texts string_bytes ∙ e in
    (λ i. keyed_node l (q i) (map tree_of (s i))) ∙ (λ i. node l (other_last ks ps other n i) (branches_first ks ps other n i))

-- ---- what is known of parts

parts_all : {A : Type 0} (P : A → Type 0) (made : List (Key × A)) → All (λ e. P e.1) made → All P (branch_parts made)
parts_all P [] h k d m = absurd (omega (arith, m))
parts_all P (e ∷ made) h zero d m = h 0 e (omega arith)
parts_all P (e ∷ made) h (suc k) d m = parts_all P made (λ j f n. h (suc j) f (omega arith)) k d (omega arith)

level_all : {A : Type 0} (P : A → Type 0) (m : Bool) (other : A) (made : List (Key × A)) → P other → All (λ e. P e.1) made → All P (level_parts m other made)
level_all P true other made o h zero d n = o
level_all P true other made o h (suc k) d n = parts_all P made h k d (omega arith)
level_all P false other made o h k d n = All-push P (branch_parts made) other (parts_all P made h) o k d n

-- what is known of the other part and of branches is known of the parts of their level
pub parts_are : {A : Type 0} (P : A → Type 0) (m : Bool) (other back : A) (made : List (Key × A)) (ps : List A) → ps ≡ level_parts m back made → back ≡ other → P other → All (λ e. P e.1) made → All P ps
parts_are {A} P m other back made ps e q o h = subst (λ (z : List A). All P z) (sym e) (level_all P m back made (subst P (sym q) o) h)
