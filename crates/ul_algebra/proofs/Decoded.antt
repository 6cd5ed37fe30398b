-- A plant is told by the reduced tree that it spells.
use Rattle.std.proofs.Common.{◌≡◌, ℕ, zero, suc, ◌<◌, ◌++◌, List, [], ◌∷◌, map, length, refl, ap, sym, ◌∙◌, subst, arith, Bool, true, false, Less, Equal, Greater, Ordering, IsTrue}
use Rattle.ul_comparison.specs.Atoms.{AtomFields, atom_key, atom_cmp, text_number, variable_number, kind_number}
use Rattle.ul_comparison.specs.declared.variable.AtomKind.{AtomKind}
use Rattle.ul_comparison.specs.declared.variable.AtomKind.TheVariants.{Contains, Within, Below, AtMost, Same}
use Rattle.ul_comparison.specs.declared.variable.Variable.{Variable}
use Rattle.ul_comparison.specs.declared.variable.Variable.TheVariants.{OsName, SysPlatform, PlatformMachine, PlatformPythonImplementation, PlatformRelease, PlatformSystem, PlatformVersion, PythonVersion, PythonFullVersion, ImplementationName, ImplementationVersion, Extras}
use Rattle.ul_core.specs.declared.trees.Tree.{Tree}
use Rattle.ul_core.specs.declared.trees.Tree.TheOpen.{Tree-F}
use Rattle.ul_core.specs.declared.trees.Tree.TheViews.{out-Tree, roll-Tree, roll-out-Tree}
use Rattle.ul_core.specs.declared.trees.Tree.TheFolds.{fold-roll-Tree, fold_out-Tree, ind-Tree}
use Rattle.ul_core.specs.Trees.{tree_with}
use Rattle.ul_interner.specs.Marked.{Marked, plain, plain_step, label_of, parts_of}
use Rattle.ul_nodes.specs.Levels.{extra_level, python_level, text_level, atom_level, IsKey}
use Rattle.ul_nodes.specs.Plain.{Plain, truth, node, Branches, done, branch, text_cmp, carries, carried_part}
use Rattle.ul_nodes.specs.Reduced.{IsReduced, Fits, FitsAll, HasBranch}
use Rattle.ul_nodes.specs.Apply.{keys, same}
use Rattle.ul_nodes.proofs.ForCallers.{same_true, same_itself, cmp_equal, cmp_itself, fits_weaker}
use Rattle.ul_nodes.specs.Closing.{pieces_of}
use Rattle.std.specs.Ordering.{is_eq}
use Rattle.ul_algebra.specs.declared.labels.DiagramLabel.{DiagramLabel}
use Rattle.ul_algebra.specs.declared.labels.DiagramLabel.TheVariants.{Truth, Extra, Python, Text, Opaque}
use Rattle.ul_algebra.specs.Spelled.{other_of, branches_by, keyed_node, spelling, spell_step, spells, tree_of}

-- ---- variables and kinds by their numbers

abbrev pub variable_at : ℕ → Variable
variable_at zero = OsName
variable_at (suc zero) = SysPlatform
variable_at (suc (suc zero)) = PlatformMachine
variable_at (suc (suc (suc zero))) = PlatformPythonImplementation
variable_at (suc (suc (suc (suc zero)))) = PlatformRelease
variable_at (suc (suc (suc (suc (suc zero))))) = PlatformSystem
variable_at (suc (suc (suc (suc (suc (suc zero)))))) = PlatformVersion
variable_at (suc (suc (suc (suc (suc (suc (suc zero))))))) = PythonVersion
variable_at (suc (suc (suc (suc (suc (suc (suc (suc zero)))))))) = PythonFullVersion
variable_at (suc (suc (suc (suc (suc (suc (suc (suc (suc zero))))))))) = ImplementationName
variable_at (suc (suc (suc (suc (suc (suc (suc (suc (suc (suc zero)))))))))) = ImplementationVersion
variable_at (suc (suc (suc (suc (suc (suc (suc (suc (suc (suc (suc n))))))))))) = Extras

pub variable_back : (v : Variable) → variable_at (variable_number v) ≡ v
variable_back OsName = refl
variable_back SysPlatform = refl
variable_back PlatformMachine = refl
variable_back PlatformPythonImplementation = refl
variable_back PlatformRelease = refl
variable_back PlatformSystem = refl
variable_back PlatformVersion = refl
variable_back PythonVersion = refl
variable_back PythonFullVersion = refl
variable_back ImplementationName = refl
variable_back ImplementationVersion = refl
variable_back Extras = refl

abbrev pub text_at : ℕ → Variable
text_at zero = OsName
text_at (suc zero) = SysPlatform
text_at (suc (suc zero)) = PlatformMachine
text_at (suc (suc (suc zero))) = PlatformPythonImplementation
text_at (suc (suc (suc (suc zero)))) = PlatformRelease
text_at (suc (suc (suc (suc (suc zero))))) = PlatformSystem
text_at (suc (suc (suc (suc (suc (suc zero)))))) = PlatformVersion
text_at (suc (suc (suc (suc (suc (suc (suc n))))))) = ImplementationName

pub text_back : (v : Variable) → text_number v < 8 → text_at (text_number v) ≡ v
text_back OsName h = refl
text_back SysPlatform h = refl
text_back PlatformMachine h = refl
text_back PlatformPythonImplementation h = refl
text_back PlatformRelease h = refl
text_back PlatformSystem h = refl
text_back PlatformVersion h = refl
text_back PythonVersion h = absurd (omega arith)
text_back PythonFullVersion h = absurd (omega arith)
text_back ImplementationName h = refl
text_back ImplementationVersion h = absurd (omega arith)
text_back Extras h = absurd (omega arith)

abbrev pub kind_at : ℕ → AtomKind
kind_at zero = Contains
kind_at (suc zero) = Within
kind_at (suc (suc zero)) = Below
kind_at (suc (suc (suc zero))) = AtMost
kind_at (suc (suc (suc (suc n)))) = Same

pub kind_back : (k : AtomKind) → kind_at (kind_number k) ≡ k
kind_back Contains = refl
kind_back Within = refl
kind_back Below = refl
kind_back AtMost = refl
kind_back Same = refl

abbrev pub atom_at : List ℕ → AtomFields
atom_at [] = record { variable = OsName; kind = Same; literal = [] }
atom_at (v ∷ []) = record { variable = OsName; kind = Same; literal = [] }
atom_at (v ∷ k ∷ literal) = record { variable = variable_at v; kind = kind_at k; literal = literal }

pub atom_back : (a : AtomFields) → atom_at (atom_key a) ≡ a
atom_back a = λ i. record { variable = variable_back a.variable i; kind = kind_back a.kind i; literal = a.literal }

-- ---- labels and parts of a tree

abbrev pub parts_in : Branches → List Plain
parts_in done = []
parts_in (branch k c rest) = c ∷ parts_in rest

abbrev pub first_number : List ℕ → ℕ
first_number [] = 0
first_number (x ∷ xs) = x

abbrev pub numbers_in : Branches → List ℕ
numbers_in done = []
numbers_in (branch k c rest) = first_number k ∷ numbers_in rest

abbrev pub decoded : Plain → DiagramLabel × List Plain
decoded (truth b) = (Truth b, [])
decoded (node [] d bs) = (Truth false, [])
decoded (node (zero ∷ []) d bs) = (Extra (keys bs), parts_in bs ++ (d ∷ []))
decoded (node (suc zero ∷ []) d bs) = (Python (0 ∷ numbers_in bs), d ∷ parts_in bs)
decoded (node (suc (suc i) ∷ []) d bs) = (Text (text_at i) (keys bs), parts_in bs ++ (d ∷ []))
decoded (node (x ∷ y ∷ rest) d bs) = (Opaque (atom_at (y ∷ rest)), parts_in bs ++ (d ∷ []))

-- as many keys as parts, but for the last
pub record Shape (ks : List (List ℕ)) (ps : List Plain) : Type 0 where
  pub keys : keys (branches_by ks ps) ≡ ks
  pub parts : parts_in (branches_by ks ps) ++ (other_of ks ps ∷ []) ≡ ps
  pub count : length ps ≡ suc (length ks)

pub keyed_shape : (ks : List (List ℕ)) (ps : List Plain) (l : List ℕ) → Fits (other_of ks ps) l → Shape ks ps
keyed_shape [] [] l h = absurd h.1
keyed_shape [] (p ∷ []) l h = record { keys = refl; parts = refl; count = refl }
keyed_shape [] (p ∷ q ∷ ps) l h = absurd h.1
keyed_shape (k ∷ ks) [] l h = absurd h.1
keyed_shape (k ∷ ks) (p ∷ ps) l h =
    let s = keyed_shape ks ps l h in
    record { keys = ap (λ z. k ∷ z) s.keys; parts = ap (λ z. p ∷ z) s.parts; count = ap suc s.count }

pub record Pieces (ss : List ℕ) (ps : List Plain) : Type 0 where
  pub numbers : numbers_in (pieces_of ss ps) ≡ ss
  pub parts : parts_in (pieces_of ss ps) ≡ ps
  pub count : length ps ≡ length ss

pub pieces_shape : (ss : List ℕ) (ps : List Plain) (d : Plain) → FitsAll (pieces_of ss ps) python_level d → Pieces ss ps
pieces_shape [] [] d h = record { numbers = refl; parts = refl; count = refl }
pieces_shape [] (p ∷ ps) d h = let e = h.0.1 in absurd (cc)
pieces_shape (s ∷ ss) [] d h = let e = h.0.1 in absurd (cc)
pieces_shape (s ∷ ss) (p ∷ ps) d h =
    let r = pieces_shape ss ps p h.4 in
    record { numbers = ap (λ z. s ∷ z) r.numbers; parts = ap (λ z. p ∷ z) r.parts; count = ap suc r.count }

-- the first branch has a key of its level
pub first_key : (bs : Branches) (l : List ℕ) (d : Plain) → HasBranch bs → FitsAll bs l d → (k : List ℕ) × IsKey l k
first_key done l d h f = absurd h
first_key (branch k c rest) l d h f = (k, f.0)

pub decoded_spelled : (l : DiagramLabel) (ps : List Plain) → IsReduced (spelling l ps) → decoded (spelling l ps) ≡ (l, ps)
decoded_spelled (Truth b) [] h = refl
decoded_spelled (Truth b) (p ∷ ps) h = absurd h.1
decoded_spelled (Extra points) ps h = let s = keyed_shape points ps extra_level h.2 in λ i. (Extra (s.keys i), s.parts i)
decoded_spelled (Python []) ps h = absurd h.1
decoded_spelled (Python (suc s ∷ ss)) ps h = absurd h.1
decoded_spelled (Python (zero ∷ ss)) [] h = absurd h.1
decoded_spelled (Python (zero ∷ ss)) (p ∷ ps) h = let s = pieces_shape ss ps p h.3 in λ i. (Python (0 ∷ s.numbers i), p ∷ s.parts i)
decoded_spelled (Text v points) ps h =
    let s = keyed_shape points ps (text_level v) h.2 in
    let k = first_key (branches_by points ps) (text_level v) (other_of points ps) h.1 h.3 in
    let e = text_back v k.1.0 in
    λ i. (Text (e i) (s.keys i), s.parts i)
decoded_spelled (Opaque atom) ps h =
    let s = keyed_shape ((1 ∷ []) ∷ []) ps (atom_level atom) h.2 in
    λ i. (Opaque (atom_back atom i), s.parts i)

-- ---- parts of a reduced tree

abbrev pub EachReduced : List Plain → Type 0
EachReduced [] = Unit {0}
EachReduced (p ∷ ps) = IsReduced p × EachReduced ps

each_then : (ps : List Plain) (d : Plain) → EachReduced ps → IsReduced d → EachReduced (ps ++ (d ∷ []))
each_then [] d h r = (r, tt)
each_then (p ∷ ps) d h r = (h.0, each_then ps d h.1 r)

each_in : (bs : Branches) (l : List ℕ) (d : Plain) → text_cmp [] l ≡ Less → FitsAll bs l d → EachReduced (parts_in bs)
each_in done l d o h = tt
each_in (branch k c rest) l d o h = (fits_weaker c l [] o h.2, each_in rest l (carried_part (carries l) c d) o h.4)

keyed_reduced : (l : List ℕ) (ks : List (List ℕ)) (ps : List Plain) → IsReduced (keyed_node l ks ps) → EachReduced ps
keyed_reduced l ks ps h =
    let s = keyed_shape ks ps l h.2 in
    subst (λ (z : List Plain). EachReduced z) s.parts
    (each_then (parts_in (branches_by ks ps)) (other_of ks ps) (each_in (branches_by ks ps) l (other_of ks ps) h.0 h.3) (fits_weaker (other_of ks ps) l [] h.0 h.2))

pub spelled_reduced : (l : DiagramLabel) (ps : List Plain) → IsReduced (spelling l ps) → EachReduced ps
spelled_reduced (Truth b) [] h = tt
spelled_reduced (Truth b) (p ∷ ps) h = absurd h.1
spelled_reduced (Extra points) ps h = keyed_reduced extra_level points ps h
spelled_reduced (Python []) ps h = absurd h.1
spelled_reduced (Python (suc s ∷ ss)) ps h = absurd h.1
spelled_reduced (Python (zero ∷ ss)) [] h = absurd h.1
spelled_reduced (Python (zero ∷ ss)) (p ∷ ps) h =
    let s = pieces_shape ss ps p h.3 in
    (fits_weaker p python_level [] h.0 h.2, subst (λ (z : List Plain). EachReduced z) s.parts (each_in (pieces_of ss ps) python_level p h.0 h.3))
spelled_reduced (Text v points) ps h = keyed_reduced (text_level v) points ps h
spelled_reduced (Opaque atom) ps h = keyed_reduced (atom_level atom) ((1 ∷ []) ∷ []) ps h

-- ---- one tree, one plant

abbrev Told : Tree DiagramLabel → Type 0
Told t = (u : Tree DiagramLabel) → IsReduced (spells t) → spells t ≡ spells u → t ≡ u

told_row : (xs : List ((t : Tree DiagramLabel) × Told t)) (us : List (Tree DiagramLabel)) → EachReduced (map spells (map (λ e. e.0) xs)) → map spells (map (λ e. e.0) xs) ≡ map spells us → map (λ e. e.0) xs ≡ us
told_row [] [] r e = refl
told_row [] (u ∷ us) r e = absurd (cc)
told_row (x ∷ xs) [] r e = absurd (cc)
told_row (x ∷ xs) (u ∷ us) r e =
    let h : spells x.0 ≡ spells u = cc in
    let t : map spells (map (λ e. e.0) xs) ≡ map spells us = cc in
    let a = x.1 u r.0 h in
    let b = told_row xs us r.1 t in
    λ i. a i ∷ b i

pub one_plant : (t : Tree DiagramLabel) → Told t
one_plant = ind-Tree DiagramLabel Told (λ x y is. subst (λ z. Told (roll-Tree DiagramLabel z)) is (λ u r e.
    let z : Tree-F DiagramLabel (Tree DiagramLabel) = record { label = y.label; parts = map (λ k. k.0) y.parts } in
    let ps = map spells z.parts in
    let v = out-Tree DiagramLabel u in
    let here = fold-roll-Tree DiagramLabel Plain spell_step z in
    let there = fold_out-Tree DiagramLabel Plain spell_step u in
    let same : spelling y.label ps ≡ spelling v.label (map spells v.parts) = sym here ∙ (e ∙ there) in
    let reduced : IsReduced (spelling y.label ps) = subst (λ (w : Plain). IsReduced w) here r in
    let both : (y.label, ps) ≡ (v.label, map spells v.parts) =
    sym (decoded_spelled y.label ps reduced) ∙ ap decoded same ∙ decoded_spelled v.label (map spells v.parts) (subst (λ (w : Plain). IsReduced w) same reduced) in
    let rest = told_row y.parts v.parts (spelled_reduced y.label ps reduced) (ap (λ k. k.1) both) in
    (λ i. roll-Tree DiagramLabel record { label = (both i).0; parts = rest i }) ∙ roll-out-Tree DiagramLabel u))

-- ---- one level of a diagram

map_twice : (ps : List (Marked DiagramLabel)) → map spells (map plain ps) ≡ map tree_of ps
map_twice [] = refl
map_twice (p ∷ ps) = ap (λ z. tree_of p ∷ z) (map_twice ps)

pub grown_is : (l : DiagramLabel) (ps : List (Marked DiagramLabel)) → spells (tree_with l (map plain ps)) ≡ spelling l (map tree_of ps)
grown_is l ps = fold-roll-Tree DiagramLabel Plain spell_step record { label = l; parts = map plain ps } ∙ ap (spelling l) (map_twice ps)

pub tree_is : (m : Marked DiagramLabel) → tree_of m ≡ spelling (label_of m) (map tree_of (parts_of m))
tree_is m = ap spells (fold_out-Tree _ _ plain_step m) ∙ grown_is (label_of m) (parts_of m)

-- of diagrams, one tree has one plant
pub same_plant : (a b : Marked DiagramLabel) → IsReduced (tree_of a) → tree_of a ≡ tree_of b → plain a ≡ plain b
same_plant a b r e = one_plant (plain a) (plain b) r e

-- ---- atoms

pub atom_equal : (a b : AtomFields) → text_cmp (atom_key a) (atom_key b) ≡ Equal → a ≡ b
atom_equal a b e = sym (atom_back a) ∙ ap atom_at (cmp_equal (atom_key a) (atom_key b) e) ∙ atom_back b

eq_is : (o : Ordering) (r : Bool) → r ≡ is_eq o → IsTrue r → o ≡ Equal
eq_is Less r e t = absurd (let f : false ≡ true = sym e ∙ t in cc)
eq_is Equal r e t = refl
eq_is Greater r e t = absurd (let f : false ≡ true = sym e ∙ t in cc)

pub atom_same : (a b : AtomFields) (r : Bool) → r ≡ is_eq (atom_cmp a b) → IsTrue r → a ≡ b
atom_same a b r e t = atom_equal a b (eq_is (atom_cmp a b) r e t)

pub atom_itself : (a b : AtomFields) (r : Bool) → r ≡ is_eq (atom_cmp a b) → a ≡ b → IsTrue r
atom_itself a b r e s = e ∙ ap is_eq (ap (λ z. atom_cmp z b) s ∙ cmp_itself (atom_key b))

pub of_opaque : (a b : AtomFields) → Opaque a ≡ Opaque b → a ≡ b
of_opaque a b e = cc

pub same_of : (a b : Marked DiagramLabel) (r : Bool) → IsReduced (tree_of a) → (r ≡ true → plain a ≡ plain b) → (plain a ≡ plain b → r ≡ true) → r ≡ same (tree_of a) (tree_of b)
same_of a b true h f g = sym (ap (same (tree_of a)) (sym (ap spells (f refl))) ∙ same_itself (tree_of a))
same_of a b false h f g = go (same (tree_of a) (tree_of b)) refl
  where
    go : (s : Bool) → same (tree_of a) (tree_of b) ≡ s → false ≡ s
    go true e = g (same_plant a b h (same_true (tree_of a) (tree_of b) e))
    go false e = refl
