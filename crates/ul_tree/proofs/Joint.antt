-- The joint truth of many trees, and of the parts of markers, lists and specifiers.
use Rattle.std.proofs.Common.{◌≡◌, ℕ, List, [], ◌∷◌, ◌++◌, take, drop, map, Bool, true, false, refl, sym, ap, ◌∙◌, length, ◌<◌, ◌≤◌, ◌+◌, get_or, append_assoc, Result, Ok, Err, zero, suc, ◌-◌, arith, length-take, if◌then◌else◌}
use Rattle.std.specs.Prelude.{◌&&◌, ◌||◌, IfOk}
use Rattle.std.specs.declared.alloc.AllocError.{AllocError}
use Rattle.std.proofs.lemmas.List.{take-append-drop, map-append, append-nil, drop_all, drop_more}
use Rattle.std.proofs.lemmas.List.Folds.{list_all-map}
use Rattle.ul_version.specs.Fields.{Fields, plain}
use Rattle.ul_specifier.specs.Clauses.{ClauseFields}
use Rattle.ul_specifier.specs.Meaning.{meets_clause, meets_list}
use Rattle.ul_comparison.specs.Truth.{marker_holds, all_hold, any_holds, is_listed, equal_to}
use Rattle.ul_marker.specs.Views.{marker_view, markers_view}
use Rattle.ul_comparison.specs.Worlds.{WorldFields}
use Rattle.ul_marker.specs.declared.marker.Marker.{Marker}
use Rattle.ul_nodes.specs.Apply.{both, either, same_bool}
use Rattle.ul_nodes.specs.Plain.{Plain, truth}
use Rattle.ul_tree.specs.Joining.{joint, truths_of, last_trees}
use Rattle.ul_tree.specs.Values.{tree_holds}
use Rattle.ul_tree.specs.Views.{tree_view}
use Rattle.ul_tree.specs.declared.tree.Tree.{Tree}

pub joint_one : (all b : Bool) → b ≡ joint all (b ∷ [])
joint_one true true = refl
joint_one true false = refl
joint_one false true = refl
joint_one false false = refl

pub joint_and : (b c : Bool) → both b c ≡ joint true (b ∷ c ∷ [])
joint_and true true = refl
joint_and true false = refl
joint_and false c = refl

pub joint_or : (b c : Bool) → either b c ≡ joint false (b ∷ c ∷ [])
joint_or true c = refl
joint_or false true = refl
joint_or false false = refl

-- many are joined as two parts of them are
pub joint_parts : (all : Bool) (bs cs : List Bool) → joint all (joint all bs ∷ joint all cs ∷ []) ≡ joint all (bs ++ cs)
joint_parts true [] cs = sym (joint_one true (joint true cs))
joint_parts true (true ∷ bs) cs = joint_parts true bs cs
joint_parts true (false ∷ bs) cs = refl
joint_parts false [] cs = sym (joint_one false (joint false cs))
joint_parts false (true ∷ bs) cs = refl
joint_parts false (false ∷ bs) cs = joint_parts false bs cs

-- what is left of a row's front, and the row's end
drop_take : (i k : ℕ) (xs : List Tree) → i ≤ k → drop i (take k xs) ++ drop k xs ≡ drop i xs
drop_take zero k xs h = take-append-drop k xs
drop_take (suc i) zero xs h = absurd (omega arith)
drop_take (suc i) (suc k) [] h = refl
drop_take (suc i) (suc k) (x ∷ xs) h = drop_take i k xs (omega arith)

-- the last trees of a row are joined as two parts of them are
pub last_truths : (all : Bool) (xs front : List Tree) (count half : ℕ) (w : WorldFields) (x : List ℕ) → half ≤ count → count ≤ length xs → front ≡ take (length xs - half) xs
    → joint all (joint all (truths_of (drop (length front - (count - half)) front) w x) ∷ joint all (truths_of (drop (length xs - half) xs) w x) ∷ []) ≡ joint all (truths_of (drop (length xs - count) xs) w x)
last_truths all xs front count half w x h g e =
    let n = length xs in
    let size = ap (length {A = Tree}) e ∙ length-take (n - half) xs in
    let left : length front - (count - half) ≡ n - count = omega (arith, size) in
    joint_parts all (truths_of (drop (length front - (count - half)) front) w x) (truths_of (drop (n - half) xs) w x)
    ∙ ap (joint all)
    (sym (map-append _ (drop (length front - (count - half)) front) (drop (n - half) xs))
    ∙ ap (λ z. truths_of z w x)
    (ap (λ i. drop i front ++ drop (n - half) xs) left ∙ ap (λ z. drop (n - count) z ++ drop (n - half) xs) e ∙ drop_take (n - count) (n - half) xs (omega arith)))

-- a truth joined with a tree: the tree where the truth is neutral, else the truth
pub settled_first : (all value : Bool) (b : Plain) (w : WorldFields) (x : List ℕ) → tree_holds (if same_bool value all then b else truth value) w x ≡ joint all (value ∷ tree_holds b w x ∷ [])
settled_first true true b w x = joint_and true (tree_holds b w x)
settled_first true false b w x = joint_and false (tree_holds b w x)
settled_first false true b w x = joint_or true (tree_holds b w x)
settled_first false false b w x = joint_or false (tree_holds b w x)

neutral_second : (all value h : Bool) → (if same_bool value all then h else value) ≡ joint all (h ∷ value ∷ [])
neutral_second true true true = refl
neutral_second true true false = refl
neutral_second true false true = refl
neutral_second true false false = refl
neutral_second false true true = refl
neutral_second false true false = refl
neutral_second false false true = refl
neutral_second false false false = refl

pub settled_second : (all value : Bool) (a : Plain) (w : WorldFields) (x : List ℕ) → tree_holds (if same_bool value all then a else truth value) w x ≡ joint all (tree_holds a w x ∷ value ∷ [])
settled_second true true a w x = neutral_second true true (tree_holds a w x)
settled_second true false a w x = neutral_second true false (tree_holds a w x)
settled_second false true a w x = neutral_second false true (tree_holds a w x)
settled_second false false a w x = neutral_second false false (tree_holds a w x)

-- one tree more, whose truth is that of the next item
pub truths_more : {A : Type 0} (f : A → Bool) (trees : List Tree) (t : Tree) (items : List A) (i : ℕ) (d : A) (w : WorldFields) (x : List ℕ) → i < length items → d ≡ get_or items i d
    → tree_holds (tree_view t) w x ≡ f d → truths_of trees w x ++ map f (drop i items) ≡ map f items → truths_of (trees ++ t ∷ []) w x ++ map f (drop (i + 1) items) ≡ map f items
truths_more f trees t items i d w x h same told so =
    ap (λ z. z ++ map f (drop (i + 1) items)) (map-append _ trees (t ∷ []))
    ∙ append_assoc (truths_of trees w x) (tree_holds (tree_view t) w x ∷ []) (map f (drop (i + 1) items))
    ∙ ap (λ b. truths_of trees w x ++ (b ∷ map f (drop (i + 1) items))) told
    ∙ ap (λ e. truths_of trees w x ++ (f e ∷ map f (drop (i + 1) items))) same
    ∙ ap (λ z. truths_of trees w x ++ map f z) (sym (drop_more items i d h))
    ∙ so

-- all trees, whose truths are those of all items
pub truths_all : {A : Type 0} (f : A → Bool) (trees : List Tree) (items : List A) (i : ℕ) (w : WorldFields) (x : List ℕ) → length items ≤ i
    → truths_of trees w x ++ map f (drop i items) ≡ map f items → truths_of trees w x ≡ map f items
truths_all f trees items i w x h so = sym (append-nil (truths_of trees w x)) ∙ ap (λ z. truths_of trees w x ++ map f z) (sym (drop_all i items h)) ∙ so

-- what holds of a tree that is made
pub made_then : (r : Result Tree AllocError) (P Q : Tree → Type 0) → ((t : Tree) → P t → Q t) → IfOk r P → IfOk r Q
made_then (Ok t) P Q f p = f t p
made_then (Err e) P Q f p = tt

-- ---- parts of markers

pub all_joint : (ms : List Marker) (w : WorldFields) (x : List ℕ) → joint true (map (λ m. marker_holds (marker_view m) w x) ms) ≡ all_hold (markers_view ms) w x
all_joint [] w x = refl
all_joint (m ∷ ms) w x = ap (λ b. marker_holds (marker_view m) w x && b) (all_joint ms w x)

pub any_joint : (ms : List Marker) (w : WorldFields) (x : List ℕ) → joint false (map (λ m. marker_holds (marker_view m) w x) ms) ≡ any_holds (markers_view ms) w x
any_joint [] w x = refl
any_joint (m ∷ ms) w x = ap (λ b. marker_holds (marker_view m) w x || b) (any_joint ms w x)

-- ---- lists of versions, and specifiers

pub listed_joint : (versions : List Fields) (release : List ℕ) → joint false (map (λ V. meets_clause (equal_to V) (plain release)) versions) ≡ is_listed versions release
listed_joint [] release = refl
listed_joint (V ∷ versions) release = ap (λ b. meets_clause (equal_to V) (plain release) || b) (listed_joint versions release)

pub meets_joint : (clauses : List ClauseFields) (c : Fields) → joint true (map (λ s. meets_clause s c) clauses) ≡ meets_list clauses c
meets_joint clauses c = list_all-map _ _ clauses

-- the last trees, as many as there are, are all of them
pub all_last : (count : ℕ) (trees : List Tree) → count ≡ length trees → last_trees count trees ≡ trees
all_last count trees e = let none : length trees - count ≡ 0 = omega (arith, e) in ap (λ k. drop k trees) none
