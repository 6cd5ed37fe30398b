-- Loops over names.
use Rattle.std.proofs.Common.{◌≡◌, ℕ, ◌+◌, ◌<◌, List, [], ◌∷◌, ◌++◌, drop, length, get_or, Option, Some, None, slice_get, refl, sym, ap, ◌∙◌, append_assoc}
use Rattle.std.proofs.Common.{Bool, true, false}
use Rattle.std.proofs.lemmas.List.Elements.{All-append, All-cons, All-nil}
use Rattle.ul_version.specs.Fields.{Fields}
use Rattle.ul_version.specs.Order.{version_cmp}
use Rattle.std.specs.Prelude.{All, IfSome, option_and_then, option_map}
use Rattle.std.proofs.lemmas.Option.{slice_get_within}
use Rattle.std.specs.Cmp.{Equal-is}
use Rattle.std.specs.Ordering.{is_eq}
use Rattle.std.specs.declared.cmp.Ordering.TheVariants.{Equal}
use Rattle.std.proofs.lemmas.Cmp.{tied_itself}
use Rattle.std.proofs.lemmas.List.{drop_more}
use Rattle.ul_base.specs.declared.node.Node.{Node}
use Rattle.ul_base.specs.Nodes.{node_cmp, node_cmp-total}
use Rattle.ul_base.proofs.ForCallers.{node_cmp_same}
use Rattle.ul_problem.specs.Finding.{IsFound}
use Rattle.ul_problem.specs.Plain.{Plain}
use Rattle.ul_problem.specs.Problems.{IsWellFormed}
use Rattle.ul_problem.specs.declared.problem.NodeFacts.{NodeFacts}
use Rattle.ul_report_judge.specs.Names.{place_of_node, place_of_version}
use Rattle.ul_report_judge.proofs.Halving.{first_below, found_place, no_place}

-- in front of what may be there
abbrev pub in_front : {A : Type 0} → List A → Option (List A) → Option (List A)
in_front before o = option_map (λ xs. before ++ xs) o

front_is : {A : Type 0} (xs : List A) (i : ℕ) (x : A) → i < length xs → x ≡ get_or xs i x → drop i xs ≡ x ∷ drop (i + 1) xs
front_is xs i x h e = drop_more xs i x h ∙ ap (λ y. y ∷ drop (i + 1) xs) (sym e)

-- one more of what is there
next_front : {B : Type 0} (before : List B) (k : B) (more all : Option (List B)) → in_front before (option_map (λ ks. k ∷ ks) more) ≡ all → in_front (before ++ k ∷ []) more ≡ all
next_front before k None all h = h
next_front {B} before k (Some ks) all h = ap (λ (l : List B). Some l) (append_assoc before (k ∷ []) ks) ∙ h

-- a list that is made of the elements of another, one by one, where each gives one
module _ {A B : Type 0} (part : A → Option B) (whole : List A → Option (List B)) (steps : (x : A) (xs : List A) → whole (x ∷ xs) ≡ option_and_then (λ k. option_map (λ ks. k ∷ ks) (whole xs)) (part x)) where
  opened : (xs : List A) (i : ℕ) (x : A) → i < length xs → x ≡ get_or xs i x → whole (drop i xs) ≡ option_and_then (λ k. option_map (λ ks. k ∷ ks) (whole (drop (i + 1) xs))) (part x)
  opened xs i x l e = ap whole (front_is xs i x l e) ∙ steps x (drop (i + 1) xs)

  -- with one element more
  pub next_made : (before : List B) (xs : List A) (i : ℕ) (x : A) (k : B) → i < length xs → x ≡ get_or xs i x → part x ≡ Some k → in_front before (whole (drop i xs)) ≡ whole xs → in_front (before ++ k ∷ []) (whole (drop (i + 1) xs)) ≡ whole xs
  next_made before xs i x k l e q h =
      next_front before k (whole (drop (i + 1) xs)) (whole xs)
      (sym (ap (in_front before) (opened xs i x l e ∙ ap (option_and_then (λ j. option_map (λ ks. j ∷ ks) (whole (drop (i + 1) xs)))) q)) ∙ h)

  -- where an element gives none
  pub none_made : (before : List B) (xs : List A) (i : ℕ) (x : A) → i < length xs → x ≡ get_or xs i x → part x ≡ None → in_front before (whole (drop i xs)) ≡ whole xs → None ≡ whole xs
  none_made before xs i x l e q h =
      sym (ap (in_front before) (opened xs i x l e ∙ ap (option_and_then (λ j. option_map (λ ks. j ∷ ks) (whole (drop (i + 1) xs)))) q)) ∙ h

-- ---- a node

-- what is found is the place
pub place_found : (p : Plain) (nodes : List NodeFacts) (node : Node) (o : Option ℕ) → IsWellFormed p → nodes ≡ p.nodes → IsFound nodes node o → o ≡ place_of_node p node
unfolding place_of_node
place_found p nodes node None whole e h =
    no_place (λ (f : NodeFacts). f.node) node_cmp node_cmp-total p.nodes node (λ j f g. not_level j f g)
  where
    level : (f : NodeFacts) → is_eq (node_cmp f.node node) ≡ true → node_cmp f.node node ≡ Equal
    level f t = (Equal-is (node_cmp f.node node)).0 t

    not_level : (j : ℕ) (f : NodeFacts) → slice_get p.nodes j ≡ Some f → is_eq (node_cmp f.node node) ≡ false
    not_level j f g = by_test (is_eq (node_cmp f.node node)) refl
      where
        by_test : (b : Bool) → is_eq (node_cmp f.node node) ≡ b → is_eq (node_cmp f.node node) ≡ false
        by_test false t = t
        by_test true t = absurd (h j (f, ap (λ (l : List NodeFacts). slice_get l j) e ∙ g, node_cmp_same f.node node (level f t)))
place_found p nodes node (Some k) whole e (f, g, s) =
    found_place (λ (x : NodeFacts). x.node) node_cmp node_cmp-total p.nodes node k f whole.increasing (sym (ap (λ (l : List NodeFacts). slice_get l k) e) ∙ g)
    (ap (λ (n : Node). node_cmp n node) s ∙ tied_itself node_cmp-total node)

place_within : (nodes all : List NodeFacts) (node : Node) (o : Option ℕ) → nodes ≡ all → IsFound nodes node o → IfSome o (λ k. k < length all)
place_within nodes all node None e h = tt
place_within nodes all node (Some k) e (f, g, s) = slice_get_within all k f (sym (ap (λ (l : List NodeFacts). slice_get l k) e) ∙ g)

-- what is found has a place among the nodes
pub found_within : (p : Plain) (nodes : List NodeFacts) (node : Node) (o : Option ℕ) → nodes ≡ p.nodes → IsFound nodes node o → IfSome o (λ k. k < length p.nodes)
found_within p nodes node o e h = place_within nodes p.nodes node o e h

-- ---- a version's place

-- the place of a version is one of the list
pub place_below : (versions : List Fields) (v : Fields) (k : ℕ) → place_of_version versions v ≡ Some k → k < length versions
unfolding place_of_version
place_below versions v k e = first_below (λ w. is_eq (version_cmp w v)) versions k e

-- one more number below a bound
pub one_more_below : (places : List ℕ) (k size : ℕ) → All (λ m. m < size) places → k < size → All (λ m. m < size) (places ++ k ∷ [])
one_more_below places k size h l = All-append (λ m. m < size) places (k ∷ []) h (All-cons (λ m. m < size) k [] l (All-nil (λ m. m < size)))
