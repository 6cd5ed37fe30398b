-- What is made only where all of its markers are printed, part by part.
use Rattle.std.proofs.Common.{◌≡◌, ℕ, ◌+◌, ◌<◌, ◌≤◌, ◌^◌, min, if◌then◌else◌, length, get_or, take, List, [], ◌∷◌, ◌++◌, Bool, true, false, Option, Some, None, refl, sym, ap, ap₂, ◌∙◌, subst}
use Rattle.std.specs.Prelude.{flat_map}
use Rattle.std.specs.Option.{option_map}
use Rattle.std.proofs.lemmas.Grind.{flat_map-append}
use Rattle.ul_nodes.specs.Plain.{Plain}
use Rattle.ul_tree.specs.Paths.{is_printable, paths_of}
use Rattle.ul_lock_write.specs.Markers.{first_over, or_else, over}
use Rattle.ul_lock_write.proofs.ForCallers.{over_join, over_none, over_one}
use Rattle.ul_merge.specs.Made.{AreMade, at_most_one}
use Rattle.ul_merge.specs.Over.{HasOver, OrOver, both_of, markers_in, with_more}
use Rattle.ul_merge.proofs.Makes.{made_all, made_more}

-- ---- markers

over_if : (t : Plain) (b : Bool) → is_printable t ≡ b → over t ≡ (if b then None else Some (min (paths_of t) (2 ^ 127)))
unfolding over
over_if t b e = ap (λ (c : Bool). if c then None else Some (min (paths_of t) (2 ^ 127))) e

-- a marker that is printed, and one that isn't
pub one_printed : (t : Plain) → is_printable t ≡ true → first_over (t ∷ []) ≡ None
one_printed t e = over_one t ∙ over_if t true e

pub one_unprinted : (t : Plain) → is_printable t ≡ false → HasOver (t ∷ [])
one_unprinted t e = (min (paths_of t) (2 ^ 127), over_one t ∙ over_if t false e)

-- markers of two lists
pub both_printed : (xs ys : List Plain) → first_over xs ≡ None → first_over ys ≡ None → first_over (xs ++ ys) ≡ None
both_printed xs ys e f = over_join xs ys ∙ ap₂ or_else e f

pub over_front : (xs ys : List Plain) → HasOver xs → HasOver (xs ++ ys)
over_front xs ys (p, e) = (p, over_join xs ys ∙ ap (λ (o : Option ℕ). or_else o (first_over ys)) e)

pub over_back : (xs ys : List Plain) → HasOver ys → HasOver (xs ++ ys)
over_back xs ys h = by_front (first_over xs) refl h
  where
    by_front : (o : Option ℕ) → first_over xs ≡ o → HasOver ys → HasOver (xs ++ ys)
    by_front None e (p, f) = (p, over_join xs ys ∙ ap₂ or_else e f)
    by_front (Some q) e k = (q, over_join xs ys ∙ ap (λ (o : Option ℕ). or_else o (first_over ys)) e)

-- ---- anything that is made

-- in other words
pub or_over : {A : Type 0} (markers : A → List Plain) (P Q : A → Type 0) → ((a : A) → P a → Q a) → (r : Option A) → OrOver markers P r → OrOver markers Q r
or_over markers P Q f (Some a) (p, n) = (f a p, n)
or_over markers P Q f None (a, p, o) = (a, f a p, o)

-- two parts
pub both_over : {A B : Type 0} (m : A → List Plain) (k : B → List Plain) (P : A → Type 0) (Q : B → Type 0) (r : Option A) (s : Option B) → OrOver m P r → OrOver k Q s
    → OrOver (λ (x : A × B). m x.0 ++ k x.1) (λ (x : A × B). P x.0 × Q x.1) (both_of r s)
both_over m k P Q (Some a) (Some b) (p, n) (q, o) = ((p, q), both_printed (m a) (k b) n o)
both_over m k P Q (Some a) None (p, n) (b, q, v) = ((a, b), (p, q), over_back (m a) (k b) v)
both_over m k P Q None (Some b) (a, p, v) (q, o) = ((a, b), (p, q), over_front (m a) (k b) v)
both_over m k P Q None None (a, p, v) (b, q, w) = ((a, b), (p, q), over_front (m a) (k b) v)

-- ---- lists

-- the markers of elements with one more
markers_more : {B : Type 0} (m : B → List Plain) (bs : List B) (o : Option B) → flat_map m bs ++ markers_in m o ≡ flat_map m (bs ++ at_most_one o)
markers_more m bs o = sym (flat_map-append m bs (at_most_one o))

-- an element of a list
pub one_over : {B : Type 0} (m : B → List Plain) (Is : B → Type 0) (Has : Option B → Type 0) → ((b : B) → Is b → Has (Some b)) → (o : Option B) → OrOver m Is o
    → OrOver (markers_in m) Has (option_map (λ x. Some x) o)
one_over m Is Has f (Some b) (h, n) = (f b h, both_printed (m b) [] n over_none)
one_over m Is Has f None (b, h, v) = (Some b, f b h, over_front (m b) [] v)

-- elements with one more
pub more_over : {B : Type 0} (m : B → List Plain) (Are Now : List B → Type 0) (Has : Option B → Type 0) → ((bs : List B) (o : Option B) → Are bs → Has o → Now (bs ++ at_most_one o))
    → (row : Option (List B)) (o : Option (Option B)) → OrOver (flat_map m) Are row → OrOver (markers_in m) Has o → OrOver (flat_map m) Now (with_more row o)
more_over m Are Now Has f (Some bs) (Some o) (k, n) (h, p) = (f bs o k h, ap first_over (sym (markers_more m bs o)) ∙ both_printed (flat_map m bs) (markers_in m o) n p)
more_over m Are Now Has f (Some bs) None (k, n) (o, h, v) = (bs ++ at_most_one o, f bs o k h, subst HasOver (markers_more m bs o) (over_back (flat_map m bs) (markers_in m o) v))
more_over m Are Now Has f None (Some o) (bs, k, v) (h, p) = (bs ++ at_most_one o, f bs o k h, subst HasOver (markers_more m bs o) (over_front (flat_map m bs) (markers_in m o) v))
more_over m Are Now Has f None None (bs, k, v) (o, h, w) = (bs ++ at_most_one o, f bs o k h, subst HasOver (markers_more m bs o) (over_front (flat_map m bs) (markers_in m o) v))

-- ---- lists that are made element by element

-- none yet
pub none_over : {A B : Type 0} (Makes : A → Option B → Type 0) (m : B → List Plain) (bs : List B) → bs ≡ [] → OrOver (flat_map m) (AreMade Makes []) (Some bs)
none_over Makes m bs e = (e, ap (λ (xs : List _). first_over (flat_map m xs)) e ∙ over_none)

-- one more
pub made_over : {A B : Type 0} (Makes : A → Option B → Type 0) (m : B → List Plain) (us : List A) (i : ℕ) (a : A) (row now : Option (List B)) (o : Option (Option B)) → i < length us → a ≡ get_or us i a
    → OrOver (flat_map m) (AreMade Makes (take i us)) row → OrOver (markers_in m) (Makes a) o → now ≡ with_more row o → OrOver (flat_map m) (AreMade Makes (take (i + 1) us)) now
made_over Makes m us i a row now o lt at k h e = subst (OrOver (flat_map m) (AreMade Makes (take (i + 1) us))) (sym e)
    (more_over m (AreMade Makes (take i us)) (AreMade Makes (take (i + 1) us)) (Makes a) (λ bs p l g. made_more Makes us i a bs (bs ++ at_most_one p) p lt at l g refl) row o k h)

-- all of them
pub all_over : {A B : Type 0} (Makes : A → Option B → Type 0) (m : B → List Plain) (us : List A) (i : ℕ) (row : Option (List B)) → length us ≤ i → OrOver (flat_map m) (AreMade Makes (take i us)) row
    → OrOver (flat_map m) (AreMade Makes us) row
all_over Makes m us i row past k = or_over (flat_map m) (AreMade Makes (take i us)) (AreMade Makes us) (λ bs l. made_all Makes us i bs past l) row k
