-- Leaves, diagrams and truths by their places.
use Rattle.std.proofs.Common.{◌≡◌, ◌⊎◌, ℕ, zero, suc, ◌<◌, List, [], ◌∷◌, ◌++◌, length, Bool, true, false, ◌||◌, Option, Some, None, Contains, refl, sym, ap, ◌∙◌, subst, inl, inr, ⊎_elim, arith}
use Rattle.std.specs.Prelude.{All}
use Rattle.std.specs.List.{slice_get}
use Rattle.ul_base.specs.declared.node.Node.{Node}
use Rattle.ul_base.proofs.ForCallers.{contains_cases, contains_first, contains_later, none_in, some_is}
use Rattle.ul_version.specs.Fields.{Fields}
use Rattle.ul_comparison.specs.Worlds.{WorldFields}
use Rattle.ul_requirement.specs.Fields.{RequirementFields}
use Rattle.ul_requirement.specs.Truth.{applies_at}
use Rattle.ul_algebra.specs.Spelled.{tree_of}
use Rattle.ul_index.specs.Serves.{Selection, choice_of}
use Rattle.ul_region.specs.Truths.{PassView, DiagramMark, IsTruth, region_at}
use Rattle.ul_sound.specs.Leaves.{LeafFields, IsChosen}
use Rattle.ul_merge.specs.Blocks.{leaves_by}
use Rattle.ul_merge.specs.Chosen.{choice_at, choice_in}
use Rattle.ul_merge.specs.Edges.{AreTruths, picked}
use Rattle.ul_merge.specs.Made.{at_most_one}
use Rattle.ul_region.specs.Unions.{some_holds}

-- what stands at a place stands in the list, and the other way round
pub place_in : {A : Type 0} (xs : List A) (i : ℕ) (x : A) → slice_get xs i ≡ Some x → Contains xs x
place_in [] i x e = cc
place_in (y ∷ ys) zero x e = subst (Contains (y ∷ ys)) (some_is {o = Some y} refl e) (contains_first y ys)
place_in (y ∷ ys) (suc i) x e = contains_later y ys x (place_in ys i x e)

pub place_of : {A : Type 0} (xs : List A) (x : A) → Contains xs x → (i : ℕ) × (slice_get xs i ≡ Some x)
place_of [] x m = absurd (none_in x m)
place_of (y ∷ ys) x m = ⊎_elim (λ e. (0, ap Some (sym e))) (λ r. let f : (i : ℕ) × (slice_get ys i ≡ Some x) = place_of ys x r in (suc f.0, f.1)) (contains_cases y ys x m)

-- lists of one length have the same places
pub place_too : {A B : Type 0} (xs : List A) (ys : List B) (i : ℕ) (y : B) → length xs ≡ length ys → slice_get ys i ≡ Some y → (x : A) × (slice_get xs i ≡ Some x)
place_too xs [] i y e f = cc
place_too [] (z ∷ ys) i y e f = absurd (omega (arith, e))
place_too (x ∷ xs) (z ∷ ys) zero y e f = (x, refl)
place_too (x ∷ xs) (z ∷ ys) (suc i) y e f = place_too xs ys i y (omega (arith, e)) f

-- the selection at a place that chose a node
pub choice_there : (ss : List Selection) (i : ℕ) (n : Node) (v : Fields) → choice_at ss i n ≡ Some v → (s : Selection) × (slice_get ss i ≡ Some s) × (choice_of s n ≡ Some v)
choice_there [] i n v e = cc
choice_there (s ∷ ss) zero n v e = (s, refl, e)
choice_there (s ∷ ss) (suc i) n v e = choice_there ss i n v e

pub choice_here : (ss : List Selection) (i : ℕ) (s : Selection) (n : Node) → slice_get ss i ≡ Some s → choice_at ss i n ≡ choice_of s n
choice_here ss i s n e = ap (λ (o : Option Selection). choice_in o n) e

-- a leaf by its place
pub leaf_in : (ms : List DiagramMark) (ss : List Selection) (i : ℕ) (m : DiagramMark) (s : Selection) → slice_get ms i ≡ Some m → slice_get ss i ≡ Some s
    → Contains (leaves_by ms ss) (record { region = tree_of m; picks = s })
leaf_in [] ss i m s e f = cc
leaf_in (x ∷ ms) [] i m s e f = cc
leaf_in (x ∷ ms) (y ∷ ss) zero m s e f = subst (λ (z : DiagramMark). Contains (leaves_by (x ∷ ms) (y ∷ ss)) (record { region = tree_of z; picks = s })) (some_is {o = Some x} refl e)
    (subst (λ (z : Selection). Contains (leaves_by (x ∷ ms) (y ∷ ss)) (record { region = tree_of x; picks = z })) (some_is {o = Some y} refl f)
    (contains_first (record { region = tree_of x; picks = y }) (leaves_by ms ss)))
leaf_in (x ∷ ms) (y ∷ ss) (suc i) m s e f = contains_later (record { region = tree_of x; picks = y }) (leaves_by ms ss) (record { region = tree_of m; picks = s }) (leaf_in ms ss i m s e f)

-- the place of a leaf
pub record IsPlaced (ms : List DiagramMark) (ss : List Selection) (l : LeafFields) : Type 0 where
  pub place : ℕ
  pub mark : DiagramMark
  pub region : slice_get ms place ≡ Some mark
  pub picks : slice_get ss place ≡ Some l.picks
  pub is : tree_of mark ≡ l.region

later_place : (x : DiagramMark) (ms : List DiagramMark) (y : Selection) (ss : List Selection) (l : LeafFields) → IsPlaced ms ss l → IsPlaced (x ∷ ms) (y ∷ ss) l
later_place x ms y ss l f = record { place = suc f.place; mark = f.mark; region = f.region; picks = f.picks; is = f.is }

pub leaf_place : (ms : List DiagramMark) (ss : List Selection) (l : LeafFields) → Contains (leaves_by ms ss) l → IsPlaced ms ss l
leaf_place [] ss l m = absurd (none_in l m)
leaf_place (x ∷ ms) [] l m = absurd (none_in l m)
leaf_place (x ∷ ms) (y ∷ ss) l m = ⊎_elim
    (λ e. record { place = 0; mark = x; region = refl; picks = ap (λ (k : LeafFields). Some k.picks) (sym e); is = ap (λ (k : LeafFields). k.region) (sym e) })
    (λ r. later_place x ms y ss l (leaf_place ms ss l r))
    (contains_cases (record { region = tree_of x; picks = y }) (leaves_by ms ss) l m)

-- what is chosen at a place is chosen by a leaf
pub chosen_there : (ms : List DiagramMark) (ss : List Selection) (i : ℕ) (n : Node) (v : Fields) → length ms ≡ length ss → choice_at ss i n ≡ Some v → IsChosen (leaves_by ms ss) n v
chosen_there ms ss i n v long e =
    let s : (s : Selection) × (slice_get ss i ≡ Some s) × (choice_of s n ≡ Some v) = choice_there ss i n v e in
    let m : (x : DiagramMark) × (slice_get ms i ≡ Some x) = place_too ms ss i s.0 long s.1 in
    (record { region = tree_of m.0; picks = s.0 }, leaf_in ms ss i m.0 s.0 m.1 s.1, s.2)

pub chosen_at : (ms : List DiagramMark) (ss : List Selection) (n : Node) (v : Fields) → IsChosen (leaves_by ms ss) n v → (i : ℕ) × (choice_at ss i n ≡ Some v)
chosen_at ms ss n v h = let f : IsPlaced ms ss h.0 = leaf_place ms ss h.0 h.1 in (f.place, choice_here ss f.place h.0.picks n f.picks ∙ h.2)

-- ---- diagrams at places

or_cases : (a b : Bool) → (a || b) ≡ true → (a ≡ true) ⊎ (b ≡ true)
or_cases true b e = inl refl
or_cases false b e = inr e

or_left : (a b : Bool) → a ≡ true → (a || b) ≡ true
or_left true b e = refl
or_left false b e = cc

or_right : (a b : Bool) → b ≡ true → (a || b) ≡ true
or_right true b e = refl
or_right false b e = e

-- a diagram at one of the places that has the world
pub record HoldsThere (ms : List DiagramMark) (ks : List ℕ) (w : WorldFields) : Type 0 where
  pub place : ℕ
  pub mark : DiagramMark
  pub listed : Contains ks place
  pub at : slice_get ms place ≡ Some mark
  pub holds : region_at mark w ≡ true

one_holds : (k : ℕ) (o : Option DiagramMark) (ms rest : List DiagramMark) (ks : List ℕ) (w : WorldFields) → slice_get ms k ≡ o → (some_holds rest w ≡ true → HoldsThere ms ks w)
    → some_holds (at_most_one o ++ rest) w ≡ true → HoldsThere ms (k ∷ ks) w
one_holds k None ms rest ks w at later e = let f : HoldsThere ms ks w = later e in record { place = f.place; mark = f.mark; listed = contains_later k ks f.place f.listed; at = f.at; holds = f.holds }
one_holds k (Some m) ms rest ks w at later e = ⊎_elim
    (λ h. record { place = k; mark = m; listed = contains_first k ks; at = at; holds = h })
    (λ h. let f : HoldsThere ms ks w = later h in record { place = f.place; mark = f.mark; listed = contains_later k ks f.place f.listed; at = f.at; holds = f.holds })
    (or_cases (region_at m w) (some_holds rest w) e)

pub holds_from : (ms : List DiagramMark) (ks : List ℕ) (w : WorldFields) → some_holds (picked ms ks) w ≡ true → HoldsThere ms ks w
holds_from ms [] w e = cc
holds_from ms (k ∷ ks) w e = one_holds k (slice_get ms k) ms (picked ms ks) ks w refl (holds_from ms ks w) e

holds_behind : (o : Option DiagramMark) (rest : List DiagramMark) (w : WorldFields) → some_holds rest w ≡ true → some_holds (at_most_one o ++ rest) w ≡ true
holds_behind None rest w e = e
holds_behind (Some m) rest w e = or_right (region_at m w) (some_holds rest w) e

pub holds_to : (ms : List DiagramMark) (ks : List ℕ) (w : WorldFields) → HoldsThere ms ks w → some_holds (picked ms ks) w ≡ true
holds_to ms [] w h = absurd (none_in h.place h.listed)
holds_to ms (k ∷ ks) w h = ⊎_elim
    (λ e. subst (λ (o : Option DiagramMark). some_holds (at_most_one o ++ picked ms ks) w ≡ true) (sym (ap (slice_get ms) (sym e) ∙ h.at)) (or_left (region_at h.mark w) (some_holds (picked ms ks) w) h.holds))
    (λ r. holds_behind (slice_get ms k) (picked ms ks) w (holds_to ms ks w (record { place = h.place; mark = h.mark; listed = r; at = h.at; holds = h.holds })))
    (contains_cases k ks h.place h.listed)

-- ---- truths at places

pub truth_of : (h : PassView) (n : Node) (rs : List RequirementFields) (ts : List DiagramMark) (j : ℕ) (r : RequirementFields) → AreTruths h n rs ts → slice_get rs j ≡ Some r
    → (t : DiagramMark) × (slice_get ts j ≡ Some t) × IsTruth h t (applies_at r n)
truth_of h n [] ts j r a e = cc
truth_of h n (q ∷ rs) [] j r a e = absurd a
truth_of h n (q ∷ rs) (t ∷ ts) zero r a e = (t, refl, subst (λ (s : RequirementFields). IsTruth h t (applies_at s n)) (some_is {o = Some q} refl e) a.0)
truth_of h n (q ∷ rs) (t ∷ ts) (suc j) r a e = truth_of h n rs ts j r a.1 e
