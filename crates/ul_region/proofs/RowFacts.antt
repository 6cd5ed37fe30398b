-- Rows, as more is known and more truths are put.
use Rattle.std.specs.Prelude.{All, Contains, option_map, slice_get, if◌then◌else◌}
use Rattle.std.proofs.Common.{◌≡◌, ◌<◌, ◌+◌, ℕ, zero, suc, List, [], ◌∷◌, ◌++◌, length, get_or, map, take, Bool, true, false, not, ◌&&◌, Option, Some, None, refl, sym, ap, subst, ◌∙◌, ⊎_elim, inl, inr, bytes_eq, arith}
use Rattle.std.proofs.lemmas.Option.{none-some, same_Some, slice_get_within, slice_get-get_or, slice_get-map, get_or_from_slice_get}
use Rattle.std.proofs.lemmas.Bool.{cases_eq}
use Rattle.std.proofs.lemmas.Slice.Eq.{bytes_eq-Decides}
use Rattle.std.proofs.lemmas.List.Elements.{All-push, All-weaker, All-contains}
use Rattle.std.proofs.lemmas.List.{get_or-map, get_or_append_left, get_or_push, length-map, length_push, map-append, take_more}
use Rattle.ul_base.specs.declared.node.Node.{Node}
use Rattle.ul_base.proofs.ForCallers.{none_in, contains_cases, contains_map}
use Rattle.ul_interner.specs.Known.{Knows}
use Rattle.ul_interner.proofs.ForCallers.{knows_itself, knows_then}
use Rattle.ul_comparison.specs.Formulas.{Formula}
use Rattle.ul_comparison.specs.Worlds.{WorldFields}
use Rattle.ul_nodes.specs.Plain.{Plain}
use Rattle.ul_tree.specs.Regions.{HasTruth}
use Rattle.ul_algebra.specs.Answers.{IsDiagram}
use Rattle.ul_algebra.specs.Spelled.{tree_of}
use Rattle.ul_requirement.specs.Fields.{RequirementFields}
use Rattle.ul_requirement.specs.Truth.{applies_at, may_hold, true_with}
use Rattle.ul_region.specs.Truths.{PassView, DiagramMark, IsTruthAt, HasTree, Grows, IsGrown}
use Rattle.ul_index.specs.Catalogs.{is_release_fit}
use Rattle.ul_region.specs.Rows.{IsAsked, AreAsked, IsPlaceOfAlike, IsRow, AreLinked, AreNumbered, AreTruthsOf, AreTruthsOfFirst, next_in, number_in, requirement_of, truth_in}
use Rattle.ul_region.specs.Numbers.{AreNextOthers, IsFirstFrom, first_on, numbers_of}
use Rattle.ul_region.specs.declared.rows.Asked.{Asked}
use Rattle.ul_region.specs.declared.rows.Row.{Row}
use Rattle.ul_region.proofs.Existing.{clash}
use Rattle.ul_region.proofs.TruthFacts.{still, all_still}
use Rattle.ul_region.proofs.NameNumbers.{first_upto, number_at, some_at}

-- ---- lists of truths that grow

pub grows_itself : (ms : List DiagramMark) → Grows ms ms
grows_itself ms k m e = e

push_keeps : {A : Type 0} (ms : List A) (d : A) (k : ℕ) (m : A) → slice_get ms k ≡ Some m → slice_get (ms ++ d ∷ []) k ≡ Some m
push_keeps [] d k m e = absurd (none-some m e)
push_keeps (x ∷ xs) d zero m e = e
push_keeps (x ∷ xs) d (suc k) m e = push_keeps xs d k m e

pub grows_push : (ms ns : List DiagramMark) (d : DiagramMark) → ns ≡ ms ++ d ∷ [] → Grows ms ns
grows_push ms ns d e k m at = subst (λ (zs : List DiagramMark). slice_get zs k ≡ Some m) (sym e) (push_keeps ms d k m at)

push_there : {A : Type 0} (ms : List A) (d : A) → slice_get (ms ++ d ∷ []) (length ms) ≡ Some d
push_there [] d = refl
push_there (x ∷ xs) d = push_there xs d

pub put_there : (ms ns : List DiagramMark) (d e : DiagramMark) (k : ℕ) → ns ≡ ms ++ d ∷ [] → k ≡ length ms → d ≡ e → HasTree ns k (tree_of e)
put_there ms ns d e k grown size same = (d, subst (λ (zs : List DiagramMark). slice_get zs k ≡ Some d) (sym grown) (subst (λ (j : ℕ). slice_get (ms ++ d ∷ []) j ≡ Some d) (sym size) (push_there ms d)), ap tree_of same)

pub put_known : (h : PassView) (ms ns : List DiagramMark) (d e : DiagramMark) → ns ≡ ms ++ d ∷ [] → d ≡ e → All (IsDiagram h) ms → IsDiagram h e → All (IsDiagram h) ns
put_known h ms ns d e grown same a k = subst (All (IsDiagram h)) (sym grown) (All-push (IsDiagram h) ms d a (subst (IsDiagram h) (sym same) k))

pub grown_itself : (h : PassView) (ms : List DiagramMark) → All (IsDiagram h) ms → IsGrown h ms h ms
grown_itself h ms a = record { knows = knows_itself h; grows = grows_itself ms; known = a }

pub grown_knows : (g h : PassView) (ms : List DiagramMark) → Knows g h → All (IsDiagram g) ms → IsGrown g ms h ms
grown_knows g h ms more a = record { knows = more; grows = grows_itself ms; known = all_still g h ms more a }

pub grown_then : (f g h : PassView) (ks ms ns : List DiagramMark) → IsGrown f ks g ms → IsGrown g ms h ns → IsGrown f ks h ns
grown_then f g h ks ms ns a b = record { knows = knows_then f g h a.knows b.knows; grows = λ k m e. b.grows k m (a.grows k m e); known = b.known }

-- ---- truths at places

pub truth_there : (h : PassView) (ms : List DiagramMark) (k : ℕ) (d : DiagramMark) (p : WorldFields → Bool) → HasTree ms k (tree_of d) → All (IsDiagram h) ms → HasTruth (tree_of d) p → IsTruthAt h ms k p
truth_there h ms k d p t a h' = record {
  mark = t.0;
  at = t.1;
  is = record {
    diagram = All-contains (IsDiagram h) ms t.0 a (k, slice_get_within ms k t.0 t.1, get_or_from_slice_get ms k t.0 t.0 t.1);
    truth = subst (λ (u : Plain). HasTruth u p) (sym t.2) h';
  };
}

pub truth_grown : (g h : PassView) (ms ns : List DiagramMark) (k : ℕ) (p : WorldFields → Bool) → IsGrown g ms h ns → IsTruthAt g ms k p → IsTruthAt h ns k p
truth_grown g h ms ns k p more t = record { mark = t.mark; at = more.grows k t.mark t.at; is = record { diagram = still g h t.mark more.knows t.is.diagram; truth = t.is.truth } }

known_grown : (g h : PassView) (n : Node) (ms ns : List DiagramMark) (xs : List Asked) → IsGrown g ms h ns → All (IsAsked g n ms) xs → All (IsAsked h n ns) xs
known_grown g h n ms ns xs more a = All-weaker (IsAsked g n ms) (IsAsked h n ns) (λ x t. truth_grown g h ms ns x.truth (applies_at x.requirement.now n) more t) xs a

pub asked_grown : (g h : PassView) (n : Node) (ms ns : List DiagramMark) (qs : List RequirementFields) (xs : List Asked) → IsGrown g ms h ns → AreAsked g n ms qs xs → AreAsked h n ns qs xs
asked_grown g h n ms ns qs xs more a = record { known = known_grown g h n ms ns xs more a.known; same = a.same; numbered = a.numbered; linked = a.linked }

pub row_grown : (g h : PassView) (n : Node) (ms ns : List DiagramMark) (row : Row) → IsGrown g ms h ns → IsRow g n ms row → IsRow h n ns row
row_grown g h n ms ns row more r = record {
  fit = truth_grown g h ms ns row.fit (is_release_fit row.release.now) more r.fit;
  are = asked_grown g h n ms ns row.release.now.requirements row.asked more r.are;
}

-- ---- places of truths, one more

-- of the first requirements the places of their truths
pub record AreTruthsUpTo (h : PassView) (n : Node) (truths : List DiagramMark) (qs : List RequirementFields) (places : List ℕ) (i : ℕ) : Type 0 where
  pub size : length places ≡ i
  pub known : (k : ℕ) (q : RequirementFields) → k < i → slice_get qs k ≡ Some q → IsTruthAt h truths (get_or places k 0) (applies_at q n)

pub truths_more : (g h : PassView) (n : Node) (ms ns : List DiagramMark) (qs : List RequirementFields) (ps rs : List ℕ) (i place : ℕ) (q : RequirementFields) → AreTruthsUpTo g n ms qs ps i → IsGrown g ms h ns → rs ≡ ps ++ place ∷ []
    → slice_get qs i ≡ Some q → IsTruthAt h ns place (applies_at q n) → AreTruthsUpTo h n ns qs rs (i + 1)
truths_more g h n ms ns qs ps rs i place q old more e at is = record {
  size = ap length e ∙ (length_push ps place ∙ ap (λ (m : ℕ). m + 1) old.size);
  known = λ k x l there. elim (cases_eq k i) [
    | inl here ↦ (let one : x ≡ q = same_Some x q (sym there ∙ (ap (slice_get qs) here ∙ at)) in
        let read : get_or rs k 0 ≡ place = ap (λ (z : List ℕ). get_or z k 0) e ∙ get_or_push ps place 0 k (old.size ∙ sym here) in
        subst (λ (m : ℕ). IsTruthAt h ns m (applies_at x n)) (sym read) (subst (λ (y : RequirementFields). IsTruthAt h ns place (applies_at y n)) (sym one) is))
    | inr apart ↦ (let before : k < i = omega (arith, l, apart) in
        let inside : k < length ps = subst (λ (m : ℕ). k < m) (sym old.size) before in
        let read : get_or rs k 0 ≡ get_or ps k 0 = ap (λ (z : List ℕ). get_or z k 0) e ∙ get_or_append_left ps (place ∷ []) 0 k inside in
        subst (λ (m : ℕ). IsTruthAt h ns m (applies_at x n)) (sym read) (truth_grown g h ms ns (get_or ps k 0) (applies_at x n) more (old.known k x before there)))
  ];
}

pub truths_whole : (h : PassView) (n : Node) (ms : List DiagramMark) (qs : List RequirementFields) (ps : List ℕ) (i : ℕ) → AreTruthsUpTo h n ms qs ps i → i ≡ length qs → AreTruthsOf h n ms qs ps
truths_whole h n ms qs ps i old e = record {
  size = old.size ∙ e;
  known = λ k q at. old.known k q (subst (λ (m : ℕ). k < m) (sym e) (slice_get_within qs k q at)) at;
}

-- at one node requirements with the same marker are true in the same worlds
alike_holds : (q r : RequirementFields) (x : Option (List ℕ)) (w : WorldFields) → q.marker ≡ r.marker → true_with q x w ≡ true_with r x w
alike_holds q r None w e = ap (λ (m : Option Formula). may_hold m w []) e
alike_holds q r (Some x) w e = ap (λ (m : Option Formula). may_hold m w x && not (may_hold m w [])) e

pub alike_truth : (h : PassView) (n : Node) (ms : List DiagramMark) (qs : List RequirementFields) (ps : List ℕ) (q : RequirementFields) (place : ℕ) → AreTruthsOfFirst h n ms qs ps → IsPlaceOfAlike qs ps q place → IsTruthAt h ms place (applies_at q n)
alike_truth h n ms qs ps q place first at =
    let t = first at.index at.other at.within at.there in
    subst (λ (k : ℕ). IsTruthAt h ms k (applies_at q n)) (sym at.is) (record {
      mark = t.mark;
      at = t.at;
      is = record { diagram = t.is.diagram; truth = record { reduced = t.is.truth.reduced; truth = λ w x is. t.is.truth.truth w x is ∙ alike_holds at.other q n.extra w at.alike } };
    })

pub first_truths : (h : PassView) (n : Node) (ms : List DiagramMark) (qs : List RequirementFields) (ps : List ℕ) (i : ℕ) → AreTruthsUpTo h n ms qs ps i → AreTruthsOfFirst h n ms qs ps
first_truths h n ms qs ps i old k q l at = old.known k q (subst (λ (m : ℕ). k < m) old.size l) at

-- requirements with their places are those that are asked about
pub all_asked : (h : PassView) (n : Node) (ms : List DiagramMark) (qs : List RequirementFields) (ps : List ℕ) (asked : List Asked) → map requirement_of asked ≡ qs → map truth_in asked ≡ ps → AreTruthsOf h n ms qs ps → All (IsAsked h n ms) asked
all_asked h n ms qs ps asked same truths are k d l =
    let a : Asked = get_or asked k d in
    let read : get_or ps k 0 ≡ a.truth = ap (λ (z : List ℕ). get_or z k 0) (sym truths) ∙ get_or-map truth_in asked k d 0 l in
    let there : slice_get qs k ≡ Some a.requirement.now =
    ap (λ (z : List RequirementFields). slice_get z k) (sym same) ∙ (slice_get-map requirement_of asked k ∙ ap (option_map requirement_of) (slice_get-get_or asked k d l)) in
    subst (λ (m : ℕ). IsTruthAt h ms m (applies_at a.requirement.now n)) read (are.known k a.requirement.now there)

-- ---- one more requirement

-- what is read of the requirements, one more
pub taken_more : {A : Type 0} (f : Asked → A) (xs ys : List Asked) (a : Asked) (zs : List A) (i : ℕ) (z : A) → ys ≡ xs ++ a ∷ [] → map f xs ≡ take i zs → f a ≡ z → i < length zs → z ≡ get_or zs i z
    → map f ys ≡ take (i + 1) zs
taken_more {A} f xs ys a zs i z e h k l at = ap (map f) e ∙ (map-append f xs (a ∷ []) ∙ (ap (λ (r : List A). r ++ f a ∷ []) h ∙ (ap (λ (x : A). take i zs ++ x ∷ []) (k ∙ at) ∙ sym (take_more zs i z l))))

-- ---- numbers of names

-- the first one on a name is on it
own_first : (n : List ℕ) (qs : List RequirementFields) (q : RequirementFields) → Contains qs q → q.name ≡ n → (x : RequirementFields) × (slice_get qs (first_on n qs) ≡ Some x) × (x.name ≡ n)
own_first n [] q c e = absurd (none_in q c)
own_first n (z ∷ zs) q c e = by_test (own_first n zs) (bytes_eq z.name n) refl
  where
    later : bytes_eq z.name n ≡ false → Contains zs q
    later t = ⊎_elim (λ s. absurd (clash (bytes_eq z.name n) ((bytes_eq-Decides z.name n).1 (ap (λ (y : RequirementFields). y.name) (sym s) ∙ e)) t)) (λ r. r) (contains_cases z zs q c)

    by_test : ((q : RequirementFields) → Contains zs q → q.name ≡ n → (x : RequirementFields) × (slice_get zs (first_on n zs) ≡ Some x) × (x.name ≡ n)) → (b : Bool) → bytes_eq z.name n ≡ b → (x : RequirementFields) × (slice_get (z ∷ zs) (if b then 0 else suc (first_on n zs)) ≡ Some x) × (x.name ≡ n)
    by_test more true t = (z, refl, (bytes_eq-Decides z.name n).0 t)
    by_test more false t = more q (later t) e

one_first : (qs : List RequirementFields) (p q : RequirementFields) → Contains qs p → Contains qs q → first_on p.name qs ≡ first_on q.name qs → p.name ≡ q.name
one_first qs p q a b e =
    let x = own_first p.name qs p a refl in
    let y = own_first q.name qs q b refl in
    sym x.2 ∙ (ap (λ (z : RequirementFields). z.name) (same_Some x.0 y.0 (sym x.1 ∙ (ap (slice_get qs) e ∙ y.1))) ∙ y.2)

-- each is numbered by the first one on its name
number_in_row : (qs : List RequirementFields) (asked : List Asked) → map requirement_of asked ≡ qs → map number_in asked ≡ numbers_of qs → (a : Asked) → Contains asked a → a.name ≡ first_on a.requirement.now.name qs
number_in_row qs asked same numbers a c =
    let size : length asked ≡ length qs = sym (length-map asked requirement_of) ∙ ap length same in
    let here : a.requirement.now ≡ get_or qs c.0 a.requirement.now =
    sym (ap requirement_of c.2) ∙ (sym (get_or-map requirement_of asked c.0 a a.requirement.now c.1) ∙ ap (λ (z : List RequirementFields). get_or z c.0 a.requirement.now) same) in
    sym (ap number_in c.2) ∙ (sym (get_or-map number_in asked c.0 a 0 c.1) ∙ (ap (λ (z : List ℕ). get_or z c.0 0) numbers
    ∙ number_at qs c.0 a.requirement.now (subst (λ (n : ℕ). c.0 < n) size c.1) here))

-- numbers are equal exactly where names are
pub numbered : (qs : List RequirementFields) (asked : List Asked) → map requirement_of asked ≡ qs → map number_in asked ≡ numbers_of qs → AreNumbered asked
numbered qs asked same numbers a b i j = (
  (λ e. one_first qs a.requirement.now b.requirement.now (listed a i) (listed b j) (sym (number a i) ∙ (e ∙ number b j))),
  (λ e. number a i ∙ (ap (λ (n : List ℕ). first_on n qs) e ∙ sym (number b j))),
)
  where
    number : (x : Asked) → Contains asked x → x.name ≡ first_on x.requirement.now.name qs
    number x k = number_in_row qs asked same numbers x k

    listed : (x : Asked) → Contains asked x → Contains qs x.requirement.now
    listed x k = subst (λ (zs : List RequirementFields). Contains zs x.requirement.now) same (contains_map requirement_of asked x k)

-- the number of a name is the first place that has it
first_first : (qs : List RequirementFields) (q : RequirementFields) (k : ℕ) → k < length qs → q ≡ get_or qs k q → IsFirstFrom (numbers_of qs) 0 (first_on q.name qs) (first_on q.name qs)
first_first qs q k l at =
    let x = own_first q.name qs q (k, l, sym at) refl in
    let near = first_upto qs k q l at in
    record {
      after = omega arith;
      apart = λ j a b e. (let w : j < length qs = omega (arith, b, near, l) in
          let y = some_at qs j w in
          let no_later = first_upto qs j y.0 w y.1 in
          let own : get_or (numbers_of qs) j 0 ≡ first_on y.0.name qs = number_at qs j y.0 w y.1 in
          omega (arith, b, e, own, no_later));
      same = λ h. number_at qs (first_on q.name qs) x.0 (slice_get_within qs (first_on q.name qs) x.0 x.1) (sym (get_or_from_slice_get qs (first_on q.name qs) x.0 x.0 x.1))
          ∙ ap (λ (n : List ℕ). first_on n qs) x.2;
    }

-- each requirement of a row has the next one on its name of another truth
pub linked : (qs : List RequirementFields) (asked : List Asked) → map requirement_of asked ≡ qs → map number_in asked ≡ numbers_of qs → AreNextOthers (map number_in asked) (map truth_in asked) (map next_in asked) → AreLinked asked
linked qs asked same numbers next = record {
  first = λ a c.
      let size : length asked ≡ length qs = sym (length-map asked requirement_of) ∙ ap length same in
      let here : a.requirement.now ≡ get_or qs c.0 a.requirement.now =
      sym (ap requirement_of c.2) ∙ (sym (get_or-map requirement_of asked c.0 a a.requirement.now c.1) ∙ ap (λ (z : List RequirementFields). get_or z c.0 a.requirement.now) same) in
      subst (λ (z : List ℕ). IsFirstFrom z 0 a.name a.name) (sym numbers)
      (subst (λ (m : ℕ). IsFirstFrom (numbers_of qs) 0 m m) (sym (number_in_row qs asked same numbers a c))
      (first_first qs a.requirement.now c.0 (subst (λ (n : ℕ). c.0 < n) size c.1) here));
  next = next;
}

pub tree_found : (ms : List DiagramMark) (k : ℕ) (m d : DiagramMark) → k < length ms → m ≡ get_or ms k m → tree_of m ≡ tree_of d → HasTree ms k (tree_of d)
tree_found ms k m d l e s = (m, slice_get-get_or ms k m l ∙ ap Some (sym e), s)
