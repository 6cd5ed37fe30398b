-- What is known of the requirements of a release at a node in a region.
use Rattle.std.specs.Prelude.{Contains, slice_get}
use Rattle.std.specs.Borrow.{Bor}
use Rattle.std.proofs.Common.{◌≡◌, ◌<◌, ℕ, List, [], length, get_or, Bool, true, false, not, ◌&&◌, Decides, Option, Some, None, refl, sym, ap, subst, ◌∙◌, inl, inr}
use Rattle.std.proofs.lemmas.List.Elements.{All-contains}
use Rattle.std.proofs.lemmas.Option.{same_Some, slice_get_within, slice_get-get_or, get_or_from_slice_get}
use Rattle.ul_base.specs.Kept.{IsFirst}
use Rattle.ul_base.specs.declared.node.Node.{Node}
use Rattle.ul_base.proofs.ForCallers.{first_holds}
use Rattle.ul_comparison.specs.Worlds.{WorldFields, IsWorld}
use Rattle.ul_nodes.specs.Apply.{both}
use Rattle.ul_tree.specs.Laws.{and_of}
use Rattle.ul_nodes.specs.Plain.{Plain}
use Rattle.ul_tree.specs.Regions.{HasTruth}
use Rattle.ul_tree.specs.Values.{tree_holds}
use Rattle.ul_tree.proofs.ForCallers.{operations, has_and}
use Rattle.ul_algebra.specs.Answers.{IsDiagram}
use Rattle.ul_algebra.specs.Spelled.{tree_of}
use Rattle.ul_requirement.specs.Fields.{RequirementFields}
use Rattle.ul_requirement.specs.Truth.{applies_at}
use Rattle.ul_index.specs.Regions.{Region, Somewhere}
use Rattle.ul_index.specs.Applied.{IsApplied, IsSplitGroup, IsFirm}
use Rattle.ul_region.specs.Truths.{PassView, DiagramMark, IsTruth, IsTruthAt, AreWithin, Apart, truth_within}
use Rattle.ul_region.specs.Rows.{IsAsked}
use Rattle.ul_region.specs.Asked.{IsAtNode, IsOther, asked_of, region_asked}
use Rattle.ul_region.specs.Groups.{FailsIn, FirstOf, InSplit, PartsBy}
use Rattle.ul_region.specs.declared.rows.Asked.{Asked}
use Rattle.ul_region.specs.declared.at_node.AtNode.{AtNode}
use Rattle.ul_region.proofs.Existing.{and_true, and_left, and_right, not_of_false}
use Rattle.ul_region.proofs.Firsts.{AreAlike}
use Rattle.ul_region.proofs.AskedLists.{asked_listed}

-- ---- truths at places

pub both_truth : (a b : Plain) (f g : WorldFields → Bool) → HasTruth a f → HasTruth b g → HasTruth (and_of a b) (λ w. f w && g w)
both_truth a b f g h k = has_and a b (and_of a b) f g h k (operations.join_reduced both a b h.reduced k.reduced) (λ w x. operations.join_truth both a b h.reduced k.reduced w x)

-- a place of a truth is one where it is told where it holds in the region
pub place_within : (h : PassView) (r : DiagramMark) (ts ms : List DiagramMark) (k : ℕ) (p : WorldFields → Bool) → AreWithin h r ts ms → IsTruthAt h ts k p → k < length ms
place_within h r ts ms k p w t = subst (λ (n : ℕ). k < n) (sym w.size) (slice_get_within ts k t.mark t.at)

-- the truth in the region stands at the place
pub within_at : (h : PassView) (r : DiagramMark) (ts ms : List DiagramMark) (k : ℕ) (m : DiagramMark) (R p : WorldFields → Bool) → IsTruth h r R → AreWithin h r ts ms → IsTruthAt h ts k p → k < length ms → m ≡ get_or ms k m → IsTruth h m (truth_within R p)
within_at h r ts ms k m R p region w t l e =
    let there : slice_get ms k ≡ Some m = slice_get-get_or ms k m l ∙ ap Some (sym e) in
    record {
      diagram = subst (λ (x : DiagramMark). IsDiagram h x) (sym e) (w.known k m l);
      truth = subst (λ (u : Plain). HasTruth u (truth_within R p)) (sym (w.meets k t.mark m t.at there)) (both_truth (tree_of r) (tree_of t.mark) R p region.truth t.is.truth);
    }

-- what is read at a place has its truth
pub read_at : (h : PassView) (ms : List DiagramMark) (k : ℕ) (m : DiagramMark) (p : WorldFields → Bool) → IsTruthAt h ms k p → m ≡ get_or ms k m → IsTruth h m p
read_at h ms k m p t e = subst (λ (x : DiagramMark). IsTruth h x p) (sym (get_or_from_slice_get ms k t.mark m t.at) ∙ sym e) t.is

-- ---- a requirement of a row

pub asked_at : (h : PassView) (s : AtNode) (a : Asked) → IsAtNode h s → Contains s.row.now.asked a → IsAsked h s.node.now s.place.now.truths.now a
asked_at h s a w i = All-contains (IsAsked h s.node.now s.place.now.truths.now) s.row.now.asked a w.row.are.known i

pub asked_place : (h : PassView) (s : AtNode) (a : Asked) → IsAtNode h s → Contains s.row.now.asked a → a.truth < length s.place.now.within.items
asked_place h s a w i = place_within h s.place.now.region.now s.place.now.truths.now s.place.now.within.items a.truth (applies_at a.requirement.now s.node.now) w.place.within (asked_at h s a w i)

pub fit_place : (h : PassView) (s : AtNode) → IsAtNode h s → s.row.now.fit < length s.place.now.within.items
fit_place h s w = place_within h s.place.now.region.now s.place.now.truths.now s.place.now.within.items s.row.now.fit _ w.place.within w.row.fit

pub truth_place : (h : PassView) (s : AtNode) (a : Asked) → IsAtNode h s → Contains s.row.now.asked a → a.truth < length s.place.now.truths.now
truth_place h s a w i = let t = asked_at h s a w i in slice_get_within s.place.now.truths.now a.truth t.mark t.at

pub other_decided : (R : Region) (n : Node) (one other : RequirementFields) → Somewhere R (applies_at other n) → other.name ≡ one.name → (b : Bool) → Decides b (Apart R (applies_at one n) (applies_at other n)) → Decides b (IsOther R n one other)
other_decided R n one other s e b d = ((λ t. record { somewhere = s; named = e; apart = d.0 t }), (λ o. d.1 o.apart))

pub not_other_name : (R : Region) (n : Node) (one other : RequirementFields) → (other.name ≡ one.name → ⊥) → Decides false (IsOther R n one other)
not_other_name R n one other f = ((λ e. cc), (λ o. absurd (f o.named)))

pub not_other_applied : (R : Region) (n : Node) (one other : RequirementFields) → (Somewhere R (applies_at other n) → ⊥) → Decides false (IsOther R n one other)
not_other_applied R n one other f = ((λ e. cc), (λ o. absurd (f o.somewhere)))

-- it is one of the release's
pub listed_at : (h : PassView) (s : AtNode) (a : Asked) → IsAtNode h s → Contains s.row.now.asked a → Contains (asked_of s) a.requirement.now
listed_at h s a w i = asked_listed h s.node.now s.place.now.truths.now (asked_of s) s.row.now.asked w.row.are a i

pub applied_at : (h : PassView) (s : AtNode) (a : Asked) → IsAtNode h s → Contains s.row.now.asked a → Somewhere (region_asked s) (applies_at a.requirement.now s.node.now) → IsApplied (asked_of s) (region_asked s) s.node.now a.requirement.now
applied_at h s a w i t = record { listed = listed_at h s a w i; somewhere = t }

-- truths at one place are equal at each world
same_truth : (h : PassView) (ms : List DiagramMark) (j k : ℕ) (f g : WorldFields → Bool) → j ≡ k → IsTruthAt h ms j f → IsTruthAt h ms k g → (w : WorldFields) → IsWorld w → f w ≡ g w
same_truth h ms j k f g e a b w is =
    let one : a.mark ≡ b.mark = same_Some a.mark b.mark (sym a.at ∙ (ap (slice_get ms) e ∙ b.at)) in
    sym (a.is.truth.truth w [] is) ∙ (ap (λ (m : DiagramMark). tree_holds (tree_of m) w []) one ∙ b.is.truth.truth w [] is)

-- of two requirements of one truth and one name, both are others or neither is
pub other_alike : (h : PassView) (s : AtNode) (one : RequirementFields) → IsAtNode h s → AreAlike (IsOther (region_asked s) s.node.now one) s.row.now.asked
other_alike h s one w a b i j named placed o = record {
  somewhere = (o.somewhere.0, o.somewhere.1, o.somewhere.2, sym (equal o.somewhere.0 o.somewhere.1) ∙ o.somewhere.3);
  named = sym ((w.row.are.numbered a b i j).0 named) ∙ o.named;
  apart = by_side o.apart;
}
  where
    n : Node
    n = s.node.now

    R : Region
    R = region_asked s

    equal : (v : WorldFields) → IsWorld v → applies_at a.requirement.now n v ≡ applies_at b.requirement.now n v
    equal v is = same_truth h s.place.now.truths.now a.truth b.truth (applies_at a.requirement.now n) (applies_at b.requirement.now n) placed (asked_at h s a w i) (asked_at h s b w j) v is

    by_side : Apart R (applies_at one n) (applies_at a.requirement.now n) → Apart R (applies_at one n) (applies_at b.requirement.now n)
    by_side (inl t) = inl (t.0, t.1, t.2, ap (λ (c : Bool). applies_at one n t.0 && not c) (sym (equal t.0 t.1)) ∙ t.3)
    by_side (inr t) = inr (t.0, t.1, t.2, ap (λ (c : Bool). c && not (applies_at one n t.0)) (sym (equal t.0 t.1)) ∙ t.3)

-- ---- split groups

-- an applied requirement and another one on its name of another truth make a split group
pub group_of : (qs : List RequirementFields) (R : Region) (n : Node) (one other : RequirementFields) → IsApplied qs R n one → Contains qs other → IsOther R n one other → IsSplitGroup qs R n one.name
group_of qs R n one other a l o = by_side o.apart
  where
    other_applied : IsApplied qs R n other
    other_applied = record { listed = l; somewhere = o.somewhere }

    by_side : Apart R (applies_at one n) (applies_at other n) → IsSplitGroup qs R n one.name
    by_side (inl s) = record { one = one; other = other; one_applied = a; other_applied = other_applied; one_named = refl; other_named = o.named; apart = s }
    by_side (inr s) = record { one = other; other = one; one_applied = other_applied; other_applied = a; one_named = o.named; other_named = refl; apart = s }

-- where there is no other, there is no split group
pub no_group : (qs : List RequirementFields) (R : Region) (n : Node) (one : RequirementFields) → ((q : RequirementFields) → Contains qs q → IsOther R n one q → ⊥) → IsSplitGroup qs R n one.name → ⊥
no_group qs R n one none g = by_value (applies_at one n g.apart.0) refl
  where
    first_true : applies_at g.one n g.apart.0 ≡ true
    first_true = and_left (applies_at g.one n g.apart.0) (not (applies_at g.other n g.apart.0)) g.apart.3

    second_fails : not (applies_at g.other n g.apart.0) ≡ true
    second_fails = and_right (applies_at g.one n g.apart.0) (not (applies_at g.other n g.apart.0)) g.apart.3

    by_value : (b : Bool) → applies_at one n g.apart.0 ≡ b → ⊥
    by_value true e = none g.other g.other_applied.listed (record {
      somewhere = g.other_applied.somewhere;
      named = g.other_named;
      apart = inl (g.apart.0, g.apart.1, g.apart.2, and_true (applies_at one n g.apart.0) (not (applies_at g.other n g.apart.0)) e second_fails);
    })
    by_value false e = none g.one g.one_applied.listed (record {
      somewhere = g.one_applied.somewhere;
      named = g.one_named;
      apart = inr (g.apart.0, g.apart.1, g.apart.2, and_true (applies_at g.one n g.apart.0) (not (applies_at one n g.apart.0)) first_true (not_of_false (applies_at one n g.apart.0) e));
    })

pub parted_not : (qs : List RequirementFields) (R : Region) (n : Node) (one : RequirementFields) → ((q : RequirementFields) → Contains qs q → IsOther R n one q → ⊥) → Decides false (IsSplitGroup qs R n one.name)
parted_not qs R n one none = ((λ e. cc), (λ g. absurd (no_group qs R n one none g)))

pub parted_so : (qs : List RequirementFields) (R : Region) (n : Node) (one : RequirementFields) → IsSplitGroup qs R n one.name → Decides true (IsSplitGroup qs R n one.name)
parted_so qs R n one g = ((λ e. g), (λ _. refl))

-- ---- firm requirements, and those in split groups

pub firm_decided : (qs : List RequirementFields) (R : Region) (n : Node) (q : RequirementFields) (b : Bool) → IsApplied qs R n q → Decides b (IsSplitGroup qs R n q.name) → Decides (not b) (IsFirm qs R n q)
firm_decided qs R n q true a d = ((λ e. cc), (λ f. absurd (f.outside (d.0 refl))))
firm_decided qs R n q false a d = ((λ e. record { applied = a; outside = λ g. cc (d.1 g) }), (λ f. refl))

pub not_firm : (qs : List RequirementFields) (R : Region) (n : Node) (q : RequirementFields) → (Somewhere R (applies_at q n) → ⊥) → Decides false (IsFirm qs R n q)
not_firm qs R n q f = ((λ e. cc), (λ k. absurd (f k.applied.somewhere)))

pub in_split_decided : (qs : List RequirementFields) (R : Region) (n : Node) (q : RequirementFields) (b : Bool) → IsApplied qs R n q → Decides b (IsSplitGroup qs R n q.name) → Decides b (InSplit qs R n q)
in_split_decided qs R n q b a d = ((λ e. (a, d.0 e)), (λ i. d.1 i.1))

pub not_in_split : (qs : List RequirementFields) (R : Region) (n : Node) (q : RequirementFields) → (Somewhere R (applies_at q n) → ⊥) → Decides false (InSplit qs R n q)
not_in_split qs R n q f = ((λ e. cc), (λ k. absurd (f k.0.somewhere)))

pub failing_decided : (qs : List RequirementFields) (R : Region) (n : Node) (name : List ℕ) (q : RequirementFields) (b : Bool) → IsApplied qs R n q → q.name ≡ name → Decides b (Somewhere R (λ w. not (applies_at q n w))) → Decides b (FailsIn qs R n name q)
failing_decided qs R n name q b a e d = ((λ t. record { applied = a; named = e; fails = d.0 t }), (λ f. d.1 f.fails))

pub not_failing_name : (qs : List RequirementFields) (R : Region) (n : Node) (name : List ℕ) (q : RequirementFields) → (q.name ≡ name → ⊥) → Decides false (FailsIn qs R n name q)
not_failing_name qs R n name q f = ((λ e. cc), (λ k. absurd (f k.named)))

pub not_failing_applied : (qs : List RequirementFields) (R : Region) (n : Node) (name : List ℕ) (q : RequirementFields) → (Somewhere R (applies_at q n) → ⊥) → Decides false (FailsIn qs R n name q)
not_failing_applied qs R n name q f = ((λ e. cc), (λ k. absurd (f k.applied.somewhere)))

-- ---- what parts a region

pub no_opener : (qs : List RequirementFields) (R : Region) (n : Node) → ((q : RequirementFields) → Contains qs q → InSplit qs R n q → ⊥) → (name : List ℕ) → IsSplitGroup qs R n name → ⊥
no_opener qs R n h name g = h g.one g.one_applied.listed (g.one_applied, subst (IsSplitGroup qs R n) (sym g.one_named) g)

-- a split group has a requirement that fails somewhere
some_fails : (qs : List RequirementFields) (R : Region) (n : Node) (name : List ℕ) → IsSplitGroup qs R n name → ((q : RequirementFields) → Contains qs q → FailsIn qs R n name q → ⊥) → ⊥
some_fails qs R n name g h = h g.other g.other_applied.listed (record {
  applied = g.other_applied;
  named = g.other_named;
  fails = (g.apart.0, g.apart.1, g.apart.2, and_right (applies_at g.one n g.apart.0) (not (applies_at g.other n g.apart.0)) g.apart.3);
})

pub no_failing : (qs : List RequirementFields) (R : Region) (n : Node) (q : RequirementFields) → IsFirst (InSplit qs R n) qs q → ((x : RequirementFields) → Contains qs x → FailsIn qs R n q.name x → ⊥) → ⊥
no_failing qs R n q h f = some_fails qs R n q.name (first_holds (InSplit qs R n) qs q h).1 f

pub at_none : (asked : List Asked) (qs : List RequirementFields) (P : RequirementFields → Type 0) (o : Option (Bor Asked)) → o ≡ None → FirstOf asked qs P o → (q : RequirementFields) → Contains qs q → P q → ⊥
at_none asked qs P o e h = subst (FirstOf asked qs P) e h

pub at_some : (asked : List Asked) (qs : List RequirementFields) (P : RequirementFields → Type 0) (o : Option (Bor Asked)) (a : Bor Asked) → o ≡ Some a → FirstOf asked qs P o → Contains asked a.now × IsFirst P qs a.now.requirement.now
at_some asked qs P o a e h = subst (FirstOf asked qs P) e h

pub parts_by : (h : PassView) (qs : List RequirementFields) (R : Region) (n : Node) (q x : RequirementFields) (t : Bor DiagramMark) → IsFirst (InSplit qs R n) qs q → IsFirst (FailsIn qs R n q.name) qs x → IsTruth h t.now (applies_at x n) → PartsBy h qs R n (Some t)
parts_by h qs R n q x t a b k = (x, record { opener = q; first_group = a; first_failing = b }, k)
