-- Those of a list of requirements that may be true at a node: what is true somewhere is one of them.
use Rattle.std.specs.Prelude.{Contains, filter}
use Rattle.std.proofs.Common.{◌≡◌, List, [], ◌∷◌, map, cond, Bool, true, false, refl, sym, subst, inl, inr}
use Rattle.std.proofs.lemmas.List.Elements.{All-contains, All-contains_itself, All-filter}
use Rattle.ul_base.specs.Kept.{IsFirst}
use Rattle.ul_base.specs.declared.node.Node.{Node}
use Rattle.ul_base.proofs.ForCallers.{contains_from_map, contains_map, kept_by, kept_has}
use Rattle.ul_requirement.specs.Fields.{RequirementFields}
use Rattle.ul_requirement.specs.Truth.{applies_at, may_apply}
use Rattle.ul_requirement.specs.Laws.{UnnamedNeverApplies}
use Rattle.ul_index.specs.Regions.{Region, Somewhere}
use Rattle.ul_index.specs.Applied.{IsApplied, IsFirm}
use Rattle.ul_region.specs.Truths.{PassView, DiagramMark}
use Rattle.ul_region.specs.Rows.{AreAsked, asked_at, requirement_of}
use Rattle.ul_region.specs.declared.rows.Asked.{Asked}
use Rattle.ul_region.proofs.Existing.{clash}

-- ---- what passes a test

passing : {A : Type 0} (test : A → Bool) (xs : List A) (x : A) → Contains xs x → test x ≡ true → Contains (filter test xs) x
passing test xs x c t = kept_has (λ y. test y ≡ true) xs (filter test xs) x (kept_by (λ y. test y ≡ true) test xs (λ y _. ((λ e. e), (λ e. e)))) c t

-- none of those that pass is such, and what is such passes
none_whole : {A : Type 0} (test : A → Bool) (P : A → Type 0) (xs : List A) → ((x : A) → P x → test x ≡ true) → ((x : A) → Contains (filter test xs) x → P x → ⊥) → (x : A) → Contains xs x → P x → ⊥
none_whole test P xs pass none x c p = none x (passing test xs x c (pass x p)) p

first_by : {A : Type 0} (b : Bool) (test : A → Bool) (P : A → Type 0) (z : A) (zs : List A) (x : A) → test z ≡ b → ((y : A) → P y → test y ≡ true) → (IsFirst P (filter test zs) x → IsFirst P zs x) → IsFirst P (cond b (z ∷ filter test zs) (filter test zs)) x
    → IsFirst P (z ∷ zs) x
first_by true test P z zs x e pass later (inl h) = inl h
first_by true test P z zs x e pass later (inr h) = inr (record { fails = h.fails; more = later h.more })
first_by false test P z zs x e pass later h = inr (record { fails = λ p. clash (test z) (pass z p) e; more = later h })

-- the first of those that pass is the first of all, where what is such passes
first_whole : {A : Type 0} (test : A → Bool) (P : A → Type 0) (xs : List A) (x : A) → ((y : A) → P y → test y ≡ true) → IsFirst P (filter test xs) x → IsFirst P xs x
first_whole test P [] x pass h = h
first_whole test P (z ∷ zs) x pass h = first_by (test z) test P z zs x refl pass (first_whole test P zs x pass) h

-- ---- what may be true at a node

may_by : (b : Bool) (q : RequirementFields) (n : Node) (R : Region) → may_apply q n ≡ b → UnnamedNeverApplies → Somewhere R (applies_at q n) → b ≡ true
may_by true q n R e law s = refl
may_by false q n R e law s = absurd (clash (applies_at q n s.0) s.3 (law q n s.0 e))

-- what is true somewhere may be
pub may_be : UnnamedNeverApplies → (n : Node) (R : Region) (q : RequirementFields) → Somewhere R (applies_at q n) → may_apply q n ≡ true
may_be law n R q s = may_by (may_apply q n) q n R refl law s

-- ---- those that are asked about

-- what is asked about is one of the list
pub asked_listed : (h : PassView) (n : Node) (ms : List DiagramMark) (qs : List RequirementFields) (asked : List Asked) → AreAsked h n ms qs asked → (a : Asked) → Contains asked a → Contains qs a.requirement.now
asked_listed h n ms qs asked are a c =
    All-contains (Contains qs) (asked_at n qs) a.requirement.now (All-filter (λ (q : RequirementFields). may_apply q n) (Contains qs) qs (All-contains_itself qs))
    (subst (λ (zs : List RequirementFields). Contains zs a.requirement.now) are.same (contains_map requirement_of asked a c))

-- one of the list that may be true is asked about
pub asked_may : (h : PassView) (n : Node) (ms : List DiagramMark) (qs : List RequirementFields) (asked : List Asked) → AreAsked h n ms qs asked → (q : RequirementFields) → Contains qs q → may_apply q n ≡ true → (a : Asked) × Contains asked a × (a.requirement.now ≡ q)
asked_may h n ms qs asked are q c t =
    let found = contains_from_map requirement_of asked q (subst (λ (zs : List RequirementFields). Contains zs q) (sym are.same) (passing (λ (x : RequirementFields). may_apply x n) qs q c t)) in
    (found.0, found.1, sym found.2)

-- so is one that is applied
pub asked_applied : UnnamedNeverApplies → (h : PassView) (n : Node) (ms : List DiagramMark) (qs : List RequirementFields) (asked : List Asked) → AreAsked h n ms qs asked → (R : Region) (q : RequirementFields) → IsApplied qs R n q → (a : Asked) × Contains asked a × (a.requirement.now ≡ q)
asked_applied law h n ms qs asked are R q applied = asked_may h n ms qs asked are q applied.listed (may_be law n R q applied.somewhere)

-- and one that is firm
pub asked_firm : UnnamedNeverApplies → (h : PassView) (n : Node) (ms : List DiagramMark) (qs : List RequirementFields) (asked : List Asked) → AreAsked h n ms qs asked → (R : Region) (q : RequirementFields) → IsFirm qs R n q → (a : Asked) × Contains asked a × (a.requirement.now ≡ q)
asked_firm law h n ms qs asked are R q firm = asked_applied law h n ms qs asked are R q firm.applied

-- where none of those that are asked about is such, none of the list is
pub none_asked : (h : PassView) (n : Node) (ms : List DiagramMark) (qs : List RequirementFields) (asked : List Asked) (P : RequirementFields → Type 0) → AreAsked h n ms qs asked → ((q : RequirementFields) → P q → may_apply q n ≡ true)
    → ((q : RequirementFields) → Contains (map requirement_of asked) q → P q → ⊥) → (q : RequirementFields) → Contains qs q → P q → ⊥
none_asked h n ms qs asked P are may none =
    none_whole (λ (q : RequirementFields). may_apply q n) P qs may (λ q c. none q (subst (λ (zs : List RequirementFields). Contains zs q) (sym are.same) c))

-- the first of those that are asked about is the first of the list
pub first_asked : (h : PassView) (n : Node) (ms : List DiagramMark) (qs : List RequirementFields) (asked : List Asked) (P : RequirementFields → Type 0) (q : RequirementFields) → AreAsked h n ms qs asked → ((x : RequirementFields) → P x → may_apply x n ≡ true)
    → IsFirst P (map requirement_of asked) q → IsFirst P qs q
first_asked h n ms qs asked P q are may first =
    first_whole (λ (x : RequirementFields). may_apply x n) P qs q may (subst (λ (zs : List RequirementFields). IsFirst P zs q) are.same first)
