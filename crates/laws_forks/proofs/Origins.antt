-- Whether a need comes from a requirement, and from which, is decided by going through the requirements.
use Rattle.std.specs.Prelude.{Contains, slice_get}
use Rattle.std.proofs.Common.{◌≡◌, ◌⊎◌, ◌∙◌, ◌+◌, ◌-◌, ℕ, List, [], ◌∷◌, length, refl, sym, ap, subst}
use Rattle.std.proofs.Common.{Option, Some, None, inl, inr, arith}
use Rattle.std.proofs.lemmas.Bool.{cases_lt}
use Rattle.std.proofs.lemmas.Option.{none-some, same_Some}
use Rattle.ul_base.specs.declared.node.Node.{Node}
use Rattle.ul_base.proofs.ForCallers.{contains_first, contains_later}
use Rattle.ul_version.specs.Fields.{Fields}
use Rattle.ul_requirement.specs.Fields.{RequirementFields}
use Rattle.ul_requirement.specs.Truth.{applies_at, targets}
use Rattle.ul_problem.specs.Plain.{Plain as Problem, node_at}
use Rattle.ul_problem.specs.declared.problem.NodeFacts.{NodeFacts}
use Rattle.ul_index.specs.Applied.{IsFirm}
use Rattle.ul_index.specs.Catalogs.{Packages, requirements}
use Rattle.ul_index.specs.Regions.{Region}
use Rattle.ul_blame.specs.declared.needs.CoreNeed.{CoreNeed}
use Rattle.ul_split.specs.CoreSplit.{IsAskedBy}
use Rattle.ul_split.specs.Origins.{ComesFrom}
use Rattle.ul_split.proofs.Origins.{comes_counts, comes_once}
use Rattle.laws_trees.specs.Decided.{Decided}

-- ---- what the need at a place of a release's needs comes from

module _ (P : RequirementFields → Type 0) where
  -- there is a requirement that it comes from, or it comes from none
  abbrev pub Origin : List RequirementFields → ℕ → Type 0
  Origin qs place = ((q : RequirementFields) × ComesFrom P qs place q)
      ⊎ ((q : RequirementFields) → ComesFrom P qs place q → ⊥)

  -- a requirement that doesn't count
  skipped : (r : RequirementFields) (rs : List RequirementFields) (place : ℕ) → (P r → ⊥) → Origin rs place
      → Origin (r ∷ rs) place
  skipped r rs place n (inl f) = inl (f.0, inr (inr (record { fails = n; later = f.1 })))
  skipped r rs place n (inr none) = inr which
    where
      which : (q : RequirementFields) → ComesFrom P (r ∷ rs) place q → ⊥
      which q (inl h) = n h.counts
      which q (inr (inl h)) = n h.counts
      which q (inr (inr h)) = none q h.later

  -- one that counts, whose needs stand before the place
  passed : (r : RequirementFields) (rs : List RequirementFields) (place behind : ℕ) → P r
      → place ≡ length (targets r) + behind → Origin rs behind → Origin (r ∷ rs) place
  passed r rs place behind p e (inl f) =
      inl (f.0, inr (inl (record { counts = p; behind = behind; past = e; later = f.1 })))
  passed r rs place behind p e (inr none) = inr which
    where
      which : (q : RequirementFields) → ComesFrom P (r ∷ rs) place q → ⊥
      which q (inl h) = absurd (omega (arith, h.own, e))
      which q (inr (inl h)) = none q (subst (λ (k : ℕ). ComesFrom P rs k q)
          (let same : h.behind ≡ behind = omega (arith, h.past, e) in same) h.later)
      which q (inr (inr h)) = h.fails p

  pub origin : (qs : List RequirementFields) → ((q : RequirementFields) → Contains qs q → Decided (P q))
      → (place : ℕ) → Origin qs place
  origin [] d place = inr (λ q h. h)
  origin (r ∷ rs) d place = one (d r (contains_first r rs)) (origin rs (λ q m. d q (contains_later r rs q m)))
    where
      one : Decided (P r) → ((k : ℕ) → Origin rs k) → Origin (r ∷ rs) place
      one (inr n) rest = skipped r rs place n (rest place)
      one (inl p) rest = elim (cases_lt place (length (targets r))) [
        | inl l ↦ inl (r, inl (record { counts = p; own = l; is = refl }))
        | inr l ↦ passed r rs place (place - length (targets r)) p (omega arith) (rest (place - length (targets r)))
      ]

-- ---- what a need of a problem comes from

module _ (c : Packages) (R : Region) (p : Problem) (k : CoreNeed) where
  abbrev FirmOf : Node → Fields → RequirementFields → Type 0
  FirmOf n v = IsFirm (requirements c n.name v) R n

  -- it comes from this requirement at this node, and from nothing else
  pub record OneOrigin : Type 0 where
    pub node : Node
    pub requirement : RequirementFields
    pub asked : IsAskedBy c R p k node requirement
    pub only : (n : Node) (q : RequirementFields) → IsAskedBy c R p k n q
        → applies_at q n ≡ applies_at requirement node

  -- it comes from one requirement, or from none
  abbrev pub OriginOf : Type 0
  OriginOf = OneOrigin ⊎ ((n : Node) (q : RequirementFields) → IsAskedBy c R p k n q → ⊥)

  module _ (f : NodeFacts) (at : node_at p k.node ≡ Some f) where
    same_facts : (n : Node) (q : RequirementFields) (a : IsAskedBy c R p k n q) → a.facts ≡ f
    same_facts n q a = same_Some a.facts f (sym a.at ∙ at)

    same_node : (n : Node) (q : RequirementFields) → IsAskedBy c R p k n q → n ≡ f.node
    same_node n q a = sym a.node ∙ ap (λ (g : NodeFacts). g.node) (same_facts n q a)

    version_there : (n : Node) (q : RequirementFields) (a : IsAskedBy c R p k n q)
        → slice_get f.versions k.version ≡ Some a.version
    version_there n q a = subst (λ (g : NodeFacts). slice_get g.versions k.version ≡ Some a.version)
        (same_facts n q a) a.stands

    module _ (v : Fields) (stands : slice_get f.versions k.version ≡ Some v) where
      -- what it comes from is a firm requirement of the version
      from_version : (n : Node) (q : RequirementFields) → IsAskedBy c R p k n q
          → ComesFrom (FirmOf f.node v) (requirements c f.node.name v) k.place q
      from_version n q a =
          subst (λ (x : Fields). ComesFrom (FirmOf f.node x) (requirements c f.node.name x) k.place q)
          (same_Some a.version v (sym (version_there n q a) ∙ stands))
          (subst (λ (x : Node). ComesFrom (FirmOf x a.version) (requirements c x.name a.version) k.place q)
          (same_node n q a) a.from)

      asked_at : Origin (FirmOf f.node v) (requirements c f.node.name v) k.place → OriginOf
      asked_at (inr none) = inr (λ n q a. none q (from_version n q a))
      asked_at (inl g) = inl (record {
        node = f.node;
        requirement = g.0;
        asked = record { facts = f; at = at; node = refl; version = v; stands = stands; from = g.1 };
        only = λ n q a. alike n q (same_node n q a) (comes_once (FirmOf f.node v) (requirements c f.node.name v)
            k.place q g.0 (from_version n q a) g.1);
      })
        where
          alike : (n : Node) (q : RequirementFields) → n ≡ f.node → q ≡ g.0 → applies_at q n ≡ applies_at g.0 f.node
          alike n q e h = λ i. applies_at (h i) (e i)

  module _ (firm : (n : Node) (v : Fields) (q : RequirementFields) → Contains (requirements c n.name v) q
      → Decided (FirmOf n v q)) where
    at_version : (f : NodeFacts) → node_at p k.node ≡ Some f → (o : Option Fields)
        → slice_get f.versions k.version ≡ o → OriginOf
    at_version f at None e =
        inr (λ n q a. none-some a.version (sym e ∙ version_there f at n q a))
    at_version f at (Some v) e =
        asked_at f at v e (origin (FirmOf f.node v) (requirements c f.node.name v) (firm f.node v) k.place)

    at_facts : (o : Option NodeFacts) → node_at p k.node ≡ o → OriginOf
    at_facts None e = inr (λ n q a. none-some a.facts (sym e ∙ a.at))
    at_facts (Some f) e = at_version f e (slice_get f.versions k.version) refl

    pub origin_of : OriginOf
    origin_of = at_facts (node_at p k.node) refl

  -- what it comes from is a requirement of the catalog
  pub asked_listed : (n : Node) (q : RequirementFields) (a : IsAskedBy c R p k n q)
      → Contains (requirements c n.name a.version) q
  asked_listed n q a =
      (comes_counts (FirmOf n a.version) (requirements c n.name a.version) k.place q a.from).applied.listed
