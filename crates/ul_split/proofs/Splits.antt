-- A core splits its region by at most one truth, which holds at some world of it and fails at some.
use Rattle.std.proofs.Common.{◌≡◌, ◌∙◌, List, Bool, true, false, not, sym, ap, subst, slice_get}
use Rattle.std.proofs.lemmas.Option.{same_Some}
use Rattle.ul_base.specs.declared.node.Node.{Node}
use Rattle.ul_base.proofs.ForCallers.{first_once, first_holds, first_in}
use Rattle.ul_version.specs.Fields.{Fields}
use Rattle.ul_comparison.specs.Worlds.{WorldFields}
use Rattle.ul_requirement.specs.Fields.{RequirementFields}
use Rattle.ul_requirement.specs.Truth.{applies_at}
use Rattle.ul_problem.specs.Plain.{Plain}
use Rattle.ul_problem.specs.declared.problem.NodeFacts.{NodeFacts}
use Rattle.ul_index.specs.Applied.{IsFirm}
use Rattle.ul_index.specs.Catalogs.{Packages, requirements}
use Rattle.ul_index.specs.Regions.{Region, Somewhere}
use Rattle.ul_blame.specs.declared.needs.CoreNeed.{CoreNeed}
use Rattle.ul_split.specs.Origins.{ComesFrom}
use Rattle.ul_split.specs.CoreSplit.{IsAskedBy, IsFailing, CoreSplit, HoldsThroughout}
use Rattle.ul_split.specs.CoreLaws.{CoreSplitOnce, CoreChildren}
use Rattle.ul_split.proofs.Origins.{comes_once, comes_counts}

-- a need comes from one requirement, at one node
asked_once : (c : Packages) (R : Region) (p : Plain) (k : CoreNeed) (n m : Node) (q r : RequirementFields) → IsAskedBy c R p k n q → IsAskedBy c R p k m r → applies_at q n ≡ applies_at r m
asked_once c R p k n m q r h g = λ i. applies_at (same i) (nodes i)
  where
    facts : h.facts ≡ g.facts
    facts = same_Some h.facts g.facts (sym h.at ∙ g.at)

    nodes : n ≡ m
    nodes = sym h.node ∙ (ap (λ (f : NodeFacts). f.node) facts ∙ g.node)

    versions : h.version ≡ g.version
    versions = same_Some h.version g.version (sym h.stands ∙ (ap (λ (f : NodeFacts). slice_get f.versions k.version) facts ∙ g.stands))

    moved : ComesFrom (IsFirm (requirements c m.name g.version) R m) (requirements c m.name g.version) k.place q
    moved = subst (λ (v : Fields). ComesFrom (IsFirm (requirements c m.name v) R m) (requirements c m.name v) k.place q) versions
        (subst (λ (x : Node). ComesFrom (IsFirm (requirements c x.name h.version) R x) (requirements c x.name h.version) k.place q) nodes h.from)

    same : q ≡ r
    same = comes_once (IsFirm (requirements c m.name g.version) R m) (requirements c m.name g.version) k.place q r moved g.from

once : (c : Packages) (R : Region) (p : Plain) (core : List CoreNeed) (f g : WorldFields → Bool) → CoreSplit c R p core f → CoreSplit c R p core g → f ≡ g
once c R p core f g h k = h.is ∙ (asked_once c R p k.need h.node k.node h.requirement k.requirement moved k.asked ∙ sym k.is)
  where
    moved : IsAskedBy c R p k.need h.node h.requirement
    moved = subst (λ (x : CoreNeed). IsAskedBy c R p x h.node h.requirement) (first_once (IsFailing c R p) core h.need k.need h.first k.first) h.asked

-- the truth that splits fails somewhere
fails_somewhere : (c : Packages) (R : Region) (p : Plain) (core : List CoreNeed) (f : WorldFields → Bool) → CoreSplit c R p core f → Somewhere R (λ w. not (f w))
fails_somewhere c R p core f h =
    let found = first_holds (IsFailing c R p) core h.need h.first in
    subst (λ (t : WorldFields → Bool). Somewhere R (λ w. not (t w))) (asked_once c R p h.need found.node h.node found.requirement h.requirement found.asked h.asked ∙ sym h.is) found.fails

-- and holds somewhere, since its requirement is firm
holds_somewhere : (c : Packages) (R : Region) (p : Plain) (core : List CoreNeed) (f : WorldFields → Bool) → CoreSplit c R p core f → Somewhere R f
holds_somewhere c R p core f h =
    let qs = requirements c h.node.name h.asked.version in
    subst (Somewhere R) (sym h.is) (comes_counts (IsFirm qs R h.node) qs h.need.place h.requirement h.asked.from).applied.somewhere

not_both_ways : (b : Bool) → b ≡ true → not b ≡ true → ⊥
not_both_ways true e f = cc
not_both_ways false e f = cc

not_both : (c : Packages) (R : Region) (p : Plain) (core : List CoreNeed) (f : WorldFields → Bool) → CoreSplit c R p core f → HoldsThroughout c R p core → ⊥
not_both c R p core f h holds =
    let s = fails_somewhere c R p core f h in
    not_both_ways (f s.0)
    (ap (λ (t : WorldFields → Bool). t s.0) h.is ∙ holds h.need h.node h.requirement (first_in (IsFailing c R p) core h.need h.first) h.asked s.0 s.1 s.2)
    s.3

pub core_split_once : CoreSplitOnce
core_split_once = record { once = once; not_both = not_both }

pub core_children : CoreChildren
core_children c R p core truth h = (holds_somewhere c R p core truth h, fails_somewhere c R p core truth h)
