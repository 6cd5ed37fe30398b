-- What a need's requirement is, and where it fails.
use Rattle.std.proofs.Common.{◌≡◌, ◌<◌, ◌≤◌, ◌+◌, ◌∷◌, ℕ, List, length, map, drop, get_or, Bool, true, false, not, Decides, Option, Some, None, refl, sym, subst}
use Rattle.std.specs.Borrow.{Bor}
use Rattle.ul_base.specs.declared.node.Node.{Node}
use Rattle.ul_base.proofs.ForCallers.{long_map}
use Rattle.ul_comparison.specs.Worlds.{WorldFields}
use Rattle.ul_requirement.specs.Fields.{RequirementFields}
use Rattle.ul_requirement.specs.Laws.{UnnamedNeverApplies}
use Rattle.ul_requirement.specs.Truth.{applies_at, may_apply}
use Rattle.ul_index.specs.Applied.{IsFirm}
use Rattle.ul_index.specs.Regions.{Region, Somewhere, Throughout}
use Rattle.ul_region.specs.Asked.{HasAsked, IsAtNode, asked_of, region_asked}
use Rattle.ul_region.specs.Rows.{requirement_of}
use Rattle.ul_region.specs.Truths.{PassView, DiagramMark, IsTruth}
use Rattle.ul_region.specs.declared.rows.Asked.{Asked}
use Rattle.ul_region.specs.declared.at_node.AtNode.{AtNode}
use Rattle.ul_region.proofs.ForCallers.{everywhere_decided}
use Rattle.ul_split.specs.CoreAnswers.{FailsAt, IsFalseSomewhere, IsOrigin, OriginAt}
use Rattle.ul_split.specs.Origins.{ComesFrom}
use Rattle.ul_split.proofs.Origins.{comes_lean, comes_once, comes_whole, rest_mapped}

-- what a test found, told of where it fails and where it holds throughout
pub throughout : (R : Region) (p : WorldFields → Bool) (b : Bool) → Decides b (Somewhere R (λ w. not (p w))) → b ≡ false → Throughout R p
throughout R p b d e = (everywhere_decided R p true (subst (λ (x : Bool). Decides x (Somewhere R (λ w. not (p w)))) e d)).0 refl

-- one that holds throughout
pub fails_nowhere : (h : PassView) (s : AtNode) (place : ℕ) (o : Option (Bor Asked)) (a : Bor Asked) → o ≡ Some a → OriginAt s place o → Throughout (region_asked s) (applies_at a.now.requirement.now s.node.now) → FailsAt h s place None
fails_nowhere h s place o a e k t q from =
    let mine = subst (OriginAt s place) e k in
    subst (λ (x : RequirementFields). Throughout (region_asked s) (applies_at x s.node.now)) (comes_once (IsFirm (asked_of s) (region_asked s) s.node.now) (asked_of s) place a.now.requirement.now q mine.1 from) t

-- one that fails somewhere
pub fails_there : (h : PassView) (s : AtNode) (place : ℕ) (o : Option (Bor Asked)) (a : Bor Asked) (t : Bor DiagramMark) → o ≡ Some a → OriginAt s place o → IsFalseSomewhere s a.now → IsTruth h t.now (applies_at a.now.requirement.now s.node.now) → FailsAt h s place (Some t)
fails_there h s place o a t e k f truth = (a.now.requirement.now, (subst (OriginAt s place) e k).1, f, truth)

-- what is found is asked
pub found_asked : (s : AtNode) (place : ℕ) (o : Option (Bor Asked)) (a : Bor Asked) → o ≡ Some a → OriginAt s place o → HasAsked s a.now
found_asked s place o a e k = (subst (OriginAt s place) e k).0

-- ---- the loop over a row's requirements

-- the requirements from a place on, where the list stands behind a reference
pub rest_here : (asked ys : List Asked) (i : ℕ) (a : Asked) → ys ≡ asked → i < length ys → a ≡ get_or ys i a → drop i (map requirement_of asked) ≡ a.requirement.now ∷ drop (i + 1) (map requirement_of asked)
rest_here asked ys i a same l e = rest_mapped requirement_of asked i a (subst (λ (zs : List Asked). i < length zs) same l) (subst (λ (zs : List Asked). a ≡ get_or zs i a) same e)

pub long_here : (asked ys : List Asked) (i : ℕ) → ys ≡ asked → length ys ≤ i → length (map requirement_of asked) ≤ i
long_here asked ys i same l = subst (λ (n : ℕ). n ≤ i) (sym (long_map requirement_of asked)) (subst (λ (zs : List Asked). length zs ≤ i) same l)

-- ---- the row's requirements, and all of the release

-- one that may not be true at the node isn't firm
never_firm : UnnamedNeverApplies → (qs : List RequirementFields) (R : Region) (n : Node) (q : RequirementFields) → may_apply q n ≡ false → IsFirm qs R n q → ⊥
never_firm law qs R n q e firm = let s = firm.applied.somewhere in let holds = s.3 in let never = law q n s.0 e in cc

-- the requirement that a need comes from by the row's list and by the release's is the same
module _ (law : UnnamedNeverApplies) (h : PassView) (s : AtNode) (place : ℕ) (q : RequirementFields) (is : IsAtNode h s) where
  pub from_lean : ComesFrom (IsFirm (asked_of s) (region_asked s) s.node.now) (map requirement_of s.row.now.asked) place q → IsOrigin s place q
  from_lean k = comes_whole (IsFirm (asked_of s) (region_asked s) s.node.now) (λ (r : RequirementFields). may_apply r s.node.now) (never_firm law (asked_of s) (region_asked s) s.node.now) (asked_of s) place q
      (subst (λ (l : List RequirementFields). ComesFrom (IsFirm (asked_of s) (region_asked s) s.node.now) l place q) is.row.are.same k)

  pub from_whole : IsOrigin s place q → ComesFrom (IsFirm (asked_of s) (region_asked s) s.node.now) (map requirement_of s.row.now.asked) place q
  from_whole k = subst (λ (l : List RequirementFields). ComesFrom (IsFirm (asked_of s) (region_asked s) s.node.now) l place q) (sym is.row.are.same)
      (comes_lean (IsFirm (asked_of s) (region_asked s) s.node.now) (λ (r : RequirementFields). may_apply r s.node.now) (never_firm law (asked_of s) (region_asked s) s.node.now) (asked_of s) place q k)
