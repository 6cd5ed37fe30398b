-- Requirements whose targets are nodes of some kind.
use Rattle.std.specs.Prelude.{All}
use Rattle.std.proofs.Common.{◌≡◌, List, [], ◌∷◌, map, sym, subst}
use Rattle.std.specs.List.{AllZip}
use Rattle.std.proofs.lemmas.List.Elements.{All-cons, All-contains, All-contains_itself, All-head, All-map, All-nil, All-tail, All-weaker}
use Rattle.std.specs.Prelude.{Contains}
use Rattle.ul_base.specs.declared.node.Node.{Node}
use Rattle.ul_requirement.specs.Fields.{RequirementFields}
use Rattle.ul_requirement.specs.Truth.{targets}
use Rattle.ul_region.specs.Rows.{AreAsked}
use Rattle.ul_region.specs.Truths.{DiagramMark, PassView}
use Rattle.ul_region.specs.declared.rows.Asked.{Asked}
use Rattle.ul_region.proofs.ForCallers.{asked_listed}
use Rattle.ul_prepared.specs.Lists.{lists_in}
use Rattle.ul_prepared.specs.Shared.{lists_shared}
use Rattle.ul_prepared.specs.Targets.{AsksTargets, HasTargets, HaveTargets, ListsTargets, SharesTargets}
use Rattle.ul_prepared.specs.declared.releases.Releases.{Releases}
use Rattle.ul_prepared.specs.declared.shared.Shared.{Shared}
use Rattle.ul_prepared.proofs.Zipped.{all_of_map}

-- where each node of one kind is of another, so are the targets
module _ (P Q : Node → Type 0) (into : (n : Node) → P n → Q n) where
  pub target_into : (q : RequirementFields) → HasTargets P q → HasTargets Q q
  target_into q a = All-weaker P Q into (targets q) a

  pub targets_into : (qs : List RequirementFields) → HaveTargets P qs → HaveTargets Q qs
  targets_into qs a = All-weaker (HasTargets P) (HasTargets Q) target_into qs a

  pub lists_into : (qss : List (List RequirementFields)) → All (HaveTargets P) qss → All (HaveTargets Q) qss
  lists_into qss a = All-weaker (HaveTargets P) (HaveTargets Q) targets_into qss a

  pub names_into : (rs : List Releases) → All (ListsTargets P) rs → All (ListsTargets Q) rs
  names_into rs a = All-weaker (ListsTargets P) (ListsTargets Q) (λ r k. lists_into (lists_in r) k) rs a

module _ (P : Node → Type 0) where
  -- what is shared has the lists that the releases have
  pub shared_targets : (ss : List Shared) (rs : List Releases) → map lists_shared ss ≡ map lists_in rs → All (ListsTargets P) rs → All (SharesTargets P) ss
  shared_targets ss rs e a = all_of_map (All (HaveTargets P)) lists_shared ss (subst (All (All (HaveTargets P))) (sym e) (All-map (All (HaveTargets P)) lists_in rs a))

  module _ (h : PassView) (n : Node) (truths : List DiagramMark) where
    asks : (qs : List RequirementFields) (asked : List Asked) → AreAsked h n truths qs asked → HaveTargets P qs → All (AsksTargets P) asked
    asks qs asked are a = All-weaker (Contains asked) (AsksTargets P) (λ x c. All-contains (HasTargets P) qs x.requirement.now a (asked_listed h n truths qs asked are x c)) asked (All-contains_itself asked)

    -- what is asked about is of the lists
    pub lists_ask : (qss : List (List RequirementFields)) (lists : List (List Asked)) → AllZip (AreAsked h n truths) qss lists → All (HaveTargets P) qss → All (All (AsksTargets P)) lists
    lists_ask [] [] are a = All-nil (All (AsksTargets P))
    lists_ask [] (asked ∷ lists) are a = absurd are
    lists_ask (qs ∷ qss) [] are a = absurd are
    lists_ask (qs ∷ qss) (asked ∷ lists) are a = All-cons (All (AsksTargets P)) asked lists (asks qs asked are.0 (All-head (HaveTargets P) qs qss a)) (lists_ask qss lists are.1 (All-tail (HaveTargets P) qs qss a))
