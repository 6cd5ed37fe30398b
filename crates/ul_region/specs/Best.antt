-- The best selection of a region, as decisions in order.
use Rattle.std.specs.Prelude.{◌≡◌, List, [], ◌∷◌, ◌++◌, map, find, flat_map, not, is_some, Contains, Option, Some, None}
use Rattle.ul_base.specs.declared.node.Node.{Node}
use Rattle.ul_version.specs.Fields.{Fields}
use Rattle.ul_specifier.specs.Clauses.{ClauseFields}
use Rattle.ul_requirement.specs.Fields.{RequirementFields, WishFields}
use Rattle.ul_requirement.specs.Truth.{targets}
use Rattle.ul_base.specs.Kept.{Kept, IsFirst}
use Rattle.ul_index.specs.Regions.{Region}
use Rattle.ul_index.specs.Catalogs.{Packages, requirements}
use Rattle.ul_index.specs.Applied.{IsFirm}
use Rattle.ul_index.specs.Serves.{Selection, Serves, choice_of}
use Rattle.ul_index.specs.Preference.{preference}

-- a target, and what its versions have to meet
pub record Need : Type 0 where
  pub node : Node
  pub specifiers : List ClauseFields

-- the needs of a requirement: its targets, in order
abbrev pub needs_of : RequirementFields → List Need
needs_of q = map (λ t. record { node = t; specifiers = q.specifiers }) (targets q)

-- the needs of a node in a region: those of the firm requirements of its release, in order
pub record AreNeeds (qs : List RequirementFields) (R : Region) (n : Node) (ts : List Need) : Type 0 where
  pub firm : List RequirementFields
  pub kept : Kept (IsFirm qs R n) qs firm
  pub are : ts ≡ flat_map needs_of firm

-- the joined needs of the decided nodes, in the order of decision
abbrev pub AreJoined : Packages → Region → Selection → List Need → Type 0
AreJoined c R [] ts = ts ≡ []
AreJoined c R (d ∷ ds) ts = record {
  own : List Need;
  rest : List Need;
  of_own : AreNeeds (requirements c d.0.name d.1) R d.0 own;
  of_rest : AreJoined c R ds rest;
  joined : ts ≡ own ++ rest;
}

-- the first undecided node: of those that it starts from, then of the needs
abbrev pub next : List Node → Selection → List Need → Option Node
next starts done ts = find (λ n. not (is_some (choice_of done n))) (starts ++ map (λ t. t.node) ts)

-- some serving selection has every decision
pub record CanServe (c : Packages) (starts : List Node) (wish : WishFields) (R : Region) (done : Selection) : Type 0 where
  pub selection : Selection
  pub serves : Serves wish.strategy c starts R selection
  pub agrees : (n : Node) (v : Fields) → Contains done (n, v) → choice_of selection n ≡ Some v

-- the decisions that follow those that are done
abbrev pub IsBestFrom : Packages → List Node → WishFields → Region → Selection → Selection → Type 0
IsBestFrom c starts wish R done [] = record { needs : List Need; of_needs : AreJoined c R done needs; last : next starts done needs ≡ None }
IsBestFrom c starts wish R done (d ∷ ds) = record {
  needs : List Need;
  of_needs : AreJoined c R done needs;
  node : next starts done needs ≡ Some d.0;
  version : IsFirst (λ v. CanServe c starts wish R (done ++ (d.0, v) ∷ [])) (preference c wish d.0.name) d.1;
  more : IsBestFrom c starts wish R (done ++ d ∷ []) ds;
}

-- the list is the best selection of the region
abbrev pub IsBest : Packages → List Node → WishFields → Region → Selection → Type 0
IsBest c starts wish R ds = IsBestFrom c starts wish R [] ds
