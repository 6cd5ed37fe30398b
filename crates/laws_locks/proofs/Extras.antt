-- Each package has its extras.
use Rattle.std.proofs.Common.{◌≡◌, ℕ, List, [], ◌∷◌, ◌++◌, flat_map, Option, Some, None, Contains, refl, ap, inl, inr}
use Rattle.std.proofs.Common.{is_lt}
use Rattle.std.proofs.lemmas.List.Elements.{Contains-append_left, Contains-append_right}
use Rattle.ul_base.specs.Names.{name_cmp}
use Rattle.ul_base.proofs.ForCallers.{contains_first, contains_flat}
use Rattle.ul_version.specs.Fields.{Fields}
use Rattle.ul_requirement.specs.Truth.{with_extra}
use Rattle.ul_index.specs.Catalogs.{Packages}
use Rattle.ul_project.specs.Fields.{ProjectFields}
use Rattle.ul_lock.specs.declared.parts.Edge.{Edge}
use Rattle.ul_lock.specs.declared.parts.Extra.{Extra}
use Rattle.ul_lock.specs.Orders.{extra_less}
use Rattle.ul_lock.specs.Walk.{Pick}
use Rattle.ul_sound.specs.Leaves.{LeafFields}
use Rattle.ul_sound.specs.Merged.{AreEdgesOf, AreExtrasOf, IsWantedExtra, extra_key}
use Rattle.laws_trees.specs.Decided.{Decided}
use Rattle.laws_trees.proofs.ForCallers.{both_decided, either_decided, member_decided, text_decided}
use Rattle.laws_locks.proofs.Choices.{chosen_by, chosen_decided, chosen_to}
use Rattle.laws_locks.proofs.Edges.{AreMergedParts, edges_exist}
use Rattle.laws_locks.proofs.Indexes.{index_exists}
use Rattle.laws_locks.proofs.Levels.{names_same, names_total}

-- the extra of a node, if it has one
abbrev extra_in : Option (List ℕ) → List (List ℕ)
extra_in None = []
extra_in (Some x) = x ∷ []

abbrev extra_of : Pick → List (List ℕ)
extra_of q = extra_in q.0.extra

module _ (c : Packages) (p : ProjectFields) (leaves : List LeafFields) (h : AreMergedParts c leaves p.region) where
  -- the extras that leaves chose, and the project's
  abbrev extras_by : List (List ℕ)
  extras_by = flat_map extra_of (chosen_by leaves) ++ p.extras

  extra_listed : (n : List ℕ) (v : Fields) (x : List ℕ) → IsWantedExtra p leaves n v x → Contains extras_by x
  extra_listed n v x (inl k) = Contains-append_left (flat_map extra_of (chosen_by leaves)) p.extras x
      (contains_flat extra_of (chosen_by leaves) (with_extra n x, v) x (chosen_to leaves (with_extra n x) v k)
      (contains_first x []))
  extra_listed n v x (inr k) = Contains-append_right (flat_map extra_of (chosen_by leaves)) p.extras x k.1

  extra_decided : (n : List ℕ) (v : Fields) (x : List ℕ) → Decided (IsWantedExtra p leaves n v x)
  extra_decided n v x = either_decided (chosen_decided leaves (with_extra n x) v)
      (both_decided (text_decided n p.package.name) (member_decided p.extras x (λ y. text_decided y x)))

  -- each package has its extras
  pub extras_exist : (n : List ℕ) (v : Fields) → (xs : List Extra) × AreExtrasOf c p leaves n v xs
  extras_exist n v = index_exists extra_key extra_less (IsWantedExtra p leaves n v)
      (λ x. AreEdgesOf c leaves p.region (with_extra n x.name, v) x.edges) name_cmp extras_by (record {
        total = names_total;
        below = λ a b e. ap is_lt e;
        same = λ i j _ _ e. names_same i j e;
        decided = λ x m. extra_decided n v x;
        listed = λ x w. extra_listed n v x w;
        made = λ x w. made x (edges_exist c leaves p.region h (with_extra n x, v));
      })
    where
      made : (x : List ℕ) → (es : List Edge) × AreEdgesOf c leaves p.region (with_extra n x, v) es
          → (y : Extra) × (extra_key y ≡ x) × AreEdgesOf c leaves p.region (with_extra n y.name, v) y.edges
      made x es = (record { name = x; edges = es.0 }, refl, es.1)
