-- The nodes of a problem stand at their places among those that all regions share.
use Rattle.std.specs.Prelude.{slice_get}
use Rattle.std.proofs.Common.{◌≡◌, ◌+◌, ℕ, zero, suc, List, [], ◌∷◌, length, Option, Some, None, refl, sym, ap, subst, ◌∙◌, arith}
use Rattle.std.proofs.lemmas.Option.{none-some, same_Some}
use Rattle.ul_index.specs.Regions.{Region}
use Rattle.ul_region.specs.Truths.{PassView}
use Rattle.ul_problem.specs.declared.problem.NodeFacts.{NodeFacts}
use Rattle.ul_prepared.specs.Prepared.{IsPrepared}
use Rattle.ul_prepared.specs.declared.prepared.NameFacts.{NameFacts}
use Rattle.ul_prepared.specs.declared.prepared.Planned.{Planned}
use Rattle.ul_prepared.specs.declared.prepared.Prepared.{Prepared}
use Rattle.ul_placing.specs.Facts.{AreFacts, IsFacts}
use Rattle.ul_placing.specs.Placed.{ArePlaced, StandsAt}
use Rattle.ul_placing.specs.Ranks.{places_from}
use Rattle.ul_placing.specs.declared.aims.NodeAims.{NodeAims}
use Rattle.ul_placing.proofs.Ranking.{suc_plus, plus_none}
use Rattle.ul_placing.proofs.Shared.{planned_at}

-- what is known of a node stands at a place, counted from another
record IsFound (R : Region) (all : Prepared) (ranks : List ℕ) (s : ℕ) (ps : List Planned) (place : ℕ) (f : NodeFacts) : Type 0 where
  offset : ℕ
  far : place ≡ s + offset
  planned : Planned
  own : NodeAims
  at : slice_get ps offset ≡ Some planned
  is : IsFacts R all ranks planned own f

none_plus : (j : ℕ) → 0 + j ≡ j
none_plus j = omega arith

module _ (R : Region) (all : Prepared) (ranks : List ℕ) where
  further : (s : ℕ) (p : Planned) (ps : List Planned) (place : ℕ) (f : NodeFacts) → IsFound R all ranks (s + 1) ps place f → IsFound R all ranks s (p ∷ ps) place f
  further s p ps place f g = record { offset = suc g.offset; far = g.far ∙ suc_plus s g.offset; planned = g.planned; own = g.own; at = g.at; is = g.is }

  -- there are as many places as nodes that were looked at
  places_count : (s : ℕ) (ps : List Planned) (aims : List (Option NodeAims)) (fs : List NodeFacts) → AreFacts R all ranks ps aims fs → length (places_from s aims) ≡ length fs
  places_count s [] [] fs h = sym (ap length h)
  places_count s [] (o ∷ aims) fs h = absurd h
  places_count s (p ∷ ps) [] fs h = absurd h
  places_count s (p ∷ ps) (None ∷ aims) fs h = places_count (s + 1) ps aims fs h
  places_count s (p ∷ ps) (Some a ∷ aims) fs h = ap suc (places_count (s + 1) ps aims h.rest h.more) ∙ sym (ap length h.are)

  -- at each place stands the node of the same rank
  found : (s : ℕ) (ps : List Planned) (aims : List (Option NodeAims)) (fs : List NodeFacts) (k place : ℕ) (f : NodeFacts) → AreFacts R all ranks ps aims fs → slice_get fs k ≡ Some f → slice_get (places_from s aims) k ≡ Some place
      → IsFound R all ranks s ps place f
  found s [] [] fs k place f h e d = absurd (none-some place d)
  found s [] (o ∷ aims) fs k place f h e d = absurd h
  found s (p ∷ ps) [] fs k place f h e d = absurd h
  found s (p ∷ ps) (None ∷ aims) fs k place f h e d = further s p ps place f (found (s + 1) ps aims fs k place f h e d)
  found s (p ∷ ps) (Some a ∷ aims) fs zero place f h e d = record {
    offset = 0;
    far = sym (same_Some s place d) ∙ plus_none s;
    planned = p;
    own = a;
    at = refl;
    is = subst (λ (z : NodeFacts). IsFacts R all ranks p a z) (same_Some h.facts f (subst (λ (z : List NodeFacts). slice_get z 0 ≡ Some f) h.are e)) h.is;
  }
  found s (p ∷ ps) (Some a ∷ aims) fs (suc k) place f h e d =
      further s p ps place f (found (s + 1) ps aims h.rest k place f h.more (subst (λ (z : List NodeFacts). slice_get z (suc k) ≡ Some f) h.are e) d)

  -- a node that stands at a place has a row for each of its versions
  stands : (h : PassView) (place : ℕ) (f : NodeFacts) → IsPrepared h all → IsFound R all ranks 0 all.nodes.items place f → StandsAt all f place
  stands h place f is g =
      let at : slice_get all.nodes.items place ≡ Some g.planned = subst (λ (n : ℕ). slice_get all.nodes.items n ≡ Some g.planned) (sym (g.far ∙ none_plus g.offset)) g.at in
      let own = planned_at h all place g.planned is at in
      record {
        planned = g.planned;
        at = at;
        node = sym g.is.node;
        rows = own.count ∙ (ap (λ (n : NameFacts). length n.versions) (same_Some own.facts g.is.name (sym own.at ∙ g.is.at)) ∙ sym (ap length g.is.versions));
      }

-- the nodes of the problem stand at their places
pub nodes_placed : (h : PassView) (R : Region) (all : Prepared) (ranks : List ℕ) (aims : List (Option NodeAims)) (roots places : List ℕ) (fs : List NodeFacts) → IsPrepared h all → AreFacts R all ranks all.nodes.items aims fs
    → places ≡ places_from 0 aims → ArePlaced all (record { roots = roots; nodes = fs }) places
nodes_placed h R all ranks aims roots places fs is facts e = record {
  count = ap length e ∙ places_count R all ranks 0 all.nodes.items aims fs facts;
  each = λ k place f at d. stands R all ranks h place f is (found R all ranks 0 all.nodes.items aims fs k place f facts at (subst (λ (z : List ℕ). slice_get z k ≡ Some place) e d));
}
