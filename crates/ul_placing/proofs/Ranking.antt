-- What is known of the reached nodes stands at their ranks.
use Rattle.std.specs.Prelude.{slice_get}
use Rattle.std.proofs.Common.{◌≡◌, ◌+◌, ℕ, zero, suc, List, [], ◌∷◌, get_or, Option, Some, None, refl, sym, subst, ◌∙◌, arith}
use Rattle.std.proofs.lemmas.Option.{none-some, same_Some}
use Rattle.std.specs.declared.cmp.Ordering.TheVariants.{Less}
use Rattle.ul_base.specs.Nodes.{node_cmp}
use Rattle.ul_base.specs.declared.node.Node.{Node}
use Rattle.ul_index.specs.Regions.{Region}
use Rattle.ul_problem.specs.Problems.{Increases, IncreasesFrom, NodeBefore}
use Rattle.ul_problem.specs.declared.problem.NodeFacts.{NodeFacts}
use Rattle.ul_prepared.specs.Prepared.{PlannedBefore}
use Rattle.ul_prepared.specs.declared.prepared.Planned.{Planned}
use Rattle.ul_prepared.specs.declared.prepared.Prepared.{Prepared}
use Rattle.ul_placing.specs.Facts.{AreFacts, IsFacts}
use Rattle.ul_placing.specs.Ranks.{ranks_from}
use Rattle.ul_placing.specs.Reach.{IsLookedAt}
use Rattle.ul_placing.specs.declared.aims.NodeAims.{NodeAims}
use Rattle.ul_placing.proofs.Rising.{from_before, tail, planned_trans}

-- a number, and the number of places before one
pub suc_plus : (r j : ℕ) → r + 1 + j ≡ r + suc j
suc_plus r j = omega arith

pub plus_none : (r : ℕ) → r ≡ r + 0
plus_none r = omega arith

-- what is known of a node that was looked at, and its place from a number on
pub record IsRanked (R : Region) (all : Prepared) (ranks : List ℕ) (r : ℕ) (aims : List (Option NodeAims)) (fs : List NodeFacts) (k : ℕ) (p : Planned) (a : NodeAims) : Type 0 where
  pub facts : NodeFacts
  pub place : ℕ
  pub at : slice_get fs place ≡ Some facts
  pub rank : get_or (ranks_from r aims) k 0 ≡ r + place
  pub is : IsFacts R all ranks p a facts

module _ (R : Region) (all : Prepared) (ranks : List ℕ) where
  later : (r : ℕ) (b : NodeAims) (aims : List (Option NodeAims)) (fs rest : List NodeFacts) (f : NodeFacts) (k : ℕ) (p : Planned) (a : NodeAims) → fs ≡ f ∷ rest → IsRanked R all ranks (r + 1) aims rest k p a → IsRanked R all ranks r (Some b ∷ aims) fs (suc k) p a
  later r b aims fs rest f k p a e h = record {
    facts = h.facts;
    place = suc h.place;
    at = subst (λ (z : List NodeFacts). slice_get z (suc h.place) ≡ Some h.facts) (sym e) h.at;
    rank = h.rank ∙ suc_plus r h.place;
    is = h.is;
  }

  passed : (r : ℕ) (aims : List (Option NodeAims)) (fs : List NodeFacts) (k : ℕ) (p : Planned) (a : NodeAims) → IsRanked R all ranks r aims fs k p a → IsRanked R all ranks r (None ∷ aims) fs (suc k) p a
  passed r aims fs k p a h = record { facts = h.facts; place = h.place; at = h.at; rank = h.rank; is = h.is }

  -- each node that was looked at has its place
  pub ranked : (r : ℕ) (ps : List Planned) (aims : List (Option NodeAims)) (fs : List NodeFacts) (k : ℕ) (p : Planned) (a : NodeAims) → AreFacts R all ranks ps aims fs → slice_get ps k ≡ Some p → IsLookedAt aims k a → IsRanked R all ranks r aims fs k p a
  ranked r [] aims fs k p a h e d = absurd (none-some p e)
  ranked r (q ∷ ps) [] fs k p a h e d = absurd h
  ranked r (q ∷ ps) (None ∷ aims) fs zero p a h e d = absurd (none-some a (same_Some None (Some a) d))
  ranked r (q ∷ ps) (None ∷ aims) fs (suc k) p a h e d = passed r aims fs k p a (ranked r ps aims fs k p a h e d)
  ranked r (q ∷ ps) (Some b ∷ aims) fs zero p a h e d = record {
    facts = h.facts;
    place = 0;
    at = subst (λ (z : List NodeFacts). slice_get z 0 ≡ Some h.facts) (sym h.are) refl;
    rank = plus_none r;
    is = subst (λ (z : NodeAims). IsFacts R all ranks p z h.facts) (same_Some b a (same_Some (Some b) (Some a) d)) (subst (λ (z : Planned). IsFacts R all ranks z b h.facts) (same_Some q p e) h.is);
  }
  ranked r (q ∷ ps) (Some b ∷ aims) fs (suc k) p a h e d = later r b aims fs h.rest h.facts k p a h.are (ranked (r + 1) ps aims h.rest k p a h.more e d)

  -- each place is that of a node that was looked at
  pub record IsPlaceOf (r : ℕ) (ps : List Planned) (aims : List (Option NodeAims)) (j : ℕ) (f : NodeFacts) : Type 0 where
    pub place : ℕ
    pub planned : Planned
    pub own : NodeAims
    pub at : slice_get ps place ≡ Some planned
    pub looked : IsLookedAt aims place own
    pub is : IsFacts R all ranks planned own f

  next_place : (r s : ℕ) (q : Planned) (o : Option NodeAims) (ps : List Planned) (aims : List (Option NodeAims)) (i j : ℕ) (f : NodeFacts) → IsPlaceOf r ps aims j f → IsPlaceOf s (q ∷ ps) (o ∷ aims) i f
  next_place r s q o ps aims i j f h = record { place = suc h.place; planned = h.planned; own = h.own; at = h.at; looked = h.looked; is = h.is }

  -- at each place stands what is known of a node that was looked at
  pub place_looked : (r : ℕ) (ps : List Planned) (aims : List (Option NodeAims)) (fs : List NodeFacts) (j : ℕ) (f : NodeFacts) → AreFacts R all ranks ps aims fs → slice_get fs j ≡ Some f → IsPlaceOf r ps aims j f
  place_looked r [] [] fs j f h e = absurd (none-some f (subst (λ (z : List NodeFacts). slice_get z j ≡ Some f) h e))
  place_looked r [] (o ∷ aims) fs j f h e = absurd h
  place_looked r (q ∷ ps) [] fs j f h e = absurd h
  place_looked r (q ∷ ps) (None ∷ aims) fs j f h e = next_place r r q None ps aims j j f (place_looked r ps aims fs j f h e)
  place_looked r (q ∷ ps) (Some b ∷ aims) fs zero f h e = record {
    place = 0;
    planned = q;
    own = b;
    at = refl;
    looked = refl;
    is = subst (λ (z : NodeFacts). IsFacts R all ranks q b z) (same_Some h.facts f (subst (λ (z : List NodeFacts). slice_get z 0 ≡ Some f) h.are e)) h.is;
  }
  place_looked r (q ∷ ps) (Some b ∷ aims) fs (suc j) f h e = next_place (r + 1) r q (Some b) ps aims (suc j) j f (place_looked (r + 1) ps aims h.rest j f h.more (subst (λ (z : List NodeFacts). slice_get z (suc j) ≡ Some f) h.are e))

  before : (p q : Planned) (f g : NodeFacts) → f.node ≡ p.node → g.node ≡ q.node → PlannedBefore p q → NodeBefore f g
  before p q f g d e h = subst (λ (n : Node). node_cmp n g.node ≡ Less) (sym d) (subst (λ (n : Node). node_cmp p.node n ≡ Less) (sym e) h)

  rise_from : (p : Planned) (ps : List Planned) (aims : List (Option NodeAims)) (fs : List NodeFacts) (f : NodeFacts) → f.node ≡ p.node → IncreasesFrom PlannedBefore p ps → AreFacts R all ranks ps aims fs → IncreasesFrom NodeBefore f fs
  rise_from p [] [] fs f e i h = subst (λ (z : List NodeFacts). IncreasesFrom NodeBefore f z) (sym h) tt
  rise_from p [] (o ∷ aims) fs f e i h = absurd h
  rise_from p (q ∷ ps) [] fs f e i h = absurd h
  rise_from p (q ∷ ps) (None ∷ aims) fs f e i h = rise_from p ps aims fs f e (from_before PlannedBefore planned_trans p q ps i.0 i.1) h
  rise_from p (q ∷ ps) (Some b ∷ aims) fs f e i h = subst (λ (z : List NodeFacts). IncreasesFrom NodeBefore f z) (sym h.are)
      (before p q f h.facts e h.is.node i.0, rise_from q ps aims h.rest h.facts h.is.node i.1 h.more)

  -- the reached nodes increase
  pub facts_increase : (ps : List Planned) (aims : List (Option NodeAims)) (fs : List NodeFacts) → Increases PlannedBefore ps → AreFacts R all ranks ps aims fs → Increases NodeBefore fs
  facts_increase [] [] fs i h = subst (λ (z : List NodeFacts). Increases NodeBefore z) (sym h) tt
  facts_increase [] (o ∷ aims) fs i h = absurd h
  facts_increase (q ∷ ps) [] fs i h = absurd h
  facts_increase (q ∷ ps) (None ∷ aims) fs i h = facts_increase ps aims fs (tail PlannedBefore planned_trans q ps i) h
  facts_increase (q ∷ ps) (Some b ∷ aims) fs i h = subst (λ (z : List NodeFacts). Increases NodeBefore z) (sym h.are) (rise_from q ps aims h.rest h.facts h.is.node i h.more)
