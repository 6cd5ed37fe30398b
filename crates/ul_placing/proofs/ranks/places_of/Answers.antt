use Rattle.std.proofs.Common.{◌≡◌, ◌<◌, ◌+◌, ◌++◌, ◌∷◌, [], ℕ, List, Option, Some, None, length, get_or, drop, ap, sym, ◌∙◌}
use Rattle.std.proofs.lemmas.List.{append-nil, append_assoc, drop_all}
use Rattle.ul_placing.specs.Ranks.{places_from}
use Rattle.ul_placing.specs.declared.aims.NodeAims.{NodeAims}
use Rattle.ul_placing.proofs.Lists.{rest_more}
use Rattle.ul_placing.proofs.ranks.places_of.Goals as goal

-- the places from one on, where the node there is known
from_here : (aims : List (Option NodeAims)) (i : ℕ) (o p : Option NodeAims) → i < length aims → o ≡ get_or aims i o → o ≡ p → places_from i (drop i aims) ≡ places_from i (p ∷ drop (i + 1) aims)
from_here aims i o p l at e = ap (places_from i) (rest_more aims i o l at) ∙ ap (λ (x : Option NodeAims). places_from i (x ∷ drop (i + 1) aims)) e

-- one that wasn't looked at
passed : (aims : List (Option NodeAims)) (i : ℕ) (o : Option NodeAims) (done whole : List ℕ) → i < length aims → o ≡ get_or aims i o → o ≡ None → done ++ places_from i (drop i aims) ≡ whole → done ++ places_from (i + 1) (drop (i + 1) aims) ≡ whole
passed aims i o done whole l at e h = ap (λ (z : List ℕ). done ++ z) (sym (from_here aims i o None l at e)) ∙ h

-- one that was
found : (aims : List (Option NodeAims)) (i : ℕ) (o : Option NodeAims) (a : NodeAims) (done now whole : List ℕ) → i < length aims → o ≡ get_or aims i o → o ≡ Some a → now ≡ done ++ i ∷ [] → done ++ places_from i (drop i aims) ≡ whole
    → now ++ places_from (i + 1) (drop (i + 1) aims) ≡ whole
found aims i o a done now whole l at e grown h =
    ap (λ (z : List ℕ). z ++ places_from (i + 1) (drop (i + 1) aims)) grown
    ∙ (append_assoc done (i ∷ []) (places_from (i + 1) (drop (i + 1) aims)) ∙ (ap (λ (z : List ℕ). done ++ z) (sym (from_here aims i o (Some a) l at e)) ∙ h))

pub loop-place-preserved-in_default : goal.loop-place-preserved-in_default
loop-place-preserved-in_default c =
    passed c.args.aims.now c.loop-place.place c.index-aims-place.result c.loop-place.places.items _ c.loop-place-test.true c.index-aims-place.is c.in_default.is c.loop-place.invariant

pub loop-place-preserved : goal.loop-place-preserved
loop-place-preserved c =
    found c.args.aims.now c.loop-place.place c.index-aims-place.result _ c.loop-place.places.items c.push.new.self.items _ c.loop-place-test.true c.index-aims-place.is c.in-Some.is c.in_ok-push.ensures.items c.loop-place.invariant

pub returns : goal.returns
returns c =
    sym (append-nil c.loop-place.places.items)
    ∙ (ap (λ (z : List (Option NodeAims)). c.loop-place.places.items ++ places_from c.loop-place.place z) (sym (drop_all c.loop-place.place c.args.aims.now c.loop-place-test.false)) ∙ c.loop-place.invariant)
