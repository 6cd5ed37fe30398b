use Rattle.std.proofs.Common.{ℕ, ◌≤◌, List, Bool, false, length, arith, subst, sym, ◌∙◌, add-one, refl, ap}
use Rattle.ul_problem.specs.declared.term.Term.{Term}
use Rattle.ul_trail.specs.Standing.{HasForced, IsSettled, AllSized}
use Rattle.ul_trail.specs.Findings.{IsWalked, IsSettlement}
use Rattle.ul_trail.proofs.Walking.{forced_join, grown_room, walk_less, settle_less, settlement_forced, settlement_settled, all_calm, forced_none, held_conflict}
use Rattle.ul_trail.proofs.propagation.spread.Goals as goal

walked-grown : (c : goal.After-struct_known-then-now-len-1) → HasForced c.args.standing.now.sizes.items c.args.watching.now.terms.items c.args.level c.loop-now.standing.facts.items c.walk.new.standing.facts.items
walked-grown c = subst (λ (z : List ℕ). HasForced z c.args.watching.now.terms.items c.args.level c.loop-now.standing.facts.items c.walk.new.standing.facts.items) c.loop-now.invariant.sizes c.in_ok-held.ensures.grown

settled-is : (c : goal.After-struct_known-then-now-len-2-1) → IsSettlement c.args.standing.now.sizes.items c.args.watching.now.terms.items c.args.level c.loop-now.now.checked c.loop-now.standing.facts.items c.settle.new.standing.facts.items false
settled-is c =
    subst (λ (b : Bool). IsSettlement c.args.standing.now.sizes.items c.args.watching.now.terms.items c.args.level c.loop-now.now.checked c.loop-now.standing.facts.items c.settle.new.standing.facts.items b) c.if-held.false
    (subst (λ (z : List ℕ). IsSettlement z c.args.watching.now.terms.items c.args.level c.loop-now.now.checked c.loop-now.standing.facts.items c.settle.new.standing.facts.items c.in_ok-held-2.held) c.loop-now.invariant.sizes
    (subst (λ (t : List (List Term)). IsSettlement c.loop-now.standing.sizes.items t c.args.level c.loop-now.now.checked c.loop-now.standing.facts.items c.settle.new.standing.facts.items c.in_ok-held-2.held) c.as_slice.ensures.value c.in_ok-held-2.ensures.settlement))

pub returns-in-Some-clause-grown : goal.returns-in-Some-clause-grown
returns-in-Some-clause-grown c = forced_join _ _ _ _ _ _ c.loop-now.invariant.grown
    (subst (λ (z : List ℕ). HasForced z c.args.watching.now.terms.items c.args.level c.loop-now.standing.facts.items c.walk.new.standing.facts.items) c.loop-now.invariant.sizes c.in_ok-held.ensures.grown)

pub loop-now-smaller-then-now-len : goal.loop-now-smaller-then-now-len
loop-now-smaller-then-now-len c = walk_less _ c.loop-now.standing.facts.items c.walk.new.standing.facts.items c.loop-now.now.seen c.loop-now.now.checked (length c.args.watching.now.terms.items) (grown_room _ _ _ _ _ (walked-grown c)) (omega arith)

pub loop-now-preserved-then-now-len : goal.loop-now-preserved-then-now-len
loop-now-preserved-then-now-len c =
    let r = grown_room _ _ _ _ _ (walked-grown c) in
    let m = r.more in
    record {
      sizes = c.in_ok-held.ensures.sizes ∙ c.loop-now.invariant.sizes;
      standing = c.in_ok-held.ensures.standing;
      grown = forced_join _ _ _ _ _ _ c.loop-now.invariant.grown (walked-grown c);
      seen = omega arith;
      checked = c.loop-now.invariant.checked;
      settled = subst (λ (k : ℕ). IsSettled c.walk.new.standing.facts.items c.args.watching.now.terms.items k c.loop-now.now.checked) (sym (add-one c.loop-now.now.seen))
          (subst (IsWalked c.args.watching.now.terms.items c.loop-now.now.seen c.loop-now.now.checked c.walk.new.standing.facts.items) c.in_default.is c.in_ok-held.ensures.walked);
    }

pub loop-now-smaller : goal.loop-now-smaller
loop-now-smaller c = settle_less _ c.loop-now.standing.facts.items c.settle.new.standing.facts.items c.loop-now.now.seen c.loop-now.now.checked (length c.args.watching.now.terms.items) (grown_room _ _ _ _ _ (settlement_forced _ _ _ _ _ _ (settled-is c))) (omega arith) (omega arith)

pub loop-now-preserved : goal.loop-now-preserved
loop-now-preserved c =
    let g = settlement_forced _ _ _ _ _ _ (settled-is c) in
    let r = grown_room _ _ _ _ _ g in
    let m = r.more in
    let l : c.loop-now.now.seen ≤ length c.loop-now.standing.facts.items = c.loop-now.invariant.seen in
    record {
      sizes = c.in_ok-held-2.ensures.sizes ∙ c.loop-now.invariant.sizes;
      standing = c.in_ok-held-2.ensures.standing;
      grown = forced_join _ _ _ _ _ _ c.loop-now.invariant.grown g;
      seen = omega arith;
      checked = omega arith;
      settled = settlement_settled _ _ _ c.loop-now.now.checked c.loop-now.now.seen _ _ c.loop-now.invariant.settled l (settled-is c);
    }

pub returns-else-now-len-2-clause-progress : goal.returns-else-now-len-2-clause-progress
returns-else-now-len-2-clause-progress c = all_calm c.loop-now.standing.facts.items c.args.watching.now.terms.items c.loop-now.now.seen c.loop-now.now.checked c.loop-now.invariant.settled (omega arith) (omega arith)

pub walk-requires-clause-width : goal.walk-requires-clause-width
walk-requires-clause-width c = c.requires.width ∙ ap (λ (z : List ℕ). length z) (sym c.loop-now.invariant.sizes)

pub walk-requires-clause-sized : goal.walk-requires-clause-sized
walk-requires-clause-sized c = subst (λ (z : List ℕ). AllSized z c.args.watching.now.terms.items) (sym c.loop-now.invariant.sizes) c.requires.sized

pub settle-requires-clause-sized : goal.settle-requires-clause-sized
settle-requires-clause-sized c = subst (AllSized c.loop-now.standing.sizes.items) (sym c.as_slice.ensures.value) (subst (λ (z : List ℕ). AllSized z c.args.watching.now.terms.items) (sym c.loop-now.invariant.sizes) c.requires.sized)

pub loop-now-init : goal.loop-now-init
loop-now-init c = record {
  sizes = refl;
  standing = c.requires.standing;
  grown = forced_none c.args.standing.now.sizes.items c.args.watching.now.terms.items c.args.level c.args.standing.now.facts.items;
  seen = c.requires.seen;
  checked = c.requires.checked;
  settled = c.requires.settled;
}

pub returns-in-Some-clause-progress : goal.returns-in-Some-clause-progress
returns-in-Some-clause-progress c = (subst (IsWalked c.args.watching.now.terms.items c.loop-now.now.seen c.loop-now.now.checked c.walk.new.standing.facts.items) c.in-Some.is c.in_ok-held.ensures.walked).0

pub returns-then-held-clause-progress : goal.returns-then-held-clause-progress
returns-then-held-clause-progress c = (held_conflict c.loop-now.standing.sizes.items c.args.watching.now.terms.items c.as_slice.result.now c.args.level c.loop-now.now.checked c.loop-now.standing.facts.items c.settle.new.standing.facts.items c.in_ok-held-2.held
    c.as_slice.ensures.value c.if-held.true c.in_ok-held-2.ensures.settlement).1
