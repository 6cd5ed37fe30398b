use Rattle.std.proofs.Common.{◌≡◌, ℕ, List, [], ◌++◌, true, length, arith, ap, subst, sym, ◌∙◌}
use Rattle.std.proofs.lemmas.Option.{none-some}
use Rattle.ul_problem.specs.declared.term.Term.{Term}
use Rattle.ul_problem.specs.declared.step.Step.{Step}
use Rattle.ul_problem.specs.Best.{joined_needs}
use Rattle.ul_problem.proofs.ForCallers.{root_single}
use Rattle.ul_trail.specs.Track.{Track}
use Rattle.ul_trail.specs.Facts.{level_of, picks_of}
use Rattle.ul_trail.specs.Counts.{sizes_of}
use Rattle.ul_trail.specs.Propagation.{IsTrailOf, root_facts}
use Rattle.ul_trail.specs.Roots.{root_picks}
use Rattle.ul_trail.specs.Standing.{AllSized}
use Rattle.ul_trail.specs.Watched.{IsWatched}
use Rattle.ul_trail.specs.HeldSteps.{steps_in}
use Rattle.ul_trail.specs.Kept.{AreMarks, turns_of}
use Rattle.ul_trail.specs.declared.fact.Fact.{Fact}
use Rattle.ul_trail.specs.declared.mark.Mark.{Mark}
use Rattle.ul_trail.proofs.Propagating.{sizes_length}
use Rattle.ul_trail.proofs.Reading.{none_placed, none_read}
use Rattle.ul_trail.proofs.Rooted.{rooted_trail, rooted_level, roots_picks, no_marks}
use Rattle.ul_trail.proofs.trail.rooted.Goals as goal

pub plant-requires-clause-positions : goal.plant-requires-clause-positions
plant-requires-clause-positions c =
    let e : length c.in_ok-sizes.sizes.items ≡ length c.args.problem.now.nodes = ap (λ (x : List ℕ). length x) c.in_ok-sizes.ensures ∙ sizes_length c.args.problem.now.nodes in
    let l = c.len.ensures in let v = c.in_ok-positions.ensures.len in
    omega arith

sizes-is : (c : goal.After-new-4) → length c.plant.new.standing.sizes.items ≡ length c.args.problem.now.nodes
sizes-is c = ap (λ (x : List ℕ). length x) c.in_ok-plant.ensures.sizes ∙ sizes_length c.args.problem.now.nodes

rows-are : (c : goal.After-new-4) → length c.in_ok-rows.rows.items ≡ length c.args.problem.now.nodes
rows-are c =
    let e : length c.in_ok-sizes.sizes.items ≡ length c.args.problem.now.nodes = ap (λ (x : List ℕ). length x) c.in_ok-sizes.ensures ∙ sizes_length c.args.problem.now.nodes in
    let l = c.len-2.ensures in let w = c.in_ok-rows.ensures.width in
    omega arith

pub invariant_of-result : goal.invariant_of-result
invariant_of-result c = λ h.
    let wf = c.roots-roots.ensures.whole in
    let none : AllSized c.plant.new.standing.sizes.items [] = record { at = λ k ts e. absurd (none-some ts e) } in
    record {
      placed = none_placed c.in_ok-held.held.places.items c.in_ok-held.held.others.items c.in_ok-terms.terms.items c.in_ok-held.ensures.places c.in_ok-terms.ensures.items;
      standing = c.in_ok-plant.ensures.standing;
      watched = subst (λ (x : List (List Term)). IsWatched x c.in_ok-rows.rows.items) (sym c.in_ok-terms.ensures.items) c.in_ok-rows.ensures.watched;
      width = rows-are c ∙ sym (sizes-is c);
      sized = subst (AllSized c.plant.new.standing.sizes.items) (sym c.in_ok-terms.ensures.items) none;
      seen = omega arith;
      checked = omega arith;
      settled = record { at = λ k ts l e. absurd (omega arith) };
      level = ap level_of c.in_ok-plant.ensures.facts ∙ (rooted_level c.args.problem.now ∙ sym (ap (λ (x : List Mark). length x) c.new-4.ensures.items));
      picks = c.in_ok-plant.ensures.picks ∙ (sym (roots_picks c.args.problem.now c.args.problem.now.roots (λ n i. root_single c.args.problem.now n wf i)) ∙ ap picks_of (sym c.in_ok-plant.ensures.facts));
      indexed = c.in_ok-plant.ensures.indexed;
      positions = c.in_ok-plant.ensures.positions ∙ sym (sizes-is c);
      passed = record { at = λ i n l e. absurd (omega arith) };
      marks = subst (λ (ms : List Mark). AreMarks c.in_ok-terms.terms.items c.plant.new.standing.facts.items c.plant.new.asked.picks.items c.plant.new.asked.queue.items ms) (sym c.new-4.ensures.items) (no_marks c.in_ok-terms.terms.items c.plant.new.standing.facts.items c.plant.new.asked.picks.items c.plant.new.asked.queue.items);
    }

abbrev track-of : List Step → List (List Term) → List Fact → List ℕ → ℕ → List ℕ → List ℕ → Track
track-of steps terms facts sizes width queue turns = record { steps = steps; terms = terms; facts = facts; sizes = sizes; width = width; queue = queue; turns = turns; whole = true }

pub returns-clause-right : goal.returns-clause-right
returns-clause-right c =
    let r = rooted_trail c.args.problem.now c.roots-roots.ensures.whole in
    let r1 = subst (λ (x : List Step). IsTrailOf c.args.problem.now (track-of x [] (root_facts c.args.problem.now c.args.problem.now.roots) (sizes_of c.args.problem.now) (length c.args.problem.now.nodes) (c.args.problem.now.roots ++ joined_needs c.args.problem.now (root_picks c.args.problem.now.roots)) [])) (sym (none_read c.in_ok-held.held.places.items c.in_ok-held.held.others.items c.in_ok-terms.terms.items c.in_ok-held.ensures.places)) r in
    let r2 = subst (λ (x : List (List Term)). IsTrailOf c.args.problem.now (track-of (steps_in c.in_ok-held.held c.in_ok-terms.terms.items) x (root_facts c.args.problem.now c.args.problem.now.roots) (sizes_of c.args.problem.now) (length c.args.problem.now.nodes) (c.args.problem.now.roots ++ joined_needs c.args.problem.now (root_picks c.args.problem.now.roots)) [])) (sym c.in_ok-terms.ensures.items) r1 in
    let r3 = subst (λ (x : List Fact). IsTrailOf c.args.problem.now (track-of (steps_in c.in_ok-held.held c.in_ok-terms.terms.items) c.in_ok-terms.terms.items x (sizes_of c.args.problem.now) (length c.args.problem.now.nodes) (c.args.problem.now.roots ++ joined_needs c.args.problem.now (root_picks c.args.problem.now.roots)) [])) (sym c.in_ok-plant.ensures.facts) r2 in
    let r4 = subst (λ (x : List ℕ). IsTrailOf c.args.problem.now (track-of (steps_in c.in_ok-held.held c.in_ok-terms.terms.items) c.in_ok-terms.terms.items c.plant.new.standing.facts.items x (length c.args.problem.now.nodes) (c.args.problem.now.roots ++ joined_needs c.args.problem.now (root_picks c.args.problem.now.roots)) [])) (sym c.in_ok-plant.ensures.sizes) r3 in
    let r5 = subst (λ (x : ℕ). IsTrailOf c.args.problem.now (track-of (steps_in c.in_ok-held.held c.in_ok-terms.terms.items) c.in_ok-terms.terms.items c.plant.new.standing.facts.items c.plant.new.standing.sizes.items x (c.args.problem.now.roots ++ joined_needs c.args.problem.now (root_picks c.args.problem.now.roots)) [])) (sym (rows-are c)) r4 in
    let r6 = subst (λ (x : List ℕ). IsTrailOf c.args.problem.now (track-of (steps_in c.in_ok-held.held c.in_ok-terms.terms.items) c.in_ok-terms.terms.items c.plant.new.standing.facts.items c.plant.new.standing.sizes.items (length c.in_ok-rows.rows.items) x [])) (sym c.in_ok-plant.ensures.queue) r5 in
    subst (λ (x : List ℕ). IsTrailOf c.args.problem.now (track-of (steps_in c.in_ok-held.held c.in_ok-terms.terms.items) c.in_ok-terms.terms.items c.plant.new.standing.facts.items c.plant.new.standing.sizes.items (length c.in_ok-rows.rows.items) c.plant.new.asked.queue.items x)) (sym (ap turns_of c.new-4.ensures.items)) r6

pub returns-clause-steps : goal.returns-clause-steps
returns-clause-steps c = none_read c.in_ok-held.held.places.items c.in_ok-held.held.others.items c.in_ok-terms.terms.items c.in_ok-held.ensures.places
