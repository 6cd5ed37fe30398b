use Rattle.std.proofs.Common.{arith, ◌≡◌, ◌<◌, ◌≤◌, ◌+◌, ◌-◌, vec_len, ◌∙◌, ◌++◌, ◌∷◌, ℕ, [], length, ap, sym, refl, subst}
use Rattle.ul_interner.proofs.ForCallers.{knows_then, knows_itself}
use Rattle.ul_generations.specs.Rows.{open_regions, leaves_of, expand}
use Rattle.ul_generations.specs.Generations.{too_many, leaves_are, GivesFrom}
use Rattle.ul_generations.specs.Steps.{IsStep}
use Rattle.ul_generations.specs.Known.{RowsKnown, StepKnown}
use Rattle.ul_generations.proofs.Stepping.{some_left}
use Rattle.ul_generations.proofs.Coming.{came_first, came_next, told_more, gives_many, gives_refused, gives_leaves, grows, leaves_known}
use Rattle.std.specs.List.{AllByRecursion}
use Rattle.ul_generations.proofs.turns.fork_all.Goals as goal

pub loop-generation-init : goal.loop-generation-init
loop-generation-init g c = record {
  knows = knows_itself c.args.pass.now;
  known = subst (RowsKnown (g.J.Judge.may c.args.judge.now) (g.J.Judge.region_known c.args.pass.now) (g.J.Judge.done_known c.args.pass.now)) (sym c.in_ok-rows.ensures) ((c.requires.may, c.requires.known), tt);
  came = came_first (g.J.Judge.outcome c.args.judge.now) c.args.region c.args.workers c.in_ok-rows.rows.items c.new-rounds.result.items c.in_ok-rows.ensures c.new-rounds.ensures.items;
  grown = omega (arith, ap length c.in_ok-rows.ensures, c.in_ok-rows.rows.ok.0);
  few = omega arith;
}

pub returns-then-len-gt-MOST_FORKS-clause-fault : goal.returns-then-len-gt-MOST_FORKS-clause-fault
returns-then-len-gt-MOST_FORKS-clause-fault g c =
    let rows = c.loop-generation.rows.items in
    let came = c.loop-generation.invariant.came in
    let high : 2048 < length rows = omega (arith, c.if-len-gt-MOST_FORKS.true, c.len.ensures, c.loop-generation.rows.ok.0) in
    let is : length rows ≡ c.len-then-len-gt-MOST_FORKS.result = omega (arith, c.len-then-len-gt-MOST_FORKS.ensures, c.loop-generation.rows.ok.0) in
    (came.counts ++ [], came.leads [] (too_many c.len-then-len-gt-MOST_FORKS.result) (subst (λ (n : ℕ). GivesFrom (g.J.Judge.outcome c.args.judge.now) rows [] (too_many n)) is (gives_many (g.J.Judge.outcome c.args.judge.now) rows high)))

pub turn-requires-clause-ready : goal.turn-requires-clause-ready
turn-requires-clause-ready g c κs within =
    let laws = g.met.J.Judge g.world.𝓛 g.world.𝓜 g.world.𝓡 ((λ s x. x), (λ x. x), (λ x. x), λ x. x) in
    laws.ready_stays c.args.judge.now c.args.pass.now c.loop-generation.pass c.loop-generation.invariant.knows c.requires.ready

pub returns-in_err-path-clause-learns : goal.returns-in_err-path-clause-learns
returns-in_err-path-clause-learns g c = knows_then c.args.pass.now c.loop-generation.pass c.turn.new.pass c.loop-generation.invariant.knows c.turn.ensures.learns

pub returns-in-Stop-clause-learns : goal.returns-in-Stop-clause-learns
returns-in-Stop-clause-learns g c = knows_then c.args.pass.now c.loop-generation.pass c.turn.new.pass c.loop-generation.invariant.knows c.turn.ensures.learns

pub returns-in-Stop-clause-answer : goal.returns-in-Stop-clause-answer
returns-in-Stop-clause-answer g c =
    let rows = c.loop-generation.rows.items in
    let came = c.loop-generation.invariant.came in
    let low : length rows ≤ 2048 = omega (arith, c.if-len-gt-MOST_FORKS.false, c.len.ensures, c.loop-generation.rows.ok.0) in
    let step = c.in_ok-path.ensures.step in
    let here = subst (IsStep rows step.0) c.in-Stop.is step.2 in
    let n : ℕ = length (open_regions rows) in (
      came.counts ++ n ∷ [],
      came.leads (n ∷ []) _ (gives_refused (g.J.Judge.outcome c.args.judge.now) rows step.0 _ low step.1 here),
      told_more (g.J.Judge.outcome c.args.judge.now) c.args.workers n came.counts c.loop-generation.rounds.items c.turn.new.rounds.items (c.args.workers, n) came.told refl c.in_ok-path.ensures.round,
    )

pub returns-in_err-leaves-clause-learns : goal.returns-in_err-leaves-clause-learns
returns-in_err-leaves-clause-learns g c = knows_then c.args.pass.now c.loop-generation.pass c.turn.new.pass c.loop-generation.invariant.knows c.turn.ensures.learns

pub returns-then-not-has_open-clause-learns : goal.returns-then-not-has_open-clause-learns
returns-then-not-has_open-clause-learns g c = knows_then c.args.pass.now c.loop-generation.pass c.turn.new.pass c.loop-generation.invariant.knows c.turn.ensures.learns

pub returns-then-not-has_open-clause-answer : goal.returns-then-not-has_open-clause-answer
returns-then-not-has_open-clause-answer g c =
    let rows = c.loop-generation.rows.items in
    let came = c.loop-generation.invariant.came in
    let low : length rows ≤ 2048 = omega (arith, c.if-len-gt-MOST_FORKS.false, c.len.ensures, c.loop-generation.rows.ok.0) in
    let step = c.in_ok-path.ensures.step in
    let here = subst (IsStep rows step.0) c.in-Next.is step.2 in
    let none : open_regions (expand rows step.0) ≡ [] = subst (λ z. open_regions z ≡ []) (c.as_slice.ensures.value ∙ here.1) (c.has_open.ensures.none c.if-not-has_open.true) in
    let n : ℕ = length (open_regions rows) in
    let is : leaves_of (expand rows step.0) ≡ c.in_ok-leaves.leaves.items = sym (c.in_ok-leaves.ensures ∙ ap leaves_of here.1) in (
      came.counts ++ n ∷ [],
      came.leads (n ∷ []) _ (subst (λ z. GivesFrom (g.J.Judge.outcome c.args.judge.now) rows (n ∷ []) (leaves_are z)) is (gives_leaves (g.J.Judge.outcome c.args.judge.now) rows step.0 low step.1 here.0 none)),
      told_more (g.J.Judge.outcome c.args.judge.now) c.args.workers n came.counts c.loop-generation.rounds.items c.turn.new.rounds.items (c.args.workers, n) came.told refl c.in_ok-path.ensures.round,
    )

pub returns-then-not-has_open-clause-known : goal.returns-then-not-has_open-clause-known
returns-then-not-has_open-clause-known g c =
    let may = g.J.Judge.may c.args.judge.now in
    let region = g.J.Judge.region_known c.turn.new.pass in
    let done = g.J.Judge.done_known c.turn.new.pass in
    let refusal = g.J.Judge.refusal_known c.turn.new.pass in
    subst (AllByRecursion (λ l. region l.region × done l.done)) (sym c.in_ok-leaves.ensures) (leaves_known may region done c.in-Next.next.items (subst (StepKnown may region done refusal) c.in-Next.is c.in_ok-path.ensures.known))

pub loop-generation-preserved : goal.loop-generation-preserved
loop-generation-preserved g c =
    let rows = c.loop-generation.rows.items in
    let came = c.loop-generation.invariant.came in
    let low : length rows ≤ 2048 = omega (arith, c.if-len-gt-MOST_FORKS.false, c.len.ensures, c.loop-generation.rows.ok.0) in
    let may = g.J.Judge.may c.args.judge.now in
    let region = g.J.Judge.region_known c.turn.new.pass in
    let done = g.J.Judge.done_known c.turn.new.pass in
    let refusal = g.J.Judge.refusal_known c.turn.new.pass in
    let step = c.in_ok-path.ensures.step in
    let here = subst (IsStep rows step.0) c.in-Next.is step.2 in
    let n : ℕ = length (open_regions rows) in
    let some : 0 < length (open_regions c.in-Next.next.items) = some_left (open_regions c.in-Next.next.items) (subst (λ z. open_regions z ≡ [] → ⊥) c.as_slice.ensures.value (c.has_open.ensures.some c.if-not-has_open.false)) in
    let left : 0 < length (open_regions (expand rows step.0)) = subst (λ z. 0 < length (open_regions z)) here.1 some in
    let more : length rows + 1 ≤ length (expand rows step.0) = grows (g.J.Judge.outcome c.args.judge.now) rows step.0 step.1 here.0 left in
    let grown : c.loop-generation.generation + 1 ≤ vec_len c.loop-generation.rows = c.loop-generation.invariant.grown in
    let size : length rows ≡ vec_len c.loop-generation.rows = omega (arith, c.loop-generation.rows.ok.0) in record {
      knows = knows_then c.args.pass.now c.loop-generation.pass c.turn.new.pass c.loop-generation.invariant.knows c.turn.ensures.learns;
      known = subst (StepKnown may region done refusal) c.in-Next.is c.in_ok-path.ensures.known;
      came = came_next (g.J.Judge.outcome c.args.judge.now) c.args.region c.args.workers rows c.in-Next.next.items step.0 c.loop-generation.rounds.items c.turn.new.rounds.items (c.args.workers, n) came low step.1 here.0 here.1 some refl c.in_ok-path.ensures.round;
      grown = omega (arith, more, grown, size, ap length here.1, c.in-Next.next.ok.0);
      few = omega (arith, low, grown, size);
    }
