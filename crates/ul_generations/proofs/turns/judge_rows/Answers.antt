use Rattle.std.proofs.Common.{arith, ◌≡◌, length, sym, subst, Some}
use Rattle.std.specs.List.{slice_get}
use Rattle.ul_generations.specs.Rows.{open_regions}
use Rattle.ul_generations.proofs.Stepping.{open_few, count_of}
use Rattle.ul_generations.proofs.Coming.{are_outcomes, open_known, there_is}
use Rattle.ul_generations.proofs.turns.judge_rows.Goals as goal

pub run_all-requires-clause-count : goal.run_all-requires-clause-count
run_all-requires-clause-count g c =
    let n : length c.in_ok-regions.regions.items ≡ length (open_regions c.args.rows.now) = count_of (λ x. x.now) c.args.rows.now c.in_ok-regions.regions.items c.in_ok-regions.ensures in
    omega (arith, n, c.len-count.ensures, c.in_ok-regions.regions.ok.0, open_few c.args.rows.now, c.requires.few)

pub run_all-requires-clause-ready : goal.run_all-requires-clause-ready
run_all-requires-clause-ready g c κs within n low = (
  c.requires.ready,
  omega (arith, low, c.len-count.ensures, c.in_ok-regions.regions.ok.0),
  λ r e. open_known (g.J.Judge.may c.args.judge.now) (g.J.Judge.region_known c.args.pass.now) (g.J.Judge.done_known c.args.pass.now) c.args.rows.now n r c.requires.known (subst (λ z. slice_get z n ≡ Some r) c.in_ok-regions.ensures e),
)

pub returns-clause-outcomes : goal.returns-clause-outcomes
returns-clause-outcomes g c =
    let n : length c.in_ok-regions.regions.items ≡ length (open_regions c.args.rows.now) = count_of (λ x. x.now) c.args.rows.now c.in_ok-regions.regions.items c.in_ok-regions.ensures in
    are_outcomes (g.J.Judge.outcome c.args.judge.now) c.args.rows.now c.in_ok-judged.judged.0.items (omega (arith, n, c.in_ok-judged.ensures.results.len, c.len-count.ensures, c.in_ok-regions.regions.ok.0))
    (λ k o r h i. (c.in_ok-judged.ensures.results.fits_place k o h r (subst (λ z. slice_get z k ≡ Some r) (sym c.in_ok-regions.ensures) i)).0)

pub returns-clause-known : goal.returns-clause-known
returns-clause-known g c k o h =
    let n : length c.in_ok-regions.regions.items ≡ length (open_regions c.args.rows.now) = count_of (λ x. x.now) c.args.rows.now c.in_ok-regions.regions.items c.in_ok-regions.ensures in
    let t = there_is c.in_ok-judged.judged.0.items (open_regions c.args.rows.now) k o (omega (arith, n, c.in_ok-judged.ensures.results.len, c.len-count.ensures, c.in_ok-regions.regions.ok.0)) h in
    ((c.in_ok-judged.ensures.results.fits_place k o h t.0 (subst (λ z. slice_get z k ≡ Some t.0) (sym c.in_ok-regions.ensures) t.1)).1, c.in_ok-judged.ensures.results.all_known k o h)
