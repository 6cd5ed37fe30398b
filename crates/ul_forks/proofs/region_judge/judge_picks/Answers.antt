use Rattle.std.proofs.Common.{List, [], Option, All, map, sym, subst}
use Rattle.ul_region.specs.Truths.{DiagramMark, region_at}
use Rattle.ul_split.specs.Answers.{IsChosen, SplitGives, decided_of}
use Rattle.ul_split.specs.declared.split.Chosen.{Chosen}
use Rattle.ul_forks.proofs.Judging.{both_regions, is_done, is_split}
use Rattle.ul_forks.proofs.Picking.{all_chosen, all_picked, best_there}
use Rattle.ul_forks.proofs.region_judge.judge_picks.Goals as goal

pub chosen_of-requires-clause-picks : goal.chosen_of-requires-clause-picks
chosen_of-requires-clause-picks g c = best_there c.args.placed.now.problem [] c.args.picks.now c.requires.problem.well_formed c.requires.best

pub split_in-requires-clause-chosen : goal.split_in-requires-clause-chosen
split_in-requires-clause-chosen g c =
    let h = c.args.algebra.now in
    let shared = c.args.judge.now.prepared.now in
    let ds = c.in_ok-chosen.chosen.items in
    let picked = all_picked h shared (region_at c.args.place.now.region.now) c.args.placed.now.problem c.args.picks.now ds c.requires.ready.prepared c.requires.problem c.in_ok-chosen.ensures in
    subst (λ (ts : List DiagramMark). All (IsChosen h ts) c.as_slice.result.now) (sym c.requires.truths)
    (subst (λ (xs : List Chosen). All (IsChosen h shared.truths.marks.items) xs) (sym c.as_slice.ensures.value)
    (all_chosen h shared.catalog.now shared.truths.marks.items c.args.placed.now.problem c.args.picks.now ds picked))

pub named_picks-requires : goal.named_picks-requires
named_picks-requires g c = best_there c.args.placed.now.problem [] c.args.picks.now c.requires.problem.well_formed c.requires.best

pub returns-in-None-clause-outcome : goal.returns-in-None-clause-outcome
returns-in-None-clause-outcome g c =
    let h = c.args.algebra.now in
    let shared = c.args.judge.now.prepared.now in
    let region = c.args.place.now.region.now in
    let ds = c.in_ok-chosen.chosen.items in
    let picked = all_picked h shared (region_at region) c.args.placed.now.problem c.args.picks.now ds c.requires.ready.prepared c.requires.problem c.in_ok-chosen.ensures in
    let told = subst (λ (xs : List Chosen). SplitGives h (region_at region) (map decided_of xs) c.in_ok-found.found) c.as_slice.ensures.value c.in_ok-found.ensures in
    is_done h c.args.judge.now region c.args.placed.now.problem c.requires.ready c.requires.problem c.best_names.ensures c.args.picks.now c.requires.best ds picked
    c.in_ok-decisions-in-None.decisions.items c.in_ok-decisions-in-None.ensures (subst (λ (o : Option DiagramMark). SplitGives h (region_at region) (map decided_of ds) o) c.in-None.is told)

pub returns-clause-outcome : goal.returns-clause-outcome
returns-clause-outcome g c =
    let h = c.args.algebra.now in
    let shared = c.args.judge.now.prepared.now in
    let region = c.args.place.now.region.now in
    let ds = c.in_ok-chosen.chosen.items in
    let picked = all_picked h shared (region_at region) c.args.placed.now.problem c.args.picks.now ds c.requires.ready.prepared c.requires.problem c.in_ok-chosen.ensures in
    let told = subst (λ (xs : List Chosen). SplitGives h (region_at region) (map decided_of xs) c.in_ok-found.found) c.as_slice.ensures.value c.in_ok-found.ensures in
    is_split h c.args.judge.now region c.args.placed.now.problem c.requires.ready c.requires.problem c.best_names.ensures c.args.picks.now c.requires.best ds picked
    c.children_of.new.algebra c.in-Some.truth c.in_ok-first-in-Some.first c.in_ok-first-in-Some.second
    (subst (λ (o : Option DiagramMark). SplitGives h (region_at region) (map decided_of ds) o) c.in-Some.is told) c.in_ok-first-in-Some.ensures.parts

pub returns-clause-known : goal.returns-clause-known
returns-clause-known g c =
    let h = c.args.algebra.now in
    let region = c.args.place.now.region.now in
    both_regions h c.children_of.new.algebra region c.in-Some.truth c.in_ok-first-in-Some.first c.in_ok-first-in-Some.second (map decided_of c.as_slice.result.now)
    (subst (λ (o : Option DiagramMark). SplitGives h (region_at region) (map decided_of c.as_slice.result.now) o) c.in-Some.is c.in_ok-found.ensures) c.in_ok-first-in-Some.ensures.parts
