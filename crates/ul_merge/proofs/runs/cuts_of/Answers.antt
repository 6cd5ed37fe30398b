use Rattle.std.proofs.Common.{arith, ◌+◌, ◌++◌, ◌≤◌, ℕ, All, List, ap, flat_map, length, subst, sym}
use Rattle.std.proofs.lemmas.List.{length-drop}
use Rattle.std.proofs.lemmas.List.Elements.{All-nil}
use Rattle.ul_merge.specs.Runs.{IsCut, run_of}
use Rattle.ul_merge.proofs.RunFacts.{all_more, long_more, run_last, run_more}
use Rattle.ul_merge.proofs.runs.cuts_of.Goals as goal

pub loop-init : goal.loop-init
loop-init c =
    let groups = c.args.groups.now in
    let none = c.in_ok-cuts.ensures.items in
    record {
      count = ap (λ (zs : List (ℕ × ℕ)). length zs + 1) none;
      within = omega arith;
      all = ap (λ (zs : List (ℕ × ℕ)). flat_map (run_of groups) zs ++ groups) none;
      cuts = subst (All (IsCut (length groups))) (sym none) (All-nil (IsCut (length groups)));
    }

pub loop-preserved : goal.loop-preserved
loop-preserved c =
    let groups = c.args.groups.now in
    let i = c.loop.invariant in
    let start = c.loop.start in
    let end = start + c.front_of.result in
    let items = c.in_ok-push.ensures.items in
    let low : start ≤ end = omega arith in
    let within : end ≤ length groups = omega (arith, i.within, c.front_of.ensures, length-drop start groups) in
    record {
      count = ap (λ n. n + 1) (long_more c.loop.cuts.items c.push.new.self.items (start, end) c.loop.counter items i.count);
      within = within;
      all = run_more groups c.loop.cuts.items c.push.new.self.items (start, end) items low i.all;
      cuts = all_more (IsCut (length groups)) c.loop.cuts.items c.push.new.self.items (start, end) items i.cuts (low, within);
    }

pub returns-clause-count : goal.returns-clause-count
returns-clause-count c =
    let long = long_more c.loop.cuts.items c.push-2.new.self.items (c.loop.start, length c.args.groups.now) c.loop.counter c.in_ok-push-2.ensures.items c.loop.invariant.count in
    omega (arith, long, c.loop-test.false, c.loop.auto.counter, c.loop.auto.counter-end, c.requires)

pub returns-clause-all : goal.returns-clause-all
returns-clause-all c =
    run_last c.args.groups.now c.loop.cuts.items c.push-2.new.self.items (c.loop.start, length c.args.groups.now) c.in_ok-push-2.ensures.items c.loop.invariant.within (omega arith) c.loop.invariant.all

pub returns-clause-cuts : goal.returns-clause-cuts
returns-clause-cuts c =
    all_more (IsCut (length c.args.groups.now)) c.loop.cuts.items c.push-2.new.self.items (c.loop.start, length c.args.groups.now) c.in_ok-push-2.ensures.items c.loop.invariant.cuts (c.loop.invariant.within, omega arith)
