use Rattle.std.proofs.Common.{◌≡◌, ◌++◌}
use Rattle.std.specs.Vec.Iter.{into_iter_items}
use Rattle.ul_core.specs.Steps.{RunsAll}
use Rattle.ul_core.proofs.states.CoreState.run.Given as goal

abbrev pub invariant-loop-event : goal.invariant-loop-event
invariant-loop-event g l = record {
  run : RunsAll g.L.Label.hash_of l.initial.self l.yielded l.taken l.self;
  rest : l.fn.events.items ≡ l.yielded ++ into_iter_items l.event-iterator;
}
