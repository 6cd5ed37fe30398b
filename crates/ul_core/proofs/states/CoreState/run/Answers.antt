use Rattle.std.proofs.Common.{◌≡◌, ◌≢◌, true, false, true≢false, ◌∙◌, ap, arith, append_assoc, length, length-append, ◌++◌, refl, subst, sym}
use Rattle.std.specs.Vec.Iter.{into_iter_items}
use Rattle.ul_core.specs.Steps.{Refuses, RunsAll}
use denote.Enum.Bare.{sameb}
use Rattle.ul_core.specs.contracts.events.EventFault.{the_type}
use Rattle.ul_core.specs.declared.events.EventFault.{EventFault}
use Rattle.ul_core.specs.declared.events.EventFault.TheVariants.{Shard, Known, Part, Full, NoMemory}
use Rattle.ul_core.proofs.RunsLaw.{runs_none, runs_taken, runs_refused, taken_bound}
use Rattle.ul_core.proofs.states.CoreState.run.Goals as goal

-- a fault that was tested is another one
not_memory : (fault : EventFault) → false ≡ sameb the_type fault NoMemory → fault ≢ NoMemory
not_memory Shard e is = cc
not_memory Known e is = cc
not_memory Part e is = cc
not_memory Full e is = cc
not_memory NoMemory e is = cc

pub overflow_add-taken : goal.overflow_add-taken
overflow_add-taken g c = omega (arith, taken_bound _ _ _ _ _ c.loop-event.invariant.run, simp length-append at (ap length c.loop-event.invariant.rest), ap length c.in-Some.ensures.steps.0, c.args.events.ok.0, c.args.events.ok.1, c.args.events.small)

pub loop-event-preserved-in-Ok : goal.loop-event-preserved-in-Ok
loop-event-preserved-in-Ok g c = record {
  run = runs_taken _ _ _ _ _ _ c.in-Ok.field-0 _ c.loop-event.invariant.run c.in-Ok.ensures.taken;
  rest = c.loop-event.invariant.rest ∙ (ap (λ xs. c.loop-event.yielded ++ xs) c.in-Some.ensures.steps.0 ∙ sym (append_assoc c.loop-event.yielded _ _));
}

pub loop-event-preserved : goal.loop-event-preserved
loop-event-preserved g c = record {
  run = runs_refused _ _ _ _ _ _ _ _ c.loop-event.invariant.run c.in-Err.ensures.refused (not_memory c.in-Err.fault c.if-eq.ensures) c.in-Err.ensures.same;
  rest = c.loop-event.invariant.rest ∙ (ap (λ xs. c.loop-event.yielded ++ xs) c.in-Some.ensures.steps.0 ∙ sym (append_assoc c.loop-event.yielded _ _));
}

pub loop-event-init : goal.loop-event-init
loop-event-init g c = record { run = runs_none g.L.Label.hash_of c.args.self.now; rest = sym c.into_iter-event-iterator.ensures.into_iter_gives.0 }

-- a fault that was found is want of memory
is_memory : (fault : EventFault) → true ≡ sameb the_type fault NoMemory → fault ≡ NoMemory
is_memory Shard e = absurd (true≢false e)
is_memory Known e = absurd (true≢false e)
is_memory Part e = absurd (true≢false e)
is_memory Full e = absurd (true≢false e)
is_memory NoMemory e = refl

pub returns-then-eq-clause-until : goal.returns-then-eq-clause-until
returns-then-eq-clause-until g c =
    let f = g.L.Label.hash_of in
    let kept = sym c.in-Err.ensures.same in
    record {
      before = c.loop-event.yielded;
      next = c.in-Some.event;
      after = into_iter_items c.next.new.self;
      count = c.loop-event.taken;
      whole = c.loop-event.invariant.rest ∙ ap (λ xs. c.loop-event.yielded ++ xs) c.in-Some.ensures.steps.0;
      run = subst (λ s. RunsAll f c.args.self.now c.loop-event.yielded c.loop-event.taken s) kept c.loop-event.invariant.run;
      wants = subst (λ s. Refuses f s c.in-Some.event NoMemory) kept (subst (λ x. Refuses f c.loop-event.self c.in-Some.event x) (is_memory c.in-Err.fault c.if-eq.ensures) c.in-Err.ensures.refused);
    }
