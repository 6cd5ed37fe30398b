use Rattle.ul_interner.specs.Known.{Knows}
use Rattle.ul_algebra.specs.Answers.{IsDiagram}
use Rattle.tests_threads.proofs.algebra.parity.odd_number.Given as goal

abbrev pub invariant-loop-step : goal.invariant-loop-step
invariant-loop-step g l = record { knows : Knows l.initial.algebra l.algebra; diagram : IsDiagram l.algebra l.odd }
