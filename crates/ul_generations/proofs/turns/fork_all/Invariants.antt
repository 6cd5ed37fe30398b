use Rattle.std.proofs.Common.{◌≤◌, ◌+◌, vec_len}
use Rattle.ul_interner.specs.Known.{Knows}
use Rattle.ul_generations.specs.Known.{RowsKnown}
use Rattle.ul_generations.proofs.Coming.{Came}
use Rattle.ul_generations.proofs.turns.fork_all.Given as goal

abbrev pub invariant-loop-generation : goal.invariant-loop-generation
invariant-loop-generation g l = record {
  knows : Knows l.initial.pass l.pass;
  known : RowsKnown (g.J.Judge.may l.judge) (g.J.Judge.region_known l.pass) (g.J.Judge.done_known l.pass) l.rows.items;
  came : Came (g.J.Judge.outcome l.judge) l.fn.region l.workers l.rows.items l.rounds.items;
  grown : l.generation + 1 ≤ vec_len l.rows;
  few : l.generation ≤ 2048;
}
