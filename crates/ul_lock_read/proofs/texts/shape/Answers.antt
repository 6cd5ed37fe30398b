use Rattle.std.proofs.Common.{◌≡◌, length, arith, sym, ap, ◌∙◌}
use Rattle.std.proofs.lemmas.Grind.{common_steps}
use Rattle.ul_lines.specs.Reader.{read_text, or_fault}
use Rattle.ul_lines.proofs.ForCallers.{read_start, reads_on, reads_wrong, reads_end}
use Rattle.ul_lock_read.specs.Automaton.{lock_reader}
use Rattle.ul_lock_read.proofs.texts.shape.Goals as goal

pub loop-rest-init : goal.loop-rest-init
loop-rest-init c = record { reads = read_start lock_reader c.args.bytes.now; room = omega arith }

pub returns-in-None : goal.returns-in-None
returns-in-None c = reads_wrong lock_reader c.loop-rest.number c.loop-rest.state c.loop-rest.rest.now c.first_line.result.0.now c.first_line.result.1.now (read_text lock_reader c.args.bytes.now) c.first_line.ensures.cut (sym c.in-None.is ∙ c.in_ok-behind.ensures) c.loop-rest.invariant.reads

pub loop-rest-preserved : goal.loop-rest-preserved
loop-rest-preserved c = record {
  reads = reads_on lock_reader c.loop-rest.number c.loop-rest.state c.in-Some.found c.loop-rest.rest.now c.first_line.result.0.now c.first_line.result.1.now (read_text lock_reader c.args.bytes.now) c.first_line.ensures.cut (sym c.in-Some.is ∙ c.in_ok-behind.ensures) c.loop-rest.invariant.reads;
  room = omega arith;
}

pub returns-in-None-2 : goal.returns-in-None-2
returns-in-None-2 c =
    let none : length c.loop-rest.rest.now ≡ 0 = grind (arith, common_steps) in
    reads_end lock_reader c.loop-rest.number c.loop-rest.state c.loop-rest.rest.now (read_text lock_reader c.args.bytes.now) none c.loop-rest.invariant.reads ∙ ap (or_fault c.loop-rest.number) (sym c.in_ok-ended.ensures ∙ c.in-None-2.is)

pub returns-in-Some-2 : goal.returns-in-Some-2
returns-in-Some-2 c =
    let none : length c.loop-rest.rest.now ≡ 0 = grind (arith, common_steps) in
    reads_end lock_reader c.loop-rest.number c.loop-rest.state c.loop-rest.rest.now (read_text lock_reader c.args.bytes.now) none c.loop-rest.invariant.reads ∙ ap (or_fault c.loop-rest.number) (sym c.in_ok-ended.ensures ∙ c.in-Some-2.is)
