use Rattle.std.proofs.Common.{◌≡◌, length, arith, sym, ap, ◌∙◌}
use Rattle.std.proofs.lemmas.Grind.{common_steps}
use Rattle.ul_lines.specs.Reader.{read_text, or_fault}
use Rattle.ul_lines.proofs.ForCallers.{read_start, reads_on, reads_wrong, reads_end}
use Rattle.ul_report_read.specs.Automaton.{proof_reader}
use Rattle.ul_report_read.proofs.reading.lines_read.Goals as goal

pub loop-rest-init : goal.loop-rest-init
loop-rest-init c = record { reads = read_start proof_reader c.args.bytes.now; room = omega arith }

pub returns-in-None : goal.returns-in-None
returns-in-None c = reads_wrong proof_reader c.loop-rest.number c.loop-rest.state c.loop-rest.rest.now c.first_line.result.0.now c.first_line.result.1.now (read_text proof_reader c.args.bytes.now) c.first_line.ensures.cut (sym c.in-None.is ∙ c.in_ok-behind.ensures) c.loop-rest.invariant.reads

pub loop-rest-preserved : goal.loop-rest-preserved
loop-rest-preserved c = record {
  reads = reads_on proof_reader c.loop-rest.number c.loop-rest.state c.in-Some.found c.loop-rest.rest.now c.first_line.result.0.now c.first_line.result.1.now (read_text proof_reader c.args.bytes.now) c.first_line.ensures.cut (sym c.in-Some.is ∙ c.in_ok-behind.ensures) c.loop-rest.invariant.reads;
  room = omega arith;
}

pub returns-in-None-ended : goal.returns-in-None-ended
returns-in-None-ended c =
    let none : length c.loop-rest.rest.now ≡ 0 = grind (arith, common_steps) in
    reads_end proof_reader c.loop-rest.number c.loop-rest.state c.loop-rest.rest.now (read_text proof_reader c.args.bytes.now) none c.loop-rest.invariant.reads ∙ ap (or_fault c.loop-rest.number) (sym c.ended.ensures ∙ c.in-None-ended.is)

pub returns-in-Some-ended : goal.returns-in-Some-ended
returns-in-Some-ended c =
    let none : length c.loop-rest.rest.now ≡ 0 = grind (arith, common_steps) in
    reads_end proof_reader c.loop-rest.number c.loop-rest.state c.loop-rest.rest.now (read_text proof_reader c.args.bytes.now) none c.loop-rest.invariant.reads ∙ ap (or_fault c.loop-rest.number) (sym c.ended.ensures ∙ c.in-Some-ended.is)
