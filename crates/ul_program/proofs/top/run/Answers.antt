use Rattle.ul_program.proofs.Headlines.{output_printed, nothing_printed}
use Rattle.ul_program.proofs.top.run.Goals as goal

pub returns-in-Ok : goal.returns-in-Ok
returns-in-Ok g c =
    let said = c.print.ensures in
    record {
      headline = output_printed _ _ _ _ _ _ _ c.in-Ok.output.text.items (rw c.as_slice.ensures.value at c.in-Ok.ensures.output) c.in-Ok.ensures.same (g.met.F.Files.agrees _) c.in-Ok.ensures.grown c.in-Ok.ensures.count
          said.status said.once said.pieces said.piece said.whole said.front said.write_fault said.write_rise said.count said.no_memory;
    }

pub returns-in-Err : goal.returns-in-Err
returns-in-Err g c = record { headline = nothing_printed _ _ _ _ c.in-Err.ensures.same (g.met.F.Files.agrees _) c.in-Err.ensures.grown c.in-Err.ensures.count }
