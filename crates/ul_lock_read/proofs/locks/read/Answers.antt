use Rattle.std.proofs.Common.{subst}
use Rattle.ul_lines.specs.Reader.{read_text}
use Rattle.ul_lock_read.specs.Answers.{Fails}
use Rattle.ul_lock_read.specs.Automaton.{lock_reader}
use Rattle.ul_lock_read.proofs.Answered.{by_line, by_memory, by_sheet}
use Rattle.ul_lock_read.proofs.WholeTexts.{text_taken}
use Rattle.ul_lock_read.proofs.locks.read.Goals as goal

pub returns-in-Line : goal.returns-in-Line
returns-in-Line c = by_line c.args.bytes.now c.in-Line.n (subst (λ z. Fails z (read_text lock_reader c.args.bytes.now)) c.in-Line.is c.in-Err.ensures)

pub returns-in-NoMemory : goal.returns-in-NoMemory
returns-in-NoMemory c = by_memory c.args.bytes.now

pub lock_with_root-requires : goal.lock_with_root-requires
lock_with_root-requires c = (text_taken c.args.bytes.now c.in-Ok.sheet c.in-Ok.ensures).0

pub returns-in-Ok : goal.returns-in-Ok
returns-in-Ok c = by_sheet c.args.bytes.now c.in-Ok.sheet c.lock_with_root.result c.in-Ok.ensures c.lock_with_root.ensures
