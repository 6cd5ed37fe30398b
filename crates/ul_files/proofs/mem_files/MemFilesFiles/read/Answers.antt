use Rattle.std.proofs.Common.{◌≡◌, ◌∙◌, ap}
use Rattle.ul_files.specs.MemFiles.{FilesState}
use Rattle.ul_files.proofs.Agreeing.{remembers_here}
use Rattle.ul_files.proofs.Memory.{map_and_reads_stay}
use Rattle.ul_files.proofs.mem_files.MemFilesFiles.read.Goals as goal

pub returns-clause-grown : goal.returns-clause-grown
returns-clause-grown c =
    let kept = map_and_reads_stay c.args.self.now c.answer-answer.new.self _ _ c.answer-answer.ensures.exact in
    let stays : c.self.inside.reads.list ≡ c.args.self.now.reads = ap (λ (s : FilesState). s.reads) c.self.view_is ∙ kept.1 in
    remembers_here c.args.self.now.files c.self.inside.files c.args.self.now.reads c.with-self-inside.result.list _ (ap (λ (s : FilesState). s.files) c.self.view_is ∙ kept.0)
    (rw stays at c.with-self-inside.ensures)
