use Rattle.std.proofs.Common.{◌≡◌, ◌∷◌}
use Rattle.ul_files.specs.Files.{files_of}
use Rattle.ul_gen.specs.Texts.{project_text}
use Rattle.ul_commands.specs.Generating.{documents_below, project_path}
use Rattle.ul_commands.proofs.generating.files.Given as goal

abbrev pub invariant-loop-number : goal.invariant-loop-number
invariant-loop-number l = files_of l.list.items ≡ (project_path, project_text l.size) ∷ documents_below l.seed l.size l.number
