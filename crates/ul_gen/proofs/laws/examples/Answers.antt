use Rattle.std.proofs.Common.{refl}
use Rattle.std.specs.Fmt.{digits}
use Rattle.ul_gen.specs.Numbers.{draw}
use Rattle.ul_gen.specs.Texts.{project_text, eighth_line, fork_lines, fork_line, needs_at, needs_text, entry_text, entries_text, document_text}
use Rattle.ul_gen.proofs.laws.examples.Goals as goal

pub returns : goal.returns
unfolding digits draw project_text eighth_line fork_lines fork_line needs_at needs_text entry_text entries_text document_text
returns c =
    record {
      nought = refl;
      other_release = refl;
      other_seed = refl;
      second_place = refl;
      greatest_seed = refl;
      one_package = refl;
      nine_packages = refl;
      alone = refl;
      two_each = refl;
      some_left_out = refl;
    }
