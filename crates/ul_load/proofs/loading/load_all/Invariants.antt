use Rattle.std.proofs.Common.{◌≡◌, ◌≤◌, ◌+◌, ℕ, List, length}
use Rattle.ul_files.specs.Files.{Agrees, FileMap, Remembers}
use Rattle.ul_load.specs.Begun.{BeginsWith}
use Rattle.ul_load.specs.Conditions.{beginning}
use Rattle.ul_load.specs.Progressing.{IsLoading, IsProgress}
use Rattle.ul_load.specs.Reads.{ReadsEach}
use Rattle.ul_load.specs.Views.{progress_view}
use Rattle.ul_load.proofs.loading.load_all.Given as goal

-- the files stay as they are, and what is loaded from here on is, behind the paths that were read, what is loaded from the
-- project on
abbrev pub invariant-loop-turn : goal.invariant-loop-turn
invariant-loop-turn g l = record {
  files : g.F.Files.map l.files ≡ g.F.Files.map l.fn.files;
  grown : Remembers (g.F.Files.reads l.fn.files) (g.F.Files.reads l.files);
  faults : g.F.Files.faults l.files ≡ g.F.Files.faults l.fn.files;
  kept : IsProgress (progress_view l.progress);
  first : BeginsWith l.project.package (progress_view l.progress).packages;
  turns : l._turn + 1 ≤ length (progress_view l.progress).packages;
  value : (paths : List (List ℕ)) × ReadsEach (g.F.Files.reads l.fn.files) (g.F.Files.reads l.files) paths
      × ((m : FileMap) → Agrees m (g.F.Files.reads l.files) → IsLoading m l.folder (beginning l.project) paths (progress_view l.progress));
}
