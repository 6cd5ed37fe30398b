use Rattle.std.proofs.Common.{◌≡◌, take}
use Rattle.ul_merge.proofs.releases.copied_files.Given as goal

abbrev pub invariant-loop-file : goal.invariant-loop-file
invariant-loop-file l = l.list.items ≡ take l.file-index l.files
