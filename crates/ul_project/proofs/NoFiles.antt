-- No files are in order.
use Rattle.std.proofs.Common.{◌≡◌, List, [], sym, subst}
use Rattle.std.specs.List.Sorted.{IsStrictlySortedBy}
use Rattle.ul_requirement.specs.Fields.{FileFields, FilesRise}

none_rise : FilesRise []
unfolding IsStrictlySortedBy
none_rise = tt

-- a list without files is in order
pub no_files : (files : List FileFields) → files ≡ [] → FilesRise files
no_files files e = subst FilesRise (sym e) none_rise
