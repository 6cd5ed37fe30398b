-- What is answered where a text was read as a name or as a version, or wasn't.
use Rattle.std.specs.Prelude.{ℕ, List, Option, Some, None, Result, Ok, Err, alloc_error}
use Rattle.std.specs.declared.alloc.AllocError.{AllocError}
use Rattle.ul_base.specs.declared.name.NameFault.{NameFault}
use Rattle.ul_base.specs.declared.name.NameFault.TheVariants.{NoReading as NoName, NoMemory as NoMemoryForName}
use Rattle.ul_version.specs.Fields.{Fields}
use Rattle.ul_version.specs.declared.fault.VersionFault.{VersionFault}
use Rattle.ul_version.specs.declared.fault.VersionFault.TheVariants.{NoReading as NoVersion, NoMemory as NoMemoryForVersion}

-- the name that a reading gave, or that the text is none; want of memory where that ended it
abbrev pub name_if_read : Result (List ℕ) NameFault → Result (Option (List ℕ)) AllocError
name_if_read (Ok name) = Ok (Some name)
name_if_read (Err NoName) = Ok None
name_if_read (Err NoMemoryForName) = Err alloc_error

-- a version likewise
abbrev pub version_if_read : Result Fields VersionFault → Result (Option Fields) AllocError
version_if_read (Ok version) = Ok (Some version)
version_if_read (Err NoVersion) = Ok None
version_if_read (Err NoMemoryForVersion) = Err alloc_error
