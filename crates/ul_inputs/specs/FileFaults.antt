-- What is wrong with a file, before a text is made of it.
use Rattle.std.specs.Prelude.{ℕ, List, ◌++◌, codes, string_bytes, Option, Some, None}
use Rattle.std.specs.Fmt.{decimal}
use Rattle.ul_index.specs.Places.{place_text}
use Rattle.ul_project.specs.Paths.{path_text}
use Rattle.ul_inputs.specs.Refused.{Refused, malformed, limit}
use Rattle.ul_inputs.specs.declared.file_faults.FilePlace.{FilePlace}
use Rattle.ul_inputs.specs.declared.file_faults.FilePlace.TheVariants.{Fixed, Numbered, Missing, Document, Project}
use Rattle.ul_inputs.specs.declared.file_faults.FileFault.{FileFault}
use Rattle.ul_inputs.specs.declared.file_faults.FileFault.TheVariants.{At, Limit, NoMemory}

-- the text of a place
abbrev pub text_of : FilePlace → List ℕ
text_of (Fixed text) = text.now
text_of (Numbered word number) = word.now ++ codes " " ++ decimal number
text_of (Missing key) = codes "missing " ++ string_bytes key
text_of (Document place) = codes "shape " ++ place_text place
text_of (Project word path) = word.now ++ path_text path

-- what a fault says of the file at a path, if it isn't want of memory
abbrev pub refused_file : (path : List ℕ) → FileFault → Option Refused
refused_file path (At place) = Some (malformed path (text_of place))
refused_file path (Limit name number) = Some (limit name.now number)
refused_file path NoMemory = None
