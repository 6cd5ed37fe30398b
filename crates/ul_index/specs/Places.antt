-- The paths of places in an index document.
use Rattle.std.specs.Prelude.{ℕ, List, ◌++◌, codes}
use Rattle.std.specs.Fmt.{decimal}
use Rattle.ul_index.specs.declared.place.EntryKey.{EntryKey}
use Rattle.ul_index.specs.declared.place.EntryKey.TheVariants.{Version, RequiresPython, RequiresDist, Yanked, Files}
use Rattle.ul_index.specs.declared.place.Place.{Place}
use Rattle.ul_index.specs.declared.place.Place.TheVariants.{Document, Name, Versions, Entry, Key, File}

-- a key of an entry
abbrev pub key_text : EntryKey → List ℕ
key_text Version = codes "version"
key_text RequiresPython = codes "requires_python"
key_text RequiresDist = codes "requires_dist"
key_text Yanked = codes "yanked"
key_text Files = codes "files"

-- an entry of `versions`
abbrev pub entry_text : ℕ → List ℕ
entry_text entry = codes "versions[" ++ decimal entry ++ codes "]"

-- the path of a place
abbrev pub place_text : Place → List ℕ
place_text Document = codes "document"
place_text Name = codes "name"
place_text Versions = codes "versions"
place_text (Entry entry) = entry_text entry
place_text (Key entry key) = entry_text entry ++ codes "." ++ key_text key
place_text (File entry file) = entry_text entry ++ codes ".files[" ++ decimal file ++ codes "]"
