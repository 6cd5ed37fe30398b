-- Which versions were met, and what becomes of an entry behind them.
use Rattle.std.specs.Prelude.{◌≡◌, ◌||◌, Bool, Option, List}
use Rattle.std.specs.List.{list_any}
use Rattle.std.specs.Ordering.{is_eq}
use Rattle.ul_version.specs.Fields.{Fields}
use Rattle.ul_version.specs.Order.{version_cmp}
use Rattle.ul_requirement.specs.Fields.{ReleaseFields}
use Rattle.ul_index.specs.Usable.{EntryFields, is_among, is_new, release_behind, versions_with}
use Rattle.ul_index.specs.declared.seen.Seen.{Seen}

-- an equal version was met
abbrev pub was_seen : Seen → Fields → Bool
was_seen seen version = list_any (λ k. is_eq (version_cmp version k.version)) seen.keys.keys

-- a version is met beside those that were
abbrev pub Notes : Seen → Seen → Fields → Type 0
Notes seen now version = (v : Fields) → was_seen now v ≡ (is_eq (version_cmp version v) || was_seen seen v)

-- the versions that were met are these
abbrev pub Has : Seen → List Fields → Type 0
Has seen earlier = (v : Fields) → was_seen seen v ≡ is_among earlier v

-- whether an entry's version is new behind versions, whichever list of them was met, and that it is met now
abbrev pub Tells : Seen → Seen → Option Fields → Bool → Type 0
Tells seen now version answer =
    (earlier : List Fields) → Has seen earlier → (answer ≡ is_new earlier version) × Has now (versions_with earlier version)

-- the release of an entry behind versions, whichever list of them was met, and that its own is met now
abbrev pub Follows : Seen → Seen → EntryFields → Option ReleaseFields → Type 0
Follows seen now e release =
    (earlier : List Fields) → Has seen earlier → (release ≡ release_behind earlier e) × Has now (versions_with earlier e.version)
