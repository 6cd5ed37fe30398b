-- What a reader's answer says.
use Rattle.std.specs.Prelude.{◌≡◌, ℕ, List, Option, Some, None, Result, Ok, Err, Vec}
use Rattle.std.specs.Borrow.{Bor}
use Rattle.ul_version.specs.Reading.{Cut, lowercase_text}
use Rattle.ul_version.specs.declared.fields.Segment.{Segment}
use Rattle.ul_version.specs.declared.fault.VersionFault.{VersionFault}
use Rattle.ul_version.specs.declared.fault.VersionFault.TheVariants.{NoReading, NoMemory}

-- a part and the text after it, which stands behind a reference, in its own case
abbrev pub cut_view : {X : Type 0} → Option (X × Bor (List ℕ)) → Cut X
cut_view None = None
cut_view (Some p) = Some (p.0, lowercase_text p.1.now)

-- the text after a word
abbrev pub rest_view : Option (Bor (List ℕ)) → Option (List ℕ)
rest_view None = None
rest_view (Some rest) = Some (lowercase_text rest.now)

-- the answer of a reader that may lack memory: what it read is what the grammar reads, and it finds no
-- reading only where the grammar has none
abbrev pub Reads : {X Y : Type 0} → (X → Y) → Result X VersionFault → Option Y → Type 0
Reads view (Ok x) reading = reading ≡ Some (view x)
Reads view (Err NoReading) reading = reading ≡ None
Reads view (Err NoMemory) reading = Unit {0}

-- the numbers of a release, and the text after it
abbrev pub release_view : {Z : Type 0} → Vec ℕ Z × Bor (List ℕ) → List ℕ × List ℕ
release_view p = (p.0.items, lowercase_text p.1.now)

-- a list of segments
abbrev pub segments_view : {Z : Type 0} → Vec Segment Z → List Segment
segments_view v = v.items
