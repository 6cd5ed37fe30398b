-- Versions beside a version, by a part of the two.
use Rattle.std.specs.Prelude.{◌≡◌, ◌<◌, ◌≤◌, ℕ, List, false, None, length, get_or, take}
use Rattle.std.specs.Ordering.{is_gt, is_lt}
use Rattle.std.specs.declared.cmp.Ordering.TheVariants as ordering
use Rattle.std.specs.declared.cmp.Ordering.{Ordering}
use Rattle.ul_version.specs.Fields.{Fields, public_fields, without_local}
use Rattle.ul_version.specs.Order.{version_cmp}
use Rattle.ul_prepared.specs.declared.parts.Part.{Part}
use Rattle.ul_prepared.specs.declared.parts.Part.TheVariants.{Whole, Public, Release, Prefix}

-- a version's epoch and release, without its other parts
abbrev pub core : Fields → Fields
core f = public_fields f.epoch f.release None None None

-- a version's epoch, and so many numbers of its release, without its other parts
abbrev pub prefix : ℕ → Fields → Fields
prefix count f = public_fields f.epoch (take count f.release) None None None

-- a part of a version
abbrev pub part_of : Part → Fields → Fields
part_of Whole f = f
part_of Public f = without_local f
part_of Release f = core f
part_of (Prefix count) f = prefix count f

-- a version beside another one, by a part of the two
abbrev pub side : Part → Fields → Fields → Ordering
side part v c = version_cmp (part_of part c) (part_of part v)

-- so many versions come before a version by a part
pub record CountsBefore (part : Part) (v : Fields) (xs : List Fields) (count : ℕ) : Type 0 where
  pub within : count ≤ length xs
  pub below : (k : ℕ) (d : Fields) → k < count → side part v (get_or xs k d) ≡ ordering.Less
  pub from : (k : ℕ) (d : Fields) → count ≤ k → k < length xs → is_lt (side part v (get_or xs k d)) ≡ false

-- so many versions don't come after a version by a part
pub record CountsThrough (part : Part) (v : Fields) (xs : List Fields) (count : ℕ) : Type 0 where
  pub within : count ≤ length xs
  pub below : (k : ℕ) (d : Fields) → k < count → is_gt (side part v (get_or xs k d)) ≡ false
  pub from : (k : ℕ) (d : Fields) → count ≤ k → k < length xs → side part v (get_or xs k d) ≡ ordering.Greater
