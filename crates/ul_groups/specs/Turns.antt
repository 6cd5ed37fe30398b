-- How many turns are left until the entries of groups that are open stand in a list: a turn adds the next entry of the
-- innermost group, or ends that group.
use Rattle.std.specs.Prelude.{ℕ, ◌+◌, ◌-◌, List, length, sum_by, if◌then◌else◌}
use Rattle.std.specs.Borrow.{Bor}
use Rattle.ul_project.specs.Groups.{GroupFields}
use Rattle.ul_project.specs.Lists.{has_name}
use Rattle.ul_groups.specs.Opened.{OpenFields}

-- the turns of a group from an entry on: one for each entry, and one for its end
abbrev pub turns_of : OpenFields → ℕ
turns_of o = length o.0.entries - o.1 + 1

-- the turns of a group of a map: a group that was begun isn't begun again
abbrev pub turns_unless_begun : (begun : List (List ℕ)) → List ℕ × Bor GroupFields → ℕ
turns_unless_begun begun entry = if has_name begun entry.0 then 0 else turns_of (entry.1.now, 0)

-- the turns that are left at most: those of the groups that are open, and of the groups of a map that aren't begun
abbrev pub turns_left : List (List ℕ × Bor GroupFields) → List OpenFields → (begun : List (List ℕ)) → ℕ
turns_left entries os begun = sum_by turns_of os + sum_by (turns_unless_begun begun) entries
