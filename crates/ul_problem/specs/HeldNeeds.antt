-- The needs of a version as they are held, and what is written in them where they stand.
use Rattle.std.specs.Prelude.{ℕ, List, [], get_or}
use Rattle.ul_problem.specs.declared.problem.Need.{Need}
use Rattle.ul_problem.specs.declared.needs.HeldNeeds.{HeldNeeds}
use Rattle.ul_problem.specs.declared.needs.HeldNeeds.TheVariants.{Empty, One, Two, Listed, Shared}

-- the needs, in their order
abbrev pub needs_held : HeldNeeds → List Need
needs_held Empty = []
needs_held (One ks) = ks
needs_held (Two ks) = ks
needs_held (Listed list) = list.items
needs_held (Shared ks) = ks

-- a need with the number at its target's place in place of that, or 0 where there is none
abbrev pub need_renumbered : List ℕ → Need → Need
need_renumbered numbers k = record { node = get_or numbers k.node 0; permitted = k.permitted }
