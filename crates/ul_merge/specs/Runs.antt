-- Runs of neighbouring groups, and the packages that are made of them.
use Rattle.std.specs.Prelude.{ℕ, ◌≤◌, List, [], ◌∷◌, Vec, Option, Some, slice_range}
use Rattle.std.specs.declared.alloc.Global.{Global}
use Rattle.ul_lock.specs.declared.parts.Locked.{Locked}
use Rattle.ul_merge.specs.Blocks.{MakesBlock, catalog_in, leaves_in, supported_in}
use Rattle.ul_merge.specs.Made.{AreMade}
use Rattle.ul_merge.specs.Over.{MadeOrOver, items_in, with_list}
use Rattle.ul_merge.specs.declared.gathering.Group.{Group}
use Rattle.ul_merge.specs.declared.keys.PairKey.{PairKey}
use Rattle.ul_merge.specs.declared.members.Member.{Member}
use Rattle.ul_merge.specs.declared.sources.Sources.{Sources}

-- the run of a list from one place to another
abbrev pub run_of : {A : Type 0} → List A → ℕ × ℕ → List A
run_of xs c = slice_range xs c.0 c.1

-- places of a run of a list that is so long
abbrev pub IsCut : ℕ → ℕ × ℕ → Type 0
IsCut n c = (c.0 ≤ c.1) × (c.1 ≤ n)

-- the packages that groups make, all of whose markers are printed; or none, where not all are
abbrev pub AreMadeOf : Sources → List (Group PairKey Member) → Option (Vec Locked Global) → Type 0
AreMadeOf s gs made = MadeOrOver (AreMade (MakesBlock (catalog_in s) (leaves_in s) (supported_in s)) gs) made

-- rows, one behind another, where all were made
abbrev pub joined_of : {B : Type 0} → List (Option (Vec B Global)) → Option (List B)
joined_of [] = Some []
joined_of (o ∷ os) = with_list (items_in o) (joined_of os)
