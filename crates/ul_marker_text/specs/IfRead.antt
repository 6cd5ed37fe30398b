-- What is answered where something was read, or wasn't: want of memory comes of want of memory alone.
use Rattle.std.specs.Prelude.{ℕ, List, Bool, true, false, Option, Some, None, Result, Ok, Err, alloc_error, if◌then◌else◌}
use Rattle.std.specs.declared.alloc.AllocError.{AllocError}
use Rattle.std.specs.Str.{bytes_eq}
use Rattle.ul_base.specs.declared.name.NameFault.{NameFault}
use Rattle.ul_base.specs.declared.name.NameFault.TheVariants.{NoReading as NoName, NoMemory as NoMemoryForName}
use Rattle.ul_marker.specs.declared.fault.MarkerFault.{MarkerFault}
use Rattle.ul_marker.specs.declared.fault.MarkerFault.TheVariants.{NoReading, NoMemory}
use Rattle.ul_tree.specs.Views.{tree_view}
use Rattle.ul_tree.specs.declared.tree.Tree.{Tree}
use Rattle.ul_marker_text.specs.MarkerOfText.{is_region}

-- whether a text is the normal form of the name that was read of it
abbrev pub normal_if_read : List ℕ → Result (List ℕ) NameFault → Result Bool AllocError
normal_if_read text (Ok name) = Ok (bytes_eq name text)
normal_if_read text (Err NoName) = Ok false
normal_if_read text (Err NoMemoryForName) = Err alloc_error

-- a tree, if it was told to have the text that is read
abbrev pub tree_if_spelled : Tree → Result Bool AllocError → Result Tree MarkerFault
tree_if_spelled tree (Ok true) = Ok tree
tree_if_spelled tree (Ok false) = Err NoReading
tree_if_spelled tree (Err fault) = Err NoMemory

-- the tree that was read, if it is neither true nor false everywhere and asks for no extra
abbrev pub region_if_read : Result Tree MarkerFault → Result (Option Tree) AllocError
region_if_read (Ok tree) = Ok (if is_region (tree_view tree) then Some tree else None)
region_if_read (Err NoReading) = Ok None
region_if_read (Err NoMemory) = Err alloc_error
