-- When there is no text of a tree.
use Rattle.std.specs.Prelude.{◌≡◌, ◌^◌, true, false, min}
use Rattle.ul_tree.specs.Paths.{paths_of, is_printable}
use Rattle.ul_nodes.specs.Plain.{Plain}
use Rattle.ul_marker_text.specs.declared.fault.TextFault.{TextFault}
use Rattle.ul_marker_text.specs.declared.fault.TextFault.TheVariants.{TooLong, NoMemory}

-- want of memory
abbrev pub is_no_memory : TextFault → Type 0
is_no_memory (TooLong paths) = ⊥
is_no_memory NoMemory = Unit {0}

-- more than 4,096 paths lead to true, or one has more than 512 nodes, and how many lead to true; memory is wanted for a
-- tree alone that is printed, since no memory is taken before that is known
abbrev pub IsTextFault : Plain → TextFault → Type 0
IsTextFault t (TooLong paths) = (is_printable t ≡ false) × (paths ≡ min (paths_of t) (2 ^ 127))
IsTextFault t NoMemory = is_printable t ≡ true
