-- The hash of a label: its kind, and then all that it has, in order.
use Rattle.std.specs.Prelude.{ℕ, true, false}
use Rattle.std.specs.List.{fold}
use Rattle.ul_core.specs.Hashes.{next_hash}
use Rattle.ul_algebra.specs.Mixed.{text_mixed, point_mixed, start_mixed}
use Rattle.ul_comparison.specs.Atoms.{variable_number, kind_number}
use Rattle.ul_algebra.specs.declared.labels.DiagramLabel.{DiagramLabel}
use Rattle.ul_algebra.specs.declared.labels.DiagramLabel.TheVariants.{Truth, Extra, Python, Text, Opaque}

-- the hash of a label, by its kind
abbrev pub label_hash : DiagramLabel → ℕ
label_hash (Truth true) = 1
label_hash (Truth false) = 0
label_hash (Extra points) = fold point_mixed 2 points
label_hash (Python starts) = fold start_mixed 3 starts
label_hash (Text variable points) = fold point_mixed (next_hash 4 (variable_number variable)) points
label_hash (Opaque atom) = text_mixed (next_hash (next_hash 5 (variable_number atom.variable)) (kind_number atom.kind)) atom.literal
