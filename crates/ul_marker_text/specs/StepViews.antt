-- Comparisons, steps and paths of the code as plain data.
use Rattle.std.specs.Prelude.{ℕ, List, [], ◌∷◌, map, drop, length, Option, Some, None, Vec}
use Rattle.std.specs.declared.alloc.Global.{Global}
use Rattle.ul_marker.specs.declared.printed.Comparison.{Comparison}
use Rattle.ul_marker.specs.declared.printed.Comparison.TheVariants.{Bound, Extra, Text, Opaque}
use Rattle.ul_comparison.specs.Formulas.{Formula}
use Rattle.ul_comparison.specs.Printed.{comparison_formula}
use Rattle.ul_marker.specs.PrintedViews.{comparison_view}
use Rattle.ul_tree.specs.Comparisons as Plain
use Rattle.ul_tree.specs.Fans.{Fan, fan_of, tree_of}
use Rattle.ul_nodes.specs.Keys.{level_view}
use Rattle.ul_nodes.specs.Levels.{extra_level, text_level, atom_level}
use Rattle.ul_tree.specs.PathList as PathList
use Rattle.ul_nodes.specs.Plain as Trees
use Rattle.ul_nodes.specs.declared.level.Level.{Level}
use Rattle.ul_marker_text.specs.Rows.{comparison_asked, Front, steps_of}
use Rattle.ul_marker_text.specs.declared.steps.Step.{Step}
use Rattle.ul_marker_text.specs.declared.steps.Step.TheVariants.{Interval, Point, Others}
use Rattle.ul_marker_text.specs.declared.steps.Asked.{Asked}
use Rattle.ul_marker_text.specs.declared.steps.Asked.TheVariants.{Lower, Upper, Same, Other}

-- what a comparison says
abbrev pub said : Comparison → Formula
said c = comparison_formula (comparison_view c)

-- what a comparison asks
abbrev pub plain_comparison : Comparison → Plain.Comparison
plain_comparison c = comparison_asked (comparison_view c)

-- the level that a comparison asks for, and the key; a bound of the interpreter has none
abbrev pub comparison_level : Comparison → List ℕ
comparison_level (Bound lower python) = extra_level
comparison_level (Extra literal equal) = extra_level
comparison_level (Text variable literal equal) = text_level variable
comparison_level (Opaque atom holds) = atom_level atom.now

-- the key at a comparison's level of where it holds
abbrev pub comparison_key : Comparison → List ℕ
comparison_key (Bound lower python) = 1 ∷ []
comparison_key (Extra literal equal) = literal.now
comparison_key (Text variable literal equal) = literal.now
comparison_key (Opaque atom holds) = 1 ∷ []

-- what a comparison asks, by its kind
abbrev pub asked_view : Asked → Comparison → Plain.Comparison
asked_view (Lower number) c = Plain.at_least number
asked_view (Upper number) c = Plain.below number
asked_view Same c = Plain.equals (comparison_level c) (comparison_key c)
asked_view Other c = Plain.differs (comparison_level c) (comparison_key c)

-- a step
abbrev pub step_view : Step → PathList.Step
step_view (Interval start end) = PathList.interval start end
step_view (Point c) = PathList.point (comparison_level c) (comparison_key c)
step_view (Others c cs) = PathList.others (comparison_level c) (comparison_key c ∷ map comparison_key cs.now)

-- what comparisons ask
abbrev pub row_view : List Comparison → List Plain.Comparison
row_view cs = map plain_comparison cs

-- a step of comparisons, by how many they are, and the comparisons after it
abbrev pub front_view : List Comparison → Option (Step × ℕ) → Front
front_view row None = None
front_view row (Some front) = Some (step_view front.0, row_view (drop front.1 row))

-- the steps of a path
abbrev pub path_view : Vec Step Global → List PathList.Step
path_view path = map step_view path.items

-- the steps of a path from one on
abbrev pub path_from : ℕ → Vec Step Global → List PathList.Step
path_from at path = drop at (path_view path)

-- paths from one of their steps on
abbrev pub paths_from : ℕ → List (Vec Step Global) → List (List PathList.Step)
paths_from at paths = map (path_from at) paths

-- these by their first steps
abbrev pub fan_from : ℕ → List (Vec Step Global) → Fan
fan_from at paths = fan_of (paths_from at paths)

-- the level above a node: none for the whole tree
abbrev pub above_view : Option Level → List ℕ
above_view None = []
above_view (Some level) = level_view level

-- the steps of paths
abbrev pub paths_view : List (Vec Step Global) → List (List PathList.Step)
paths_view paths = map path_view paths

-- the steps of rows of comparisons
abbrev pub rows_steps : List (Vec Comparison Global) → List (List PathList.Step)
rows_steps rows = map (λ row. steps_of (length row.items) (row_view row.items)) rows

-- the tree of rows of comparisons
abbrev pub rows_tree : List (Vec Comparison Global) → Trees.Plain
rows_tree rows = tree_of (fan_of (rows_steps rows))
