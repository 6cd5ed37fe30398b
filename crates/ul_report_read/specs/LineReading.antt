-- Reading one line.
use Rattle.std.specs.Prelude.{ℕ, List, [], ◌∷◌, Bool, true, false, Option, Some, None, option_and_then, option_map, bytes_eq, codes, ◌==◌, if◌then◌else◌}
use Rattle.std.specs.Char.{is_ascii_digit}
use Rattle.ul_lines.specs.Pieces.{strip, until}
use Rattle.ul_lock.specs.Region.{all_worlds}
use Rattle.ul_marker_text.specs.MarkerOfText.{marker_of_text}
use Rattle.ul_report_read.specs.StepReading.{number_front_at, or_else, step_at}
use Rattle.ul_report_read.specs.declared.line.Line.{Line}
use Rattle.ul_report_read.specs.declared.line.Line.TheVariants.{Title as title, Fork as fork, Region as region, World as world, Step as numbered}
use Rattle.ul_nodes.specs.Plain.{Plain}

-- the step of a path that a digit says
abbrev pub digit_at : ℕ → Option Bool
digit_at b = if b == 48 then Some false else (if b == 49 then Some true else None)

-- a step in front of others
abbrev pub onto_digits : Option (List Bool) → Bool → Option (List Bool)
onto_digits more b = option_map (λ bs. b ∷ bs) more

-- the digits of a path
abbrev pub digits_at : List ℕ → Option (List Bool)
digits_at [] = Some []
digits_at (b ∷ t) = option_and_then (onto_digits (digits_at t)) (digit_at b)

-- digits, one at least
abbrev pub some_digits_at : List ℕ → Option (List Bool)
some_digits_at [] = None
some_digits_at (b ∷ t) = digits_at (b ∷ t)

-- a path: digits, or `-` for the whole region
unfoldable pub path_at : List ℕ → Option (List Bool)
path_at t = if bytes_eq t (codes "-") then Some [] else some_digits_at t

-- a region: a marker's text, or `*` for all worlds
unfoldable pub region_at : List ℕ → Option Plain
region_at t = if bytes_eq t (codes "*") then Some all_worlds else marker_of_text t

-- the line of a path, behind its key
abbrev pub fork_of : List ℕ → Option Line
fork_of t = option_map fork (path_at t)

-- the line of a path
abbrev pub fork_at : List ℕ → Option Line
fork_at t = option_and_then fork_of (strip (codes "fork: ") t)

-- the line of a region, behind its key
abbrev pub region_of : List ℕ → Option Line
region_of t = option_map region (region_at t)

-- the line of a region
abbrev pub region_line_at : List ℕ → Option Line
region_line_at t = option_and_then region_of (strip (codes "region: ") t)

-- the line of a world
abbrev pub world_at : List ℕ → Option Line
world_at t = option_map world (strip (codes "world: ") t)

-- a line that begins with no digit
abbrev pub plain_at : List ℕ → Option Line
plain_at t =
    if bytes_eq t (codes "no selection serves this fork") then Some title
    else or_else (fork_at t) (or_else (region_line_at t) (world_at t))

-- a step, behind its number
abbrev pub step_of : ℕ × List ℕ → Option Line
step_of a = option_map (numbered a.0) (step_at a.1)

-- the line of a step
abbrev pub numbered_at : List ℕ → Option Line
numbered_at t = option_and_then step_of (number_front_at t)

-- a line without its end
abbrev pub body_at : List ℕ → Option Line
body_at [] = plain_at []
body_at (b ∷ t) = if is_ascii_digit b then numbered_at (b ∷ t) else plain_at (b ∷ t)

-- the line before an LF, if nothing follows it
abbrev pub body_of_parts : List ℕ × List ℕ → Option Line
body_of_parts (t, []) = body_at t
body_of_parts (t, b ∷ r) = None

-- the line that stands there
unfoldable pub line_of : List ℕ → Option Line
line_of t = option_and_then body_of_parts (until 10 t)
