-- The lines of a derivation file, and the text of each.
use Rattle.std.specs.Prelude.{◌≡◌, ℕ, ◌+◌, ◌<◌, ◌^◌, List, [], ◌∷◌, ◌++◌, codes, true, false}
use Rattle.ul_lines.specs.Pieces.{has}
use Rattle.ul_lock.specs.Region.{IsRegion}
use Rattle.ul_marker_text.specs.MarkerOfText.{is_readable}
use Rattle.ul_marker_text.specs.MarkerText.{marker_text}
use Rattle.ul_report.specs.Texts.{first_line, line_end, path_text, step_line, world_text}
use Rattle.ul_report.specs.declared.text_steps.TextStep.{TextStep}
use Rattle.ul_report_read.specs.Proofs.{IsStep}
use Rattle.ul_report_read.specs.declared.line.Line.{Line}
use Rattle.ul_report_read.specs.declared.line.Line.TheVariants.{Title as title, Fork as fork, Region as region, World as world, Step as numbered}
use Rattle.ul_report_read.specs.declared.proof.Proof.{Proof}
use Rattle.ul_tree.specs.Sample.{sample_of}

-- the bytes of a line
unfoldable pub spell : Line → List ℕ
spell title = first_line
spell (fork p) = codes "fork: " ++ (path_text p ++ line_end)
spell (region r) = codes "region: " ++ (marker_text r ++ line_end)
spell (world t) = codes "world: " ++ (t ++ line_end)
spell (numbered n s) = step_line n s

-- what a line may say
abbrev pub Fit : Line → Type 0
Fit title = Unit {0}
Fit (fork p) = Unit {0}
Fit (region r) = IsRegion r × (is_readable r ≡ true)
Fit (world t) = has 10 t ≡ false
Fit (numbered n s) = (n < 2 ^ 64) × IsStep s

-- a line for each step, of which the first has this number
abbrev pub step_lines : ℕ → List TextStep → List Line
step_lines n [] = []
step_lines n (s ∷ ss) = numbered n s ∷ step_lines (n + 1) ss

-- the lines of a proof
abbrev pub proof_lines : Proof → List Line
proof_lines x = title ∷ fork x.path ∷ region x.region ∷ world (world_text (sample_of x.region)) ∷ step_lines 1 x.steps
