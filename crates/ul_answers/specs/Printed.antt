-- What is printed: one status and one text for each answer and for each refusal.
use Rattle.std.specs.Prelude.{ℕ, List, ◌++◌, codes, length, nat_eq, nat_le, Option, Some, None, Result, Ok, Err, if◌then◌else◌}
use Rattle.std.specs.Fmt.{decimal}
use Rattle.ul_version.specs.Fields.{Fields}
use Rattle.ul_version.specs.Texts.{version_text}
use Rattle.ul_tree.specs.Paths.{is_printable}
use Rattle.ul_nodes.specs.Plain.{Plain}
use Rattle.ul_lock.specs.declared.parts.Lock.{Lock}
use Rattle.ul_lock_write.specs.Markers.{markers_of, first_over}
use Rattle.ul_lock_write.specs.Texts.{lock_text}
use Rattle.ul_report.specs.Texts.{refusal_text}
use Rattle.ul_reach.specs.Lines.{row_markers, rows_text}
use Rattle.ul_reach.specs.declared.rows.Reached.{Reached}
use Rattle.ul_inputs.specs.Refused.{Refused, malformed, limit}
use Rattle.ul_inputs.specs.Inputs.{text_bytes}
use Rattle.ul_answers.specs.Answer.{Answer, usage, locked, counted, unwritten, untold, no_selection, derived, none_refused, environment, exported, canonical, outside, no_extra, accepted, rejected, verified, rejected_root, rejected_supported, rejected_package}

-- a status and a text
abbrev pub Output : Type 0
Output = ℕ × List ℕ

-- the output of a refused input
abbrev pub refused_output : Refused → Output
refused_output (malformed file place) = (3, codes "malformed: " ++ file ++ codes ": " ++ place ++ codes "\n")
refused_output (limit name number) = (4, codes "limit: " ++ name ++ codes " " ++ decimal number ++ codes "\n")

-- a marker has too many paths to be printed, or too many nodes on one
abbrev pub too_many_paths : Output
too_many_paths = refused_output (limit (codes "marker-paths") 4096)

-- a lock's text, where it isn't too long
abbrev pub text_output : List ℕ → Output
text_output text =
    if nat_le (length text) text_bytes then (0, text) else refused_output (limit (codes "text-bytes") text_bytes)

-- a lock's text, where each marker is printed and it isn't too long
abbrev pub lock_output : Option ℕ → List ℕ → Output
lock_output (Some paths) text = too_many_paths
lock_output None text = text_output text

-- a lock's text, where it can be written
abbrev pub written : Lock → Output
written l = lock_output (first_over (markers_of l)) (lock_text l)

-- the requirements file of a lock's rows, where it can be written
abbrev pub exported_output : List Reached → Output
exported_output rows = lock_output (first_over (row_markers rows)) (rows_text rows)

-- another text in the place of the one that status 0 has
abbrev pub in_place : Output → List ℕ → Output
in_place o text = if nat_eq o.0 0 then (0, text) else o

-- the line of a lock's counts
abbrev pub counts_text : ℕ → ℕ → List ℕ
counts_text packages forks = codes "packages " ++ decimal packages ++ codes " forks " ++ decimal forks ++ codes "\n"

-- a refusal's text, where its region is printed
abbrev pub refusal_output : Plain → List ℕ → Output
refusal_output region text = if is_printable region then (1, text) else too_many_paths

-- the line of words that aren't one of the commands
abbrev pub usage_text : List ℕ
usage_text = codes "usage: unilock lock|why|env|check|gen|export|verify WORDS\n"

-- the line of a lock that is rejected for one of its packages
abbrev pub package_text : List ℕ → Fields → List ℕ
package_text name version = codes "rejected: " ++ name ++ codes " " ++ version_text version ++ codes "\n"

-- the status and the text of an answer
abbrev pub output_of : Answer → Output
output_of usage = (2, usage_text)
output_of (locked l forks) = written l
output_of (counted l forks) = in_place (written l) (counts_text (length l.packages) forks)
output_of unwritten = too_many_paths
output_of untold = too_many_paths
output_of (no_selection path region core) = refusal_output region (refusal_text path region ++ core)
output_of (derived path region steps) = refusal_output region (refusal_text path region ++ steps)
output_of none_refused = (0, codes "no fork is refused\n")
output_of (environment text) = (0, text)
output_of (exported rows) = exported_output rows
output_of (canonical text) = (0, text)
output_of outside = (8, codes "outside\n")
output_of (no_extra name) = (8, codes "extra: " ++ name ++ codes "\n")
output_of accepted = (0, codes "accepted\n")
output_of (rejected step) = (9, codes "rejected: step " ++ decimal step ++ codes "\n")
output_of verified = (0, codes "verified\n")
output_of rejected_root = (9, codes "rejected: root\n")
output_of rejected_supported = (9, codes "rejected: supported\n")
output_of (rejected_package name version) = (9, package_text name version)

-- the status and the text of an answer, or of what refused it
abbrev pub printed : Result Answer Refused → Output
printed (Ok a) = output_of a
printed (Err e) = refused_output e
