-- Which line may follow which: a state is what has been read.
use Rattle.std.specs.Prelude.{◌+◌, List, [], ◌∷◌, ◌++◌, Bool, Option, Some, None, bytes_eq, cond, length, nat_eq}
use Rattle.ul_lines.specs.Reader.{Reader, run as run_by}
use Rattle.ul_report.specs.Texts.{world_text}
use Rattle.ul_report.specs.declared.text_steps.TextStep.{TextStep}
use Rattle.ul_report_read.specs.LineReading.{line_of}
use Rattle.ul_report_read.specs.ProofLines.{spell}
use Rattle.ul_report_read.specs.declared.line.Line.{Line}
use Rattle.ul_report_read.specs.declared.line.Line.TheVariants.{Title as title, Fork as fork, Region as region, World as world, Step as numbered}
use Rattle.ul_report_read.specs.declared.proof.Proof.{Proof}
use Rattle.ul_report_read.specs.declared.states.State.{State}
use Rattle.ul_report_read.specs.declared.states.State.TheVariants.{Start as start, Titled as titled, Forked as forked, Bounded as bounded, Stepping as stepping}
use Rattle.ul_nodes.specs.Plain.{Plain}
use Rattle.ul_tree.specs.Sample.{sample_of}

-- the state, where the test holds
abbrev pub may : Bool → State → Option State
may b s = cond b (Some s) None

-- the state behind a line that may follow
abbrev pub step : State → Line → Option State
step start title = Some titled
step titled (fork p) = Some (forked p)
step (forked p) (region r) = Some (bounded p r)
step (bounded p r) (world t) = may (bytes_eq t (world_text (sample_of r))) (stepping p r [])
step (stepping p r ss) (numbered n s) = may (nat_eq n (length ss + 1)) (stepping p r (ss ++ s ∷ []))
step s l = None

-- a path, a region and steps
abbrev pub proof_of : List Bool → Plain → List TextStep → Proof
proof_of p r ss = record { path = p; region = r; steps = ss }

-- what has been read, where it may end here
abbrev pub final : State → Option Proof
final (stepping p r ss) = Some (proof_of p r ss)
final s = None

-- how a derivation file is read
abbrev pub proof_reader : Reader State Line Proof
proof_reader = record { start = start; step = step; final = final; line_of = line_of; spell = spell }

-- the state behind lines
abbrev pub run : State → List Line → Option State
run s ls = run_by proof_reader s ls
