-- The derivation of a derivation file is given.
use Rattle.std.proofs.Common.{◌≡◌, ℕ, List, Result, Ok, Err, refl, ◌++◌}
use Rattle.std.specs.Prelude.{codes}
use Rattle.std.specs.Fmt.{decimal}
use Rattle.ul_files.specs.Files.{FileMap}
use Rattle.ul_lines.specs.Reader.{read_text}
use Rattle.ul_tree.specs.Sample.{SampleHolds}
use Rattle.ul_report_read.specs.Automaton.{proof_reader}
use Rattle.ul_report_read.specs.declared.proof.Proof.{Proof}
use Rattle.ul_report_read.proofs.WholeTexts.{fault, taken}
use Rattle.ul_inputs.specs.Inputs.{large_file, text_bytes}
use Rattle.ul_inputs.specs.Refused.{Refused, malformed}
use Rattle.ul_commands.specs.Checking.{IsProofOf, proof_at, proof_said}
use Rattle.laws_existence.specs.Inputs.{IsGiven}
use Rattle.laws_existence.proofs.Sequenced.{given_file, given_then}

by_read : SampleHolds → (path text : List ℕ) (read : Result Proof ℕ) → read_text proof_reader text ≡ read
    → (r : Result Proof Refused) × IsProofOf path text r
by_read law path text (Err n) e =
    (Err (malformed path (codes "line " ++ decimal n)), record { line = n; first = fault law text n e; is = refl })
by_read law path text (Ok x) e = (Ok x, taken law text x e)

-- the derivation of a derivation file is given
pub derivation_given : SampleHolds → (path : List ℕ) (m : FileMap) → IsGiven (proof_at path) m
derivation_given law path m =
    given_then (large_file path) (proof_said path) m (given_file (codes "text-bytes") text_bytes path m)
    (λ text gave. by_read law path text (read_text proof_reader text) refl)
