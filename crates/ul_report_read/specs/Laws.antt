-- Laws of derivation files.
use Rattle.std.specs.Prelude.{◌≡◌, ℕ, ◌<◌, ◌^◌, List, [], Bool, true, length, Result}
use Rattle.ul_lines.specs.Faults.{IsFault}
use Rattle.ul_lines.specs.Reader.{Each}
use Rattle.ul_lock.specs.Region.{IsRegion}
use Rattle.ul_marker_text.specs.MarkerOfText.{is_readable}
use Rattle.ul_problem.specs.Plain.{Plain}
use Rattle.ul_problem.specs.Problems.{IsWellFormed}
use Rattle.ul_problem.specs.Steps.{AreRightAfter}
use Rattle.ul_problem.specs.declared.problem.NodeFacts.{NodeFacts}
use Rattle.ul_problem.specs.declared.step.Step.{Step}
use Rattle.ul_report.specs.Naming.{named_steps}
use Rattle.ul_report_read.specs.Headline.{IsAnswer, ReadsProof}
use Rattle.ul_report_read.specs.Proofs.{AreProofLines, IsNamed, IsProof, IsTextOf, proof_text}
use Rattle.ul_report_read.specs.declared.proof.Proof.{Proof}
use Rattle.ul_report_read.specs.declared.reading.ProofFault.{ProofFault}
use Rattle.ul_nodes.specs.Plain as Trees
use Rattle.ul_version.specs.Fields.{IsVersion}

-- different proofs have different texts
abbrev pub OneTextOneProof : Type 0
OneTextOneProof = (text : List ℕ) (x y : Proof) → IsTextOf text x → IsTextOf text y → x ≡ y

-- a node whose names are in their normal form, and whose versions are versions
pub record HasTexts (f : NodeFacts) : Type 0 where
  pub node : IsNamed f.node
  pub versions : Each IsVersion f.versions

-- a path, a region, and the names of steps of a problem
abbrev pub printed : Plain → List Bool → Trees.Plain → List Step → Proof
printed p path region steps = record { path = path; region = region; steps = named_steps p steps }

-- what is printed of a region with few enough nodes on each path and of right steps is a derivation file, and `read`
-- gives what was printed
pub record PrintedIsRead : Type 0 where
  pub is_proof : (p : Plain) (path : List Bool) (region : Trees.Plain) (steps : List Step) → IsWellFormed p → Each HasTexts p.nodes
      → IsRegion region → is_readable region ≡ true → length steps < 2 ^ 64 → AreRightAfter p [] steps → IsProof (printed p path region steps)
  pub read : (p : Plain) (path : List Bool) (region : Trees.Plain) (steps : List Step) (answer : Result Proof ProofFault)
      → IsWellFormed p → Each HasTexts p.nodes → IsRegion region → is_readable region ≡ true → length steps < 2 ^ 64 → AreRightAfter p [] steps
      → ReadsProof (proof_text (printed p path region steps)) answer → IsAnswer answer (printed p path region steps)

-- the line of a fault is determined, and a derivation file has none
pub record OneFault : Type 0 where
  pub once : (ls : List (List ℕ)) (m n : ℕ) → IsFault AreProofLines ls m → IsFault AreProofLines ls n → m ≡ n
  pub none : (ls : List (List ℕ)) (n : ℕ) → AreProofLines ls → IsFault AreProofLines ls n → ⊥
