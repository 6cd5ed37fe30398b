-- What a derivation file is: the lines of a refused fork and of the steps of a derivation, as they are printed.
use Rattle.std.specs.Prelude.{◌≡◌, ◌≢◌, ℕ, ◌<◌, ◌^◌, List, [], ◌++◌, IfSome, length, true}
use Rattle.std.specs.declared.cmp.Ordering.TheVariants.{Less}
use Rattle.ul_base.specs.Names.{IsNormalName}
use Rattle.ul_base.specs.Nodes.{node_cmp}
use Rattle.ul_base.specs.declared.node.Node.{Node}
use Rattle.ul_lines.specs.Lines.{lines_of}
use Rattle.ul_lines.specs.Reader.{Each}
use Rattle.ul_lock.specs.Region.{IsRegion}
use Rattle.ul_marker_text.specs.MarkerOfText.{is_readable}
use Rattle.ul_problem.specs.Problems.{Increases, VersionBefore}
use Rattle.ul_report.specs.Texts.{refusal_text, steps_text}
use Rattle.ul_report.specs.declared.text_steps.TextTerm.{TextTerm}
use Rattle.ul_report.specs.declared.text_steps.TextTerm.TheVariants.{In, NotIn}
use Rattle.ul_report.specs.declared.text_steps.TextStep.{TextStep}
use Rattle.ul_report.specs.declared.text_steps.TextStep.TheVariants.{Need, Python, Base, Cut}
use Rattle.ul_report_read.specs.declared.proof.Proof.{Proof}
use Rattle.ul_version.specs.Fields.{Fields, IsVersion}

-- names in their normal form
pub record IsNamed (node : Node) : Type 0 where
  pub name : IsNormalName node.name
  pub extra : IfSome node.extra IsNormalName

-- versions that increase
pub record IsSet (versions : List Fields) : Type 0 where
  pub each : Each IsVersion versions
  pub increase : Increases VersionBefore versions

-- a term; `not n {}`, which always holds, is none
abbrev pub IsTerm : TextTerm → Type 0
IsTerm (In node versions) = IsNamed node × IsSet versions
IsTerm (NotIn node versions) = IsNamed node × IsSet versions × (versions ≢ [])

-- the node of a term
abbrev pub node_in : TextTerm → Node
node_in (In node versions) = node
node_in (NotIn node versions) = node

-- the node of one term comes before that of another
abbrev pub TermBefore : TextTerm → TextTerm → Type 0
TermBefore t u = node_cmp (node_in t) (node_in u) ≡ Less

-- terms, whose nodes increase
pub record AreTerms (terms : List TextTerm) : Type 0 where
  pub each : Each IsTerm terms
  pub increase : Increases TermBefore terms

-- a step; the numbers of a cut are any numbers of 64 bits
abbrev pub IsStep : TextStep → Type 0
IsStep (Need node versions target permitted) = IsNamed node × IsSet versions × IsNamed target × IsSet permitted
IsStep (Python node versions) = IsNamed node × IsSet versions
IsStep (Base node versions) = IsNamed node × IsSet versions
IsStep (Cut left right node terms) = (left < 2 ^ 64) × (right < 2 ^ 64) × IsNamed node × AreTerms terms

-- a refused fork and its steps: the region isn't false, asks for no extra and has few enough nodes on each path, and
-- steps are numbered by numbers of 64 bits
pub record IsProof (x : Proof) : Type 0 where
  pub region : IsRegion x.region
  pub readable : is_readable x.region ≡ true
  pub steps : Each IsStep x.steps
  pub count : length x.steps < 2 ^ 64

-- the text: the four lines of the fork, and a line for each step
abbrev pub proof_text : Proof → List ℕ
proof_text x = refusal_text x.path x.region ++ steps_text x.steps

-- the text is that of the proof
pub record IsTextOf (text : List ℕ) (x : Proof) : Type 0 where
  pub is_proof : IsProof x
  pub same : proof_text x ≡ text

-- these are the lines of a derivation file
abbrev pub AreProofLines : List (List ℕ) → Type 0
AreProofLines ls = (x : Proof) × IsProof x × (lines_of (proof_text x) ≡ ls)
