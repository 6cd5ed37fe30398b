-- The steps of a derivation of a problem by names and versions: a place is the node that stands there, a set the
-- versions whose flags are set.
use Rattle.std.specs.Prelude.{◌≡◌, ◌<◌, ℕ, List, [], ◌∷◌, Bool, cond, Option, Some, None, length, map}
use Rattle.ul_base.specs.declared.node.Node.{Node}
use Rattle.ul_version.specs.Fields.{Fields}
use Rattle.ul_problem.specs.Plain.{Plain, node_at, size_of}
use Rattle.ul_problem.specs.Steps.{AreTermsOf, term_to_say}
use Rattle.ul_problem.specs.declared.problem.NodeFacts.{NodeFacts}
use Rattle.ul_problem.specs.declared.term.Term.{Term}
use Rattle.ul_problem.specs.declared.term.Term.TheVariants.{In, NotIn}
use Rattle.ul_problem.specs.declared.step.Step.{Step}
use Rattle.ul_problem.specs.declared.step.Step.TheVariants.{Need, Python, Base, Cut}
use Rattle.ul_report.specs.declared.text_steps.TextTerm.{TextTerm}
use Rattle.ul_report.specs.declared.text_steps.TextTerm.TheVariants.{In as TextIn, NotIn as TextNotIn}
use Rattle.ul_report.specs.declared.text_steps.TextStep.{TextStep}
use Rattle.ul_report.specs.declared.text_steps.TextStep.TheVariants.{Need as TextNeed, Python as TextPython, Base as TextBase, Cut as TextCut}

-- the elements of a list whose flags are set
abbrev pub flagged_elements : {A : Type 0} → List Bool → List A → List A
flagged_elements [] vs = []
flagged_elements (b ∷ bs) [] = []
flagged_elements (b ∷ bs) (v ∷ vs) = cond b (v ∷ flagged_elements bs vs) (flagged_elements bs vs)

-- the node of what is known of a node; an empty name where there is none
abbrev pub node_in : Option NodeFacts → Node
node_in None = record { name = []; extra = None }
node_in (Some f) = f.node

-- the versions of what is known of a node
abbrev pub versions_in : Option NodeFacts → List Fields
versions_in None = []
versions_in (Some f) = f.versions

-- the node at a place
abbrev pub node_of_place : Plain → ℕ → Node
node_of_place p n = node_in (node_at p n)

-- the versions of a set
abbrev pub versions_of_set : Plain → ℕ → List Bool → List Fields
versions_of_set p n s = flagged_elements s (versions_in (node_at p n))

-- a term
abbrev pub named_term : Plain → Term → TextTerm
named_term p (In n s) = TextIn (node_of_place p n) (versions_of_set p n s)
named_term p (NotIn n s) = TextNotIn (node_of_place p n) (versions_of_set p n s)

-- a term in front of others, if it isn't left out
abbrev pub with_named : Plain → Option Term → List TextTerm → List TextTerm
with_named p None ts = ts
with_named p (Some t) ts = named_term p t ∷ ts

-- terms in their order; `not n {}`, which always holds, is left out
abbrev pub named_terms : Plain → List Term → List TextTerm
named_terms p [] = []
named_terms p (t ∷ ts) = with_named p (term_to_say t) (named_terms p ts)

-- a step
abbrev pub named_step : Plain → Step → TextStep
named_step p (Need n s m w) =
    TextNeed (node_of_place p n) (versions_of_set p n s) (node_of_place p m) (versions_of_set p m w)
named_step p (Python n s) = TextPython (node_of_place p n) (versions_of_set p n s)
named_step p (Base n s) = TextBase (node_of_place p n) (versions_of_set p n s)
named_step p (Cut i j m ts) = TextCut i j (node_of_place p m) (named_terms p ts)

-- steps in their order
abbrev pub named_steps : Plain → List Step → List TextStep
named_steps p steps = map (named_step p) steps

-- a node of the problem, and a set of its versions
abbrev pub IsPlaced : Plain → ℕ → List Bool → Type 0
IsPlaced p n s = (n < length p.nodes) × (length s ≡ size_of p n)

-- each place of a step is a node of the problem, and each set has the size of its node's versions
abbrev pub HasNames : Plain → Step → Type 0
HasNames p (Need n s m w) = IsPlaced p n s × IsPlaced p m w
HasNames p (Python n s) = IsPlaced p n s
HasNames p (Base n s) = IsPlaced p n s
HasNames p (Cut i j m ts) = (m < length p.nodes) × AreTermsOf p ts

-- the same of each step
abbrev pub HaveNames : Plain → List Step → Type 0
HaveNames p [] = Unit {0}
HaveNames p (s ∷ ss) = HasNames p s × HaveNames p ss
