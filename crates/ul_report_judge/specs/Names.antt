-- Steps by names and versions, as steps of a problem. A node is named by its name and extra; a version is named up to the
-- order of versions, so that `1` names `1.0`.
use Rattle.std.specs.Prelude.{◌≡◌, ℕ, List, [], ◌∷◌, Bool, Option, Some, length, map, option_and_then, option_map}
use Rattle.std.specs.List.{position_from}
use Rattle.std.specs.Ordering.{is_eq}
use Rattle.ul_base.specs.Nodes.{node_cmp}
use Rattle.ul_base.specs.declared.node.Node.{Node}
use Rattle.ul_version.specs.Fields.{Fields}
use Rattle.ul_version.specs.Order.{version_cmp}
use Rattle.ul_ranges.specs.Flags.{set_of}
use Rattle.ul_problem.specs.Plain.{Plain, node_at}
use Rattle.ul_problem.specs.declared.term.Term.{Term}
use Rattle.ul_problem.specs.declared.term.Term.TheVariants.{In, NotIn}
use Rattle.ul_problem.specs.declared.step.Step.{Step}
use Rattle.ul_problem.specs.declared.step.Step.TheVariants.{Need, Python, Base, Cut}
use Rattle.ul_report.specs.Naming.{versions_in}
use Rattle.ul_report.specs.declared.text_steps.TextTerm.{TextTerm}
use Rattle.ul_report.specs.declared.text_steps.TextTerm.TheVariants.{In as TextIn, NotIn as TextNotIn}
use Rattle.ul_report.specs.declared.text_steps.TextStep.{TextStep}
use Rattle.ul_report.specs.declared.text_steps.TextStep.TheVariants.{Need as TextNeed, Python as TextPython, Base as TextBase, Cut as TextCut}

-- the place of a version in a list, up to the order of versions
unfoldable pub place_of_version : List Fields → Fields → Option ℕ
place_of_version versions v = position_from (λ w. is_eq (version_cmp w v)) 0 versions

-- a place in front of others
abbrev pub onto_places : Option (List ℕ) → ℕ → Option (List ℕ)
onto_places more k = option_map (λ ks. k ∷ ks) more

-- the places of versions that are named; none where one has none
abbrev pub places_of_names : List Fields → List Fields → Option (List ℕ)
places_of_names versions [] = Some []
places_of_names versions (v ∷ vs) =
    option_and_then (onto_places (places_of_names versions vs)) (place_of_version versions v)

-- of a node's versions, the set of those that are named; none where one is named that the node hasn't
abbrev pub set_of_names : List Fields → List Fields → Option (List Bool)
set_of_names versions named = option_map (set_of (length versions)) (places_of_names versions named)

-- the place of a node in a problem
unfoldable pub place_of_node : Plain → Node → Option ℕ
place_of_node p node = position_from (λ f. is_eq (node_cmp f.node node)) 0 p.nodes

-- a place and a set
abbrev pub with_place : ℕ → List Bool → ℕ × List Bool
with_place n s = (n, s)

-- the place of a node, and the set of its versions that are named
abbrev pub placed_of_names : Plain → Node → List Fields → Option (ℕ × List Bool)
placed_of_names p node named =
    option_and_then (λ n. option_map (with_place n) (set_of_names (versions_in (node_at p n)) named)) (place_of_node p node)

-- the term of a problem that is named
abbrev pub term_of_names : Plain → TextTerm → Option Term
term_of_names p (TextIn node versions) = option_map (λ a. In a.0 a.1) (placed_of_names p node versions)
term_of_names p (TextNotIn node versions) = option_map (λ a. NotIn a.0 a.1) (placed_of_names p node versions)

-- a term in front of others
abbrev pub onto_terms : Option (List Term) → Term → Option (List Term)
onto_terms more t = option_map (λ ts. t ∷ ts) more

-- the terms of a problem that are named, in their order
abbrev pub terms_of_names : Plain → List TextTerm → Option (List Term)
terms_of_names p [] = Some []
terms_of_names p (t ∷ ts) = option_and_then (onto_terms (terms_of_names p ts)) (term_of_names p t)

-- a need step of two nodes and their sets
abbrev pub need_of : ℕ × List Bool → ℕ × List Bool → Step
need_of a b = Need a.0 a.1 b.0 b.1

-- a python step of a node and a set
abbrev pub python_of : ℕ × List Bool → Step
python_of a = Python a.0 a.1

-- a base step of a node and a set
abbrev pub base_of : ℕ × List Bool → Step
base_of a = Base a.0 a.1

-- a step of a problem, by the names of its parts
abbrev pub need_of_names : Plain → Node → List Fields → Node → List Fields → Option Step
need_of_names p node versions target permitted =
    option_and_then (λ a. option_map (need_of a) (placed_of_names p target permitted)) (placed_of_names p node versions)

-- the same of a python step
abbrev pub python_of_names : Plain → Node → List Fields → Option Step
python_of_names p node versions = option_map python_of (placed_of_names p node versions)

-- the same of a base step
abbrev pub base_of_names : Plain → Node → List Fields → Option Step
base_of_names p node versions = option_map base_of (placed_of_names p node versions)

-- the same of a cut
abbrev pub cut_of_names : Plain → ℕ → ℕ → Node → List TextTerm → Option Step
cut_of_names p left right node terms =
    option_and_then (λ n. option_map (Cut left right n) (terms_of_names p terms)) (place_of_node p node)

-- the step of a problem that is named; none where a node or a version isn't the problem's
abbrev pub step_of_names : Plain → TextStep → Option Step
step_of_names p (TextNeed node versions target permitted) = need_of_names p node versions target permitted
step_of_names p (TextPython node versions) = python_of_names p node versions
step_of_names p (TextBase node versions) = base_of_names p node versions
step_of_names p (TextCut left right node terms) = cut_of_names p left right node terms

-- each of the steps by names names one of a problem, and these are they
abbrev pub HaveSteps : Plain → List TextStep → List Step → Type 0
HaveSteps p texts steps = map (step_of_names p) texts ≡ map (λ s. Some s) steps
