-- Reading what a step says.
use Rattle.std.specs.Prelude.{ℕ, List, [], ◌∷◌, Bool, true, false, cond, Option, Some, None, option_and_then, option_map, codes, ◌==◌}
use Rattle.std.specs.List.{slice_split}
use Rattle.std.specs.Ordering.{is_lt}
use Rattle.ul_base.specs.Nodes.{node_cmp}
use Rattle.ul_base.specs.declared.node.Node.{Node}
use Rattle.ul_lines.specs.Pieces.{strip, until}
use Rattle.ul_report.specs.Texts.{separator as separator_text}
use Rattle.ul_report.specs.declared.text_steps.TextTerm.{TextTerm}
use Rattle.ul_report.specs.declared.text_steps.TextTerm.TheVariants.{In, NotIn}
use Rattle.ul_report.specs.declared.text_steps.TextStep.{TextStep}
use Rattle.ul_report.specs.declared.text_steps.TextStep.TheVariants.{Need, Python, Base, Cut}
use Rattle.ul_report_read.specs.Proofs.{node_in}
use Rattle.ul_report_read.specs.Tokens.{node_at, number_at, placed_in, rises}
use Rattle.ul_version.specs.Fields.{Fields}

-- the first, or else the second
abbrev pub or_else : {A : Type 0} → Option A → Option A → Option A
or_else None o = o
or_else (Some x) o = Some x

-- ---- terms

-- a positive term
abbrev pub in_of : Node × List Fields → TextTerm
in_of a = In a.0 a.1

-- a negative term, unless it always holds
abbrev pub not_in_of : Node × List Fields → Option TextTerm
not_in_of (n, []) = None
not_in_of (n, v ∷ vs) = Some (NotIn n (v ∷ vs))

-- a negative term of what stands behind its word
abbrev pub not_of : List ℕ → Option TextTerm
not_of t = option_and_then not_in_of (placed_in t)

-- a negative term, up to its closing brace
abbrev pub negative_at : List ℕ → Option TextTerm
negative_at t = option_and_then not_of (strip (codes "not ") t)

-- a term, up to its closing brace
unfoldable pub term_at : List ℕ → Option TextTerm
term_at t = or_else (option_map in_of (placed_in t)) (negative_at t)

-- what stands in front of a term
abbrev pub separator : Bool → List ℕ
separator first = separator_text first

-- a term behind what stands in front of it
abbrev pub parted_at : Bool → List ℕ → Option TextTerm
parted_at first t = option_and_then term_at (strip (separator first) t)

-- a term in front of others
abbrev pub onto_terms : Option (List TextTerm) → TextTerm → Option (List TextTerm)
onto_terms more t = option_map (λ ts. t ∷ ts) more

-- no terms, if no text is left
abbrev pub no_terms : List ℕ → Option (List TextTerm)
no_terms [] = Some []
no_terms (b ∷ t) = None

-- the terms of texts that were cut at the braces: each ends with one, so the last text is empty
abbrev pub each_term : Bool → List (List ℕ) → Option (List TextTerm)
each_term first [] = None
each_term first (t ∷ []) = no_terms t
each_term first (t ∷ u ∷ ts) = option_and_then (onto_terms (each_term false (u ∷ ts))) (parted_at first t)

-- the terms of a cut, as they stand
abbrev pub all_terms_at : List ℕ → Option (List TextTerm)
all_terms_at t = each_term true (slice_split (λ b. b == 125) t)

-- the node of one term comes before that of another
abbrev pub term_less : TextTerm → TextTerm → Bool
term_less t u = is_lt (node_cmp (node_in t) (node_in u))

-- terms, if their nodes increase
abbrev pub kept_terms : List TextTerm → Option (List TextTerm)
kept_terms ts = cond (rises term_less ts) (Some ts) None

-- the terms of a cut, whose nodes increase
unfoldable pub terms_at : List ℕ → Option (List TextTerm)
terms_at t = option_and_then kept_terms (all_terms_at t)

-- ---- steps

-- a node, a set, and what follows
abbrev pub with_rest : List ℕ → Node × List Fields → Node × List Fields × List ℕ
with_rest r a = (a.0, a.1, r)

-- the same of what a brace divides
abbrev pub front_of : List ℕ × List ℕ → Option (Node × List Fields × List ℕ)
front_of p = option_map (with_rest p.1) (placed_in p.0)

-- a node and a set in braces, and what follows
unfoldable pub front_at : List ℕ → Option (Node × List Fields × List ℕ)
front_at t = option_and_then front_of (until 125 t)

-- a node and a set, if nothing follows
abbrev pub if_last : Node × List Fields × List ℕ → Option (Node × List Fields)
if_last (n, vs, []) = Some (n, vs)
if_last (n, vs, b ∷ r) = None

-- a node and a set to the end
abbrev pub last_at : List ℕ → Option (Node × List Fields)
last_at t = option_and_then if_last (front_at t)

-- a need of these
abbrev pub need_of : Node → List Fields → Node × List Fields → TextStep
need_of n vs a = Need n vs a.0 a.1

-- a need, behind its first node and set
abbrev pub target_of : Node → List Fields → List ℕ → Option TextStep
target_of n vs t = option_map (need_of n vs) (last_at t)

-- the same, from the space on
abbrev pub target_at : Node → List Fields → List ℕ → Option TextStep
target_at n vs t = option_and_then (target_of n vs) (strip (codes " ") t)

-- the same, of a node, a set and what follows
abbrev pub target_from : Node × List Fields × List ℕ → Option TextStep
target_from a = target_at a.0 a.1 a.2

-- a need, behind its word
abbrev pub need_in : List ℕ → Option TextStep
need_in t = option_and_then target_from (front_at t)

-- a step of an interpreter that isn't met
abbrev pub python_of : Node × List Fields → TextStep
python_of a = Python a.0 a.1

-- the same, behind its word
abbrev pub python_in : List ℕ → Option TextStep
python_in t = option_map python_of (last_at t)

-- a step of an extra's base
abbrev pub base_of : Node × List Fields → TextStep
base_of a = Base a.0 a.1

-- the same, behind its word
abbrev pub base_in : List ℕ → Option TextStep
base_in t = option_map base_of (last_at t)

-- a number and what follows
abbrev pub with_number : List ℕ → ℕ → ℕ × List ℕ
with_number r n = (n, r)

-- the same of what a space divides
abbrev pub number_of_parts : List ℕ × List ℕ → Option (ℕ × List ℕ)
number_of_parts p = option_map (with_number p.1) (number_at p.0)

-- the number up to a space, and what follows
abbrev pub number_front_at : List ℕ → Option (ℕ × List ℕ)
number_front_at t = option_and_then number_of_parts (until 32 t)

-- a cut of two numbers and a node, from its terms' text
abbrev pub cut_with : ℕ → ℕ → List ℕ → Node → Option TextStep
cut_with i j t n = option_map (Cut i j n) (terms_at t)

-- a cut of two numbers, of what a colon divides
abbrev pub cut_of_parts : ℕ → ℕ → List ℕ × List ℕ → Option TextStep
cut_of_parts i j p = option_and_then (cut_with i j p.1) (node_at p.0)

-- a cut of two numbers, behind its last word
abbrev pub cut_on : ℕ → ℕ → List ℕ → Option TextStep
cut_on i j t = option_and_then (cut_of_parts i j) (until 58 t)

-- a cut of two numbers, behind them
abbrev pub cut_of : ℕ → ℕ → List ℕ → Option TextStep
cut_of i j t = option_and_then (cut_on i j) (strip (codes "on ") t)

-- a cut, behind its first number
abbrev pub cut_second : ℕ → ℕ × List ℕ → Option TextStep
cut_second i b = cut_of i b.0 b.1

-- the same, of the first number and what follows
abbrev pub cut_first : ℕ × List ℕ → Option TextStep
cut_first a = option_and_then (cut_second a.0) (number_front_at a.1)

-- a cut, behind its word
abbrev pub cut_in : List ℕ → Option TextStep
cut_in t = option_and_then cut_first (number_front_at t)

-- what stands behind a word, read so, or else the other
abbrev pub behind_word : Option (List ℕ) → (List ℕ → Option TextStep) → Option TextStep → Option TextStep
behind_word None read other = other
behind_word (Some t) read other = read t

-- what a step says, behind its number
unfoldable pub step_at : List ℕ → Option TextStep
step_at t =
    behind_word (strip (codes "need ") t) need_in (behind_word (strip (codes "python ") t) python_in
    (behind_word (strip (codes "base ") t) base_in (behind_word (strip (codes "cut ") t) cut_in None)))
