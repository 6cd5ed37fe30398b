-- Steps of a derivation: what they say, and when they are right. A step says an incompatibility: a list of terms, of which no
-- serving selection has all.
use Rattle.std.specs.Prelude.{◌≡◌, ℕ, zero, suc, List, [], ◌∷◌, ◌++◌, Bool, true, false, cond, Option, Some, None, ◌<◌, length, slice_get, nat_eq, nat_lt}
use Rattle.ul_ranges.specs.Flags.{has, is_blank}
use Rattle.ul_problem.specs.Terms.{node_of, set_of, meet_of, join_of, term_on, IsOrdered}
use Rattle.ul_problem.specs.Plain.{Plain, size_of, base_of, barred_of, needs_of}
use Rattle.std.specs.List.{Contains}
use Rattle.ul_problem.specs.declared.term.Term.{Term}
use Rattle.ul_problem.specs.declared.term.Term.TheVariants.{In, NotIn}
use Rattle.ul_problem.specs.declared.problem.Need.{Need}
use Rattle.ul_problem.specs.declared.step.Step.{Step}
use Rattle.ul_problem.specs.declared.step.Step.TheVariants.{Need as NeedStep, Python, Base, Cut}

-- the term says of a node of the problem, with a set of its versions
abbrev pub IsTermOf : Plain → Term → Type 0
IsTermOf p t = (node_of t < length p.nodes) × (length (set_of t) ≡ size_of p (node_of t))

-- each term says of a node of the problem, with a set of its versions
abbrev pub AreTermsOf : Plain → List Term → Type 0
AreTermsOf p [] = Unit {0}
AreTermsOf p (t ∷ ts) = IsTermOf p t × AreTermsOf p ts

-- `not n {}` always holds and is left out
abbrev pub term_to_say : Term → Option Term
term_to_say (In n s) = Some (In n s)
term_to_say (NotIn n s) = cond (is_blank s) None (Some (NotIn n s))

-- none of the terms is one that is left out
abbrev pub AreWritten : List Term → Type 0
AreWritten [] = Unit {0}
AreWritten (t ∷ ts) = (term_to_say t ≡ Some t) × AreWritten ts

-- an incompatibility: at most one term on a node, in the order of nodes, and none that always holds
abbrev pub IsIncompat : List Term → Type 0
IsIncompat ts = IsOrdered ts × AreWritten ts

-- a term in front of terms of later nodes, if it isn't left out
abbrev pub with_term : Option Term → List Term → List Term
with_term None ts = ts
with_term (Some t) ts = t ∷ ts

-- two terms as an incompatibility: in the order of nodes, and met where the node is one
abbrev pub pair_of : Term → Term → List Term
pair_of t u =
    cond (nat_lt (node_of t) (node_of u))
    (with_term (term_to_say t) (with_term (term_to_say u) []))
    (cond (nat_lt (node_of u) (node_of t))
    (with_term (term_to_say u) (with_term (term_to_say t) []))
    (with_term (term_to_say (meet_of t u)) []))

-- the base of a node, or the node where it has none
abbrev pub base_or : Option ℕ → ℕ → ℕ
base_or None n = n
base_or (Some b) n = b

-- what a step says: no serving selection has all these terms
abbrev pub says : Plain → Step → List Term
says p (NeedStep n s m w) = pair_of (In n s) (NotIn m w)
says p (Python n s) = In n s ∷ []
says p (Base n s) = pair_of (In n s) (NotIn (base_or (base_of p n) n) s)
says p (Cut i j m ts) = ts

-- what each of some steps says
abbrev pub said_by : Plain → List Step → List (List Term)
said_by p [] = []
said_by p (s ∷ ss) = says p s ∷ said_by p ss

-- a step's places and sets are the problem's, the node of a base step has an extra, and a cut's terms are an incompatibility
abbrev pub IsStepWithin : Plain → Step → Type 0
IsStepWithin p (NeedStep n s m w) = (n < length p.nodes) × (m < length p.nodes) × (length s ≡ size_of p n) × (length w ≡ size_of p m)
IsStepWithin p (Python n s) = (n < length p.nodes) × (length s ≡ size_of p n)
IsStepWithin p (Base n s) = (n < length p.nodes) × (length s ≡ size_of p n) × ((b : ℕ) × (base_of p n ≡ Some b))
IsStepWithin p (Cut i j m ts) = AreTermsOf p ts × IsIncompat ts

-- the term of the resolvent on a node: joined on the node of the cut, met on every other
abbrev pub met_terms : Option Term → Option Term → Option Term
met_terms None u = u
met_terms (Some t) None = Some t
met_terms (Some t) (Some u) = term_to_say (meet_of t u)

-- two terms on the node of a cut, each of which may be missing, joined
abbrev pub joined_terms : Option Term → Option Term → Option Term
joined_terms None u = None
joined_terms (Some t) None = None
joined_terms (Some t) (Some u) = term_to_say (join_of t u)

-- the resolvent's term on a node k, for a cut on the node m
abbrev pub resolvent_term : ℕ → ℕ → Option Term → Option Term → Option Term
resolvent_term m k t u = cond (nat_eq k m) (joined_terms t u) (met_terms t u)

-- the terms are the resolvent of two lists on a node
pub record IsResolvent (m : ℕ) (left right ts : List Term) : Type 0 where
  pub is_ordered : IsOrdered ts
  pub each : (k : ℕ) → term_on k ts ≡ resolvent_term m k (term_on k left) (term_on k right)

-- among the needs of a version is one of this target, whose permitted versions are all in the set
abbrev pub HasNeed : List Need → ℕ → List Bool → Type 0
HasNeed needs m w = (need : Need) × Contains needs need × (need.node ≡ m) × ((u : ℕ) → has u need.permitted ≡ true → has u w ≡ true)

-- the step of a number, from 1, among the earlier ones
abbrev pub step_of : List Step → ℕ → Option Step
step_of earlier zero = None
step_of earlier (suc k) = slice_get earlier k

-- some term of the list is on the node
abbrev pub HasTermOn : ℕ → List Term → Type 0
HasTermOn m ts = (t : Term) × (term_on m ts ≡ Some t)

-- the cut on a node of two earlier steps, each with a term on that node: its terms are their resolvent
abbrev pub IsCutOf : Plain → List Step → ℕ → ℕ → ℕ → List Term → Type 0
IsCutOf p earlier i j m ts =
    (left : Step) × (right : Step) × (step_of earlier i ≡ Some left) × (step_of earlier j ≡ Some right)
    × HasTermOn m (says p left) × HasTermOn m (says p right) × IsResolvent m (says p left) (says p right) ts

-- each of the versions has the need
abbrev pub IsRightNeed : Plain → ℕ → List Bool → ℕ → List Bool → Type 0
IsRightNeed p n s m w =
    (n < length p.nodes) × (m < length p.nodes) × (length s ≡ size_of p n) × (length w ≡ size_of p m)
    × ((v : ℕ) → has v s ≡ true → HasNeed (needs_of p n v) m w)

-- none of the versions is fit
abbrev pub IsRightPython : Plain → ℕ → List Bool → Type 0
IsRightPython p n s =
    (n < length p.nodes) × (length s ≡ size_of p n) × ((v : ℕ) → has v s ≡ true → has v (barred_of p n) ≡ true)

-- the node has an extra
abbrev pub IsRightBase : Plain → ℕ → List Bool → Type 0
IsRightBase p n s = (n < length p.nodes) × (length s ≡ size_of p n) × ((b : ℕ) × (base_of p n ≡ Some b))

-- the terms are the resolvent of two earlier steps
abbrev pub IsRightCut : Plain → List Step → ℕ → ℕ → ℕ → List Term → Type 0
IsRightCut p earlier i j m ts = AreTermsOf p ts × IsCutOf p earlier i j m ts

-- The step is right after the earlier ones. Its places and sets are the problem's.
abbrev pub IsRight : Plain → List Step → Step → Type 0
IsRight p earlier (NeedStep n s m w) = IsRightNeed p n s m w
IsRight p earlier (Python n s) = IsRightPython p n s
IsRight p earlier (Base n s) = IsRightBase p n s
IsRight p earlier (Cut i j m ts) = IsRightCut p earlier i j m ts

-- each step is right after those before it
abbrev pub AreRightAfter : Plain → List Step → List Step → Type 0
AreRightAfter p earlier [] = Unit {0}
AreRightAfter p earlier (s ∷ ss) = IsRight p earlier s × AreRightAfter p (earlier ++ s ∷ []) ss

-- a positive term on a root, with a set that isn't empty
abbrev pub IsRootTerm : Plain → Term → Type 0
IsRootTerm p (In n s) = Contains p.roots n × IsTermOf p (In n s) × (is_blank s ≡ false)
IsRootTerm p (NotIn n s) = ⊥

-- each term is a positive one on a root
abbrev pub AreRootTerms : Plain → List Term → Type 0
AreRootTerms p [] = Unit {0}
AreRootTerms p (t ∷ ts) = IsRootTerm p t × AreRootTerms p ts

-- the last step is there, and forbids the roots
abbrev pub ClosesWith : Plain → List Step → Type 0
ClosesWith p [] = ⊥
ClosesWith p (s ∷ []) = AreRootTerms p (says p s)
ClosesWith p (s ∷ t ∷ ss) = ClosesWith p (t ∷ ss)

-- two lists of terms are of one problem
abbrev pub AreOfOne : List Term → List Term → Type 0
AreOfOne left right = (p : Plain) × AreTermsOf p left × AreTermsOf p right

-- The derivation is accepted: each step is right after those before it, and the last forbids what the roots are.
abbrev pub Accepts : Plain → List Step → Type 0
Accepts p steps = AreRightAfter p [] steps × ClosesWith p steps
