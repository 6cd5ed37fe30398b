-- One selection is the best of a region exactly where some selection serves it: the region's problem has best picks,
-- whose names are the selection.
use Rattle.std.proofs.Common.{◌≡◌, ◌<◌, ◌++◌, ℕ, [], ◌∷◌, length, Some, refl, ap, subst}
use Rattle.ul_base.specs.declared.node.Node.{Node}
use Rattle.ul_version.specs.Fields.{Fields}
use Rattle.ul_problem.specs.Best.{Agrees, IsBestFrom as IsBestPlacesFrom, Picks}
use Rattle.ul_problem.specs.Plain.{Plain as Problem, size_in, size_of}
use Rattle.ul_problem.specs.Terms.{Selection as Places}
use Rattle.ul_problem.proofs.ForCallers.{node_of_size}
use Rattle.ul_solver.specs.Laws.{BestExists}
use Rattle.ul_index.specs.Serves.{Selection}
use Rattle.ul_region.specs.Laws.{BestNames, BestServes, ServingPlaces}
use Rattle.ul_region.specs.Naming.{AreNamed, IsNamed}
use Rattle.ul_forks.specs.Outcome.{starts_of}
use Rattle.ul_forks.proofs.Picking.{there}
use Rattle.laws_problems.specs.Exists.{ProblemExists}
use Rattle.laws_forks.specs.Exists.{BestWhereServed}

-- ---- names of picks

-- a pick of one of a node's versions has a name
pick_named : (p : Problem) (e : ℕ × ℕ) → e.1 < size_of p e.0 → (d : Node × Fields) × IsNamed p e d
pick_named p e l =
    let f = node_of_size p e.0 e.1 l in
    let within : e.1 < length f.0.versions = subst (λ (n : ℕ). e.1 < n) (ap size_in f.1) l in
    let v = there f.0.versions e.1 within in
    ((f.0.node, v.0), record { facts = f.0; at = f.1; node = refl; version = v.1 })

agrees_last : (σ : Places) (d : Picks) (e : ℕ × ℕ) → Agrees σ (d ++ e ∷ []) → σ e.0 ≡ Some e.1
agrees_last σ [] e a = a.0
agrees_last σ (x ∷ d) e a = agrees_last σ d e a.1

-- each best pick is one that a serving selection has, so one of its node's versions
picks_named : (p : Problem) (d rest : Picks) → IsBestPlacesFrom p d rest → (s : Selection) × AreNamed p rest s
picks_named p d [] b = ([], tt)
picks_named p d (e ∷ rest) b =
    let can = b.1.2 in
    let one = pick_named p e (can.1.within e.0 e.1 (agrees_last can.0 d e can.2)) in
    let more = picks_named p (d ++ e ∷ []) rest b.2 in
    (one.0 ∷ more.0, (one.1, more.1))

-- ---- the law

-- the laws on which the best selection rests
pub record BestLaws : Type 0 where
  pub problem : ProblemExists
  pub serves : BestServes
  pub places : ServingPlaces
  pub names : BestNames
  pub exists : BestExists

pub best_where_served : BestLaws → BestWhereServed
best_where_served laws q R asked has = (
  λ b. (b.0, laws.serves (q.name, q.extras) q.catalog q.wish R b.0 b.1),
  λ s.
      (let p = laws.problem q.catalog (starts_of q) q.wish R asked has in
      let σ = laws.places q.catalog (starts_of q) q.wish R p.0 s.0 p.1 s.1 in
      let picks = (laws.exists p.0 p.1.well_formed).1 (σ.0, σ.2) in
      let named = picks_named p.0 [] picks.0 picks.1 in
      (named.0, laws.names q.catalog (starts_of q) q.wish R p.0 picks.0 named.0 p.1 named.1 picks.1)),
)
