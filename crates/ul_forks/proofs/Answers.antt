-- What the fork answer has.
use Rattle.std.proofs.Common.{◌≡◌, ℕ, List, [], ◌∷◌}
use Rattle.std.specs.List.{AllByRecursion}
use Rattle.ul_nodes.specs.Plain.{Plain}
use Rattle.ul_tree.specs.Regions.{region_of}
use Rattle.ul_index.specs.Serves.{Selection}
use Rattle.ul_region.specs.Laws.{BestServes}
use Rattle.ul_split.specs.CoreLaws.{CoreChildren, NoneAtWorlds}
use Rattle.ul_generations.specs.declared.outcomes.Outcome.{Outcome}
use Rattle.ul_generations.specs.declared.rows.Leaf.{Leaf}
use Rattle.ul_generations.specs.Rows.{Refusal}
use Rattle.ul_generations.specs.Generations.{refused_at}
use Rattle.ul_generations.proofs.Once.{answer_once}
use Rattle.ul_generations.proofs.Endings.{few_generations}
use Rattle.ul_generations.proofs.Reached.{leaves_are_done, leaves_part, refused_is_refused}
use Rattle.ul_generations.proofs.PathOrder.{leaves_in_order}
use Rattle.ul_split.specs.Laws.{Children, UnsplitServesWhole}
use Rattle.ul_forks.specs.Outcome.{Question, starts_of, IsDone, IsOutcome}
use Rattle.ul_forks.specs.Headline.{IsAnswer, IsLeaf, IsRefusal, ForkLaws}
use Rattle.ul_forks.proofs.OutcomeOnce.{OnceLaws, outcome_once}
use Rattle.ul_forks.proofs.Worlds.{cuts, split_cuts}

-- leaves that are done
leaves_each : BestServes → UnsplitServesWhole → (q : Question) (ls : List (Leaf Plain Selection)) → AllByRecursion (λ (l : Leaf Plain Selection). IsDone q l.region l.done) ls → AllByRecursion (IsLeaf q) ls
leaves_each best_serves whole q [] h = tt
leaves_each best_serves whole q (l ∷ ls) h = (
  record {
    is_best = h.0.are.is_best;
    serves_whole = whole q.wish.strategy q.catalog (starts_of q) (region_of l.region) l.done h.0.decided h.0.are.are_decided h.0.unsplit (best_serves (q.name, q.extras) q.catalog q.wish (region_of l.region) l.done h.0.are.is_best);
  },
  leaves_each best_serves whole q ls h.1,
)

refusal : NoneAtWorlds → (q : Question) (region : Plain) (counts : List ℕ) (r : Refusal Plain (Unit {0})) → IsAnswer q region counts (refused_at r) → IsRefusal q region r
refusal none q region counts r h = let found = refused_is_refused (IsOutcome q) region counts r h in record {
  refused = found.outcome.refused;
  inside = λ w is e. found.inside (λ t. region_of t w) (cuts q w is) e;
  at_worlds = λ deep. let whole = found.outcome.unsplit deep in
      none q.catalog (starts_of q) q.wish (region_of r.region) whole.problem whole.core deep whole.has.problem whole.has.core whole.throughout;
}

pub fork_laws : OnceLaws → Children → CoreChildren → NoneAtWorlds → UnsplitServesWhole → ForkLaws
fork_laws laws children core_children none whole = record {
  outcome_once = single;
  cut = λ q t a b h. split_cuts children core_children q t a b h;
  forks = λ q region. record {
    once = λ ks ls a b h k. answer_once (IsOutcome q) (single q) region ks ls a b h k;
    few = few_generations (IsOutcome q) region;
    part = λ counts ls h w is. leaves_part (IsOutcome q) (λ t. region_of t w) (cuts q w is) region counts ls h;
    leaves = λ counts ls h. leaves_each laws.best_serves whole q ls (leaves_are_done (IsOutcome q) region counts ls h);
    order = leaves_in_order (IsOutcome q) region;
    refusal = refusal none q region;
  };
}
  where
    single : (q : Question) (t : Plain) (x y : Outcome Plain Selection (Unit {0})) → IsOutcome q t x → IsOutcome q t y → x ≡ y
    single = outcome_once laws
