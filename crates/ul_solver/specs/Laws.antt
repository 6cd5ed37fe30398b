-- What is true of best lists of decisions.
use Rattle.std.specs.Prelude.{◌↔◌}
use Rattle.ul_problem.specs.Terms.{Selection}
use Rattle.ul_problem.specs.Plain.{Plain}
use Rattle.ul_problem.specs.Problems.{IsWellFormed}
use Rattle.ul_problem.specs.Serving.{Serves}
use Rattle.ul_problem.specs.Best.{Picks, IsBest}

-- One list is best exactly where some selection serves.
abbrev pub BestExists : Type 0
BestExists = (p : Plain) → IsWellFormed p → ((d : Picks) × IsBest p d) ↔ ((σ : Selection) × Serves p σ)
