-- What holds of all project files.
use Rattle.std.specs.Prelude.{◌≡◌, ℕ, List}
use Rattle.ul_project.specs.Fields.{ProjectFields}
use Rattle.ul_project.specs.Headline.{IsSaid, SaysNowhere}

-- bytes say at most one project, and none where the project would support no world
pub record OneProject : Type 0 where
  pub one : (bytes : List ℕ) (p q : ProjectFields) → IsSaid bytes p → IsSaid bytes q → p ≡ q
  pub somewhere : (bytes : List ℕ) (p : ProjectFields) → IsSaid bytes p → SaysNowhere bytes → ⊥
