-- What contracts say of texts.
use Rattle.std.specs.Prelude.{◌≡◌, ◌≤◌, ℕ, List, [], ◌∷◌, length, true}
use Rattle.ul_nodes.specs.Plain.{Plain}
use Rattle.ul_nodes.specs.Reduced.{IsReduced}
use Rattle.ul_marker_text.specs.Headline.{IsNoTruth}
use Rattle.ul_marker_text.specs.MarkerOfText.{is_readable}
use Rattle.ul_marker_text.specs.MarkerText.{marker_text}
use Rattle.ul_tree.specs.PathList.{Step}

-- a text is that of a reduced tree that isn't the same truth everywhere
pub record IsNodeText (text : List ℕ) (t : Plain) : Type 0 where
  pub reduced : IsReduced t
  pub no_truth : IsNoTruth t
  pub spelled : marker_text t ≡ text

-- no path has more steps than a number
abbrev pub AreWithin : ℕ → List (List Step) → Type 0
AreWithin most [] = Unit {0}
AreWithin most (p ∷ ps) = (length p ≤ most) × AreWithin most ps

-- what is found is a tree, whose text may be read
pub record IsFound (found t : Plain) : Type 0 where
  pub same : found ≡ t
  pub readable : is_readable t ≡ true
