-- The main theorem of forks over a catalog: what the fork answer has.
use Rattle.std.specs.Prelude.{◌≡◌, ℕ, ◌+◌, ◌≤◌, List, map, length, true}
use Rattle.std.specs.List.{AllByRecursion}
use Rattle.ul_comparison.specs.Worlds.{WorldFields, IsWorld}
use Rattle.ul_requirement.specs.declared.wish.Strategy.TheVariants.{Deep}
use Rattle.ul_nodes.specs.Plain.{Plain}
use Rattle.ul_tree.specs.Regions.{region_of}
use Rattle.ul_index.specs.Regions.{HasWorld}
use Rattle.ul_index.specs.Serves.{Selection, ServesWhole}
use Rattle.ul_region.specs.Best.{IsBest}
use Rattle.ul_split.specs.Worlds.{ServesAt}
use Rattle.ul_generations.specs.declared.outcomes.Outcome.TheVariants.{Split}
use Rattle.ul_generations.specs.declared.rows.Leaf.{Leaf}
use Rattle.ul_generations.specs.Rows.{Refusal}
use Rattle.ul_generations.specs.Generations.{Answer, refused_at, leaves_are, IsForkAnswer, most_forks}
use Rattle.ul_generations.specs.Laws.{one_if, holders, AreInOrder}
use Rattle.ul_forks.specs.Outcome.{Question, starts_of, IsRefused, TreeOutcome, IsOutcome}

-- the fork answer over trees: its leaves have selections
abbrev pub TreeAnswer : Type 0
TreeAnswer = Answer Plain Selection (Unit {0})

-- a leaf of it: its path, its region and its selection
abbrev pub TreeLeaf : Type 0
TreeLeaf = Leaf Plain Selection

-- a refused region of it, with its path
abbrev pub TreeRefusal : Type 0
TreeRefusal = Refusal Plain (Unit {0})

-- the answer for a region, with the number of regions of each generation
abbrev pub IsAnswer : Question → Plain → List ℕ → TreeAnswer → Type 0
IsAnswer q region counts a = IsForkAnswer (IsOutcome q) region counts a

-- a leaf of the answer: its selection is the best of its region and serves it whole
pub record IsLeaf (q : Question) (l : TreeLeaf) : Type 0 where
  pub is_best : IsBest q.catalog (starts_of q) q.wish (region_of l.region) l.done
  pub serves_whole : ServesWhole q.catalog (starts_of q) (region_of l.region) l.done

-- a refused region of the answer: nothing serves it, and its worlds are the region's
pub record IsRefusal (q : Question) (region : Plain) (r : TreeRefusal) : Type 0 where
  pub refused : IsRefused q r.region
  pub inside : (w : WorldFields) → IsWorld w → region_of r.region w ≡ true → region_of region w ≡ true
  -- under `deep` nothing serves a single world of it either
  pub at_worlds : q.wish.strategy ≡ Deep → (w : WorldFields) → IsWorld w → region_of r.region w ≡ true
      → (s : Selection) → ServesAt q.catalog (starts_of q) w s → ⊥

-- the two that a region is split into: a world of the region is in one of them, and another world in neither; and where
-- the region has a world, both have one
pub record IsCut (t first second : Plain) : Type 0 where
  pub part : (w : WorldFields) → IsWorld w
      → one_if (region_of first w) + one_if (region_of second w) ≡ one_if (region_of t w)
  pub have_worlds : HasWorld (region_of t) → HasWorld (region_of first) × HasWorld (region_of second)

-- what the fork answer of a question has, for any region
pub record ForksOf (q : Question) (region : Plain) : Type 0 where
  -- there is at most one answer
  pub once : (ks ls : List ℕ) (a b : TreeAnswer) → IsAnswer q region ks a → IsAnswer q region ls b
      → (ks ≡ ls) × (a ≡ b)
  -- at most 2,048 generations are judged
  pub few : (counts : List ℕ) (a : TreeAnswer) → IsAnswer q region counts a → length counts ≤ most_forks
  -- a world of the region is in one leaf, and another world in none
  pub part : (counts : List ℕ) (ls : List TreeLeaf) → IsAnswer q region counts (leaves_are ls)
      → (w : WorldFields) → IsWorld w
      → holders (λ t. region_of t w) (map (λ l. l.region) ls) ≡ one_if (region_of region w)
  -- each leaf has its region's best selection, which serves it whole
  pub leaves : (counts : List ℕ) (ls : List TreeLeaf) → IsAnswer q region counts (leaves_are ls)
      → AllByRecursion (IsLeaf q) ls
  -- the leaves stand in path order
  pub order : (counts : List ℕ) (ls : List TreeLeaf) → IsAnswer q region counts (leaves_are ls)
      → AreInOrder (map (λ l. l.path) ls)
  -- nothing serves a refused region, which lies in the region
  pub refusal : (counts : List ℕ) (r : TreeRefusal) → IsAnswer q region counts (refused_at r)
      → IsRefusal q region r

-- what holds of each question and region
pub record ForkLaws : Type 0 where
  -- a region has at most one outcome
  pub outcome_once : (q : Question) (t : Plain) (x y : TreeOutcome) → IsOutcome q t x → IsOutcome q t y
      → x ≡ y
  -- a split cuts the region's worlds
  pub cut : (q : Question) (t first second : Plain) → IsOutcome q t (Split first second) → IsCut t first second
  -- what the fork answer has
  pub forks : (q : Question) (region : Plain) → ForksOf q region
