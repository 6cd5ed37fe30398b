-- What a split and a region without one come to.
use Rattle.std.specs.Prelude.{◌≡◌, List, Contains, Bool, true, not, ◌&&◌, ◌||◌}
use Rattle.ul_base.specs.declared.node.Node.{Node}
use Rattle.ul_comparison.specs.Worlds.{WorldFields}
use Rattle.ul_requirement.specs.declared.wish.Strategy.{Strategy}
use Rattle.ul_index.specs.Regions.{Region, Somewhere}
use Rattle.ul_index.specs.Catalogs.{Packages, is_release_fit}
use Rattle.ul_index.specs.Serves.{Selection, Serves, ServesWhole}
use Rattle.ul_split.specs.Split.{Decided, AreDecided, SplitsBy, IsUnsplit}

-- at most one truth splits a region, and where one does the region isn't unsplit
pub record SplitOnce : Type 0 where
  pub once : (R : Region) (ds : List Decided) (p q : WorldFields → Bool) → SplitsBy R ds p → SplitsBy R ds q → p ≡ q
  pub not_both : (R : Region) (ds : List Decided) (p : WorldFields → Bool) → SplitsBy R ds p → IsUnsplit R ds → ⊥

-- The children of a split: each has a world, if each decided release is fit at some world of the region; they have no world in
-- common; and together they are the region.
pub record Children : Type 0 where
  pub have_worlds : (R : Region) (ds : List Decided) (truth : WorldFields → Bool) → SplitsBy R ds truth
      → ((d : Decided) → Contains ds d → Somewhere R (is_release_fit d.release)) → Somewhere R truth × Somewhere R (λ w. not (truth w))
  pub apart : (R : Region) (truth : WorldFields → Bool) (w : WorldFields) → (R w && truth w) ≡ true → (R w && not (truth w)) ≡ true → ⊥
  pub together : (R : Region) (truth : WorldFields → Bool) (w : WorldFields) → ((R w && truth w) || (R w && not (truth w))) ≡ R w

-- what serves a region that nothing splits serves it whole
abbrev pub UnsplitServesWhole : Type 0
UnsplitServesWhole = (strategy : Strategy) (c : Packages) (starts : List Node) (R : Region) (s : Selection) (ds : List Decided) → AreDecided c s ds → IsUnsplit R ds → Serves strategy c starts R s → ServesWhole c starts R s
