-- A name and a version that may follow those of blocks.
use Rattle.std.proofs.Common.{◌≡◌, ℕ, List, [], ◌∷◌, true, refl, ap}
use Rattle.std.specs.Ordering.{is_le}
use Rattle.ul_base.specs.Names.{name_above as above}
use Rattle.ul_base.proofs.ForCallers.{name_below}
use Rattle.ul_version.specs.Fields.{Fields, plain, version_above as version_above_of}
use Rattle.ul_version.proofs.ForCallers.{version_below}
use Rattle.ul_lock.specs.declared.parts.Locked.{Locked}
use Rattle.ul_lock.specs.Orders.{block_less}
use Rattle.ul_lock_read.specs.Automaton.{tops, name_tops, plain_block}
use Rattle.ul_lock_read.proofs.Rising.{tops_when}

-- ---- blocks

-- a block of a greater name may follow
unfoldable pub name_above : List Locked → List ℕ
name_above [] = 48 ∷ []
name_above (b ∷ []) = above b.name
name_above (b ∷ c ∷ bs) = name_above (c ∷ bs)

pub name_tops_above : (bs : List Locked) → name_tops bs (name_above bs) ≡ true
unfolding name_above
name_tops_above [] = refl
name_tops_above (b ∷ []) = ap is_le (name_below b.name)
name_tops_above (b ∷ c ∷ bs) = name_tops_above (c ∷ bs)

-- a block of this name may follow, with a version that is great enough
unfoldable pub version_above : List Locked → Fields
version_above [] = plain (0 ∷ [])
version_above (b ∷ []) = version_above_of b.version
version_above (b ∷ c ∷ bs) = version_above (c ∷ bs)

pub tops_above : (bs : List Locked) (n : List ℕ) → name_tops bs n ≡ true → tops block_less bs (plain_block n (version_above bs) [] [] []) ≡ true
unfolding version_above
tops_above [] n h = refl
tops_above (b ∷ []) n h = tops_when b n (version_above_of b.version) h (version_below b.version)
tops_above (b ∷ c ∷ bs) n h = tops_above (c ∷ bs) n h
