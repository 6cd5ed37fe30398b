-- All worlds, as a part of them.
use Rattle.std.proofs.Common.{refl}
use Rattle.ul_lock.specs.Region.{all_worlds, IsRegion}

-- all worlds are a region
pub all_region : IsRegion all_worlds
all_region = record { reduced = tt; not_false = λ e. absurd cc; no_extra = refl }
