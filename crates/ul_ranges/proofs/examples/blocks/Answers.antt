use Rattle.std.proofs.Common.{refl}
use Rattle.ul_ranges.specs.Flags.{set_of}
use Rattle.ul_ranges.specs.Blocks.{flag, flag_at, flags_of}
use Rattle.ul_ranges.proofs.examples.blocks.Goals as goal

pub returns : goal.returns
unfolding set_of flag flag_at flags_of
returns c = record { counts = refl; low = refl; high = refl; whole = refl }
