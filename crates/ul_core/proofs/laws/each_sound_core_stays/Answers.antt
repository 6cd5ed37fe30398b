use Rattle.std.proofs.Common.{arith}
use Rattle.ul_core.proofs.RunsLaw.{sound_run}
use Rattle.ul_core.proofs.laws.each_sound_core_stays.Goals as goal

pub returns : goal.returns
returns g c s s' events answers some sound run = sound_run g.L.Label.hash_of s events answers s' (omega (arith, some)) sound run
