use Rattle.ul_claims.proofs.Keeping.{opens}
use Rattle.ul_claims.proofs.counters.Claims.begin.Goals as goal

pub of_words-requires : goal.of_words-requires
of_words-requires c = opens
