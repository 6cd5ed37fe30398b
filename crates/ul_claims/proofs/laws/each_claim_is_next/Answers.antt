use Rattle.ul_claims.proofs.CoreClaims.{each_claim}
use Rattle.ul_claims.proofs.laws.each_claim_is_next.Goals as goal

pub returns : goal.returns
returns g c = each_claim g.L.Label.hash_of
