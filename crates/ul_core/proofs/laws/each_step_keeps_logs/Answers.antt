use Rattle.std.proofs.Common.{arith, ap, ◌∙◌}
use Rattle.ul_core.specs.Core.{log_of}
use Rattle.ul_core.proofs.RunsLaw.{log_here, log_else, shard_below}
use Rattle.ul_core.proofs.laws.each_step_keeps_logs.Goals as goal

pub returns : goal.returns
returns g c = let f = g.L.Label.hash_of in record {
  own = λ s s' k t answer some takes. ap (λ z. log_of z k) takes.2 ∙ log_here s k t (omega (arith, takes.0.own, shard_below f s t (omega (arith, some))));
  other = λ s s' k j t answer takes apart. ap (λ z. log_of z j) takes.2 ∙ log_else s k j t apart;
  number = λ s s' k t answer takes. ap (λ z. z.claims) takes.2;
  claim = λ s s' answer takes. ap (λ z. z.logs) takes.2;
}
