use Rattle.std.proofs.Common.{◌≡◌, ◌%◌, ◌↔◌, ap, sym, subst, ◌∙◌, length}
use Rattle.std.specs.Prelude.{IsTrue}
use Rattle.ul_core.specs.Core.{log_of, shard_of}
use Rattle.ul_core.specs.Trees.{Has}
use Rattle.ul_core.proofs.Logs.{log_at}
use Rattle.ul_core.proofs.states.CoreState.stands.Goals as goal

pub returns : goal.returns
returns g c =
    let s = c.args.self.now in
    let t = c.args.plant.now in
    let own : c.shard_at.result ≡ shard_of g.L.Label.hash_of s t = c.shard_at.ensures.shard ∙ ap (λ h. h % length s.logs) c.requires in
    let log : c.as_slice.result.now ≡ log_of s (shard_of g.L.Label.hash_of s t) =
    c.as_slice.ensures.value ∙ sym (log_at _ _ _ _ _ c.self.view_is c.shard_at.ensures.below c.index-log.ensures) ∙ ap (log_of s) own in
    subst (λ ts. IsTrue c.has.result ↔ Has ts t) log c.has.ensures
