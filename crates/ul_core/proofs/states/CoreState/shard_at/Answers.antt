use Rattle.std.proofs.Common.{◌≡◌, ◌%◌, arith, ap, length}
use Rattle.ul_core.proofs.Logs.{length_logs}
use Rattle.ul_core.proofs.states.CoreState.shard_at.Goals as goal

pub returns-clause-shard : goal.returns-clause-shard
returns-clause-shard g c =
    let count : c.len.result ≡ length c.args.self.now.logs = omega (arith, c.len.ensures, c.self.inside.logs.ok.0, length_logs _ _ _ c.self.view_is) in
    ap (λ n. c.args.hash % n) count
