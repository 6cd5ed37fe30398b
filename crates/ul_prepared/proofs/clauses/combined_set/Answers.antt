use Rattle.std.proofs.Common.{◌≡◌, ap, length, ◌∙◌}
use Rattle.ul_base.proofs.ForCallers.{made_holds}
use Rattle.ul_prepared.specs.Clauses.{made_by}
use Rattle.ul_prepared.proofs.Loops.{twice_handed}
use Rattle.ul_prepared.proofs.clauses.combined_set.Goals as goal

pub put_made-put-requires : goal.put_made-put-requires
put_made-put-requires c = ap length c.in_ok-own.ensures.0 ∙ made_holds c.args.made c.in_ok-own.others (λ z. length c.args.set ≡ length z) c.in_ok-own.ensures.1 c.requires

pub returns : goal.returns
returns c =
    let others = c.in_ok-own.others in
    let whole = c.put_made-put.new.set in (
      others,
      c.in_ok-own.ensures.1,
      c.in_ok-both.ensures.0
          ∙ (twice_handed c.put_made-put.result c.made_from.result c.in_ok-both.both.1 (λ z. whole ≡ made_by c.args.operation c.in_ok-own.own others) c.in_ok-both.ensures.1 c.made_from.ensures c.put_made-put.ensures ∙ ap (λ z. made_by c.args.operation z others) c.in_ok-own.ensures.0),
    )
