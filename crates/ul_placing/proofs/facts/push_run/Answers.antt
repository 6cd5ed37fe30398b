use Rattle.std.proofs.Common.{◌∷◌, ◌++◌, replicate, ap, ◌∙◌}
use Rattle.ul_placing.specs.Facts.{needs_ranked}
use Rattle.ul_placing.proofs.Running.{copies_put, run_mapped}
use Rattle.ul_placing.proofs.facts.push_run.Goals as goal

pub returns : goal.returns
returns c =
    let row = c.in_ok-row.ensures in
    copies_put c.args.rows.now.items c.push_copies.new.rows.items c.push.new.self.items c.args.run.others c.in_ok-row.row c.in_ok-push_copies.ensures c.in_ok-push.ensures.items
    ∙ ap (λ z. c.args.rows.now.items ++ z)
    (ap (λ z. z ∷ replicate c.args.run.others z) row ∙ run_mapped (needs_ranked c.args.ranks.now) c.args.run)
