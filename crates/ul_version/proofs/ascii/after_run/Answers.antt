use Rattle.std.proofs.Common.{ap, drop, ◌∙◌}
use Rattle.std.proofs.lemmas.List.{take_rest}
use Rattle.ul_version.proofs.ByteRuns.{after_all-drop}
use Rattle.ul_version.proofs.ascii.after_run.Goals as goal

pub returns : goal.returns
returns g c =
    let xs = c.args.text.now in
    take_rest xs c.run_len-count.result ∙ (ap (λ n. drop n xs) c.run_len-count.ensures.length
    ∙ after_all-drop (g.C.ByteClass.has c.args.class.now) xs)
