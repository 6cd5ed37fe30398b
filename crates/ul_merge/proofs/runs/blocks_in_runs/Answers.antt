use Rattle.std.proofs.Common.{sym, ◌∙◌}
use Rattle.ul_lock_write.specs.Markers.{package_markers}
use Rattle.ul_merge.specs.Blocks.{MakesBlock, catalog_in, leaves_in, supported_in}
use Rattle.ul_merge.specs.Runs.{run_of}
use Rattle.ul_merge.proofs.RunFacts.{runs_made}
use Rattle.ul_merge.proofs.Sharing.{shared}
use Rattle.ul_merge.proofs.runs.blocks_in_runs.Goals as goal

pub run_all-requires-sync-J : goal.run_all-requires-sync-J
run_all-requires-sync-J g c κs within = search shared depth 60 fits 20000

pub run_all-requires-send-J-Out : goal.run_all-requires-send-J-Out
run_all-requires-send-J-Out g c κs within = search shared depth 60 fits 20000

pub returns : goal.returns
returns g c =
    let s = c.args.sources.now in
    let results = c.in_ok-made.ensures.results in
    runs_made (MakesBlock (catalog_in s) (leaves_in s) (supported_in s)) package_markers (run_of c.args.groups.now) c.in_ok-cuts.cuts.items c.in_ok-made.made.items c.args.groups.now c.in_ok-blocks.blocks
    c.in_ok-cuts.ensures.all (results.len ∙ sym c.in_ok-cuts.ensures.count) (λ k o h x i. results.fits_place k o h x i) c.in_ok-blocks.ensures
