use Rattle.std.proofs.Common.{refl, ◌∙◌}
use Rattle.ul_merge.proofs.Gathers.{joins_last}
use Rattle.ul_merge.proofs.gathering.grow_run.Goals as goal

pub returns : goal.returns
returns g c = joins_last g.K.Key.cmp _ _ _ c.index_mut.result.now _ _ (c.len-last.ensures ∙ c.args.runs.now.ok.0) c.requires c.index_mut.ensures.value refl c.in_ok-extend_from_slice.ensures.items c.as_slice.ensures.value
