use Rattle.std.proofs.Common.{Some, ap, sym, ◌∙◌}
use Rattle.std.specs.Option.{option_map}
use Rattle.ul_sound.specs.Merged.{files_in}
use Rattle.ul_merge.specs.Over.{block_by}
use Rattle.ul_merge.proofs.blocks.whole_block.Goals as goal

pub returns-in_ok-block-in-Some : goal.returns-in_ok-block-in-Some
returns-in_ok-block-in-Some c =
    let block = c.in_ok-block-in-Some.ensures in
    let key = c.args.key.now in
    (λ i. Some (record {
      name = block.name i;
      version = block.version i;
      files = block.files i;
      edges = block.edges i;
      extras = block.extras i;
    }))
    ∙ sym (ap (block_by key.name.now key.version.now (files_in (option_map (λ r. r.now) c.args.release))) c.in-Some.is)
