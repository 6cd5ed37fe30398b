use Rattle.std.proofs.Common.{◌∙◌, ap, sym}
use Rattle.ul_project.specs.Results.{◌>>=◌}
use Rattle.ul_project.specs.Sources.{some_items, sources_path}
use Rattle.ul_project.proofs.Values.{some_values}
use Rattle.ul_project.proofs.sources.some_items.Goals as goal

pub returns : goal.returns
returns c =
    let path = sources_path c.args.name.now in
    ap (λ read. read >>= some_items path) c.in_ok-items.ensures
    ∙ some_values path c.in_ok-items.items.now (sym c.is_empty.ensures ∙ c.if-is_empty.false)
