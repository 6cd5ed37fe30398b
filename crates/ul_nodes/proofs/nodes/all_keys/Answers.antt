use Rattle.std.proofs.Common.{◌++◌, ap, sym, ◌∙◌, arith}
use Rattle.std.proofs.lemmas.List.{append-nil}
use Rattle.ul_nodes.specs.Apply.{keys}
use Rattle.ul_nodes.specs.Keys.{keys_view, branches_of}
use Rattle.ul_nodes.proofs.Halves.{from_end}
use Rattle.ul_nodes.proofs.nodes.all_keys.Goals as goal

pub returns-clause-keys : goal.returns-clause-keys
returns-clause-keys g c =
    let bs = branches_of (g.Kind.Nodes.tree c.args.node.now) in
    let n = from_end bs c.loop-index.index (omega (arith, c.branch_count-index-end.ensures)) in
    let ks = keys_view c.loop-index.made.items in
    sym (append-nil ks) ∙ ap (λ z. ks ++ keys z) (sym n) ∙ c.loop-index.invariant.keys
