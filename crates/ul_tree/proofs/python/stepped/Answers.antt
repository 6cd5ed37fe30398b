use Rattle.std.proofs.Common.{◌∷◌, map, length, sym, ap, ◌∙◌}
use Rattle.ul_specifier.proofs.ForCallers.{not_empty}
use Rattle.ul_nodes.specs.Closing.{python_of}
use Rattle.ul_tree.specs.Views.{tree_view}
use Rattle.ul_base.proofs.ForCallers.{made_holds}
use Rattle.ul_tree.proofs.Shapes.{view_python}
use Rattle.ul_tree.proofs.Stepped.{python_stepped}
use Rattle.ul_tree.proofs.python.stepped.Goals as goal

pub returns : goal.returns
returns c =
    let starts = c.args.starts.now in
    let made = c.in_ok-starts.parts in
    let both = c.in_ok-starts.ensures in
    let pieces = made_holds c.pieces.result c.in_ok-starts.starts _ both.0 c.pieces.ensures in
    let parts = made_holds c.parts.result made _ both.1 c.parts.ensures in
    view_python c.in_ok-starts.starts made
    ∙ ap (λ z. python_of z (map tree_view made.items)) pieces
    ∙ ap (λ z. python_of (0 ∷ starts) z) parts
    ∙ python_stepped c.args.first starts (not_empty (length starts) (sym c.if-is_empty.false ∙ c.is_empty.ensures))
