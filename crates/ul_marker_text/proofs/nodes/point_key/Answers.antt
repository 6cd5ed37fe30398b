use Rattle.std.proofs.Common.{sym, ◌∙◌}
use Rattle.ul_nodes.specs.Keys.{key_view}
use Rattle.ul_marker_text.specs.StepViews.{comparison_key}
use Rattle.ul_marker_text.proofs.KeyFacts.{holds_key, extra_mark}
use Rattle.ul_marker_text.proofs.nodes.point_key.Goals as goal

pub returns-then-is_eq : goal.returns-then-is_eq
returns-then-is_eq c =
    holds_key c.args.level c.in-Opaque.atom (comparison_key c.args.comparison) (key_view c.key_of.result) c.in-Opaque.is c.tell_atom.ensures
    c.key_of.ensures c.cmp.ensures (sym c.is_eq.ensures ∙ c.if-is_eq.true)

pub returns-in-None : goal.returns-in-None
returns-in-None c h = extra_mark c.args.level (comparison_key c.args.comparison) c.in-Extra.is c.in-None.ensures h
