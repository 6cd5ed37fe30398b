use Rattle.std.proofs.Common.{[], ◌∷◌, refl, ap, sym, ◌∙◌}
use Rattle.ul_nodes.specs.Plain.{Plain}
use Rattle.ul_algebra.specs.Spelled.{tree_of}
use Rattle.ul_lock_write.specs.Markers.{first_over}
use Rattle.ul_merge.proofs.OverFacts.{one_printed, one_unprinted}
use Rattle.ul_merge.proofs.truths.marker_of.Goals as goal

pub returns-then-is_printable : goal.returns-then-is_printable
returns-then-is_printable c =
    let tree = c.of.ensures ∙ c.in_ok-tree.ensures in
    record { marker = (tree, ap (λ (t : Plain). first_over (t ∷ [])) tree ∙ one_printed (tree_of c.args.diagram.now) (sym c.is_printable.ensures ∙ c.if-is_printable.true)) }

pub returns : goal.returns
returns c = record { marker = (tree_of c.args.diagram.now, refl, one_unprinted (tree_of c.args.diagram.now) (sym c.is_printable.ensures ∙ c.if-is_printable.false)) }
