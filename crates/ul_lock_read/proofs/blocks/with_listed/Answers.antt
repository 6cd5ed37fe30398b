use Rattle.std.proofs.Common.{◌∙◌, ◌++◌, ◌∷◌, [], ap, List}
use Rattle.ul_lock.specs.declared.parts.Edge.{Edge}
use Rattle.ul_lock.specs.Orders.{edge_less}
use Rattle.ul_lock_read.specs.Automaton.{tops}
use Rattle.ul_lock_read.specs.declared.states.State.TheVariants.{InExtra}
use Rattle.ul_lock_read.proofs.Steps.{follows, refuses, made_is}
use Rattle.ul_lock_read.proofs.blocks.with_listed.Goals as goal

pub returns-in_ok-kept : goal.returns-in_ok-kept
returns-in_ok-kept c =
    let grown = made_is c.with.result c.in_ok-kept.listed (c.args.listed ++ c.args.edge ∷ []) c.with.ensures c.in_ok-kept.ensures.1 in
    follows c.edge_tops.result _ c.state_in_extra.result _ c.if-edge_tops.true (c.edge_tops.ensures ∙ ap (λ (ls : List Edge). tops edge_less ls c.args.edge) c.as_slice.ensures)
    (c.state_in_extra.ensures ∙ (ap (λ k. InExtra k.0.head k.0.blocks k.0.name k.0.version k.1 k.2 k.3 k.4 c.in_ok-kept.listed) c.in_ok-kept.ensures.0
    ∙ ap (λ (ls : List Edge). InExtra c.args.top.head c.args.top.blocks c.args.top.name c.args.top.version c.args.files c.args.edges c.args.extras c.args.extra ls) grown))

pub returns-else-edge_tops : goal.returns-else-edge_tops
returns-else-edge_tops c = refuses c.edge_tops.result _ c.refused.result _ c.if-edge_tops.false (c.edge_tops.ensures ∙ ap (λ (ls : List Edge). tops edge_less ls c.args.edge) c.as_slice.ensures) c.refused.ensures
