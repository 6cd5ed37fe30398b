use Rattle.std.proofs.Common.{◌∙◌, ◌++◌, ◌∷◌, [], ap, List}
use Rattle.ul_lock.specs.declared.parts.Edge.{Edge}
use Rattle.ul_lock.specs.declared.parts.Extra.{Extra}
use Rattle.ul_lock_read.specs.Automaton.{filled}
use Rattle.ul_lock_read.specs.declared.states.State.TheVariants.{InExtras}
use Rattle.ul_lock_read.proofs.Steps.{follows, refuses, made_is}
use Rattle.ul_lock_read.proofs.blocks.closed_listed.Goals as goal

pub returns-in_ok-kept : goal.returns-in_ok-kept
returns-in_ok-kept c =
    let grown = made_is c.with_extra.result c.in_ok-kept.extras (c.args.extras ++ record { name = c.args.extra; edges = c.args.listed } ∷ []) c.with_extra.ensures c.in_ok-kept.ensures.1 in
    follows c.any_edge.result _ c.state_in_extras.result _ c.if-any_edge.true (c.any_edge.ensures ∙ ap (λ (ls : List Edge). filled ls) c.as_slice.ensures)
    (c.state_in_extras.ensures ∙ (ap (λ k. InExtras k.0.head k.0.blocks k.0.name k.0.version k.1 k.2 c.in_ok-kept.extras) c.in_ok-kept.ensures.0
    ∙ ap (λ (xs : List Extra). InExtras c.args.top.head c.args.top.blocks c.args.top.name c.args.top.version c.args.files c.args.edges xs) grown))

pub returns-else-any_edge : goal.returns-else-any_edge
returns-else-any_edge c = refuses c.any_edge.result _ c.refused.result _ c.if-any_edge.false (c.any_edge.ensures ∙ ap (λ (ls : List Edge). filled ls) c.as_slice.ensures) c.refused.ensures
