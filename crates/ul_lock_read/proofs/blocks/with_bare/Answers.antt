use Rattle.std.proofs.Common.{◌∙◌, ◌++◌, ◌∷◌, [], ap, List}
use Rattle.ul_lock.specs.declared.parts.Edge.{Edge}
use Rattle.ul_lock.specs.declared.parts.Extra.{Extra}
use Rattle.ul_lock.specs.Orders.{extra_less}
use Rattle.ul_lock_read.specs.Automaton.{tops}
use Rattle.ul_lock_read.specs.declared.states.State.TheVariants.{InExtras}
use Rattle.ul_lock_read.proofs.Steps.{follows, refuses, made_is}
use Rattle.ul_lock_read.proofs.blocks.with_bare.Goals as goal

pub returns-in_ok-kept : goal.returns-in_ok-kept
returns-in_ok-kept c =
    let grown = made_is c.with_extra-made.result c.in_ok-kept.extras (c.args.extras ++ record { name = c.args.extra; edges = c.new.result } ∷ []) c.with_extra-made.ensures c.in_ok-kept.ensures.1 in
    follows c.extra_tops.result _ c.state_in_extras.result _ c.if-extra_tops.true (c.extra_tops.ensures ∙ ap (λ (xs : List Extra). tops extra_less xs (record { name = c.args.extra; edges = [] })) c.as_slice.ensures)
    (c.state_in_extras.ensures ∙ (ap (λ k. InExtras k.0.head k.0.blocks k.0.name k.0.version k.1 k.2 c.in_ok-kept.extras) c.in_ok-kept.ensures.0
    ∙ (ap (λ (xs : List Extra). InExtras c.args.top.head c.args.top.blocks c.args.top.name c.args.top.version c.args.files c.args.edges xs) grown
    ∙ ap (λ (es : List Edge). InExtras c.args.top.head c.args.top.blocks c.args.top.name c.args.top.version c.args.files c.args.edges (c.args.extras ++ record { name = c.args.extra; edges = es } ∷ [])) c.new.ensures)))

pub returns-else-extra_tops : goal.returns-else-extra_tops
returns-else-extra_tops c = refuses c.extra_tops.result _ c.refused.result _ c.if-extra_tops.false (c.extra_tops.ensures ∙ ap (λ (xs : List Extra). tops extra_less xs (record { name = c.args.extra; edges = [] })) c.as_slice.ensures) c.refused.ensures
