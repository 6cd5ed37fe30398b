use Rattle.std.proofs.Common.{◌≡◌, sym, subst}
use Rattle.ul_interner.specs.Known.{Knows}
use Rattle.ul_interner.proofs.ForCallers.{known_stays}
use Rattle.ul_algebra.specs.Answers.{IsDiagram}
use Rattle.ul_algebra.specs.Made.{union_parts}
use Rattle.ul_algebra.specs.Spelled.{tree_of}
use Rattle.ul_algebra.proofs.Kept.{if_share}
use Rattle.ul_algebra.proofs.simplify.union.Goals as goal

pub remembered-requires-clause-a : goal.remembered-requires-clause-a
remembered-requires-clause-a g c = known_stays c.args.algebra.now c.union_anew.new.algebra c.in_ok-made.ensures.knows c.args.d.now c.requires.known

pub remembered-requires-clause-b : goal.remembered-requires-clause-b
remembered-requires-clause-b g c = known_stays c.args.algebra.now c.union_anew.new.algebra c.in_ok-made.ensures.knows c.args.d.now c.requires.known

pub returns-in-Some-clause-diagram : goal.returns-in-Some-clause-diagram
returns-in-Some-clause-diagram g c =
    if_share c.share.result c.in-Some.found.now (λ d. IsDiagram c.args.algebra.now d) c.share.ensures (record { known = c.in-Some.ensures.known; reduced = c.in-Some.ensures.answer.0 })

pub returns-in-Some-clause-tree : goal.returns-in-Some-clause-tree
returns-in-Some-clause-tree g c = if_share c.share.result c.in-Some.found.now (λ d. tree_of d ≡ union_parts (tree_of c.args.d.now)) c.share.ensures c.in-Some.ensures.answer.1

pub returns-clause-knows : goal.returns-clause-knows
returns-clause-knows g c = subst (λ h. Knows c.args.algebra.now h) (sym c.remembered.ensures.same) c.in_ok-made.ensures.knows

pub returns-clause-diagram : goal.returns-clause-diagram
returns-clause-diagram g c =
    let made = c.in_ok-made.made in
    if_share c.remembered.result made (λ d. IsDiagram c.remembered.new.self d) c.remembered.ensures.answer (subst (λ h. IsDiagram h made) (sym c.remembered.ensures.same) c.in_ok-made.ensures.diagram)

pub returns-clause-tree : goal.returns-clause-tree
returns-clause-tree g c = if_share c.remembered.result c.in_ok-made.made (λ d. tree_of d ≡ union_parts (tree_of c.args.d.now)) c.remembered.ensures.answer c.in_ok-made.ensures.tree
