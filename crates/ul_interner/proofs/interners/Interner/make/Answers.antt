use Rattle.std.proofs.Common.{ap, sym, ◌∙◌, subst, rules}
use Rattle.std.proofs.lemmas.Result.{IfOk-weaker}
use Rattle.ul_interner.specs.Logs.{AllBegin, AllKnownIn}
use Rattle.ul_interner.proofs.Knowing.{all_known, made_tree}
use Rattle.ul_interner.proofs.interners.Interner.make.Goals as goal

pub make_here-made-requires-clause-parts : goal.make_here-made-requires-clause-parts
make_here-made-requires-clause-parts g c κs within =
    let before = ap (λ z. z.0.logs) c.take.ensures.taken.1 ∙ ap (λ z. z.logs) c.pass.view_is in
    subst (λ z. AllKnownIn z c.args.parts.items) (sym before) (all_known c.args.pass.now.logs c.args.parts.items c.requires.parts)

pub returns-clause-knows : goal.returns-clause-knows
returns-clause-knows g c =
    let before = ap (λ z. z.0.logs) c.take.ensures.taken.1 ∙ ap (λ z. z.logs) c.pass.view_is in
    let after = ap (λ z. z.0.logs) c.give.ensures.now in record {
      table = search rules;
      logs = subst (λ z. AllBegin z c.give.new.seat.me.0.logs) before (subst (AllBegin c.take.new.seat.me.0.logs) (sym after) c.make_here-made.ensures.knows);
    }

pub returns-clause-tree : goal.returns-clause-tree
returns-clause-tree g c =
    IfOk-weaker c.make_here-made.result (λ m. _) (λ m. _) (λ m e. made_tree c.args.label c.args.parts.items m e.0) c.make_here-made.ensures.made
