use Rattle.std.proofs.Common.{◌≡◌, sym, subst}
use Rattle.std.specs.Prelude.{IfOk}
use Rattle.ul_prepared.specs.Clauses.{made_by}
use Rattle.ul_prepared.specs.declared.clauses.Operation.{Operation}
use Rattle.ul_prepared.proofs.clauses.put_made.Goals as goal

pub returns-in-Meet : goal.returns-in-Meet
returns-in-Meet c = subst (λ (o : Operation). IfOk c.put_meet.result (λ _. c.put_meet.new.self ≡ made_by o c.args.set.now c.args.others.now)) (sym c.in-Meet.is) c.put_meet.ensures.ok

pub returns-in-Join : goal.returns-in-Join
returns-in-Join c = subst (λ (o : Operation). IfOk c.put_join.result (λ _. c.put_join.new.self ≡ made_by o c.args.set.now c.args.others.now)) (sym c.in-Join.is) c.put_join.ensures.ok

pub returns-in-Less : goal.returns-in-Less
returns-in-Less c = subst (λ (o : Operation). IfOk c.put_less.result (λ _. c.put_less.new.self ≡ made_by o c.args.set.now c.args.others.now)) (sym c.in-Less.is) c.put_less.ensures.ok
