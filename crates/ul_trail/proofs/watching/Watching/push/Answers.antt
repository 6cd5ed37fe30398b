use Rattle.std.proofs.Common.{◌≡◌, arith, length, subst, sym, List}
use Rattle.ul_problem.specs.Terms.{IsOrdered}
use Rattle.ul_problem.specs.declared.term.Term.{Term}
use Rattle.ul_trail.specs.Parts.{AreBelow}
use Rattle.ul_trail.specs.Watched.{IsWatched}
use Rattle.ul_trail.proofs.Rows.{last_held, watched_push}
use Rattle.ul_trail.proofs.watching.Watching.push.Goals as goal

term-is : (c : goal.After-terms) → c.terms.result.now ≡ c.args.incompat
term-is c = last_held c.args.self.now.terms.items c.push.new.self.items c.args.incompat c.index.result.now c.terms.result.now c.len-place.result c.in_ok-push.ensures.items (omega arith) c.index.ensures c.terms.ensures.value

pub list-requires-clause-ordered : goal.list-requires-clause-ordered
list-requires-clause-ordered c = subst IsOrdered (sym (term-is c)) c.requires.ordered

pub list-requires-clause-nodes : goal.list-requires-clause-nodes
list-requires-clause-nodes c = subst (λ (ts : List Term). AreBelow ts (length c.args.self.now.rows.items)) (sym (term-is c)) c.requires.nodes

pub returns-clause-watched : goal.returns-clause-watched
returns-clause-watched c = subst (λ (t : List (List Term)). IsWatched t c.list.new.rows.items) (sym c.in_ok-push.ensures.items)
    (watched_push c.args.self.now.terms.items c.args.self.now.rows.items c.list.new.rows.items c.args.incompat c.terms.result.now c.len-place.result c.requires.watched c.in_ok-list.ensures.width (omega arith)
    (last_held c.args.self.now.terms.items c.push.new.self.items c.args.incompat c.index.result.now c.terms.result.now c.len-place.result c.in_ok-push.ensures.items (omega arith) c.index.ensures c.terms.ensures.value) c.in_ok-list.ensures.rows)
