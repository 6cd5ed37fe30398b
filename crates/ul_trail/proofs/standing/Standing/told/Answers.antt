use Rattle.std.proofs.Common.{◌≡◌, ℕ, subst, sym, ◌∙◌, get_or}
use Rattle.ul_problem.specs.Terms.{node_of}
use Rattle.ul_trail.proofs.Mirrors.{known_at, told}
use Rattle.ul_trail.proofs.standing.Standing.told.Goals as goal

abbrev known-is : (c : goal.After-index-known) → c.index-known.result.now ≡ get_or c.args.self.now.known.items (node_of c.args.term.now) c.index-known.result.now
known-is c = subst (λ (n : ℕ). c.index-known.result.now ≡ get_or c.args.self.now.known.items n c.index-known.result.now) c.node.ensures c.index-known.ensures

pub relation-requires-clause-sizes : goal.relation-requires-clause-sizes
relation-requires-clause-sizes c = c.requires.sized.1 ∙ sym (known_at c.args.self.now.sizes.items c.args.self.now.known.items c.args.self.now.before.items c.args.self.now.facts.items _ c.index-known.result.now c.requires.standing c.requires.sized.0 (known-is c)).fits

pub relation-requires-clause-nodes : goal.relation-requires-clause-nodes
relation-requires-clause-nodes c = sym (known_at c.args.self.now.sizes.items c.args.self.now.known.items c.args.self.now.before.items c.args.self.now.facts.items _ c.index-known.result.now c.requires.standing c.requires.sized.0 (known-is c)).node

pub returns : goal.returns
returns c = told c.args.self.now.sizes.items c.args.self.now.known.items c.args.self.now.before.items c.args.self.now.facts.items c.index-known.result.now c.args.term.now c.relation.result c.requires.standing c.requires.sized
    (subst (λ (n : ℕ). c.index-known.result.now ≡ get_or c.args.self.now.known.items n c.index-known.result.now) c.node.ensures c.index-known.ensures) c.relation.ensures
