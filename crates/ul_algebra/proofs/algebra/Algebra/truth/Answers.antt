use Rattle.std.proofs.Common.{◌≡◌, sym, subst}
use Rattle.ul_interner.specs.Known.{Known, Knows}
use Rattle.ul_interner.proofs.ForCallers.{knows_itself}
use Rattle.ul_nodes.specs.Plain.{truth}
use Rattle.ul_algebra.specs.Spelled.{tree_of}
use Rattle.ul_algebra.proofs.Kept.{if_share}
use Rattle.ul_algebra.proofs.algebra.Algebra.truth.Goals as goal

pub returns-in-Some-clause-knows : goal.returns-in-Some-clause-knows
returns-in-Some-clause-knows g c = knows_itself c.args.self.now

pub returns-in-Some-clause-tree : goal.returns-in-Some-clause-tree
returns-in-Some-clause-tree g c = if_share c.share.result c.in-Some.found.now (λ d. tree_of d ≡ truth c.args.value) c.share.ensures c.in-Some.ensures.tree

pub returns-in-Some-clause-known : goal.returns-in-Some-clause-known
returns-in-Some-clause-known g c = if_share c.share.result c.in-Some.found.now (λ d. Known c.args.self.now d) c.share.ensures c.in-Some.ensures.known

pub returns-clause-knows : goal.returns-clause-knows
returns-clause-knows g c = subst (λ h. Knows c.args.self.now h) (sym c.keep_truth.ensures) c.in_ok-made.ensures.knows

pub returns-clause-known : goal.returns-clause-known
returns-clause-known g c = subst (λ h. Known h c.in_ok-made.made) (sym c.keep_truth.ensures) c.in_ok-made.ensures.known
