-- The terms of an incompatibility as they are held.
use Rattle.std.specs.Prelude.{List}
use Rattle.ul_problem.specs.declared.term.Term.{Term}
use Rattle.ul_problem.specs.declared.incompat.Held.{Held}
use Rattle.ul_problem.specs.declared.incompat.Held.TheVariants.{One, Two, Listed}

-- the terms, in their order
abbrev pub terms_in : Held → List Term
terms_in (One ts) = ts
terms_in (Two ts) = ts
terms_in (Listed ts) = ts
