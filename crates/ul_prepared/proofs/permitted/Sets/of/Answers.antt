use Rattle.std.proofs.Common.{◌≡◌, Some, sym, ap, ◌∙◌}
use Rattle.std.proofs.lemmas.Option.{slice_get-get_or}
use Rattle.ul_base.proofs.ForCallers.{made_holds}
use Rattle.ul_prepared.proofs.permitted.Sets.of.Goals as goal

pub put-requires-clause-one : goal.put-requires-clause-one
put-requires-clause-one c = let facts = c.index-names-name in record {
  facts = facts.result;
  at = slice_get-get_or c.args.names.now c.args.name facts.result c.requires.name ∙ ap Some (sym facts.is);
  is = made_holds c.copy-copied.result c.in_ok-own.copy (λ z. z ≡ c.in_ok-made.made) c.in_ok-own.ensures.1 c.copy-copied.ensures ∙ c.in_ok-made.ensures;
}

pub returns-clause-set : goal.returns-clause-set
returns-clause-set c = let facts = c.index-names-name in record {
  facts = facts.result;
  at = slice_get-get_or c.args.names.now c.args.name facts.result c.requires.name ∙ ap Some (sym facts.is);
  is = c.in_ok-both.ensures.0 ∙ (c.in_ok-own.ensures.0 ∙ c.in_ok-made.ensures);
}
