use Rattle.std.proofs.Common.{◌≡◌, ℕ, List, None, sym, ap, subst, ◌∙◌}
use Rattle.ul_interner.proofs.ForCallers.{knows_then}
use Rattle.ul_lock_nodes.specs.Roots.{first_unknown}
use Rattle.ul_project.specs.Fields.{ProjectFields}
use Rattle.ul_verify.proofs.MarkFacts.{region_still}
use Rattle.ul_verify.proofs.SettingFacts.{all_known, setting}
use Rattle.ul_verify.proofs.verifying.wrong_by.Goals as goal

pub reaches-reached-requires-clause-known : goal.reaches-reached-requires-clause-known
reaches-reached-requires-clause-known g c = subst (λ (xs : List (List ℕ)). first_unknown c.args.lock.now xs ≡ None)
    (sym (c.as_slice-3.ensures.value ∙ ap (λ (q : ProjectFields). q.extras) c.project.view_is)) (all_known c.args.project.now c.args.lock.now c.requires.root)

pub wrong_of-wrong-requires-clause-setting : goal.wrong_of-wrong-requires-clause-setting
wrong_of-wrong-requires-clause-setting g c = setting c.args.project.now c.args.lock.now c.requires.well_formed c.requires.root

pub wrong_of-wrong-requires-clause-supported : goal.wrong_of-wrong-requires-clause-supported
wrong_of-wrong-requires-clause-supported g c = region_still _ _ _ c.reaches-reached.ensures.knows c.requires.supported

pub returns-clause-knows : goal.returns-clause-knows
returns-clause-knows g c = knows_then _ _ _ c.reaches-reached.ensures.knows c.wrong_of-wrong.ensures.knows
