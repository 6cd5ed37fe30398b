use Rattle.std.proofs.Common.{ap, ◌∙◌}
use Rattle.std.specs.List.{list_any}
use Rattle.std.specs.Str.{bytes_eq}
use Rattle.std.specs.HashSet.{contains}
use Rattle.std.proofs.lemmas.List.{take_all}
use Rattle.ul_prepared.proofs.NameSets.{named_more}
use Rattle.ul_prepared.proofs.sources.names_of.Goals as goal

pub loop-requirement-init : goal.loop-requirement-init
loop-requirement-init c = λ n. ap (list_any (bytes_eq n)) c.new-names.ensures.empty

pub loop-requirement-preserved : goal.loop-requirement-preserved
loop-requirement-preserved c =
    λ n. named_more (λ q. q.name) c.args.requirements.now c.loop-requirement.requirement-index c.in_ok-copy.field-0 c.requirement-item.result n (contains bytes_eq c.loop-requirement.names n) (contains bytes_eq c.insert.new.self n)
    (c.in_ok-copy.ensures ∙ ap (λ q. q.name) c.requirement.view_is) (c.in_ok-insert.ensures.updates.0 n) (c.loop-requirement.invariant n) c.loop-requirement-test.true c.requirement-item.is

pub returns : goal.returns
returns c = λ n. c.loop-requirement.invariant n ∙ ap (list_any (λ q. bytes_eq q.name n)) (take_all c.loop-requirement.requirement-index c.args.requirements.now c.loop-requirement-test.false)
