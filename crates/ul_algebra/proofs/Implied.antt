-- A diagram that holds wherever another does.
use Rattle.std.proofs.Common.{◌≡◌, Bool, sym, ◌∙◌, ap, IsTrue, ◌↔◌}
use Rattle.ul_tree.specs.FirstParts.{is_false}
use Rattle.ul_tree.specs.JoinSteps.{first_alone, Implies}
use Rattle.ul_tree.specs.Laws.{joined_by}
use Rattle.ul_nodes.specs.Plain.{Plain}
use Rattle.ul_nodes.specs.Reduced.{IsReduced}
use Rattle.ul_tree.proofs.ForCallers.{false_is, implies_by_join}

-- exactly where the first without the second is false
pub implied : (a b t : Plain) → IsReduced a → IsReduced b → t ≡ joined_by first_alone a b → (r : Bool) → r ≡ is_false t → IsTrue r ↔ Implies a b
implied a b t ra rb e r s =
    let j = implies_by_join a b ra rb in
    ((λ h. j.0 (sym e ∙ false_is t (sym s ∙ h))), λ f. s ∙ ap is_false (e ∙ j.1 f))
