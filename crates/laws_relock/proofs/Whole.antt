-- What is printed of a lock within its limits.
use Rattle.std.proofs.Common.{◌≡◌, ◌∙◌, ◌≤◌, ℕ, List, length, Option, None, ap}
use Rattle.std.specs.Prelude.{codes, cond}
use Rattle.ul_inputs.specs.Inputs.{text_bytes}
use Rattle.ul_inputs.specs.Refused.{limit}
use Rattle.ul_answers.specs.Printed.{lock_output, refused_output}
use Rattle.laws_commands.proofs.ForCallers.{fits}

-- it is printed as its text, with status 0
pub whole : (paths : Option ℕ) (text : List ℕ) → paths ≡ None → length text ≤ text_bytes → lock_output paths text ≡ (0, text)
whole paths text none few =
    ap (λ o. lock_output o text) none
    ∙ ap (λ b. cond b (0, text) (refused_output (limit (codes "text-bytes") text_bytes))) (fits (length text) few)
