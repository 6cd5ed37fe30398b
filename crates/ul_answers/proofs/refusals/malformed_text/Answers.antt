use Rattle.std.proofs.Common.{append_assoc, ap, ◌∙◌}
use Rattle.ul_answers.proofs.refusals.malformed_text.Goals as goal

pub returns : goal.returns
returns c = ap (λ v. v.items) c.into_bytes.ensures.value ∙ c.in_ok-text.ensures.ok ∙ simp append_assoc
