use Rattle.std.proofs.Common.{◌≡◌, ◌∙◌, arith, false, true}
use Rattle.std.proofs.lemmas.Grind.{common_steps}
use Rattle.ul_comparison.proofs.NormalNames.{form_is, is_form}
use Rattle.ul_comparison.proofs.atom.is_normal.Goals as goal
use Rattle.ul_comparison.proofs.atom.is_normal.Goals.{then-byte-eq46-via-then-byte-eq46, then-byte-eq46-via-else-byte-eq46+then-byte-eq95, then-byte-eq46-via-else-byte-eq46+else-byte-eq95+then-is_ascii_uppercase}

pub returns-then-byte-eq46 : goal.returns-then-byte-eq46
returns-then-byte-eq46 c = elim c.then-byte-eq46.branch [
  | then-byte-eq46-via-then-byte-eq46 w ↦ let unfit : false ≡ is_form false c.args.text.now = grind (arith, common_steps) in unfit ∙ form_is c.args.text.now
  | then-byte-eq46-via-else-byte-eq46+then-byte-eq95 w ↦ let unfit : false ≡ is_form false c.args.text.now = grind (arith, common_steps) in unfit ∙ form_is c.args.text.now
  | then-byte-eq46-via-else-byte-eq46+else-byte-eq95+then-is_ascii_uppercase w ↦ let unfit : false ≡ is_form false c.args.text.now = grind (arith, common_steps) in unfit ∙ form_is c.args.text.now
]

pub returns-then-hyphen : goal.returns-then-hyphen
returns-then-hyphen c = let twice : false ≡ is_form false c.args.text.now = grind (arith, common_steps) in twice ∙ form_is c.args.text.now

pub returns : goal.returns
returns c = let all : true ≡ is_form false c.args.text.now = grind (arith, common_steps) in all ∙ form_is c.args.text.now
