use Rattle.std.proofs.Common.{◌≡◌, ◌++◌, ◌∷◌, ◌∙◌, [], List, ℕ, ap, sym, arith, rules, string_bytes}
use Rattle.std.proofs.lemmas.Grind.{common_steps}
use Rattle.ul_comparison.specs.Printed.{interpreter_text}
use Rattle.ul_comparison.proofs.Interpreters.{interpreter_quoted}
use Rattle.ul_comparison.proofs.printed.push_quoted_interpreter.Goals as goal

pub returns-in-Ok : goal.returns-in-Ok
unfolding interpreter_text
returns-in-Ok c =
    let major = c.args.python.0 in
    let minor = c.args.python.1 in
    let patch = c.args.python.2 in
    let written : string_bytes c.write.new.self ≡ string_bytes c.args.out.now ++ (39 ∷ (interpreter_text major minor patch ++ 39 ∷ [])) = grind (arith, common_steps) in
    written ∙ ap (λ (t : List ℕ). string_bytes c.args.out.now ++ t) (sym (interpreter_quoted major minor patch (search rules) (search rules) (search rules)))
