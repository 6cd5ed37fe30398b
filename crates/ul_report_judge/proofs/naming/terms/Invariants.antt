use Rattle.std.proofs.Common.{◌≡◌, drop}
use Rattle.ul_report_judge.specs.Names.{terms_of_names}
use Rattle.ul_report_judge.proofs.Looked.{in_front}
use Rattle.ul_report_judge.proofs.naming.terms.Given as goal

abbrev pub invariant-loop-text : goal.invariant-loop-text
invariant-loop-text l = in_front l.terms.items (terms_of_names l.problem (drop l.text-index l.texts)) ≡ terms_of_names l.problem l.texts
