use Rattle.std.proofs.Common.{◌≡◌, ◌++◌, drop, string_bytes, true}
use Rattle.ul_report.specs.Naming.{named_terms}
use Rattle.ul_report.specs.Texts.{terms_text}
use Rattle.ul_report.proofs.step_lines.push_terms.Given as goal

abbrev pub invariant-loop-term : goal.invariant-loop-term
invariant-loop-term l =
    string_bytes l.out ++ terms_text l.first (named_terms l.problem (drop l.term-index l.terms))
    ≡ string_bytes l.fn.out ++ terms_text true (named_terms l.problem l.terms)
