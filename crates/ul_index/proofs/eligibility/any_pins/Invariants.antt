use Rattle.std.proofs.Common.{◌≡◌, drop, map}
use Rattle.std.specs.List.{list_any}
use Rattle.ul_specifier.specs.Meaning.{pins_of}
use Rattle.ul_index.proofs.eligibility.any_pins.Given as goal

abbrev pub invariant-loop-requirement : goal.invariant-loop-requirement
invariant-loop-requirement l =
    list_any (λ q. pins_of q.specifiers l.version) (map (λ q. q.now) l.directs) ≡ list_any (λ q. pins_of q.specifiers l.version) (map (λ q. q.now) (drop l.requirement-index l.directs))
