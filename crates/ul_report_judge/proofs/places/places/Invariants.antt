use Rattle.std.proofs.Common.{◌≡◌, ◌<◌, drop, length}
use Rattle.std.specs.Prelude.{All}
use Rattle.ul_report_judge.specs.Names.{places_of_names}
use Rattle.ul_report_judge.proofs.Looked.{in_front}
use Rattle.ul_report_judge.proofs.places.places.Given as goal

abbrev pub invariant-loop-version : goal.invariant-loop-version
invariant-loop-version l = record {
  found : in_front l.places.items (places_of_names l.versions (drop l.version-index l.named)) ≡ places_of_names l.versions l.named;
  below : All (λ k. k < length l.versions) l.places.items;
}
