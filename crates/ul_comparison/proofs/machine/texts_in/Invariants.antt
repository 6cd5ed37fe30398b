use Rattle.std.proofs.Common.{◌≡◌, drop, map, length}
use Rattle.std.specs.Prelude.{string_bytes}
use Rattle.serde_json.specs.View.{view}
use Rattle.ul_comparison.specs.MachineFiles.{texts_in}
use Rattle.ul_comparison.proofs.TextsRead.{texts_then}
use Rattle.ul_comparison.proofs.machine.texts_in.Given as goal

abbrev pub invariant-loop-key : goal.invariant-loop-key
invariant-loop-key l = record {
  found : texts_then (map string_bytes l.texts.items) (texts_in (map (λ k. k.now) (drop l.key-index l.keys)) (view l.file)) ≡ texts_in (map (λ k. k.now) l.keys) (view l.file);
  each : length l.texts.items ≡ l.key-index;
}
