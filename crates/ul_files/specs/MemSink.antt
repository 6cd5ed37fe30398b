-- What a sink in memory is, and what a write to it answers.
use Rattle.std.specs.Prelude.{◌≡◌, ℕ, ◌==◌, List, [], ◌∷◌, ◌++◌, take, Option, Some, None, Result, Ok, Err, if◌then◌else◌}
use Rattle.ul_files.specs.Causes.{next_count}
use Rattle.ul_files.specs.declared.sink.SinkRefused.{SinkRefused}
use Rattle.ul_files.specs.declared.sink.SinkRefused.TheVariants.{Failed, NoMemory}

-- a sink in memory: the bytes written, the numbers of the calls that fail, each with the count of bytes after which
-- it does, how many calls there were, how many of them failed, and the pieces that it was given
pub record SinkState : Type 0 where
  pub bytes : List ℕ
  pub failing : List (ℕ × ℕ)
  pub calls : ℕ
  pub faults : ℕ
  pub given : List (List ℕ)

-- a sink that nothing was written to
abbrev pub empty_sink : List (ℕ × ℕ) → SinkState
empty_sink failing = record { bytes = []; failing = failing; calls = 0; faults = 0; given = [] }

-- after how many bytes the call of this number fails, if it does: the first pair that begins with the number counts
abbrev pub bytes_before : List (ℕ × ℕ) → ℕ → Option ℕ
bytes_before [] call = None
bytes_before (pair ∷ pairs) call = if pair.0 == call then Some pair.1 else bytes_before pairs call

-- the sink after one more call, which gave it this piece
abbrev pub called_with : SinkState → List ℕ → SinkState
called_with before piece = record before { calls = next_count before.calls; given = before.given ++ piece ∷ [] }

-- the sink after one more call, of whose piece it took these bytes
abbrev pub sink_with : SinkState → List ℕ → List ℕ → SinkState
sink_with before piece bytes = record (called_with before piece) { bytes = before.bytes ++ bytes }

-- the next call answers so, and leaves the sink so: it fails exactly where its number is one of those that fail, and
-- then writes as many bytes as are said there, or the whole piece where that is less
abbrev pub MemWrite : SinkState → SinkState → List ℕ → Result (Unit {0}) SinkRefused → Type 0
MemWrite before now piece (Ok _) =
    (bytes_before before.failing before.calls ≡ None)
    × (now ≡ sink_with before piece piece)
MemWrite before now piece (Err Failed) =
    (count : ℕ) × (bytes_before before.failing before.calls ≡ Some count)
    × (now ≡ record (sink_with before piece (take count piece)) { faults = next_count before.faults })
MemWrite before now piece (Err NoMemory) = now ≡ called_with before piece
