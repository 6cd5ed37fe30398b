-- From a call of `run` to the sentences over words, files, a status and bytes.
use Rattle.std.specs.Prelude.{◌≡◌, ◌≢◌, ◌++◌, ℕ, List, Option}
use Rattle.ul_files.specs.Files.{ByReads}
use Rattle.ul_commands.specs.Asked.{lock}
use Rattle.ul_program.specs.Answer.{IsAnswer}
use Rattle.ul_program.specs.Headline.{FilesSeen, Headline, IsOwn, SinkSeen, pieces_of}
use Rattle.ul_program.specs.Words.{question}
use Rattle.laws_promises.specs.Promises.{IsSoundText}

-- What a call that ends with this status gave its sink: these bytes, in one piece, or in none where they are empty. They are
-- the answer to the words on each map of files that agrees with what was read.
pub record GivesAnswer (words : List (List ℕ)) (files_now : FilesSeen) (sink_before sink_now : SinkSeen) (status : ℕ) (bytes : List ℕ)
    : Type 0 where
  pub given : sink_now.given ≡ sink_before.given ++ pieces_of bytes
  pub answer : ByReads files_now.reads (λ m. IsAnswer words m status bytes)

-- By its headline a call gives an answer, whatever its files and its sink, unless its status says that a read failed (5), that
-- a write failed (6) or that there was no memory (7).
abbrev pub RunsGiveAnswers : Type 0
RunsGiveAnswers = (words : List (List ℕ)) (files_before files_now : FilesSeen) (sink_before sink_now : SinkSeen) (status : ℕ)
    → Headline words files_before files_now sink_before sink_now status → status ≢ 5 → IsOwn status
    → (bytes : List ℕ) × GivesAnswer words files_now sink_before sink_now status bytes

-- So what a call of `lock` that ends with status 0 gave its sink is the text of a lock that is right in every world, for what
-- each map of files gives that agrees with what was read.
abbrev pub RunsOfLockAreRight : Type 0
RunsOfLockAreRight = (words : List (List ℕ)) (files_before files_now : FilesSeen) (sink_before sink_now : SinkSeen)
    (project folder : List ℕ) (workers : ℕ) (old : Option (List ℕ))
    → question words ≡ lock project folder workers old
    → Headline words files_before files_now sink_before sink_now 0
    → (bytes : List ℕ) × (sink_now.given ≡ sink_before.given ++ pieces_of bytes)
    × ByReads files_now.reads (λ m. IsSoundText project folder old m bytes)
