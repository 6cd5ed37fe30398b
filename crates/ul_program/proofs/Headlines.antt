-- The promise of a call, from what its parts promise.
use Rattle.std.proofs.Common.{◌≡◌, ◌<◌, ◌≤◌, ◌++◌, ◌∷◌, [], ◌⊎◌, inl, inr, take, ℕ, List, Some, refl, sym, ◌∙◌, subst, arith}
use Rattle.ul_files.specs.Causes.{Rose}
use Rattle.ul_files.specs.Files.{Agrees, Remembers, Told}
use Rattle.ul_program.specs.Answer.{Answered, IsAnswer}
use Rattle.ul_program.specs.Headline.{FilesSeen, SinkSeen, BytesTold, IsOutput, HasOutput, Headline, IsOwn, ReadAnswer, ToldAnswer, ToldOutput, pieces_of}

-- the status is that of the output, or 6, or 7
ending_of : (words : List (List ℕ)) (before now : FilesSeen) (meant status : ℕ) (text : List ℕ) → IsOutput words before now meant text
    → (status ≡ meant) ⊎ (status ≡ 6) ⊎ (status ≡ 7) → HasOutput words before now status ⊎ (status ≡ 6) ⊎ (status ≡ 7)
ending_of words before now meant status text output (inl same) = inl (text, subst (λ s. IsOutput words before now s text) (sym same) output)
ending_of words before now meant status text output (inr other) = inr other

-- a status of an output is the output's
own_status : (meant status : ℕ) → (status ≡ meant) ⊎ (status ≡ 6) ⊎ (status ≡ 7) → IsOwn status → status ≡ meant
own_status meant status (inl same) own = same
own_status meant status (inr (inl six)) own = absurd (own.0 six)
own_status meant status (inr (inr seven)) own = absurd (own.1 seven)

-- the sink was given nothing, or the text in one piece
given_once : (words : List (List ℕ)) (files_before files_now : FilesSeen) (sink_before sink_now : SinkSeen) (meant : ℕ) (text : List ℕ)
    → IsOutput words files_before files_now meant text → (sink_now.given ≡ sink_before.given) ⊎ (sink_now.given ≡ sink_before.given ++ text ∷ [])
    → (sink_now.given ≡ sink_before.given) ⊎ ((meant : ℕ) × (text : List ℕ) × IsOutput words files_before files_now meant text × (sink_now.given ≡ sink_before.given ++ text ∷ []))
given_once words fb fn sb sn meant text output (inl none) = inl none
given_once words fb fn sb sn meant text output (inr one) = inr (meant, text, output, one)

-- the pieces of a text that has bytes
pub pieces_some : (text : List ℕ) → (text ≡ [] → ⊥) → pieces_of text ≡ text ∷ []
pieces_some [] some = absurd (some refl)
pieces_some (byte ∷ bytes) some = refl

-- an output was printed
pub output_printed : (words : List (List ℕ)) (files_before files_now : FilesSeen) (sink_before sink_now : SinkSeen) (meant status : ℕ) (text : List ℕ)
    → IsOutput words files_before files_now meant text → files_now.map ≡ files_before.map → Told files_now.map (λ m. Agrees m files_now.reads)
    → Remembers files_before.reads files_now.reads → files_before.faults ≤ files_now.faults
    → (status ≡ meant) ⊎ (status ≡ 6) ⊎ (status ≡ 7)
    → (sink_now.given ≡ sink_before.given) ⊎ (sink_now.given ≡ sink_before.given ++ text ∷ [])
    → (IsOwn status → sink_now.given ≡ sink_before.given ++ pieces_of text) → (status ≡ 6 → sink_now.given ≡ sink_before.given ++ text ∷ [])
    → (IsOwn status → BytesTold sink_before.bytes (λ had. sink_now.bytes ≡ Some (had ++ text)))
    → (status ≡ 6 → BytesTold sink_before.bytes (λ had. (n : ℕ) × (sink_now.bytes ≡ Some (had ++ take n text))))
    → (status ≡ 6 → Rose sink_before.faults sink_now.faults) → (sink_before.faults < sink_now.faults → status ≡ 6)
    → sink_before.faults ≤ sink_now.faults → (status ≡ 7 → sink_now.bytes ≡ sink_before.bytes)
    → Headline words files_before files_now sink_before sink_now status
output_printed words fb fn sb sn meant status text output same agrees grown reads ended once pieces piece whole front fault rise writes none = record {
  ending = ending_of words fb fn meant status text output ended;
  once = given_once words fb fn sb sn meant text output once;
  text = λ small. (text, subst (λ s. IsOutput words fb fn s text) (sym (own_status meant status ended small)) output, pieces small, whole small);
  write_fault = fault;
  write_rise = rise;
  front = λ six. (meant, text, output, piece six, front six);
  no_memory = none;
  contents = same;
  agrees = agrees;
  grown = grown;
  reads_count = reads;
  writes_count = writes;
}

-- there was no memory for an output
pub nothing_printed : (words : List (List ℕ)) (files_before files_now : FilesSeen) (sink : SinkSeen)
    → files_now.map ≡ files_before.map → Told files_now.map (λ m. Agrees m files_now.reads) → Remembers files_before.reads files_now.reads
    → files_before.faults ≤ files_now.faults → Headline words files_before files_now sink sink 7
nothing_printed words fb fn sink same agrees grown reads = record {
  ending = inr (inr refl);
  once = inl refl;
  text = λ own. absurd (own.1 refl);
  write_fault = λ six. absurd (omega arith);
  write_rise = λ rise. absurd (omega arith);
  front = λ six. absurd (omega arith);
  no_memory = λ _. refl;
  contents = same;
  agrees = agrees;
  grown = grown;
  reads_count = reads;
  writes_count = omega arith;
}

-- each output says of the contents what it says of what was read
pub told_output : ToldOutput
told_output words fb fn sb sn status h meant text output m told =
    let agrees = h.agrees m (h.contents ∙ told) in
    record {
      answer = λ unfailed. output.answer unfailed m agrees;
      exports = λ zero. output.exports zero m agrees;
      fault_path = λ five. output.fault_path five m agrees;
    }

pub told_answer : ToldAnswer
told_answer words fb fn sb sn status h no_read_failed no_write_failed m told had held = by_ending h.ending
  where
    by_ending : HasOutput words fb fn status ⊎ (status ≡ 6) ⊎ (status ≡ 7) → Answered words m status had sn.bytes
    by_ending (inl output) =
        let printed = h.text output.1.range in
        inl (printed.0, printed.1.answer (λ five. no_read_failed (printed.1.fault five)) m (h.agrees m (h.contents ∙ told)), printed.3 had held)
    by_ending (inr (inl six)) = absurd (no_write_failed (h.write_fault six))
    by_ending (inr (inr seven)) = inr (seven, h.no_memory seven ∙ held)

pub read_answer : ReadAnswer
read_answer words fb fn sb sn status h no_read_failed no_write_failed m agrees = by_ending h.ending
  where
    by_ending : HasOutput words fb fn status ⊎ (status ≡ 6) ⊎ (status ≡ 7)
        → ((text : List ℕ) × IsAnswer words m status text × (sn.given ≡ sb.given ++ pieces_of text)) ⊎ (status ≡ 7)
    by_ending (inl output) =
        let printed = h.text output.1.range in
        inl (printed.0, printed.1.answer (λ five. no_read_failed (printed.1.fault five)) m agrees, printed.2)
    by_ending (inr (inl six)) = absurd (no_write_failed (h.write_fault six))
    by_ending (inr (inr seven)) = inr seven
