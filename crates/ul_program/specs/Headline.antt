-- What a call of the program promises. `Headline` is the whole promise; what comes before it are its words.
--
-- The files and the sink are known by what they tell. All files keep a record of what was read, real ones too, and all
-- sinks one of the pieces that they were given; what is promised speaks of each map of files that agrees with the reads.
-- Files in memory tell their contents as well, and these agree with what was read of them. A count of faults stands still
-- at its type's end, so `Rose` says that it rose or stands there.
use Rattle.std.specs.Prelude.{◌≡◌, ◌≢◌, ◌<◌, ◌≤◌, ◌++◌, take, ℕ, List, [], ◌∷◌, Option, Some, ◌⊎◌, map, string_bytes, String, Vec}
use Rattle.std.specs.declared.alloc.Global.{Global}
use Rattle.ul_files.specs.Files.{Agrees, ByReads, FileMap, Read, Remembers, Told}
use Rattle.ul_files.specs.Causes.{Rose}
use Rattle.ul_answers.specs.Refusals.{read_fault_text}
use Rattle.ul_program.specs.Answer.{IsAnswer, IsRead, IsUsage, NeedsNoFile, Answered}
use Rattle.ul_program.specs.Exported.{SaysWhatIsGiven}
use Rattle.ul_program.specs.Words.{question}

-- what files tell: their contents, where they tell them; how often a read failed; the path of the last that did, where they
-- tell it; and the reads so far, with what each found
pub record FilesSeen : Type 0 where
  pub map : Option FileMap
  pub faults : ℕ
  pub last_failed : Option (List ℕ)
  pub reads : List Read

-- what a sink tells: the bytes that it took, where it tells them; how often a write failed; and the pieces that it was given
pub record SinkSeen : Type 0 where
  pub bytes : Option (List ℕ)
  pub faults : ℕ
  pub given : List (List ℕ)

-- what files tell, by their members
abbrev pub files_seen : {S : Type 0} → (S → Option FileMap) → (S → ℕ) → (S → Option (List ℕ)) → (S → List Read) → S → FilesSeen
files_seen map faults last_failed reads files =
    record { map = map files; faults = faults files; last_failed = last_failed files; reads = reads files }

-- what a sink tells, by its members
abbrev pub sink_seen : {S : Type 0} → (S → Option (List ℕ)) → (S → ℕ) → (S → List (List ℕ)) → S → SinkSeen
sink_seen bytes faults given sink = record { bytes = bytes sink; faults = faults sink; given = given sink }

-- the pieces of a text that is written at once: none where it is empty
abbrev pub pieces_of : List ℕ → List (List ℕ)
pieces_of [] = []
pieces_of (byte ∷ bytes) = (byte ∷ bytes) ∷ []

-- the texts of the words
abbrev pub texts_of : Vec (String Global) Global → List (List ℕ)
texts_of v = map string_bytes v.items

-- where the bytes are told, this holds of them
abbrev pub BytesTold : Option (List ℕ) → (List ℕ → Type 0) → Type 0
BytesTold o P = (bytes : List ℕ) → o ≡ Some bytes → P bytes

-- a status of an output: 6 says that a write failed, and 7 that there was no memory
abbrev pub IsOwn : ℕ → Type 0
IsOwn status = (status ≢ 6) × (status ≢ 7)

-- Status and text are the program's output for the words, over files that told this before the call and that after it.
pub record IsOutput (words : List (List ℕ)) (before now : FilesSeen) (status : ℕ) (text : List ℕ) : Type 0 where
  -- the status is one of an output
  pub range : IsOwn status
  -- unless a read failed, they are the answer to the words over any files that hold what was read
  pub answer : status ≢ 5 → ByReads now.reads (λ m. IsAnswer words m status text)
  -- where the words need no file, they are the answer whatever the files tell
  pub no_file : NeedsNoFile (question words) → IsAnswer words [] status text
  -- with status 0 of `export`: in each world that the lock of the file supports, the lines whose markers hold are exactly what
  -- the lock gives there, without the root's
  pub exports : status ≡ 0 → ByReads now.reads (λ m. SaysWhatIsGiven (question words) m text)
  -- status 2 comes only where the words aren't one of the commands
  pub usage : status ≡ 2 → IsUsage words
  -- status 5 comes only where a read failed
  pub fault : status ≡ 5 → Rose before.faults now.faults
  -- its text names the path of that read
  pub fault_text : status ≡ 5 → BytesTold now.last_failed (λ path. text ≡ read_fault_text path)
  -- which is one of those that the words read of the files
  pub fault_path : status ≡ 5 → ByReads now.reads (λ m. BytesTold now.last_failed (λ path. IsRead words m path))
  -- no other status comes where a read failed
  pub no_fault : status ≢ 5 → now.faults ≡ before.faults

-- the status has an output
abbrev pub HasOutput : List (List ℕ) → FilesSeen → FilesSeen → ℕ → Type 0
HasOutput words before now status = (text : List ℕ) × IsOutput words before now status text

-- What a call promises, with these words, over files and a sink that told this before it and that after it, and with
-- this status.
pub record Headline (words : List (List ℕ)) (files_before files_now : FilesSeen) (sink_before sink_now : SinkSeen) (status : ℕ) : Type 0 where
  -- the status is that of the output, or 6, or 7, whatever the sink tells
  pub ending : HasOutput words files_before files_now status ⊎ (status ≡ 6) ⊎ (status ≡ 7)
  -- the sink was given nothing, or the text of an output in one piece
  pub once : (sink_now.given ≡ sink_before.given) ⊎ ((meant : ℕ) × (text : List ℕ)
      × IsOutput words files_before files_now meant text × (sink_now.given ≡ sink_before.given ++ text ∷ []))
  -- with the status of the output, its text was given, in one piece or in none where it is empty, and was appended
  pub text : IsOwn status → (text : List ℕ) × IsOutput words files_before files_now status text
      × (sink_now.given ≡ sink_before.given ++ pieces_of text)
      × BytesTold sink_before.bytes (λ had. sink_now.bytes ≡ Some (had ++ text))
  -- status 6 comes only where a write failed
  pub write_fault : status ≡ 6 → Rose sink_before.faults sink_now.faults
  -- no other status comes where a write failed
  pub write_rise : sink_before.faults < sink_now.faults → status ≡ 6
  -- with status 6 the output's text was given, and a front of it was appended
  pub front : status ≡ 6 → (meant : ℕ) × (text : List ℕ) × IsOutput words files_before files_now meant text
      × (sink_now.given ≡ sink_before.given ++ text ∷ [])
      × BytesTold sink_before.bytes (λ had. (count : ℕ) × (sink_now.bytes ≡ Some (had ++ take count text)))
  -- with status 7, want of memory, nothing was appended
  pub no_memory : status ≡ 7 → sink_now.bytes ≡ sink_before.bytes
  -- the contents of the files stay, and no count falls
  pub contents : files_now.map ≡ files_before.map
  -- where they are told, they agree with what was read
  pub agrees : Told files_now.map (λ m. Agrees m files_now.reads)
  -- what was read before is still on record
  pub grown : Remembers files_before.reads files_now.reads
  pub reads_count : files_before.faults ≤ files_now.faults
  pub writes_count : sink_before.faults ≤ sink_now.faults

-- what the promise says where everything is told and nothing failed: the answer was appended, or there was no memory
abbrev pub ToldAnswer : Type 0
ToldAnswer = (words : List (List ℕ)) (files_before files_now : FilesSeen) (sink_before sink_now : SinkSeen) (status : ℕ)
    → Headline words files_before files_now sink_before sink_now status
    → ¬ Rose files_before.faults files_now.faults → ¬ Rose sink_before.faults sink_now.faults
    → Told files_before.map (λ m. BytesTold sink_before.bytes (λ had. Answered words m status had sink_now.bytes))

-- what the promise says of any files, real ones too, where nothing failed: over each map that agrees with what was read, the
-- answer was given to the sink in one piece; or there was no memory
abbrev pub ReadAnswer : Type 0
ReadAnswer = (words : List (List ℕ)) (files_before files_now : FilesSeen) (sink_before sink_now : SinkSeen) (status : ℕ)
    → Headline words files_before files_now sink_before sink_now status
    → ¬ Rose files_before.faults files_now.faults → ¬ Rose sink_before.faults sink_now.faults
    → ByReads files_now.reads (λ m. ((text : List ℕ) × IsAnswer words m status text
    × (sink_now.given ≡ sink_before.given ++ pieces_of text)) ⊎ (status ≡ 7))

-- what an output says over contents that are told
pub record SaysOf (words : List (List ℕ)) (m : FileMap) (now : FilesSeen) (status : ℕ) (text : List ℕ) : Type 0 where
  -- unless a read failed, it is the answer
  pub answer : status ≢ 5 → IsAnswer words m status text
  -- with status 0 of `export`, its lines say what the lock of the file gives
  pub exports : status ≡ 0 → SaysWhatIsGiven (question words) m text
  -- the path of a read that failed is one of those that the words read of the files
  pub fault_path : status ≡ 5 → BytesTold now.last_failed (λ path. IsRead words m path)

-- each output of a call says this of the contents of its files, where they are told
abbrev pub ToldOutput : Type 0
ToldOutput = (words : List (List ℕ)) (files_before files_now : FilesSeen) (sink_before sink_now : SinkSeen) (status : ℕ)
    → Headline words files_before files_now sink_before sink_now status
    → (meant : ℕ) (text : List ℕ) → IsOutput words files_before files_now meant text
    → Told files_before.map (λ m. SaysOf words m files_now meant text)
