-- What the refusals of the code stand for, and when each comes.
use Rattle.std.specs.Prelude.{◌≡◌, ◌≤◌, ℕ, List, Option, Some, None, Result, Ok, Err, IfSome, String, string_bytes}
use Rattle.std.specs.declared.alloc.AllocError.{AllocError}
use Rattle.std.specs.declared.alloc.Global.{Global}
use Rattle.ul_files.specs.Causes.{Rose}
use Rattle.ul_files.specs.declared.files.ReadRefused.{ReadRefused}
use Rattle.ul_files.specs.declared.files.ReadRefused.TheVariants.{Failed, TooLong, NoMemory as NoMemoryToRead}
use Rattle.ul_inputs.specs.Inputs.{Said}
use Rattle.ul_inputs.specs.Refused.{Refused, malformed, limit}
use Rattle.ul_inputs.specs.declared.refusal.Refusal.{Refusal}
use Rattle.ul_inputs.specs.declared.refusal.Refusal.TheVariants.{Malformed, Limit, ReadFault, NoMemory}

-- what a refusal says of the files' contents; a read that failed and want of memory say nothing
abbrev pub refused_of : Refusal → Option Refused
refused_of (Malformed file place) = Some (malformed (string_bytes file) (string_bytes place))
refused_of (Limit name number) = Some (limit name.now number)
refused_of (ReadFault path) = None
refused_of NoMemory = None

-- the path whose read failed
abbrev pub failed_path : Refusal → Option (List ℕ)
failed_path (ReadFault path) = Some (string_bytes path)
failed_path _ = None

-- the result is an answer of these, and a read that failed is one of theirs
abbrev pub Answers : {T A : Type 0} → (T → A) → Result T Refusal → Said A → Type 0
Answers view (Ok x) said = said.gives (Ok (view x))
Answers view (Err e) said = IfSome (refused_of e) (λ f. said.gives (Err f)) × IfSome (failed_path e) said.reads

-- What a result says of the count of faults and of the last path that failed: a read that failed comes only where the
-- count rose, and nothing else comes where it rose.
abbrev pub Cause : {T : Type 0} → ℕ → ℕ → Option (List ℕ) → Result T Refusal → Type 0
Cause before now last (Ok _) = now ≡ before
Cause before now last (Err (Malformed file place)) = now ≡ before
Cause before now last (Err (Limit name number)) = now ≡ before
Cause before now last (Err (ReadFault path)) = Rose before now × (before ≤ now) × ((p : List ℕ) → last ≡ Some p → string_bytes path ≡ p)
Cause before now last (Err NoMemory) = before ≤ now

-- Whether memory may run out on the way to a refusal: a file without a reading is told by texts that have to be made. Where
-- nothing is said, it had run out before.
abbrev pub MayRunOut : Option Refused → Type 0
MayRunOut (Some (malformed file place)) = Unit {0}
MayRunOut (Some (limit name number)) = ⊥
MayRunOut None = Unit {0}

-- it says just this of the files' contents; or memory ran out, where texts are made or nothing is said
abbrev pub IsRefusalFor : Option Refused → Refusal → Type 0
IsRefusalFor wanted (Malformed file place) = wanted ≡ Some (malformed (string_bytes file) (string_bytes place))
IsRefusalFor wanted (Limit name number) = wanted ≡ Some (limit name.now number)
IsRefusalFor wanted (ReadFault path) = ⊥
IsRefusalFor wanted NoMemory = MayRunOut wanted

-- the refusal of a read that failed, with its path, if there was memory for that
abbrev pub failed_read : Result (String Global) AllocError → Refusal
failed_read (Ok path) = ReadFault path
failed_read (Err e) = NoMemory

-- The refusal of a file that isn't read: its limit, by a name and a number, where it has more bytes; where its read failed
-- its path, if there was memory for that; and want of memory where that ended the read.
abbrev pub IsReadRefusal : (name : List ℕ) → (most : ℕ) → Result (String Global) AllocError → ReadRefused → Refusal → Type 0
IsReadRefusal name most path TooLong e = IsRefusalFor (Some (limit name most)) e
IsReadRefusal name most path Failed e = e ≡ failed_read path
IsReadRefusal name most path NoMemoryToRead e = e ≡ NoMemory
