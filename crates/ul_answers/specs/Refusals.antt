-- What is printed for the refusals of the code.
use Rattle.std.specs.Prelude.{◌≡◌, ℕ, List, ◌++◌, codes, string_bytes}
use Rattle.ul_inputs.specs.Refused.{malformed, limit}
use Rattle.ul_inputs.specs.declared.refusal.Refusal.{Refusal}
use Rattle.ul_inputs.specs.declared.refusal.Refusal.TheVariants.{Malformed, Limit, ReadFault, NoMemory}
use Rattle.ul_answers.specs.Printed.{Output, refused_output}

-- the line of a read that failed
abbrev pub read_fault_text : List ℕ → List ℕ
read_fault_text path = codes "read fault: " ++ path ++ codes "\n"

-- the output is that of the refusal; want of memory has none
abbrev pub IsRefusalOutput : Refusal → Output → Type 0
IsRefusalOutput (Malformed file place) o = o ≡ refused_output (malformed (string_bytes file) (string_bytes place))
IsRefusalOutput (Limit name number) o = o ≡ refused_output (limit name.now number)
IsRefusalOutput (ReadFault path) o = o ≡ (5, read_fault_text (string_bytes path))
IsRefusalOutput NoMemory o = ⊥
