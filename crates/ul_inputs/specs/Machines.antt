-- The machine of a machine file.
use Rattle.std.specs.Prelude.{ℕ, List, ◌++◌, codes, string_bytes, Option, Some, None, Result, Ok, Err}
use Rattle.ul_comparison.specs.MachineFiles.{MachineRefusal, not_json, missing, python_form, machine_of}
use Rattle.ul_comparison.specs.Machines.{MachineFields}
use Rattle.ul_comparison.specs.declared.env_fault.EnvFault.{EnvFault}
use Rattle.ul_comparison.specs.declared.env_fault.EnvFault.TheVariants.{NotJson, Missing, PythonForm, NoMemory}
use Rattle.ul_inputs.specs.Inputs.{Input, ◌>>=◌, just, small_file}
use Rattle.ul_inputs.specs.Refused.{Refused, malformed}

-- why bytes are no machine, as it is printed
abbrev pub machine_fault_text : MachineRefusal → List ℕ
machine_fault_text not_json = codes "not JSON"
machine_fault_text (missing key) = codes "missing " ++ key
machine_fault_text python_form = codes "python form"

-- what a fault of the code says, if it isn't want of memory
abbrev pub refused_machine : List ℕ → EnvFault → Option Refused
refused_machine path NotJson = Some (malformed path (codes "not JSON"))
refused_machine path (Missing key) = Some (malformed path (codes "missing " ++ string_bytes key))
refused_machine path PythonForm = Some (malformed path (codes "python form"))
refused_machine path NoMemory = None

-- the machine, or a refusal of the file at a path
abbrev pub machine_or_refused : List ℕ → Result MachineFields MachineRefusal → Result MachineFields Refused
machine_or_refused path (Ok m) = Ok m
machine_or_refused path (Err e) = Err (malformed path (machine_fault_text e))

-- the machine of bytes
abbrev pub machine_said : (path bytes : List ℕ) → Input MachineFields
machine_said path bytes = just (machine_or_refused path (machine_of bytes))

-- the machine of a machine file
abbrev pub machine_at : List ℕ → Input MachineFields
machine_at path = small_file path >>= machine_said path
