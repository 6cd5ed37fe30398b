-- Machine files: an object of JSON with a text for each variable of PEP 508 ("Environment Markers") but
-- `python_version`, which `python_full_version` says.
use Rattle.std.specs.Prelude.{◌≡◌, IfSome, MatchResult, ℕ, List, [], ◌∷◌, codes, map, Option, Some, None, Result, Ok, Err, string_bytes}
use Rattle.std.specs.Borrow.{Bor}
use Rattle.std.specs.Option.{ok_or}
use Rattle.serde_json.specs.Data.{Data}
use Rattle.ul_comparison.specs.Json.{object_of_bytes, text_at}
use Rattle.ul_comparison.specs.Machines.{MachineFields, machine_fields}
use Rattle.ul_comparison.specs.Triples.{triple_of}
use Rattle.ul_comparison.specs.declared.env_fault.EnvFault.{EnvFault}
use Rattle.ul_comparison.specs.declared.env_fault.EnvFault.TheVariants.{NotJson, Missing, PythonForm, NoMemory}

-- why bytes are no machine file: they are no object of JSON, a key has no text, or Python's version has another form
pub data MachineRefusal : Type 0 where
  not_json : MachineRefusal
  missing : List ℕ → MachineRefusal
  python_form : MachineRefusal

infixl 10 ◌>>=◌
-- a step that may refuse, and then the next on what it gives
abbrev pub ◌>>=◌ : {X Y F : Type 0} → Result X F → (X → Result Y F) → Result Y F
(Ok x) >>= f = f x
(Err e) >>= f = Err e

-- ---- the file

-- the text at a key of an object
abbrev pub text_in : List ℕ → Data → Result (List ℕ) MachineRefusal
text_in key file = ok_or (text_at key file) (missing key)

-- the texts at keys of an object, in their order
abbrev pub texts_in : List (List ℕ) → Data → Result (List (List ℕ)) MachineRefusal
texts_in [] file = Ok []
texts_in (key ∷ keys) file = text_in key file >>= λ text. texts_in keys file >>= λ texts. Ok (text ∷ texts)

-- keys, which stand behind references
abbrev pub keys_view : List (Bor (List ℕ)) → List (List ℕ)
keys_view keys = map (λ key. key.now) keys

-- the keys of the text variables, in their order
abbrev pub text_keys : List (List ℕ)
text_keys =
    codes "os_name" ∷ codes "sys_platform" ∷ codes "platform_machine" ∷ codes "platform_python_implementation"
    ∷ codes "platform_release" ∷ codes "platform_system" ∷ codes "platform_version" ∷ codes "implementation_name" ∷ []

-- the machine that an object says; of what is missing the first key counts, and Python's form comes last
unfoldable pub machine_in : Data → Result MachineFields MachineRefusal
machine_in file =
    texts_in text_keys file >>= λ texts.
    text_in (codes "implementation_version") file >>= λ implementation.
    text_in (codes "python_full_version") file >>= λ version.
    ok_or (triple_of version) python_form >>= λ python.
    Ok (machine_fields python texts implementation)

-- the object that the bytes are
unfoldable pub object_of : List ℕ → Result Data MachineRefusal
object_of bytes = ok_or (object_of_bytes bytes) not_json

-- the machine that a file says
unfoldable pub machine_of : List ℕ → Result MachineFields MachineRefusal
machine_of bytes = object_of bytes >>= machine_in

-- what a fault of the call says of the file; want of memory says nothing
abbrev pub refusal_of : EnvFault → Option MachineRefusal
refusal_of NotJson = Some not_json
refusal_of (Missing key) = Some (missing (string_bytes key))
refusal_of PythonForm = Some python_form
refusal_of NoMemory = None

-- the result of a call is what the definition gives
abbrev pub Tells : {X Y : Type 0} → (X → Y) → Result X EnvFault → Result Y MachineRefusal → Type 0
Tells view result told = MatchResult result (λ x. told ≡ Ok (view x)) (λ e. IfSome (refusal_of e) (λ f. told ≡ Err f))
