-- Variables, kinds and atoms, told by their numbers.
use Rattle.std.proofs.Common.{Equal, ◌≡◌, ◌∙◌, ℕ, suc, zero, List, [], ◌∷◌, refl, sym, ap}
use Rattle.std.proofs.lemmas.Map.Lookups.{exact_bytes}
use Rattle.ul_comparison.specs.Atoms.{AtomFields, atom_cmp, atom_key, kind_number, variable_number}
use Rattle.ul_comparison.specs.declared.variable.AtomKind.{AtomKind}
use Rattle.ul_comparison.specs.declared.variable.AtomKind.TheVariants.{Contains, Within, Below, AtMost, Same}
use Rattle.ul_comparison.specs.declared.variable.Variable.{Variable}
use Rattle.ul_comparison.specs.declared.variable.Variable.TheVariants.{OsName, SysPlatform, PlatformMachine, PlatformPythonImplementation, PlatformRelease, PlatformSystem, PlatformVersion, PythonVersion, PythonFullVersion, ImplementationName, ImplementationVersion, Extras}

-- the variable of a number
abbrev pub variable_of : ℕ → Variable
variable_of zero = OsName
variable_of (suc zero) = SysPlatform
variable_of (suc (suc zero)) = PlatformMachine
variable_of (suc (suc (suc zero))) = PlatformPythonImplementation
variable_of (suc (suc (suc (suc zero)))) = PlatformRelease
variable_of (suc (suc (suc (suc (suc zero))))) = PlatformSystem
variable_of (suc (suc (suc (suc (suc (suc zero)))))) = PlatformVersion
variable_of (suc (suc (suc (suc (suc (suc (suc zero))))))) = PythonVersion
variable_of (suc (suc (suc (suc (suc (suc (suc (suc zero)))))))) = PythonFullVersion
variable_of (suc (suc (suc (suc (suc (suc (suc (suc (suc zero))))))))) = ImplementationName
variable_of (suc (suc (suc (suc (suc (suc (suc (suc (suc (suc zero)))))))))) = ImplementationVersion
variable_of (suc (suc (suc (suc (suc (suc (suc (suc (suc (suc (suc n))))))))))) = Extras

-- the kind of a number
abbrev pub kind_of : ℕ → AtomKind
kind_of zero = Contains
kind_of (suc zero) = Within
kind_of (suc (suc zero)) = Below
kind_of (suc (suc (suc zero))) = AtMost
kind_of (suc (suc (suc (suc n)))) = Same

-- a variable is told by its number
pub variable_back : (v : Variable) → variable_of (variable_number v) ≡ v
variable_back OsName = refl
variable_back SysPlatform = refl
variable_back PlatformMachine = refl
variable_back PlatformPythonImplementation = refl
variable_back PlatformRelease = refl
variable_back PlatformSystem = refl
variable_back PlatformVersion = refl
variable_back PythonVersion = refl
variable_back PythonFullVersion = refl
variable_back ImplementationName = refl
variable_back ImplementationVersion = refl
variable_back Extras = refl

-- a kind is told by its number
pub kind_back : (k : AtomKind) → kind_of (kind_number k) ≡ k
kind_back Contains = refl
kind_back Within = refl
kind_back Below = refl
kind_back AtMost = refl
kind_back Same = refl

-- the atom of a key
abbrev atom_of : List ℕ → AtomFields
atom_of (v ∷ k ∷ literal) = record { variable = variable_of v; kind = kind_of k; literal = literal }
atom_of other = record { variable = OsName; kind = Contains; literal = [] }

atom_back : (a : AtomFields) → atom_of (atom_key a) ≡ a
atom_back a =
    ap (λ v. record { variable = v; kind = kind_of (kind_number a.kind); literal = a.literal }) (variable_back a.variable)
    ∙ ap (λ k. record { variable = a.variable; kind = k; literal = a.literal }) (kind_back a.kind)

-- atoms that the order doesn't tell apart are one
pub same_atom : (a b : AtomFields) → atom_cmp a b ≡ Equal → a ≡ b
same_atom a b e = sym (atom_back a) ∙ ap atom_of (exact_bytes (atom_key a) (atom_key b) e) ∙ atom_back b
