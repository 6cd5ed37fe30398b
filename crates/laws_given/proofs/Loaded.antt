-- What is loaded begins with the project's package.
use Rattle.std.proofs.Common.{ℕ, [], ◌∷◌, ◌++◌, refl, ap}
use Rattle.ul_requirement.specs.Fields.{PackageFields}
use Rattle.ul_index.specs.Catalogs.{Packages}
use Rattle.ul_load.specs.Begun.{BeginsWith}
use Rattle.ul_load.specs.Loading.{ProgressFields, progress_with}
use Rattle.laws_given.specs.Given.{LoadedBegins}
use Rattle.laws_given.proofs.Turns.{loaded}

-- the packages begin with this one
abbrev Begins : PackageFields → ProgressFields → Type 0
Begins p s = BeginsWith p s.packages

first_stays : (p : PackageFields) (s : ProgressFields) (one : ℕ × PackageFields) → Begins p s
    → Begins p (progress_with s one)
first_stays p s one h =
    record { others = h.others ++ one.1 ∷ []; is = ap (λ (c : Packages). c ++ one.1 ∷ []) h.is }

pub loaded_begins : LoadedBegins
loaded_begins m folder b c loads =
    loaded m folder b (BeginsWith b.project) (Begins b.project) (record {
      first = record { others = []; is = refl };
      turn = λ s p lt h found. first_stays b.project s p h;
      so = λ s h. h;
    }) c loads
