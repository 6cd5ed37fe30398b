-- How reads that are on record are stored.
use Rattle.std.specs.Prelude.{◌≡◌, ℕ, List, [], ◌==◌, cond, refl}
use Rattle.std.specs.Coded.{Coded, code_by, coded×, coded_ℕ, coded_list}
use Rattle.ul_files.specs.Files.{Found, Read, absent, longer, there, untold}

-- which of the four it is, the limit, and the bytes
abbrev FoundParts : Type 0
FoundParts = ℕ × (ℕ × List ℕ)

abbrev parts_of : Found → FoundParts
parts_of absent = (0, (0, []))
parts_of (there bytes) = (1, (0, bytes))
parts_of (longer limit) = (2, (limit, []))
parts_of untold = (3, (0, []))

abbrev found_from : FoundParts → Found
found_from p = cond (p.0 == 0) absent (cond (p.0 == 1) (there p.1.1) (cond (p.0 == 2) (longer p.1.0) untold))

pub found_back : (f : Found) → found_from (parts_of f) ≡ f
found_back absent = refl
found_back (there bytes) = refl
found_back (longer limit) = refl
found_back untold = refl

-- what a read found is stored as a number, a limit and bytes
abbrev pub found_code : Coded Found
found_code = code_by FoundParts (coded× coded_ℕ (coded× coded_ℕ (coded_list coded_ℕ))) parts_of found_from found_back

-- a read is stored as its path and what it found
abbrev pub read_code : Coded Read
read_code =
    code_by (List ℕ × Found) (coded× (coded_list coded_ℕ) found_code) (λ r. (r.path, r.found)) (λ p. record { path = p.0; found = p.1 }) (λ _. refl)

-- reads are stored in their order
abbrev pub reads_code : Coded (List Read)
reads_code = coded_list read_code

-- pieces of bytes are stored in their order
abbrev pub pieces_code : Coded (List (List ℕ))
pieces_code = coded_list (coded_list coded_ℕ)
