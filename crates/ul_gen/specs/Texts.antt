-- The texts of the generator: a project file and the index documents of its packages g0, g1 and so on.
use Rattle.std.specs.Prelude.{ℕ, zero, suc, ◌+◌, ◌*◌, ◌%◌, min, List, [], ◌∷◌, ◌++◌, codes, decimal, nat_eq, nat_lt, if◌then◌else◌, Option, option_map, option_to_list}
use Rattle.ul_gen.specs.declared.documents.Need.{Need}
use Rattle.ul_gen.specs.Numbers.{draw, target_of, least_of}

-- a package's name
abbrev pub name_text : ℕ → List ℕ
name_text k = codes "g" ++ decimal k

-- what a text says of each number below one, in order
abbrev pub text_below : (ℕ → List ℕ) → ℕ → List ℕ
text_below text zero = []
text_below text (suc n) = text_below text n ++ text n

-- a line of the project's requirements
abbrev pub requirement_line : List ℕ → List ℕ
requirement_line text = codes "    \"" ++ (text ++ codes "\",\n")

-- the project asks for each eighth package
unfoldable pub eighth_line : ℕ → List ℕ
eighth_line k = if nat_eq (k % 8) 0 then requirement_line (name_text k ++ codes ">=1") else []

-- a package with a condition and the interpreter's minor version that ends it
unfoldable pub fork_line : List ℕ → ℕ → List ℕ
fork_line condition k = requirement_line (name_text k ++ (condition ++ (decimal (10 + k) ++ codes "'")))

-- and for the first packages on each side of an interpreter's minor version
unfoldable pub fork_lines : ℕ → List ℕ
fork_lines k = fork_line (codes "<3; python_version < '3.") k ++ fork_line (codes "; python_version >= '3.") k

-- what stands before the requirements
abbrev pub project_head : List ℕ
project_head =
    codes "[project]\nname = \"generated\"\nversion = \"1\"\nrequires-python = \">=3.9\"\ndependencies = [\n"

-- the project file of so many packages
unfoldable pub project_text : ℕ → List ℕ
project_text size = project_head ++ (text_below eighth_line size ++ (text_below fork_lines (min 3 size) ++ codes "]\n"))

-- a requirement of a document, `"gJ>=L"`
abbrev pub need_text : ℕ → ℕ → List ℕ
need_text target least = codes "\"" ++ (name_text target ++ (codes ">=" ++ (decimal least ++ codes "\"")))

-- a requirement, where there is one
abbrev pub wants : Option Need → List (List ℕ)
wants need = option_to_list (option_map (λ n. need_text n.target n.least) need)

-- the requirement of place 0 or 1 of a release; none where its target is no package of the project
unfoldable pub needs_at : ℕ → ℕ → ℕ → ℕ → ℕ → List (List ℕ)
needs_at seed size k version place =
    let drawn = draw seed k (4 * place + version) in
    if nat_lt (target_of k drawn) size then need_text (target_of k drawn) (least_of drawn) ∷ [] else []

-- texts with a comma between each two
abbrev pub joined_text : List (List ℕ) → List ℕ
joined_text [] = []
joined_text (text ∷ []) = text
joined_text (text ∷ next ∷ rest) = text ++ (codes "," ++ joined_text (next ∷ rest))

-- the requirements of a release
unfoldable pub needs_text : ℕ → ℕ → ℕ → ℕ → List ℕ
needs_text seed size k version = joined_text (needs_at seed size k version 0 ++ needs_at seed size k version 1)

-- a release of a document
unfoldable pub entry_text : ℕ → ℕ → ℕ → ℕ → List ℕ
entry_text seed size k version =
    codes "{\"version\":\"" ++ (decimal version ++ (codes "\",\"requires_dist\":["
    ++ (needs_text seed size k version ++ codes "]}")))

-- the four releases of a document
unfoldable pub entries_text : ℕ → ℕ → ℕ → List ℕ
entries_text seed size k =
    joined_text (entry_text seed size k 1 ∷ entry_text seed size k 2 ∷ entry_text seed size k 3 ∷ entry_text seed size k 4 ∷ [])

-- the document of a package
unfoldable pub document_text : ℕ → ℕ → ℕ → List ℕ
document_text seed size k =
    codes "{\"name\":\"" ++ (name_text k ++ (codes "\",\"versions\":[" ++ (entries_text seed size k ++ codes "]}")))
