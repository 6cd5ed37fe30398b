-- The words of extras on a command line, and the extras of a lock's root.
use Rattle.std.specs.Prelude.{ℕ, List, [], ◌∷◌, Bool, false, not, find, flat_map, Option, Some, None}
use Rattle.ul_base.specs.Names.{name_of}
use Rattle.ul_lock.specs.declared.parts.Lock.{Lock}
use Rattle.ul_lock_nodes.specs.Roots.{root_lists}

-- the root has an extra
abbrev pub has_extra : Lock → Option (List ℕ) → Bool
has_extra l None = false
has_extra l (Some name) = root_lists l name

-- the word is the name of one of the root's extras
abbrev pub is_extra_word : Lock → List ℕ → Bool
is_extra_word l word = has_extra l (name_of word)

-- the first word that isn't
unfoldable pub first_other : Lock → List (List ℕ) → Option (List ℕ)
first_other l words = find (λ word. not (is_extra_word l word)) words

-- the name of a word, if it is one
abbrev pub names_in : Option (List ℕ) → List (List ℕ)
names_in None = []
names_in (Some name) = name ∷ []

-- the names of words
unfoldable pub names_of : List (List ℕ) → List (List ℕ)
names_of words = flat_map (λ word. names_in (name_of word)) words
