-- The words of extras.
use Rattle.std.proofs.Common.{◌≡◌, ℕ, List, [], ◌∷◌, ◌++◌, Bool, true, false, not, cond, Option, Some, None, refl}
use Rattle.ul_base.specs.Names.{name_of}
use Rattle.ul_lock.specs.declared.parts.Lock.{Lock}
use Rattle.ul_lock_nodes.specs.Roots.{first_unknown, root_lists}
use Rattle.ul_lock_commands.specs.Words.{first_other, has_extra, names_in, names_of}

-- a name that the root has, in front of others
known_first : (l : Lock) (name : List ℕ) (names : List (List ℕ)) → root_lists l name ≡ true → first_unknown l names ≡ None
    → first_unknown l (name ∷ names) ≡ None
known_first l name names has rest = rw has rest

-- a name that isn't passed over is one that the root has, and the others are as before
by_test : (l : Lock) (name word : List ℕ) (names : List (List ℕ)) (rest : Option (List ℕ)) (has : Bool) → root_lists l name ≡ has
    → cond (not has) (Some word) rest ≡ None → (rest ≡ None → first_unknown l names ≡ None) → first_unknown l (name ∷ names) ≡ None
by_test l name word names rest true is none later = known_first l name names is (later none)
by_test l name word names rest false is none later = absurd (cc)

by_name : (l : Lock) (o : Option (List ℕ)) (word : List ℕ) (names : List (List ℕ)) (rest : Option (List ℕ))
    → cond (not (has_extra l o)) (Some word) rest ≡ None → (rest ≡ None → first_unknown l names ≡ None)
    → first_unknown l (names_in o ++ names) ≡ None
by_name l None word names rest none later = absurd (cc)
by_name l (Some name) word names rest none later = by_test l name word names rest (root_lists l name) refl none later

-- where each word is the name of an extra of the root, the root has each of their names
pub all_known : (l : Lock) (words : List (List ℕ)) → first_other l words ≡ None → first_unknown l (names_of words) ≡ None
unfolding first_other names_of
all_known l [] none = refl
all_known l (word ∷ words) none = by_name l (name_of word) word (names_of words) (first_other l words) none (all_known l words)
