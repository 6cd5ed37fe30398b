-- The extras that the root of a lock may list, as a list: the project's, and those that the lock's edges lead to.
use Rattle.std.specs.Prelude.{ℕ, List, [], ◌++◌, flat_map, cond, Bool, not, ◌||◌, bytes_eq}
use Rattle.std.specs.List.{list_any, list_all}
use Rattle.std.specs.Option.{option_to_list}
use Rattle.ul_project.specs.Fields.{ProjectFields}
use Rattle.ul_lock.specs.declared.parts.Edge.{Edge}
use Rattle.ul_lock.specs.declared.parts.Extra.{Extra}
use Rattle.ul_lock.specs.declared.parts.Lock.{Lock}
use Rattle.ul_lock.specs.declared.parts.Locked.{Locked}

-- the extra of the root that an edge leads to, if it leads to one
abbrev pub asked_by_edge : (root : List ℕ) → Edge → List (List ℕ)
asked_by_edge root e = cond (bytes_eq e.target.name root) (option_to_list e.target.extra) []

-- those that edges lead to
abbrev pub asked_by_edges : (root : List ℕ) → List Edge → List (List ℕ)
asked_by_edges root es = flat_map (asked_by_edge root) es

-- those that the edges of a package and of its extras lead to
abbrev pub asked_by_package : (root : List ℕ) → Locked → List (List ℕ)
asked_by_package root b = asked_by_edges root b.edges ++ flat_map (λ x. asked_by_edges root x.edges) b.extras

-- the project's extras, and those that the lock's edges lead to
abbrev pub allowed_extras : ProjectFields → Lock → List (List ℕ)
allowed_extras p l = p.extras ++ flat_map (asked_by_package l.root) l.packages

-- each of these extras is among the names
abbrev pub are_among : (names : List (List ℕ)) → List Extra → Bool
are_among names xs = list_all (λ x. list_any (bytes_eq x.name) names) xs

-- the package has another name than the root, or each of its extras is
abbrev pub package_is_among : (names : List (List ℕ)) → (root : List ℕ) → Locked → Bool
package_is_among names root b = not (bytes_eq b.name root) || are_among names b.extras

-- so it is of all packages
abbrev pub root_is_among : (names : List (List ℕ)) → (root : List ℕ) → List Locked → Bool
root_is_among names root bs = list_all (package_is_among names root) bs
