-- What is asked of a lock behind its shape: one root, and that edges lead to packages of the lock.
use Rattle.std.specs.Prelude.{ℕ, List, Bool, true, not, ◌&&◌, ◌==◌, Option, Some, None, bytes_eq, count_by}
use Rattle.std.specs.List.{list_all, list_any, position_from}
use Rattle.ul_version.specs.Texts.{version_text}
use Rattle.ul_lock.specs.declared.parts.Edge.{Edge}
use Rattle.ul_lock.specs.declared.parts.Extra.{Extra}
use Rattle.ul_lock.specs.declared.parts.Locked.{Locked}

-- how many packages have the name
abbrev pub count_named : List ℕ → List Locked → ℕ
count_named name bs = count_by (λ b. bytes_eq b.name name) bs

-- exactly one package has the root's name
abbrev pub has_one_root : List ℕ → List Locked → Bool
has_one_root root bs = count_named root bs == 1

-- an extra of this name is listed
abbrev pub lists : List Extra → List ℕ → Bool
lists xs name = list_any (λ x. bytes_eq x.name name) xs

-- the extra is listed, if there is one
abbrev pub lists_option : List Extra → Option (List ℕ) → Bool
lists_option xs None = true
lists_option xs (Some name) = lists xs name

-- the package has the target's name and the same text of the version
abbrev pub is_named : Edge → Locked → Bool
is_named e b = bytes_eq b.name e.target.name && bytes_eq (version_text b.version) (version_text e.version)

-- and lists the target's extra
abbrev pub is_target : Edge → Locked → Bool
is_target e b = is_named e b && lists_option b.extras e.target.extra

-- the edge leads to one of the packages
unfoldable pub has_target : List Locked → Edge → Bool
has_target bs e = list_any (is_target e) bs

-- each edge does
abbrev pub have_targets : List Locked → List Edge → Bool
have_targets bs es = list_all (has_target bs) es

-- each edge of the package and of its extras does
abbrev pub package_leads_on : List Locked → Locked → Bool
package_leads_on bs b = have_targets bs b.edges && list_all (λ x. have_targets bs x.edges) b.extras

-- each edge of all packages does
abbrev pub all_lead_on : List Locked → Bool
all_lead_on bs = list_all (package_leads_on bs) bs

-- the first package with an edge that leads nowhere
abbrev pub first_without_target : List Locked → Option ℕ
first_without_target bs = position_from (λ b. not (package_leads_on bs b)) 0 bs
