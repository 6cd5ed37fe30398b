-- The usable releases of a document have different versions.
use Rattle.std.proofs.Common.{◌≡◌, ◌++◌, ◌||◌, ◌∙◌, List, [], ◌∷◌, Option, Some, None, Bool, true, false, cond, true≢false, refl, ap, sym}
use Rattle.std.specs.Prelude.{All, not}
use Rattle.std.proofs.lemmas.Bool.{or_parts}
use Rattle.std.proofs.lemmas.List.Elements.{All-nil, All-cons, All-weaker}
use Rattle.std.specs.Ordering.{is_eq}
use Rattle.ul_version.specs.Fields.{Fields}
use Rattle.ul_version.specs.Order.{version_cmp}
use Rattle.ul_specifier.specs.Clauses.{ClauseFields}
use Rattle.ul_requirement.specs.Fields.{IsOtherVersion, ReleaseFields, RequirementFields, VersionsDiffer}
use Rattle.ul_index.specs.Results.{option_bind}
use Rattle.ul_index.specs.Usable.{EntryFields, before, is_among, is_new, release_behind, release_of_entry, usable, usable_after, versions_with}

among_push : (xs : List Fields) (v u : Fields) → is_among (xs ++ v ∷ []) u ≡ (is_eq (version_cmp v u) || is_among xs u)
among_push [] v u = refl
among_push (x ∷ xs) v u =
    swapped (is_eq (version_cmp x u)) (is_eq (version_cmp v u)) (is_among xs u) (among_push xs v u)
  where
    swapped : (a b c : Bool) {d : Bool} → d ≡ (b || c) → (a || d) ≡ (b || (a || c))
    swapped true true c e = refl
    swapped true false c e = refl
    swapped false b c e = e

-- the release of an entry with these readings
abbrev release_with : EntryFields → Fields → List ClauseFields → List RequirementFields → ReleaseFields
release_with e v python requirements =
    record { version = v; python = python; requirements = requirements; yanked = e.yanked; files = e.files; source = e.source }

version_here : (e : EntryFields) (v : Fields) (p : Option (List ClauseFields)) (q : Option (List RequirementFields))
    (r : ReleaseFields)
    → option_bind p (λ python. option_bind q (λ requirements. Some (release_with e v python requirements))) ≡ Some r
    → r.version ≡ v
version_here e v None q r h = cc
version_here e v (Some p) None r h = cc
version_here e v (Some p) (Some q) r h =
    let same : release_with e v p q ≡ r = cc in ap (λ (x : ReleaseFields). x.version) (sym same)

version_of_release : (e : EntryFields) (v : Fields) (r : ReleaseFields) → e.version ≡ Some v
    → release_of_entry e ≡ Some r → r.version ≡ v
unfolding release_of_entry
version_of_release e v r is h = version_here e v e.python e.requirements r (rw is at h)

-- none of these versions is equal to the release's
abbrev IsNew : List Fields → ReleaseFields → Type 0
IsNew earlier s = is_among earlier s.version ≡ false

-- with a version more: the release differs from it, and is new behind those before it
new_parts : (earlier : List Fields) (v : Fields) (s : ReleaseFields) → IsNew (versions_with earlier (Some v)) s
    → (is_eq (version_cmp v s.version) ≡ false) × IsNew earlier s
new_parts earlier v s h =
    or_parts (is_eq (version_cmp v s.version)) (is_among earlier s.version) (sym (among_push earlier v s.version) ∙ h)

front_new : (earlier : List Fields) (o : Option Fields) (s : ReleaseFields) → IsNew (versions_with earlier o) s
    → IsNew earlier s
front_new earlier None s h = h
front_new earlier (Some v) s h =
    (new_parts earlier v s h).1

new_from : (earlier : List Fields) (v : Fields) (e : EntryFields) (r : ReleaseFields) (b : Bool) → e.version ≡ Some v
    → is_among earlier v ≡ b → cond (not b) (release_of_entry e) None ≡ Some r → IsNew earlier r × (r.version ≡ v)
new_from earlier v e r true is a h = cc
new_from earlier v e r false is a h = let same = version_of_release e v r is h in (ap (is_among earlier) same ∙ a, same)

apart_from : (earlier : List Fields) (v : Fields) (r s : ReleaseFields) → r.version ≡ v
    → IsNew (versions_with earlier (Some v)) s
    → IsOtherVersion r s
apart_from earlier v r s same n tie =
    true≢false (sym (ap is_eq (ap (λ u. version_cmp u s.version) (sym same) ∙ tie)) ∙ (new_parts earlier v s n).0)

new_here : (earlier : List Fields) (o : Option Fields) (e : EntryFields) (r : ReleaseFields) → e.version ≡ o
    → cond (is_new earlier o) (release_of_entry e) None ≡ Some r
    → IsNew earlier r × ((s : ReleaseFields) → IsNew (versions_with earlier o) s → IsOtherVersion r s)
new_here earlier None e r is h = cc
new_here earlier (Some v) e r is h =
    let p = new_from earlier v e r (is_among earlier v) is refl h in (p.0, λ s n. apart_from earlier v r s p.1 n)

-- releases behind versions, and different from one another
abbrev AreNew : List Fields → List ReleaseFields → Type 0
AreNew earlier rs = All (IsNew earlier) rs × VersionsDiffer rs

all_earlier : (earlier : List Fields) (e : EntryFields) (rs : List ReleaseFields)
    → All (IsNew (versions_with earlier e.version)) rs → All (IsNew earlier) rs
all_earlier earlier e rs n =
    All-weaker (IsNew (versions_with earlier e.version)) (IsNew earlier) (λ s k. front_new earlier e.version s k) rs n

before_new : (earlier : List Fields) (e : EntryFields) (o : Option ReleaseFields) (rs : List ReleaseFields)
    → release_behind earlier e ≡ o
    → AreNew (versions_with earlier e.version) rs → AreNew earlier (before o rs)
before_new earlier e None rs h (n, d) =
    (all_earlier earlier e rs n, d)
before_new earlier e (Some r) rs h (n, d) =
    let p = new_here earlier e.version e r refl h in (
      All-cons (IsNew earlier) r rs p.0
          (all_earlier earlier e rs n),
      (All-weaker (IsNew (versions_with earlier e.version)) (IsOtherVersion r) p.1 rs n, d),
    )

usable_new : (earlier : List Fields) (es : List EntryFields) → AreNew earlier (usable_after earlier es)
usable_new earlier [] = (All-nil (IsNew earlier), tt)
usable_new earlier (e ∷ es) =
    before_new earlier e (release_behind earlier e) (usable_after (versions_with earlier e.version) es) refl
    (usable_new (versions_with earlier e.version) es)

-- usable releases have different versions
pub usable_differ : (es : List EntryFields) → VersionsDiffer (usable es)
usable_differ es = (usable_new [] es).1
