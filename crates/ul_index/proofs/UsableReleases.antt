-- The usable releases of a document differ, and are found one after another.
use Rattle.std.proofs.Common.{◌≡◌, ◌++◌, ◌+◌, ◌||◌, ◌∙◌, ℕ, List, [], ◌∷◌, Option, Some, None, Bool, true, false, cond, true≢false, refl, ap, sym, subst, append_assoc, append-nil}
use Rattle.std.specs.Prelude.{All, Ok, Err, not}
use Rattle.std.proofs.lemmas.List.Elements.{All-nil, All-cons, All-weaker}
use Rattle.std.specs.Ordering.{is_eq}
use Rattle.serde_json.specs.Data.{Data}
use Rattle.ul_version.specs.Fields.{Fields}
use Rattle.ul_version.specs.Order.{version_cmp}
use Rattle.ul_specifier.specs.Clauses.{ClauseFields}
use Rattle.ul_requirement.specs.Fields.{IsOtherVersion, ReleaseFields, RequirementFields, VersionsDiffer}
use Rattle.ul_index.specs.Documents.{DocumentFault, Reading, entry_at, entries_from, releases_of_items}
use Rattle.ul_index.specs.Results.{◌>>=◌, option_bind}
use Rattle.ul_index.specs.Usable.{EntryFields, before, is_among, is_new, release_behind, release_of_entry, usable, usable_after, versions_with}

-- ---- versions up to an entry

pub among_push : (xs : List Fields) (v u : Fields) → is_among (xs ++ v ∷ []) u ≡ (is_eq (version_cmp v u) || is_among xs u)
among_push [] v u = refl
among_push (x ∷ xs) v u = swapped (is_eq (version_cmp x u)) (is_eq (version_cmp v u)) (is_among xs u) (among_push xs v u)
  where
    swapped : (a b c : Bool) {d : Bool} → d ≡ (b || c) → (a || d) ≡ (b || (a || c))
    swapped true true c e = refl
    swapped true false c e = refl
    swapped false b c e = e

or_left : (a b : Bool) → (a || b) ≡ false → a ≡ false
or_left true b e = e
or_left false b e = refl

or_right : (a b : Bool) → (a || b) ≡ false → b ≡ false
or_right true b e = absurd (true≢false e)
or_right false b e = e

-- ---- usable releases differ

version_here : (e : EntryFields) (v : Fields) (p : Option (List ClauseFields)) (q : Option (List RequirementFields)) (r : ReleaseFields)
    → option_bind p (λ python. option_bind q (λ requirements. Some (record { version = v; python = python; requirements = requirements; yanked = e.yanked; files = e.files; source = e.source }))) ≡ Some r
    → r.version ≡ v
version_here e v None q r h = cc
version_here e v (Some p) None r h = cc
version_here e v (Some p) (Some q) r h =
    let same : record { version = v; python = p; requirements = q; yanked = e.yanked; files = e.files; source = e.source } ≡ r = cc in ap (λ (x : ReleaseFields). x.version) (sym same)

version_of_release : (e : EntryFields) (v : Fields) (r : ReleaseFields) → e.version ≡ Some v → release_of_entry e ≡ Some r → r.version ≡ v
unfolding release_of_entry
version_of_release e v r is h = version_here e v e.python e.requirements r (rw is at h)

abbrev IsNew : List Fields → ReleaseFields → Type 0
IsNew earlier s = is_among earlier s.version ≡ false

front_new : (earlier : List Fields) (o : Option Fields) (s : ReleaseFields) → IsNew (versions_with earlier o) s → IsNew earlier s
front_new earlier None s h = h
front_new earlier (Some v) s h = or_right (is_eq (version_cmp v s.version)) (is_among earlier s.version) (sym (among_push earlier v s.version) ∙ h)

new_from : (earlier : List Fields) (v : Fields) (e : EntryFields) (r : ReleaseFields) (b : Bool) → e.version ≡ Some v → is_among earlier v ≡ b → cond (not b) (release_of_entry e) None ≡ Some r
    → IsNew earlier r × (r.version ≡ v)
new_from earlier v e r true is a h = cc
new_from earlier v e r false is a h = let same = version_of_release e v r is h in (ap (is_among earlier) same ∙ a, same)

apart_from : (earlier : List Fields) (v : Fields) (r s : ReleaseFields) → r.version ≡ v → IsNew (versions_with earlier (Some v)) s → IsOtherVersion r s
apart_from earlier v r s same n tie =
    true≢false (sym (ap is_eq (ap (λ u. version_cmp u s.version) (sym same) ∙ tie)) ∙ or_left (is_eq (version_cmp v s.version)) (is_among earlier s.version) (sym (among_push earlier v s.version) ∙ n))

new_here : (earlier : List Fields) (o : Option Fields) (e : EntryFields) (r : ReleaseFields) → e.version ≡ o → cond (is_new earlier o) (release_of_entry e) None ≡ Some r
    → IsNew earlier r × ((s : ReleaseFields) → IsNew (versions_with earlier o) s → IsOtherVersion r s)
new_here earlier None e r is h = cc
new_here earlier (Some v) e r is h = let p = new_from earlier v e r (is_among earlier v) is refl h in (p.0, λ s n. apart_from earlier v r s p.1 n)

before_new : (earlier : List Fields) (e : EntryFields) (o : Option ReleaseFields) (rs : List ReleaseFields) → release_behind earlier e ≡ o
    → All (IsNew (versions_with earlier e.version)) rs × VersionsDiffer rs → All (IsNew earlier) (before o rs) × VersionsDiffer (before o rs)
before_new earlier e None rs h (n, d) = (All-weaker (IsNew (versions_with earlier e.version)) (IsNew earlier) (λ s k. front_new earlier e.version s k) rs n, d)
before_new earlier e (Some r) rs h (n, d) =
    let p = new_here earlier e.version e r refl h in (
      All-cons (IsNew earlier) r rs p.0 (All-weaker (IsNew (versions_with earlier e.version)) (IsNew earlier) (λ s k. front_new earlier e.version s k) rs n),
      (All-weaker (IsNew (versions_with earlier e.version)) (IsOtherVersion r) p.1 rs n, d),
    )

usable_new : (earlier : List Fields) (es : List EntryFields) → All (IsNew earlier) (usable_after earlier es) × VersionsDiffer (usable_after earlier es)
usable_new earlier [] = (All-nil (IsNew earlier), tt)
usable_new earlier (e ∷ es) = before_new earlier e (release_behind earlier e) (usable_after (versions_with earlier e.version) es) refl (usable_new (versions_with earlier e.version) es)

differ_from : (r : Reading (List EntryFields)) (rs : List ReleaseFields) → (r >>= λ es. Ok (usable es)) ≡ Ok rs → VersionsDiffer rs
differ_from (Err e) rs h = cc
differ_from (Ok es) rs h = let same : usable es ≡ rs = cc in subst VersionsDiffer same (usable_new [] es).1

-- the usable releases of a document differ
pub releases_differ : (items : List Data) (rs : List ReleaseFields) → releases_of_items items ≡ Ok rs → VersionsDiffer rs
unfolding releases_of_items
releases_differ items rs h = differ_from (entries_from 0 items) rs h

-- ---- releases found, and those of the entries that are left

abbrev pub releases_behind : List ReleaseFields → List Fields → Reading (List EntryFields) → Reading (List ReleaseFields)
releases_behind found earlier rest = rest >>= λ es. Ok (found ++ usable_after earlier es)

pub releases-start : (found : List ReleaseFields) (items : List Data) → found ≡ [] → releases_of_items items ≡ releases_behind found [] (entries_from 0 items)
unfolding releases_of_items
releases-start found items e = rw e refl

step_rest : (found after : List ReleaseFields) (earlier : List Fields) (e : EntryFields) (o : Option ReleaseFields) (rest : Reading (List EntryFields)) → o ≡ release_behind earlier e → after ≡ found ++ before o []
    → releases_behind found earlier (rest >>= λ es. Ok (e ∷ es)) ≡ releases_behind after (versions_with earlier e.version) rest
step_rest found after earlier e o (Err f) h s = refl
step_rest found after earlier e o (Ok es) h s = ap Ok (ap (λ x. found ++ before x (usable_after (versions_with earlier e.version) es)) (sym h) ∙ joined o (usable_after (versions_with earlier e.version) es) ∙ ap (λ l. l ++ usable_after (versions_with earlier e.version) es) (sym s))
  where
    joined : (p : Option ReleaseFields) (rs : List ReleaseFields) → found ++ before p rs ≡ (found ++ before p []) ++ rs
    joined None rs = ap (λ l. l ++ rs) (sym (append-nil found))
    joined (Some r) rs = sym (append_assoc found (r ∷ []) rs)

pub releases-next : (i : ℕ) (found after : List ReleaseFields) (earlier : List Fields) (d : Data) (ds : List Data) (e : EntryFields) (o : Option ReleaseFields) → entry_at i d ≡ Ok e → o ≡ release_behind earlier e → after ≡ found ++ before o []
    → releases_behind found earlier (entries_from i (d ∷ ds)) ≡ releases_behind after (versions_with earlier e.version) (entries_from (i + 1) ds)
unfolding entries_from
releases-next i found after earlier d ds e o h b s = rw h (step_rest found after earlier e o (entries_from (i + 1) ds) b s)

pub releases-fault : (i : ℕ) (found : List ReleaseFields) (earlier : List Fields) (d : Data) (ds : List Data) (f : DocumentFault) → entry_at i d ≡ Err f → releases_behind found earlier (entries_from i (d ∷ ds)) ≡ Err f
unfolding entries_from
releases-fault i found earlier d ds f h = rw h refl

pub releases-end : (i : ℕ) (found : List ReleaseFields) (earlier : List Fields) → releases_behind found earlier (entries_from i []) ≡ Ok found
unfolding entries_from
releases-end i found earlier = ap Ok (append-nil found)

-- ---- an entry behind others

pub behind_old : (earlier : List Fields) (e : EntryFields) → is_new earlier e.version ≡ false → None ≡ release_behind earlier e
behind_old earlier e h = rw h refl

pub behind_new : (earlier : List Fields) (e : EntryFields) → is_new earlier e.version ≡ true → release_of_entry e ≡ release_behind earlier e
behind_new earlier e h = rw h refl
