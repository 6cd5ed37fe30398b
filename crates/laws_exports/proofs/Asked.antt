-- The lines of rows ask for what the lock gives.
use Rattle.std.specs.Prelude.{IfSome}
use Rattle.std.proofs.Common.{◌≡◌, ◌↔◌, ℕ, List, [], ◌∷◌, Bool, true, false, inl, inr, Option, Some, None, Contains, refl, sym, ap, subst, ◌∙◌}
use Rattle.ul_base.specs.declared.node.Node.{Node}
use Rattle.ul_base.proofs.ForCallers.{contains_cases, contains_first, contains_later, none_in}
use Rattle.ul_version.specs.Fields.{Fields}
use Rattle.ul_specifier.specs.Clauses.{ClauseFields}
use Rattle.ul_comparison.specs.Formulas.{Formula}
use Rattle.ul_comparison.specs.Worlds.{WorldFields, IsWorld}
use Rattle.ul_marker.specs.Parts.{asks_extras}
use Rattle.ul_requirement.specs.Fields.{RequirementFields}
use Rattle.ul_requirement.specs.Reading.{Reading, by_url, reading_of, requirement, unread}
use Rattle.ul_requirement.specs.Truth.{may_hold}
use Rattle.ul_tree.specs.Regions.{region_of}
use Rattle.ul_lock.specs.declared.parts.Lock.{Lock}
use Rattle.ul_lock.specs.Walk.{Pick as NodeAt}
use Rattle.ul_reach.specs.Headline.{HasRowIn, IsGiven}
use Rattle.ul_reach.specs.Rows.{is_supported}
use Rattle.ul_reach.specs.declared.rows.Reached.{Reached}
use Rattle.laws_exports.specs.Lines.{AreRead, AreRowLines, AskWhatIsGiven, IsAsked, IsRowLine, compares_extras, read_as}
use Rattle.laws_exports.specs.Requirements.{extras_of, pinned}

-- ---- lines and rows

-- each line has a row
row_at : (lines : List (List ℕ)) (rows : List Reached) (line : List ℕ) → AreRowLines lines rows → Contains lines line
    → (r : Reached) × Contains rows r × IsRowLine line r
row_at [] rows line are at = absurd (none_in line at)
row_at (one ∷ lines) [] line are at = absurd are
row_at (one ∷ lines) (r ∷ rows) line are at = elim (contains_cases one lines line at) [
  | inl same ↦ (r, contains_first r rows, subst (λ (t : List ℕ). IsRowLine t r) (sym same) are.0)
  | inr later ↦
      let found = row_at lines rows line are.1 later in (found.0, contains_later r rows found.0 found.1, found.2)
]

-- each row has a line
line_at : (lines : List (List ℕ)) (rows : List Reached) (r : Reached) → AreRowLines lines rows → Contains rows r
    → (line : List ℕ) × Contains lines line × IsRowLine line r
line_at lines [] r are at = absurd (none_in r at)
line_at [] (one ∷ rows) r are at = absurd are
line_at (line ∷ lines) (one ∷ rows) r are at = elim (contains_cases one rows r at) [
  | inl same ↦ (line, contains_first line lines, subst (λ (s : Reached). IsRowLine line s) (sym same) are.0)
  | inr later ↦
      let found = line_at lines rows r are.1 later in (found.0, contains_later line lines found.0 found.1, found.2)
]

-- ---- one requirement has one row

abbrev required : RequirementFields → Reading → RequirementFields
required q (requirement r) = r
required q (by_url o) = q
required q unread = q

abbrev only_extra : List (List ℕ) → Option (List ℕ)
only_extra [] = None
only_extra (x ∷ xs) = Some x

extra_back : (extra : Option (List ℕ)) → only_extra (extras_of extra) ≡ extra
extra_back None = refl
extra_back (Some x) = refl

abbrev first_version : Fields → List ClauseFields → Fields
first_version v [] = v
first_version v (c ∷ cs) = c.version

one_requirement : (q r : RequirementFields) → requirement q ≡ requirement r → q ≡ r
one_requirement q r e = ap (required q) e

-- requirements that pin nodes at versions are equal where these are
same_pin : (n m : Node) (v u : Fields) (j k : Option Formula) → requirement (pinned n v j) ≡ requirement (pinned m u k)
    → ◌≡◌ {A = NodeAt} (n, v) (m, u) × (j ≡ k)
same_pin n m v u j k e =
    let same : pinned n v j ≡ pinned m u k = one_requirement (pinned n v j) (pinned m u k) e in
    let name : n.name ≡ m.name = ap (λ (q : RequirementFields). q.name) same in
    let extra : n.extra ≡ m.extra =
    sym (extra_back n.extra) ∙ (ap (λ (q : RequirementFields). only_extra q.extras) same ∙ extra_back m.extra) in
    let version : v ≡ u = ap (λ (q : RequirementFields). first_version v q.specifiers) same in
    ((λ i. (record { name = name i; extra = extra i }, version i)), ap (λ (q : RequirementFields). q.marker) same)

abbrev is_requirement : Reading → Bool
is_requirement (requirement q) = true
is_requirement (by_url o) = false
is_requirement unread = false

-- what a row is read as
abbrev pinned_row : Reached → Option Formula → Reading
pinned_row r marker = requirement (pinned r.node r.version marker)

-- a row that is read is read as its requirement
read_pinned : (r : Reached) (marker : Option Formula) → (read_as r marker ≡ unread → ⊥)
    → read_as r marker ≡ pinned_row r marker
read_pinned r None read = refl
read_pinned r (Some f) read = by_extras (asks_extras f) refl
  where
    by_extras : (b : Bool) → asks_extras f ≡ b → read_as r (Some f) ≡ pinned_row r (Some f)
    by_extras true e = absurd (read (rw e refl))
    by_extras false e = rw e refl

-- a requirement is no want of a reading
never_unread : (q : RequirementFields) → requirement q ≡ unread → ⊥
never_unread q e = let clash : true ≡ false = ap is_requirement e in cc clash

-- a line of a row whose marker compares no `extras` has a reading
silent_read : (line : List ℕ) (r : Reached) → IsRowLine line r → compares_extras r.marker ≡ false
    → reading_of line ≡ unread → ⊥
silent_read line r row silent e = by_marker row.marker (row.silent silent) (sym row.read ∙ e)
  where
    by_marker : (marker : Option Formula) → IfSome marker (λ f. asks_extras f ≡ false) → read_as r marker ≡ unread → ⊥
    by_marker None h q = never_unread (pinned r.node r.version None) q
    by_marker (Some f) h q =
        let plain : asks_extras f ≡ false = h in
        let read : pinned_row r (Some f) ≡ read_as r (Some f) = rw plain refl in
        never_unread (pinned r.node r.version (Some f)) (read ∙ q)

-- so each line has, where each row's marker is such
pub all_read : (lines : List (List ℕ)) (rows : List Reached) → AreRowLines lines rows
    → ((r : Reached) → Contains rows r → compares_extras r.marker ≡ false) → AreRead lines
all_read lines rows are silent line at e =
    let (r, listed, row) = row_at lines rows line are at in silent_read line r row (silent r listed) e

-- ---- what the lines ask for

module _ (l : Lock) (xs : List (List ℕ)) (rows : List Reached) (lines : List (List ℕ)) (are : AreRowLines lines rows)
    (exact : (w : WorldFields) → IsWorld w → is_supported l w ≡ true → (p : NodeAt)
    → HasRowIn rows w p ↔ IsGiven l w xs p) where
  nothing_else : (w : WorldFields) → IsWorld w → is_supported l w ≡ true → (p : NodeAt)
      → IsAsked lines w p → IsGiven l w xs p
  nothing_else w is within p asked =
      let (line, at, marker, read, holds) = asked in
      let (r, listed, row) = row_at lines rows line are at in
      let same : read_as r row.marker ≡ requirement (pinned p.0 p.1 marker) = sym row.read ∙ read in
      let some = read_pinned r row.marker (λ e. never_unread (pinned p.0 p.1 marker) (sym same ∙ e)) in
      let (key, markers) = same_pin r.node p.0 r.version p.1 row.marker marker (sym some ∙ same) in
      let true_there : region_of r.marker w ≡ true =
      sym (row.truth w [] is) ∙ (ap (λ (o : Option Formula). may_hold o w []) markers ∙ holds) in
      (exact w is within p).0 (r, listed, key, true_there)

  all_asked : AreRead lines → (w : WorldFields) → IsWorld w → is_supported l w ≡ true → (p : NodeAt)
      → IsGiven l w xs p → IsAsked lines w p
  all_asked read w is within p given =
      let (r, listed, key, holds) = (exact w is within p).1 given in
      let (line, at, row) = line_at lines rows r are listed in
      let pinned_here : reading_of line ≡ pinned_row r row.marker =
      row.read ∙ read_pinned r row.marker (λ e. read line at (row.read ∙ e)) in (
        line,
        at,
        row.marker,
        pinned_here ∙ ap (λ (q : NodeAt). requirement (pinned q.0 q.1 row.marker)) key,
        row.truth w [] is ∙ holds,
      )

  pub asked_is_given : AskWhatIsGiven l xs lines
  asked_is_given = record { nothing_else = nothing_else; all = all_asked }
