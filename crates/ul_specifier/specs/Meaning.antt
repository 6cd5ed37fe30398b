-- Which versions meet a clause: PEP 440, "Version specifiers", operator by operator. In each definition
-- V is the clause's version and c the candidate.
use Rattle.std.specs.Prelude.{◌==◌, ◌-◌, ◌&&◌, ◌||◌, Bool, true, false, not, List, length, take, Option, Some, None, if◌then◌else◌}
use Rattle.std.specs.List.{list_all, list_any, filter_map}
use Rattle.std.specs.Ordering.{is_lt, is_gt, is_eq}
use Rattle.ul_version.specs.Fields.{Fields, is_pre_of, is_post_of, plain, without_local}
use Rattle.ul_version.specs.Order.{version_cmp, release_cmp, has_release_front}
use Rattle.ul_specifier.specs.Clauses.{ClauseFields, has_local, is_equal, is_negative}
use Rattle.ul_specifier.specs.declared.clause.Op.{Op}
use Rattle.ul_specifier.specs.declared.clause.Op.TheVariants.{Equal, Unequal, AtLeast, AtMost, More, Less, Compatible, Distinct}

-- c has V's epoch and V's release, padded with zeros
abbrev pub is_of_release : Fields → Fields → Bool
is_of_release V c = c.epoch == V.epoch && is_eq (release_cmp c.release V.release)

-- c has V's epoch, and its release, padded with zeros, begins with V's
abbrev pub begins_as : Fields → Fields → Bool
begins_as V c = c.epoch == V.epoch && has_release_front V.release c.release

-- c equals V, where c's local part counts only if V has one
abbrev pub equals : Fields → Fields → Bool
equals V c = if has_local V then is_eq (version_cmp c V) else is_eq (version_cmp (without_local c) V)

-- c without its local part is at least V
abbrev pub is_at_least : Fields → Fields → Bool
is_at_least V c = not (is_lt (version_cmp (without_local c) V))

-- c without its local part is at most V
abbrev pub is_at_most : Fields → Fields → Bool
is_at_most V c = not (is_gt (version_cmp (without_local c) V))

-- c is greater than V; it is no post-release of V's release unless V is one, and no version with a
-- local part of V's release
abbrev pub is_more : Fields → Fields → Bool
is_more V c =
    is_gt (version_cmp c V) && ((is_post_of V || not (is_post_of c && is_of_release V c)) && not (has_local c && is_of_release V c))

-- c is less than V, and no pre-release of V's release unless V is one
abbrev pub is_less : Fields → Fields → Bool
is_less V c = is_lt (version_cmp c V) && (is_pre_of V || not (is_pre_of c && is_of_release V c))

-- V's epoch, and V's release without its last number
abbrev pub series : Fields → Fields
series V = record (plain (take (length V.release - 1) V.release)) { epoch = V.epoch }

-- what `==V` asks for, with and without `.*`
abbrev pub matches : Fields → Bool → Fields → Bool
matches V true c = begins_as V c
matches V false c = equals V c

-- the clause `==V`, without `.*`
abbrev pub equal_clause : Fields → ClauseFields
equal_clause V = record { op = Equal; version = V; prefix = false }

-- the exclusion of V
abbrev pub distinct_clause : Fields → ClauseFields
distinct_clause V = record { op = Distinct; version = V; prefix = false }

-- the table of PEP 440, and the exclusion of a version, which no text spells: for each operator, which c it admits
-- beside V, with and without `.*`
abbrev pub meets_op : Op → Fields → Bool → Fields → Bool
meets_op Equal V prefix c = matches V prefix c
meets_op Unequal V prefix c = not (matches V prefix c)
meets_op AtLeast V prefix c = is_at_least V c
meets_op AtMost V prefix c = is_at_most V c
meets_op More V prefix c = is_more V c
meets_op Less V prefix c = is_less V c
meets_op Compatible V prefix c = is_at_least V c && begins_as (series V) c
meets_op Distinct V prefix c = not (is_eq (version_cmp c V))

-- whether a version meets a clause
unfoldable pub meets_clause : ClauseFields → Fields → Bool
meets_clause s c = meets_op s.op s.version s.prefix c

-- whether a version meets every clause of a list
abbrev pub meets_list : List ClauseFields → Fields → Bool
meets_list clauses c = list_all (λ s. meets_clause s c) clauses

-- whether a clause other than `!=` and an exclusion has a pre-release
abbrev pub names_pre_of : List ClauseFields → Bool
names_pre_of clauses = list_any (λ s. not (is_negative s.op) && is_pre_of s.version) clauses

-- whether a clause is `==V` without `.*`, with V equal to c
abbrev pub pins_clause : Fields → ClauseFields → Bool
pins_clause c s = is_equal s.op && (not s.prefix && is_eq (version_cmp s.version c))

-- whether some clause is
abbrev pub pins_of : List ClauseFields → Fields → Bool
pins_of clauses c = list_any (pins_clause c) clauses

-- ---- lower parts

-- `>=V`
abbrev pub at_least : Fields → ClauseFields
at_least V = record { op = AtLeast; version = V; prefix = false }

-- what a clause asks for as a lower bound: `>=V` and `>V` are themselves, `==V`, `==V.*` and `~=V` are
-- `>=V` without V's local part, and the others ask for nothing
abbrev pub lower_op : Op → ClauseFields → Option ClauseFields
lower_op Equal s = Some (at_least (without_local s.version))
lower_op Unequal s = None
lower_op AtLeast s = Some s
lower_op AtMost s = None
lower_op More s = Some s
lower_op Less s = None
lower_op Compatible s = Some (at_least (without_local s.version))
lower_op Distinct s = None

-- the lower bound of one clause
abbrev pub lower_clause : ClauseFields → Option ClauseFields
lower_clause s = lower_op s.op s

-- the lower bounds of a list of clauses, in order
abbrev pub lower_list : List ClauseFields → List ClauseFields
lower_list clauses = filter_map lower_clause clauses
