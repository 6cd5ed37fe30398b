-- What decides whether a version meets a clause whose version has no local part: the candidate's public
-- part, and whether it has a local part.
use Rattle.std.specs.Prelude.{◌&&◌, ◌||◌, Bool, true, false, not}
use Rattle.std.specs.Ordering.{is_lt, is_gt, is_eq}
use Rattle.ul_version.specs.Fields.{Fields, is_pre_of, is_post_of, without_local}
use Rattle.ul_version.specs.Order.{version_cmp}
use Rattle.ul_specifier.specs.Clauses.{ClauseFields}
use Rattle.ul_specifier.specs.Meaning.{begins_as, is_of_release, series}
use Rattle.ul_specifier.specs.declared.clause.Op.{Op}
use Rattle.ul_specifier.specs.declared.clause.Op.TheVariants.{Equal, Unequal, AtLeast, AtMost, More, Less, Compatible, Distinct}

-- what `==` asks for
abbrev pub public_matches : Bool → Fields → Fields → Bool
public_matches true V p = begins_as V p
public_matches false V p = is_eq (version_cmp p V)

-- what `>` asks for
abbrev pub public_more : Fields → Fields → Bool → Bool
public_more V p local = is_gt (version_cmp p V) && not ((local || (is_post_of p && not (is_post_of V))) && is_of_release V p)

-- what `<` asks for
abbrev pub public_less : Fields → Fields → Bool
public_less V p = is_lt (version_cmp p V) && not ((is_pre_of p && not (is_pre_of V)) && is_of_release V p)

-- V and the candidate's public part p stand without a local part
abbrev pub public_op : Op → Bool → Fields → Fields → Bool → Bool
public_op Equal prefix V p local = public_matches prefix V p
public_op Unequal prefix V p local = not (public_matches prefix V p)
public_op AtLeast prefix V p local = not (is_lt (version_cmp p V))
public_op AtMost prefix V p local = not (is_gt (version_cmp p V))
public_op More prefix V p local = public_more V p local
public_op Less prefix V p local = public_less V p
public_op Compatible prefix V p local = not (is_lt (version_cmp p V)) && begins_as (series V) p
public_op Distinct prefix V p local = local || not (is_eq (version_cmp p V))

-- the same of a clause whose version has no local part
abbrev pub public_meets : ClauseFields → Fields → Bool → Bool
public_meets s p local = public_op s.op s.prefix (without_local s.version) p local

-- a clause whose version has a local part asks with `!=` and as an exclusion whether a version isn't its own, and
-- else whether it is
abbrev pub own_op : Op → Bool → Bool
own_op Equal own = own
own_op Unequal own = not own
own_op AtLeast own = own
own_op AtMost own = own
own_op More own = own
own_op Less own = own
own_op Compatible own = own
own_op Distinct own = not own
