-- Lower bounds are clauses.
use Rattle.std.proofs.Common.{List, refl, sym, true≢false}
use Rattle.std.specs.Prelude.{All, IfSome}
use Rattle.ul_version.specs.Fields.{Fields, IsVersion, without_local}
use Rattle.std.proofs.lemmas.List.Elements.{All-nil}
use Rattle.ul_specifier.specs.Clauses.{ClauseFields, IsClause}
use Rattle.ul_specifier.specs.Meaning.{at_least, distinct_clause, lower_clause, lower_list, lower_op}
use Rattle.ul_specifier.specs.declared.clause.Op.{Op}
use Rattle.ul_specifier.specs.declared.clause.Op.TheVariants.{Equal, Unequal, AtLeast, AtMost, More, Less, Compatible, Distinct}
use Rattle.ul_specifier.proofs.Lists.{All-filter_map}
use Rattle.ul_version.specs.Fields.{IsSegment}

local_free : (f : Fields) → IsVersion f → IsVersion (without_local f)
local_free f v = record {
  nonempty = v.nonempty;
  epoch_fits = v.epoch_fits;
  release_fits = v.release_fits;
  pre_fits = v.pre_fits;
  post_fits = v.post_fits;
  dev_fits = v.dev_fits;
  segments = All-nil IsSegment;
}

pub at_least-clause : (f : Fields) → IsVersion f → IsClause (at_least (without_local f))
at_least-clause f v = record {
  version = local_free f v;
  prefix = λ e. absurd (true≢false (sym e));
  local = λ e. absurd (true≢false (sym e));
  compatible = λ e. absurd (true≢false (sym e));
}

lower_op-clause : (op : Op) (s : ClauseFields) → IsClause s → IfSome (lower_op op s) IsClause
lower_op-clause Equal s is = at_least-clause s.version is.version
lower_op-clause Unequal s is = tt
lower_op-clause AtLeast s is = is
lower_op-clause AtMost s is = tt
lower_op-clause More s is = is
lower_op-clause Less s is = tt
lower_op-clause Compatible s is = at_least-clause s.version is.version
lower_op-clause Distinct s is = tt

pub lower_list-clauses : (clauses : List ClauseFields) → All IsClause clauses → All IsClause (lower_list clauses)
lower_list-clauses clauses all = All-filter_map IsClause lower_clause clauses (λ s is. lower_op-clause s.op s is) all

-- the exclusion of a version is a clause
pub distinct-clause : (f : Fields) → IsVersion f → IsClause (distinct_clause f)
distinct-clause f v = record {
  version = v;
  prefix = λ e. absurd (true≢false (sym e));
  local = λ e. refl;
  compatible = λ e. absurd (true≢false (sym e));
}
