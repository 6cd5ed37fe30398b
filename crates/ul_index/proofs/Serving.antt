-- Laws of what serves.
use Rattle.std.proofs.Common.{List, Bool, sym, ◌∙◌}
use Rattle.ul_base.specs.declared.node.Node.{Node}
use Rattle.ul_comparison.specs.Worlds.{WorldFields}
use Rattle.ul_requirement.specs.Fields.{RequirementFields}
use Rattle.ul_requirement.specs.Truth.{applies_at}
use Rattle.ul_requirement.specs.declared.wish.Strategy.{Strategy}
use Rattle.ul_requirement.specs.declared.wish.Strategy.TheVariants.{Fewest, RequiresPython, Deep}
use Rattle.ul_index.specs.Regions.{Region, Somewhere, Throughout, HasWorld, Agree}
use Rattle.ul_index.specs.Catalogs.{requirements, is_fit}
use Rattle.ul_index.specs.Applied.{IsApplied, IsFirm}
use Rattle.ul_index.specs.Serves.{Suits}
use Rattle.ul_index.specs.Laws.{WholeServes, UnsplitWhole, SameServed, AppliedByTest}
use Rattle.ul_base.proofs.ForCallers.{kept_by}

throughout_suits : (strategy : Strategy) (R : Region) (p : WorldFields → Bool) → HasWorld R → Throughout R p → Suits strategy R p
throughout_suits Fewest R p h t = t
throughout_suits RequiresPython R p h t = (h.0, h.1, h.2, t h.0 h.1 h.2)
throughout_suits Deep R p h t = (h.0, h.1, h.2, t h.0 h.1 h.2)

pub whole_serves : WholeServes
whole_serves strategy c starts R s world h = record {
  starts_in = h.starts_in;
  eligible_in = h.eligible_in;
  fit_in = λ n v e. throughout_suits strategy R (is_fit c n.name v) world (h.fit_in n v e);
  base_in = h.base_in;
  needs_in = λ n v q t e f m. h.needs_in n v q t e f.applied m;
}

pub unsplit_whole : UnsplitWhole
unsplit_whole strategy c starts R s unsplit fit h = record {
  starts_in = h.starts_in;
  eligible_in = h.eligible_in;
  fit_in = fit;
  base_in = h.base_in;
  needs_in = λ n v q t e a m. h.needs_in n v q t e (record { applied = a; outside = unsplit n v q.name e }) m;
}

somewhere_same : (R S : Region) (p : WorldFields → Bool) → Agree R S → Somewhere R p → Somewhere S p
somewhere_same R S p same h = (h.0, h.1, sym (same h.0 h.1) ∙ h.2, h.3)

pub turned : (R S : Region) → Agree R S → Agree S R
turned R S same w is = sym (same w is)

pub applied_same : (R S : Region) (qs : List RequirementFields) (n : Node) (q : RequirementFields) → Agree R S → IsApplied qs R n q → IsApplied qs S n q
applied_same R S qs n q same h = record { listed = h.listed; somewhere = somewhere_same R S (applies_at q n) same h.somewhere }

pub firm_same : (R S : Region) (qs : List RequirementFields) (n : Node) (q : RequirementFields) → Agree R S → IsFirm qs R n q → IsFirm qs S n q
firm_same R S qs n q same h = record {
  applied = applied_same R S qs n q same h.applied;
  outside = λ g. h.outside (record {
    one = g.one;
    other = g.other;
    one_applied = applied_same S R qs n g.one (turned R S same) g.one_applied;
    other_applied = applied_same S R qs n g.other (turned R S same) g.other_applied;
    one_named = g.one_named;
    other_named = g.other_named;
    apart = somewhere_same S R _ (turned R S same) g.apart;
  });
}

suits_same : (strategy : Strategy) (R S : Region) (p : WorldFields → Bool) → Agree R S → Suits strategy R p → Suits strategy S p
suits_same Fewest R S p same h = λ w is e. h w is (same w is ∙ e)
suits_same RequiresPython R S p same h = somewhere_same R S p same h
suits_same Deep R S p same h = somewhere_same R S p same h

pub same_served : SameServed
same_served strategy c starts R S s same h = record {
  starts_in = h.starts_in;
  eligible_in = h.eligible_in;
  fit_in = λ n v e. suits_same strategy R S (is_fit c n.name v) same (h.fit_in n v e);
  base_in = h.base_in;
  needs_in = λ n v q t e f m. h.needs_in n v q t e (firm_same S R (requirements c n.name v) n q (turned R S same) f) m;
}

pub applied_by_test : AppliedByTest
applied_by_test qs R n test d = kept_by (IsApplied qs R n) test qs
    (λ q h. ((λ e. record { listed = h; somewhere = (d q h).0 e }), (λ a. (d q h).1 a.somewhere)))
