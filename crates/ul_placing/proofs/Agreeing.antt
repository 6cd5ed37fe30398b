-- What is said of a region is said of each that agrees with it at every world.
use Rattle.std.specs.Prelude.{Contains}
use Rattle.std.proofs.Common.{ℕ, List, [], ◌∷◌, Bool, sym, ◌∙◌, inl, inr}
use Rattle.ul_base.specs.Kept.{Kept}
use Rattle.ul_base.specs.Reached.{Reached, begun, led}
use Rattle.ul_base.specs.declared.node.Node.{Node}
use Rattle.ul_base.proofs.ForCallers.{reached_in}
use Rattle.ul_comparison.specs.Worlds.{WorldFields}
use Rattle.ul_requirement.specs.Fields.{RequirementFields}
use Rattle.ul_requirement.specs.declared.wish.Strategy.{Strategy}
use Rattle.ul_requirement.specs.declared.wish.Strategy.TheVariants.{Fewest, RequiresPython, Deep}
use Rattle.ul_index.specs.Applied.{IsApplied, IsFirm, IsSplitGroup}
use Rattle.ul_index.specs.Catalogs.{Packages, requirements}
use Rattle.ul_index.specs.Regions.{Agree, Region, Somewhere, Throughout}
use Rattle.ul_index.specs.Serves.{Suits}
use Rattle.ul_region.specs.Problem.{Leads}

-- agreement goes both ways
pub agree_back : (R S : Region) → Agree R S → Agree S R
agree_back R S a w i = sym (a w i)

somewhere_same : (R S : Region) (f : WorldFields → Bool) → Agree R S → Somewhere R f → Somewhere S f
somewhere_same R S f a h = (h.0, h.1, sym (a h.0 h.1) ∙ h.2, h.3)

throughout_same : (R S : Region) (f : WorldFields → Bool) → Agree R S → Throughout R f → Throughout S f
throughout_same R S f a h w i e = h w i (a w i ∙ e)

-- a release suits in the one where it does in the other
pub suits_same : (strategy : Strategy) (R S : Region) (f : WorldFields → Bool) → Agree R S → Suits strategy R f → Suits strategy S f
suits_same Fewest R S f a h = throughout_same R S f a h
suits_same RequiresPython R S f a h = somewhere_same R S f a h
suits_same Deep R S f a h = somewhere_same R S f a h

applied_same : (qs : List RequirementFields) (R S : Region) (n : Node) (q : RequirementFields) → Agree R S → IsApplied qs R n q → IsApplied qs S n q
applied_same qs R S n q a h = record { listed = h.listed; somewhere = somewhere_same R S _ a h.somewhere }

group_same : (qs : List RequirementFields) (R S : Region) (n : Node) (name : List ℕ) → Agree R S → IsSplitGroup qs R n name → IsSplitGroup qs S n name
group_same qs R S n name a h = record {
  one = h.one;
  other = h.other;
  one_applied = applied_same qs R S n h.one a h.one_applied;
  other_applied = applied_same qs R S n h.other a h.other_applied;
  one_named = h.one_named;
  other_named = h.other_named;
  apart = somewhere_same R S _ a h.apart;
}

-- a requirement is firm in the one where it is in the other
pub firm_same : (qs : List RequirementFields) (R S : Region) (n : Node) (q : RequirementFields) → Agree R S → IsFirm qs R n q → IsFirm qs S n q
firm_same qs R S n q a h = record { applied = applied_same qs R S n q a h.applied; outside = λ g. h.outside (group_same qs S R n q.name (agree_back R S a) g) }

leads_same : (c : Packages) (R S : Region) (n m : Node) → Agree R S → Leads c R n m → Leads c S n m
leads_same c R S n m a h = record { version = h.version; is_eligible = h.is_eligible; requirement = h.requirement; firm = firm_same (requirements c n.name h.version) R S n h.requirement a h.firm; aimed = h.aimed }

-- what is reached in one is reached in the other
pub reached_same : (c : Packages) (starts : List Node) (R S : Region) (n : Node) → Agree R S → Reached (Contains starts) (Leads c R) n → Reached (Contains starts) (Leads c S) n
reached_same c starts R S n a r = reached_in (Reached (Contains starts) (Leads c S)) (λ m h. begun m h) (λ m k s t l. led m k t (leads_same c R S m k a l)) r

-- what is kept by one property is kept by another that says the same
pub kept_same : {A : Type 0} (P Q : A → Type 0) (xs ys : List A) → ((x : A) → P x → Q x) → ((x : A) → Q x → P x) → Kept P xs ys → Kept Q xs ys
kept_same P Q [] ys f g h = h
kept_same P Q (x ∷ xs) ys f g (inl h) = inl (record { holds = f x h.holds; rest = h.rest; is = h.is; more = kept_same P Q xs h.rest f g h.more })
kept_same P Q (x ∷ xs) ys f g (inr h) = inr (record { fails = λ q. h.fails (g x q); more = kept_same P Q xs ys f g h.more })
