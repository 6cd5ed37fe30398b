-- What is reached by steps is listed, where it is decided what leads where and each step leads to one of listed
-- candidates: of the beginnings and the candidates those are kept that are reached.
use Rattle.std.proofs.Common.{List, ◌++◌}
use Rattle.std.specs.Prelude.{Contains}
use Rattle.std.proofs.lemmas.List.Elements.{Contains-append_left, Contains-append_right}
use Rattle.ul_base.specs.Reached.{Reached}
use Rattle.ul_base.proofs.ForCallers.{kept_from, kept_has, reached_in}
use Rattle.laws_trees.specs.Decided.{Decided}
use Rattle.laws_trees.proofs.ForCallers.{by_all, decided_as, decisions_kept, reached_known}
use Rattle.laws_problems.proofs.Deciding.{kept_exists}

-- a list has what is reached, and nothing else
pub record AreReached {A : Type 0} (Begins : A → Type 0) (Leads : A → A → Type 0) (xs : List A) : Type 0 where
  pub reached : (x : A) → Contains xs x → Reached Begins Leads x
  pub listed : (x : A) → Reached Begins Leads x → Contains xs x

module _ {A : Type 0} (starts candidates : List A) (Leads : A → A → Type 0) (decided : (a b : A) → Decided (Leads a b))
    (bound : (a b : A) → Leads a b → Contains candidates b) (begins : (a : A) → Decided (Contains starts a)) where
  -- the beginnings and the candidates
  all : List A
  all = starts ++ candidates

  -- the element is reached from the beginnings
  abbrev IsReached : A → Type 0
  IsReached = Reached (Contains starts) Leads

  among : (x : A) → IsReached x → Contains all x
  unfolding all
  among x r = reached_in (Contains (starts ++ candidates)) (λ a m. Contains-append_left starts candidates a m)
      (λ a b _ m l. Contains-append_right starts candidates b (bound a b l)) r

  reached_decided : (x : A) → Decided (IsReached x)
  reached_decided x =
      let same = by_all Leads (Contains starts) all (λ a b r l. among a r) x in
      decided_as
      (reached_known (λ (P : Unit {0} → Type 0). Decided (P tt)) (decisions_kept tt) (λ _. Leads) decided all
      (λ _. Contains starts) begins x)
      same.0 same.1

  -- what is reached is listed
  pub closure : (xs : List A) × AreReached (Contains starts) Leads xs
  closure =
      let kept = kept_exists IsReached all (λ x m. reached_decided x) in (
        kept.0,
        record {
          reached = λ x m. kept_from IsReached all kept.0 x kept.1 m;
          listed = λ x r. kept_has IsReached all kept.0 x kept.1 (among x r) r;
        },
      )
