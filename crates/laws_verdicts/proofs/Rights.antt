-- Whether a package is right is decided, and so the first that isn't is found.
use Rattle.std.proofs.Common.{◌≡◌, ◌⊎◌, ℕ, zero, suc, true, length, Option, Some, None, Contains, refl, sym, ap, ◌∙◌}
use Rattle.std.proofs.Common.{subst, inl, inr, ⊎_elim, arith}
use Rattle.std.specs.List.{slice_get}
use Rattle.std.proofs.lemmas.Bool.{cases_eq}
use Rattle.std.proofs.lemmas.Option.{none-some, same_Some, slice_get_within}
use Rattle.ul_comparison.specs.Worlds.{WorldFields}
use Rattle.ul_index.specs.Catalogs.{Packages, is_fit}
use Rattle.ul_project.specs.Fields.{ProjectFields}
use Rattle.ul_lock.specs.declared.parts.Lock.{Lock}
use Rattle.ul_lock.specs.declared.parts.Locked.{Locked}
use Rattle.ul_lock_nodes.proofs.ForCallers.{contains_at}
use Rattle.ul_verified.specs.Verified.{AreRight, IsAsked, IsPackageReached, IsRight}
use Rattle.ul_verify.specs.Headline.{AreRightBefore, IsFirstWrong}
use Rattle.laws_trees.specs.Decided.{Decided}
use Rattle.laws_trees.proofs.ForCallers.{both_decided, decided_as, truth_tree}
use Rattle.laws_verdicts.proofs.Alone.{alone_decided}
use Rattle.laws_verdicts.proofs.Given.{given_decided}
use Rattle.laws_verdicts.proofs.Required.{required_decided}
use Rattle.laws_verdicts.proofs.Roots.{eligible_decided}
use Rattle.laws_verdicts.proofs.Truths.{asked_decided, tree_of_where}
use Rattle.laws_verdicts.proofs.Walked.{Setting, package_tree}

module _ (c : Packages) (p : ProjectFields) (l : Lock) (s : Setting c p l) where
  -- if the package is reached in the world, its release is fit there
  abbrev IsFitAt : Locked → WorldFields → Type 0
  IsFitAt b w = IsPackageReached p l w b → is_fit c b.name b.version w ≡ true

  fit_decided : (b : Locked) → Contains l.packages b → Decided ((w : WorldFields) → IsAsked p w → IsFitAt b w)
  fit_decided b listed =
      asked_decided p s.project (IsFitAt b) (tree_of_where (package_tree c p l s b listed)
      (truth_tree (is_fit c b.name b.version) (s.trees.fit c b.name b.version)))

  -- whether the package at a place is right
  right_decided : (k : ℕ) (b : Locked) → slice_get l.packages k ≡ Some b → Decided (IsRight c p l k b)
  right_decided k b at =
      let listed : Contains l.packages b = contains_at l.packages k b at in
      decided_as
      (both_decided (eligible_decided c b.name b.version)
      (both_decided (alone_decided c p l s k b at)
      (both_decided (fit_decided b listed)
      (both_decided (given_decided c p l s b listed) (required_decided c p l s b listed)))))
      (λ z. record { counts = z.0; alone = z.1.0; fit = z.1.1.0; given = z.1.1.1.0; required = z.1.1.1.1 })
      (λ r. (r.counts, (r.alone, (r.fit, (r.given, r.required)))))

  -- ---- the first that isn't

  -- the packages before a place are right, or one is the first that isn't
  abbrev IsFoundBefore : ℕ → Type 0
  IsFoundBefore k = AreRightBefore c p l k ⊎ ((b : Locked) × IsFirstWrong c p l b)

  -- nothing stands at the place
  past_end : (k : ℕ) → slice_get l.packages k ≡ None → AreRightBefore c p l k → AreRightBefore c p l (suc k)
  past_end k e before j b lt at =
      ⊎_elim (λ q. absurd (none-some b (sym e ∙ (ap (slice_get l.packages) (sym q) ∙ at))))
      (λ other. before j b (omega (arith, lt, other)) at) (cases_eq j k)

  one_more : (k : ℕ) (a : Locked) → slice_get l.packages k ≡ Some a → IsRight c p l k a → AreRightBefore c p l k
      → AreRightBefore c p l (suc k)
  one_more k a e right before j b lt at = ⊎_elim here (λ other. before j b (omega (arith, lt, other)) at) (cases_eq j k)
    where
      here : j ≡ k → IsRight c p l j b
      here q =
          let same : a ≡ b = same_Some a b (sym e ∙ (ap (slice_get l.packages) (sym q) ∙ at)) in
          subst (λ (i : ℕ). IsRight c p l i b) (sym q) (subst (IsRight c p l k) same right)

  found_before : (k : ℕ) → IsFoundBefore k
  found_before zero = inl (λ j b lt at. absurd (omega (arith, lt)))
  found_before (suc k) = step (found_before k)
    where
      judged : AreRightBefore c p l k → (a : Locked) → slice_get l.packages k ≡ Some a → Decided (IsRight c p l k a)
          → IsFoundBefore (suc k)
      judged before a e (inl right) = inl (one_more k a e right before)
      judged before a e (inr wrong) = inr (a, record { place = k; at = e; wrong = wrong; before = before })

      at_place : AreRightBefore c p l k → (o : Option Locked) → slice_get l.packages k ≡ o → IsFoundBefore (suc k)
      at_place before None e = inl (past_end k e before)
      at_place before (Some a) e = judged before a e (right_decided k a e)

      step : IsFoundBefore k → IsFoundBefore (suc k)
      step (inl before) = at_place before (slice_get l.packages k) refl
      step (inr first) = inr first

  -- each package is right, or one is the first that isn't
  pub first_found : AreRight c p l ⊎ ((b : Locked) × IsFirstWrong c p l b)
  first_found =
      ⊎_elim (λ before. inl (λ k b at. before k b (slice_get_within l.packages k b at) at)) inr
      (found_before (length l.packages))
