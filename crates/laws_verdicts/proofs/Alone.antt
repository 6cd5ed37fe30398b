-- Whether a package is ever reached beside an earlier one of its name is decided.
use Rattle.std.proofs.Common.{◌≡◌, ℕ, Option, Some, None, refl, sym, ap, ◌∙◌, subst, inl, inr}
use Rattle.std.specs.List.{slice_get}
use Rattle.std.proofs.lemmas.Option.{none-some, same_Some}
use Rattle.ul_comparison.specs.Worlds.{WorldFields}
use Rattle.ul_index.specs.Catalogs.{Packages}
use Rattle.ul_project.specs.Fields.{ProjectFields}
use Rattle.ul_lock.specs.declared.parts.Lock.{Lock}
use Rattle.ul_lock.specs.declared.parts.Locked.{Locked}
use Rattle.ul_lock_nodes.proofs.ForCallers.{contains_at}
use Rattle.ul_verified.specs.Verified.{IsAsked, IsEarlier, IsPackageReached}
use Rattle.laws_trees.specs.Decided.{Decided}
use Rattle.laws_trees.proofs.ForCallers.{all_below, decided_as, text_decided, trees_kept}
use Rattle.laws_verdicts.proofs.Truths.{asked_decided, tree_of_where}
use Rattle.laws_verdicts.proofs.Walked.{Setting, package_tree}

module _ (c : Packages) (p : ProjectFields) (l : Lock) (s : Setting c p l) (k : ℕ) (b : Locked)
    (at : slice_get l.packages k ≡ Some b) where
  -- in the world not both are reached
  abbrev AreNotBoth : Locked → WorldFields → Type 0
  AreNotBoth a w = IsPackageReached p l w a → IsPackageReached p l w b → ⊥

  -- nor in any world that the project supports
  abbrev AreNeverBoth : Locked → Type 0
  AreNeverBoth a = (w : WorldFields) → IsAsked p w → AreNotBoth a w

  never_decided : (j : ℕ) (a : Locked) → slice_get l.packages j ≡ Some a → Decided (AreNeverBoth a)
  never_decided j a there =
      asked_decided p s.project (AreNotBoth a)
      (tree_of_where (package_tree c p l s a (contains_at l.packages j a there))
      (tree_of_where (package_tree c p l s b (contains_at l.packages k b at)) trees_kept.nowhere))

  -- the package at a place, if it has the name, isn't reached where this one is
  abbrev IsApartFrom : ℕ → Type 0
  IsApartFrom j = (a : Locked) → slice_get l.packages j ≡ Some a → a.name ≡ b.name → AreNeverBoth a

  apart_decided : (j : ℕ) → Decided (IsApartFrom j)
  apart_decided j = by (slice_get l.packages j) refl
    where
      here : (a : Locked) → slice_get l.packages j ≡ Some a → Decided (AreNeverBoth a) → Decided (a.name ≡ b.name)
          → Decided (IsApartFrom j)
      here a there d (inr other) =
          inl (λ z e named. absurd (other (ap (λ (y : Locked). y.name) (same_Some a z (sym there ∙ e)) ∙ named)))
      here a there (inl h) (inl named) = inl (λ z e _. subst AreNeverBoth (same_Some a z (sym there ∙ e)) h)
      here a there (inr n) (inl named) = inr (λ h. n (h a there named))

      by : (o : Option Locked) → slice_get l.packages j ≡ o → Decided (IsApartFrom j)
      by None e = inl (λ a there named. absurd (none-some a (sym e ∙ there)))
      by (Some a) e = here a e (never_decided j a e) (text_decided a.name b.name)

  -- whether an earlier package of its name is reached where it is
  pub alone_decided : Decided ((w : WorldFields) (a : Locked) → IsAsked p w → IsEarlier l k b a → AreNotBoth a w)
  alone_decided =
      decided_as (all_below IsApartFrom apart_decided k)
      (λ h w a asked e. h e.place e.before a e.at e.named w asked)
      (λ f j lt a there named w asked. f w a asked (record { place = j; before = lt; at = there; named = named }))
