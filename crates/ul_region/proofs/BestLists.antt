-- At most one list of decisions is best.
use Rattle.std.proofs.Common.{◌≡◌, List, [], ◌∷◌, ◌++◌, Option, Some, None, refl, sym, ap, ◌∙◌, subst, ap₂, flat_map}
use Rattle.ul_base.specs.declared.node.Node.{Node}
use Rattle.ul_version.specs.Fields.{Fields}
use Rattle.ul_requirement.specs.Fields.{RequirementFields, WishFields}
use Rattle.ul_index.specs.Regions.{Region}
use Rattle.ul_index.specs.Catalogs.{Packages, requirements}
use Rattle.ul_index.specs.Applied.{IsFirm}
use Rattle.ul_base.specs.Kept.{IsFirst}
use Rattle.ul_index.specs.Serves.{Selection}
use Rattle.ul_index.specs.Preference.{preference}
use Rattle.ul_base.proofs.ForCallers.{kept_once, first_once}
use Rattle.ul_region.specs.Best.{Need, AreNeeds, AreJoined, needs_of, next, CanServe, IsBestFrom}

pub needs_once : (qs : List RequirementFields) (R : Region) (n : Node) (xs ys : List Need) → AreNeeds qs R n xs → AreNeeds qs R n ys → xs ≡ ys
needs_once qs R n xs ys h k = h.are ∙ ap (flat_map needs_of) (kept_once (IsFirm qs R n) qs h.firm k.firm h.kept k.kept) ∙ sym k.are

pub joined_once : (c : Packages) (R : Region) (ds : Selection) (xs ys : List Need) → AreJoined c R ds xs → AreJoined c R ds ys → xs ≡ ys
joined_once c R [] xs ys h k = h ∙ sym k
joined_once c R (d ∷ ds) xs ys h k = h.joined ∙ ap₂ ◌++◌ (needs_once (requirements c d.0.name d.1) R d.0 h.own k.own h.of_own k.of_own) (joined_once c R ds h.rest k.rest h.of_rest k.of_rest) ∙ sym k.joined

none_is : {A : Type 0} {o : Option A} {a : A} → o ≡ None → o ≡ Some a → ⊥
none_is p q = cc (p, q)

some_same : {A : Type 0} {o : Option A} {a b : A} → o ≡ Some a → o ≡ Some b → a ≡ b
some_same p q = cc

module _ (c : Packages) (starts : List Node) (wish : WishFields) (R : Region) where
  version_once : (done : Selection) (n m : Node) (v u : Fields) → n ≡ m → IsFirst (λ x. CanServe c starts wish R (done ++ (n, x) ∷ [])) (preference c wish n.name) v
      → IsFirst (λ x. CanServe c starts wish R (done ++ (m, x) ∷ [])) (preference c wish m.name) u → v ≡ u
  version_once done n m v u e h k = first_once (λ x. CanServe c starts wish R (done ++ (m, x) ∷ [])) (preference c wish m.name) v u
      (subst (λ a. IsFirst (λ x. CanServe c starts wish R (done ++ (a, x) ∷ [])) (preference c wish a.name) v) e h) k

  pub best_from_once : (done ds es : Selection) → IsBestFrom c starts wish R done ds → IsBestFrom c starts wish R done es → ds ≡ es
  best_from_once done [] [] h k = refl
  best_from_once done [] (e ∷ es) h k = absurd (none_is h.last (ap (next starts done) (joined_once c R done h.needs k.needs h.of_needs k.of_needs) ∙ k.node))
  best_from_once done (d ∷ ds) [] h k = absurd (none_is k.last (ap (next starts done) (joined_once c R done k.needs h.needs k.of_needs h.of_needs) ∙ h.node))
  best_from_once done (d ∷ ds) (e ∷ es) h k =
      let same_needs : h.needs ≡ k.needs = joined_once c R done h.needs k.needs h.of_needs k.of_needs in
      let node : d.0 ≡ e.0 = some_same h.node (ap (next starts done) same_needs ∙ k.node) in
      let version : d.1 ≡ e.1 = version_once done d.0 e.0 d.1 e.1 node h.version k.version in
      let both : d ≡ e = ap₂ (λ (n : Node) (v : Fields). (n, v)) node version in
      ap₂ ◌∷◌ both (best_from_once (done ++ e ∷ []) ds es (subst (λ x. IsBestFrom c starts wish R (done ++ x ∷ []) ds) both h.more) k.more)
