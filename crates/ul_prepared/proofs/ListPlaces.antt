-- Where the requirements of releases stand among lists.
use Rattle.std.specs.Prelude.{All, slice_get}
use Rattle.std.specs.Borrow.{Bor}
use Rattle.std.proofs.Common.{◌≡◌, ℕ, zero, suc, List, [], ◌∷◌, ◌++◌, length, Some, refl, sym, ap, subst, ◌∙◌}
use Rattle.std.proofs.lemmas.List.{map-append}
use Rattle.std.proofs.lemmas.List.Elements.{All-push, All-weaker}
use Rattle.std.proofs.lemmas.Option.{none-some}
use Rattle.ul_requirement.specs.Fields.{RequirementFields}
use Rattle.ul_prepared.specs.Lists.{IsListed, StaysListed, lists_of}
use Rattle.ul_prepared.specs.declared.releases.Listed.{Listed}

-- what stands in a list stands there with one more behind it
pub push_stays : {A : Type 0} (xs : List A) (y : A) (k : ℕ) (x : A) → slice_get xs k ≡ Some x → slice_get (xs ++ y ∷ []) k ≡ Some x
push_stays [] y k x e = absurd (none-some x e)
push_stays (z ∷ zs) y zero x e = e
push_stays (z ∷ zs) y (suc k) x e = push_stays zs y k x e

-- and the last one stands behind the others
pub push_there : {A : Type 0} (xs : List A) (y : A) → slice_get (xs ++ y ∷ []) (length xs) ≡ Some y
push_there [] y = refl
push_there (z ∷ zs) y = push_there zs y

lists_pushed : (ls ms : List (Bor (List RequirementFields))) (l : Bor (List RequirementFields)) → ms ≡ ls ++ l ∷ [] → lists_of ms ≡ lists_of ls ++ l.now ∷ []
lists_pushed ls ms l e = ap lists_of e ∙ map-append (λ (b : Bor (List RequirementFields)). b.now) ls (l ∷ [])

-- one list more
pub stays_pushed : (ls ms : List (Bor (List RequirementFields))) (l : Bor (List RequirementFields)) → ms ≡ ls ++ l ∷ [] → StaysListed (lists_of ls) (lists_of ms)
stays_pushed ls ms l e k qs at = subst (λ (z : List (List RequirementFields)). slice_get z k ≡ Some qs) (sym (lists_pushed ls ms l e)) (push_stays (lists_of ls) l.now k qs at)

-- one release more
pub listed_more : (before after : List (List RequirementFields)) (done now : List Listed) (l : Listed) → now ≡ done ++ l ∷ [] → StaysListed before after → All (IsListed before) done → IsListed after l → All (IsListed after) now
listed_more before after done now l e stays a h = subst (All (IsListed after)) (sym e)
    (All-push (IsListed after) done l (All-weaker (IsListed before) (IsListed after) (λ m k. stays m.list m.release.now.requirements k) done a) h)
