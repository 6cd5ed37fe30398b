-- Whether a lock's root is the project's is decided: each of its packages is tried.
use Rattle.std.proofs.Common.{◌≡◌, ℕ, List, Contains, refl, inl, inr}
use Rattle.std.specs.declared.cmp.Ordering.{Ordering}
use Rattle.std.specs.declared.cmp.Ordering.TheVariants.{Less, Equal, Greater}
use Rattle.ul_version.specs.Fields.{Fields}
use Rattle.ul_version.specs.Order.{version_cmp}
use Rattle.ul_requirement.specs.Fields.{ReleaseFields}
use Rattle.ul_index.specs.Catalogs.{Packages}
use Rattle.ul_index.specs.Eligible.{eligible}
use Rattle.ul_project.specs.Fields.{ProjectFields}
use Rattle.ul_lock.specs.declared.parts.Extra.{Extra}
use Rattle.ul_lock.specs.declared.parts.Lock.{Lock}
use Rattle.ul_lock.specs.declared.parts.Locked.{Locked}
use Rattle.ul_sound.specs.Sound.{AreEqual, IsEligible}
use Rattle.ul_verified.specs.Verified.{HasExtra, IsProjectVersion, IsRoot}
use Rattle.laws_trees.specs.Decided.{Decided}
use Rattle.laws_trees.proofs.ForCallers.{both_decided, decided_as, each_member, some_member, text_decided}

order_decided : (o : Ordering) → Decided (o ≡ Equal)
order_decided Less = inr (λ e. absurd cc)
order_decided Equal = inl refl
order_decided Greater = inr (λ e. absurd cc)

equal_decided : (v u : Fields) → Decided (AreEqual v u)
equal_decided v u = order_decided (version_cmp v u)

-- whether a version is eligible
pub eligible_decided : (c : Packages) (n : List ℕ) (v : Fields) → Decided (IsEligible c n v)
eligible_decided c n v = some_member (λ (u : Fields). AreEqual u v) (eligible c n) (λ u m. equal_decided u v)

version_decided : (p : ProjectFields) (v : Fields) → Decided (IsProjectVersion p v)
version_decided p v =
    some_member (λ (r : ReleaseFields). AreEqual r.version v) p.package.releases (λ r m. equal_decided r.version v)

-- the package lists each extra of the project
abbrev HasExtras : ProjectFields → Locked → Type 0
HasExtras p b = (x : List ℕ) → Contains p.extras x → HasExtra b x

extras_decided : (p : ProjectFields) (b : Locked) → Decided (HasExtras p b)
extras_decided p b =
    each_member (λ (x : List ℕ). HasExtra b x) p.extras
    (λ x m. some_member (λ (y : Extra). y.name ≡ x) b.extras (λ y k. text_decided y.name x))

-- the package is the project's
abbrev IsOwn : ProjectFields → Lock → Locked → Type 0
IsOwn p l b = (b.name ≡ l.root) × (IsProjectVersion p b.version × HasExtras p b)

own_decided : (p : ProjectFields) (l : Lock) (b : Locked) → Decided (IsOwn p l b)
own_decided p l b =
    both_decided (text_decided b.name l.root) (both_decided (version_decided p b.version) (extras_decided p b))

-- whether the root is the project's
pub root_decided : (p : ProjectFields) (l : Lock) → Decided (IsRoot p l)
root_decided p l =
    decided_as
    (both_decided (text_decided l.root p.package.name)
    (some_member (IsOwn p l) l.packages (λ b m. own_decided p l b)))
    (λ z. record {
      named = z.0;
      block = z.1.0;
      listed = z.1.1;
      is = z.1.2.0;
      version = z.1.2.1.0;
      extras = z.1.2.1.1;
    })
    (λ r. (r.named, (r.block, r.listed, (r.is, (r.version, r.extras)))))
