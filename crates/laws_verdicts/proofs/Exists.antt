-- Each lock is verified, or has a first part that isn't right.
use Rattle.std.proofs.Common.{◌≡◌, ◌⊎◌, refl, inl, inr}
use Rattle.std.proofs.lemmas.Bool.{cases_Bool}
use Rattle.ul_nodes.specs.Apply.{same}
use Rattle.ul_nodes.specs.Plain.{Plain}
use Rattle.ul_nodes.proofs.ForCallers.{same_false, same_true}
use Rattle.ul_index.specs.Catalogs.{Packages}
use Rattle.ul_project.specs.Fields.{ProjectFields}
use Rattle.ul_lock.specs.declared.parts.Lock.{Lock}
use Rattle.ul_lock.specs.declared.parts.Locked.{Locked}
use Rattle.ul_verified.specs.Verified.{AreRight, IsRoot, IsVerified}
use Rattle.ul_verified.proofs.ForCallers.{root_has}
use Rattle.ul_verify.specs.Headline.{IsFirstWrong}
use Rattle.laws_trees.specs.Decided.{Decided}
use Rattle.laws_trees.specs.Trees.{TruthTrees}
use Rattle.laws_walks.specs.Exists.{ReachTreeExists}
use Rattle.laws_verdicts.specs.Exists.{HasWrong, IsForOthers, VerdictExists}
use Rattle.laws_verdicts.proofs.Rights.{first_found}
use Rattle.laws_verdicts.proofs.Roots.{root_decided}
use Rattle.laws_verdicts.proofs.Walked.{Setting}

same_decided : (s t : Plain) → Decided (s ≡ t)
same_decided s t = elim (cases_Bool (same s t)) [ inl e ↦ inl (same_true s t e) | inr e ↦ inr (same_false s t e) ]

-- what is said of a lock
abbrev HasVerdict : Packages → ProjectFields → Lock → Type 0
HasVerdict c p l = IsVerified c p l ⊎ ((IsRoot p l → ⊥) ⊎ (IsForOthers p l ⊎ HasWrong c p l))

module _ (c : Packages) (p : ProjectFields) (l : Lock) (root : IsRoot p l) (supported : l.supported ≡ p.region) where
  -- the lock of a first package that isn't right
  wrong_of : (b : Locked) → IsFirstWrong c p l b → HasWrong c p l
  wrong_of b first = (
    b.name,
    b.version,
    record {
      root = root;
      supported = supported;
      block = b;
      first = first;
      named = refl;
      at = refl;
    },
  )

  by_packages : AreRight c p l ⊎ ((b : Locked) × IsFirstWrong c p l b) → HasVerdict c p l
  by_packages (inl right) = inl (record { root = root; supported = supported; packages = right })
  by_packages (inr z) = inr (inr (inr (wrong_of z.0 z.1)))

pub verdict_exists : TruthTrees → ReachTreeExists → VerdictExists
verdict_exists trees walks c p l fine project formed = by_root (root_decided p l)
  where
    setting : IsRoot p l → Setting c p l
    setting root = record {
      trees = trees;
      walks = walks;
      requirements = fine;
      project = project;
      formed = formed;
      known = root_has p l root;
    }

    by_worlds : IsRoot p l → Decided (l.supported ≡ p.region) → HasVerdict c p l
    by_worlds root (inl same) = by_packages c p l root same (first_found c p l (setting root))
    by_worlds root (inr other) = inr (inr (inl (root, other)))

    by_root : Decided (IsRoot p l) → HasVerdict c p l
    by_root (inl root) = by_worlds root (same_decided l.supported p.region)
    by_root (inr other) = inr (inl other)
