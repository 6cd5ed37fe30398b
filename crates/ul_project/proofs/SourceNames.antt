-- The label of what doesn't come from a package index.
use Rattle.std.proofs.Common.{◌≡◌, ℕ, List, Some, refl, sym, ◌∙◌}
use Rattle.std.specs.Prelude.{codes}
use Rattle.ul_base.specs.Names.{is_name, name_of, normal_form}
use Rattle.ul_project.specs.Sources.{direct}

-- `direct` is a name in its normal form
direct_named : name_of (codes "direct") ≡ Some direct
unfolding is_name normal_form name_of
direct_named = refl

-- and no other name is read of it
pub direct_read : (name : List ℕ) → name_of (codes "direct") ≡ Some name → name ≡ direct
direct_read name e = let same : Some direct ≡ Some name = sym direct_named ∙ e in cc
