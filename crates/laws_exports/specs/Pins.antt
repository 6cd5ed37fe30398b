-- The specifier `==VERSION`, and which versions meet it (PEP 440, "Version matching").
use Rattle.std.specs.Prelude.{◌≡◌, ◌↔◌, List, [], ◌∷◌, true, false}
use Rattle.std.specs.declared.cmp.Ordering.TheVariants.{Equal}
use Rattle.ul_version.specs.Fields.{Fields, without_local}
use Rattle.ul_version.specs.Order.{version_cmp}
use Rattle.ul_specifier.specs.Clauses.{ClauseFields, has_local}
use Rattle.ul_specifier.specs.Meaning.{equal_clause, meets_list}

-- the one specifier `==VERSION`
abbrev pub exactly : Fields → List ClauseFields
exactly v = equal_clause v ∷ []

-- It is met by the version itself. With a local part it is met by what is equal to the version in the order of
-- versions, as `1.0.0+a` is to `1.0+a`, and by nothing else; without one by what is so without its own local part, as
-- `1.0.0` and `1.0+a` are to `1.0`, and by nothing else.
pub record PinsOneVersion : Type 0 where
  pub itself : (v : Fields) → meets_list (exactly v) v ≡ true
  pub local : (v u : Fields) → has_local v ≡ true → (meets_list (exactly v) u ≡ true) ↔ (version_cmp u v ≡ Equal)
  pub public : (v u : Fields) → has_local v ≡ false
      → (meets_list (exactly v) u ≡ true) ↔ (version_cmp (without_local u) v ≡ Equal)
