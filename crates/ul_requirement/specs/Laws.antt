-- The laws that the crate's functions carry.
use Rattle.std.specs.Prelude.{◌≡◌, ◌↔◌, ℕ, List, Some, false}
use Rattle.ul_base.specs.declared.node.Node.{Node}
use Rattle.ul_comparison.specs.Worlds.{WorldFields}
use Rattle.ul_requirement.specs.Fields.{RequirementFields}
use Rattle.ul_requirement.specs.Grammar.{IsAddress, Spells, SpellsByUrl}
use Rattle.ul_requirement.specs.Reading.{IsByUrl, by_url, reading_of, requirement}
use Rattle.ul_requirement.specs.Truth.{applies_at, may_apply}

-- a text is read as what the grammar spells it as
pub record ReadingIsGrammar : Type 0 where
  pub requirements : (text : List ℕ) (q : RequirementFields) → (reading_of text ≡ requirement q) ↔ Spells text q
  pub addresses : (text : List ℕ) → IsByUrl (reading_of text) ↔ IsAddress text
  pub by_urls : (text : List ℕ) (q : RequirementFields) → (reading_of text ≡ by_url (Some q)) ↔ SpellsByUrl text q

-- a text spells one requirement at most, by a URL or not, and no address besides
pub record SpelledOnce : Type 0 where
  pub one : (text : List ℕ) (q r : RequirementFields) → Spells text q → Spells text r → q ≡ r
  pub one_by_url : (text : List ℕ) (q r : RequirementFields) → SpellsByUrl text q → SpellsByUrl text r → q ≡ r
  pub alone : (text : List ℕ) (q : RequirementFields) → Spells text q → IsAddress text → ⊥

-- a requirement that may not be true at a node is true there in no world
abbrev pub UnnamedNeverApplies : Type 0
UnnamedNeverApplies = (q : RequirementFields) (n : Node) (w : WorldFields) → may_apply q n ≡ false → applies_at q n w ≡ false
