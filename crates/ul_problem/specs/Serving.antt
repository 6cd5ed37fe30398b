-- What serves a problem. A selection has the project's nodes, only versions that are fit, each extra with its base at the same
-- version, and each need of each of its versions with a permitted version.
use Rattle.std.specs.Prelude.{◌≡◌, ℕ, List, true, false, Some, ◌<◌}
use Rattle.std.specs.List.{Contains}
use Rattle.ul_ranges.specs.Flags.{has}
use Rattle.ul_problem.specs.Terms.{Selection, is_among, all_hold}
use Rattle.ul_problem.specs.Plain.{Plain, size_of, base_of, barred_of, needs_of}
use Rattle.ul_problem.specs.declared.term.Term.{Term}
use Rattle.ul_problem.specs.declared.problem.Need.{Need}

-- The selection serves the problem. It has versions of the problem's nodes alone, so it is finite.
pub record Serves (p : Plain) (σ : Selection) : Type 0 where
  pub within : (n v : ℕ) → σ n ≡ Some v → v < size_of p n
  pub has_roots : (n : ℕ) → Contains p.roots n → (v : ℕ) × (σ n ≡ Some v)
  pub fit : (n v : ℕ) → σ n ≡ Some v → has v (barred_of p n) ≡ false
  pub same_base : (n v b : ℕ) → σ n ≡ Some v → base_of p n ≡ Some b → σ b ≡ Some v
  pub meets : (n v : ℕ) → σ n ≡ Some v → (need : Need) → Contains (needs_of p n v) need → is_among (σ need.node) need.permitted ≡ true

-- no serving selection has all the terms
abbrev pub Forbids : Plain → List Term → Type 0
Forbids p ts = (σ : Selection) → Serves p σ → all_hold σ ts ≡ true → ⊥

-- no selection serves
abbrev pub HasNone : Plain → Type 0
HasNone p = (σ : Selection) → Serves p σ → ⊥
