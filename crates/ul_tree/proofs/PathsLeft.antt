-- What is left of the paths and levels that are allowed, and which trees are printed.
use Rattle.std.proofs.Common.{◌≡◌, ℕ, ◌&&◌, nat_le, Bool, true, false, Option, Some, None, refl, ap₂, sym, ◌∙◌, arith}
use Rattle.std.specs.Option.{is_some}
use Rattle.std.proofs.lemmas.Bool.{le-leb, leb-true}
use Rattle.ul_nodes.specs.Plain.{Plain}
use Rattle.ul_tree.specs.Paths.{paths_of, levels_of, is_printable}
use Rattle.ul_tree.specs.PathsLeft.{AreLeft}

-- two tests that don't both hold
not_both : (x y : Bool) → (x ≡ true → y ≡ true → ⊥) → x && y ≡ false
not_both true true h = absurd (h refl refl)
not_both true false h = refl
not_both false y h = refl

-- a tree is printed where some paths are left, or none
printed : (t : Plain) (left : Option ℕ) → AreLeft 4096 512 t left → is_some left ≡ is_printable t
unfolding is_printable
printed t (Some left) h = sym (ap₂ (λ x y. x && y) (le-leb (paths_of t) 4096 (omega (arith, h.0))) (le-leb (levels_of t) 512 h.1))
printed t None h = sym (not_both (nat_le (paths_of t) 4096) (nat_le (levels_of t) 512) (λ p l. h (leb-true (paths_of t) 4096 p) (leb-true (levels_of t) 512 l)))

-- the same of what a test answered
pub printed_as : (t : Plain) (left : Option ℕ) (b : Bool) → AreLeft 4096 512 t left → b ≡ is_some left → b ≡ is_printable t
printed_as t left b h e = e ∙ printed t left h
