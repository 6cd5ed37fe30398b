use Rattle.std.proofs.Common.{ap, sym, ◌∙◌, ◌≡◌, ◌&&◌, ℕ, Bool, IsTrue, arith, subst, nat_eq}
use Rattle.std.proofs.lemmas.Bool.Decides.{nat_tests}
use Rattle.ul_interner.specs.Known.{Held, Known}
use Rattle.ul_interner.proofs.Seen.{same_id, same_tree}
use Rattle.ul_interner.proofs.passes.same.Goals as goal

are_equal : (p q : ℕ × ℕ) (r : Bool) → r ≡ (nat_eq p.0 q.0 && nat_eq p.1 q.1) → IsTrue r → p ≡ q
are_equal p q r e t = let a : p.0 ≡ q.0 = grind (arith, nat_tests) in let b : p.1 ≡ q.1 = grind (arith, nat_tests) in λ i. (a i, b i)

is_equal : (p q : ℕ × ℕ) (r : Bool) → r ≡ (nat_eq p.0 q.0 && nat_eq p.1 q.1) → p ≡ q → IsTrue r
is_equal p q r e same = let a : p.0 ≡ q.0 = ap (λ z. z.0) same in let b : p.1 ≡ q.1 = ap (λ z. z.1) same in grind (arith, nat_tests)

pub returns : goal.returns
returns g c =
    let logs = c.pass.inside.seat.me.0.logs in
    let a = subst (λ (z : Held g.row.L.Denot). Known z c.args.left.now) (sym c.pass.view_is) c.requires.left in
    let b = subst (λ (z : Held g.row.L.Denot). Known z c.args.right.now) (sym c.pass.view_is) c.requires.right in (
      (λ t. same_tree logs c.args.left.now c.args.right.now a b (sym c.id.ensures ∙ (are_equal _ _ _ c.eq.ensures t ∙ c.id-2.ensures))),
      λ e. is_equal _ _ _ c.eq.ensures (c.id.ensures ∙ (same_id g.L.Label.hash_of _ logs c.args.left.now c.args.right.now c.pass.invariant.seen a b e ∙ sym c.id-2.ensures)),
    )
