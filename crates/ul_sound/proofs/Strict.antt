-- The orders of a lock's lists are strict.
use Rattle.std.proofs.Common.{◌≡◌, Bool, true, refl, ap, is_lt, Less, Equal, Greater}
use Rattle.std.specs.Cmp.{IsTotalOrder, then_total, on_total, tied_itself}
use Rattle.std.specs.Cmp.Lexicographic.{nat_list_cmp_total, options_total}
use Rattle.std.specs.declared.cmp.Ordering.{Ordering}
use Rattle.ul_version.proofs.ForCallers.{version_total}
use Rattle.ul_lock.specs.declared.parts.Edge.{Edge}
use Rattle.ul_lock.specs.declared.parts.Extra.{Extra}
use Rattle.ul_lock.specs.declared.parts.Locked.{Locked}
use Rattle.ul_lock.specs.Orders.{package_cmp, edge_cmp, extra_cmp, edge_less, extra_less, block_less}

-- nothing stands above itself, and what stands above stands above all that is below
pub record IsStrict {A : Type 0} (less : A → A → Bool) : Type 0 where
  pub never : (a : A) → less a a ≡ true → ⊥
  pub through : (a b c : A) → less a b ≡ true → less b c ≡ true → less a c ≡ true

less_is : (o : Ordering) → is_lt o ≡ true → o ≡ Less
less_is Less e = refl
less_is Equal e = cc
less_is Greater e = cc

equal_not_less : (o : Ordering) → o ≡ Equal → is_lt o ≡ true → ⊥
equal_not_less Less e h = cc
equal_not_less Equal e h = cc
equal_not_less Greater e h = cc

pub strict : {A : Type 0} (R : A → A → Ordering) → IsTotalOrder R → IsStrict (λ a b. is_lt (R a b))
strict R o = record {
  never = λ a e. equal_not_less (R a a) (tied_itself o a) e;
  through = λ a b c p q. ap is_lt (o.trans a b c (less_is (R a b) p) (less_is (R b c) q));
}

package_total : IsTotalOrder package_cmp
package_total = then_total (on_total (λ (p : Locked). p.name) nat_list_cmp_total) (on_total (λ (p : Locked). p.version) version_total)

edge_total : IsTotalOrder edge_cmp
edge_total = then_total (on_total (λ (e : Edge). e.target.name) nat_list_cmp_total)
    (then_total (on_total (λ (e : Edge). e.version) version_total) (on_total (λ (e : Edge). e.target.extra) (options_total nat_list_cmp_total)))

extra_total : IsTotalOrder extra_cmp
extra_total = on_total (λ (x : Extra). x.name) nat_list_cmp_total

pub blocks_strict : IsStrict block_less
blocks_strict = strict package_cmp package_total

pub edges_strict : IsStrict edge_less
edges_strict = strict edge_cmp edge_total

pub extras_strict : IsStrict extra_less
extras_strict = strict extra_cmp extra_total
