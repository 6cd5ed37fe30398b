-- The order of keys and levels.
use Rattle.std.proofs.Common.{Less, Equal, Greater, arith, ◌<◌, ◌≡◌, ℕ, List, refl, ap, ◌∙◌}
use Rattle.std.specs.Ordering.{ordering_reverse, nat_cmp}
use Rattle.std.proofs.lemmas.Cmp.{nat_list_cmp_total, tied_itself, ranked, by_ranked}
use Rattle.std.proofs.lemmas.Map.Lookups.{exact_bytes}
use Rattle.ul_nodes.specs.Plain.{text_cmp}

pub cmp_itself : (k : List ℕ) → text_cmp k k ≡ Equal
cmp_itself k = tied_itself nat_list_cmp_total k

pub cmp_equal : (k j : List ℕ) → text_cmp k j ≡ Equal → k ≡ j
cmp_equal k j e = exact_bytes k j e

pub cmp_back : (k j : List ℕ) → text_cmp k j ≡ Less → text_cmp j k ≡ Greater
cmp_back k j e = nat_list_cmp_total.antisymm j k ∙ ap ordering_reverse e

pub cmp_over : (k j : List ℕ) → text_cmp k j ≡ Greater → text_cmp j k ≡ Less
cmp_over k j e = nat_list_cmp_total.antisymm j k ∙ ap ordering_reverse e

pub cmp_trans : (i j k : List ℕ) → text_cmp i j ≡ Less → text_cmp j k ≡ Less → text_cmp i k ≡ Less
cmp_trans i j k = nat_list_cmp_total.trans i j k

pub cmp_less : (x y : ℕ) → x < y → nat_cmp x y ≡ Less
cmp_less x y h = by_ranked (x < y) (x ≡ y) (y < x) (nat_cmp x y) (ranked x y (nat_cmp x y) refl) (λ e p. e) (λ e p. absurd (omega arith)) (λ e p. absurd (omega arith))

pub cmp_more : (x y : ℕ) → y < x → nat_cmp x y ≡ Greater
cmp_more x y h = by_ranked (x < y) (x ≡ y) (y < x) (nat_cmp x y) (ranked x y (nat_cmp x y) refl) (λ e p. absurd (omega arith)) (λ e p. absurd (omega arith)) (λ e p. e)
