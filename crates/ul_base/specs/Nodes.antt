-- The order of nodes.
use Rattle.std.specs.Prelude.{◌≡◌, ℕ, List, Option, Some, None, Bool, ◌&&◌}
use Rattle.std.proofs.Common.{refl}
use Rattle.std.specs.Cmp.{IsTotalOrder, then_total, on_total, both_tied}
use Rattle.std.specs.Cmp.Lexicographic.{nat_list_cmp_total, options_total, texts_ties}
use Rattle.std.specs.declared.cmp.Ordering.{Ordering}
use Rattle.std.specs.Option.{option_cmp, option_eq}
use Rattle.std.specs.Ordering.{on, then_cmp, eq_by_cmp}
use Rattle.std.specs.Str.{bytes_eq}
use Rattle.ul_base.specs.Names.{name_cmp}
use Rattle.ul_base.specs.declared.node.Node.{Node}

-- by the name, then the base before each extra, then by the extra
abbrev pub node_cmp : Node → Node → Ordering
node_cmp = then_cmp (on (λ n. n.name) name_cmp) (on (λ n. n.extra) (option_cmp name_cmp))

-- the same name and the same extra, or none
abbrev pub node_eq : Node → Node → Bool
node_eq a b = bytes_eq a.name b.name && option_eq bytes_eq a.extra b.extra

-- the order is total
pub node_cmp-total : IsTotalOrder node_cmp
node_cmp-total = then_total (on_total (λ n. n.name) nat_list_cmp_total) (on_total (λ n. n.extra) (options_total nat_list_cmp_total))

extras_tie : (p q : Option (List ℕ)) → option_eq bytes_eq p q ≡ eq_by_cmp (option_cmp name_cmp) p q
extras_tie None None = refl
extras_tie None (Some y) = refl
extras_tie (Some x) None = refl
extras_tie (Some x) (Some y) = texts_ties x y

-- nodes are level exactly where they are equal
pub node_ties : (a b : Node) → node_eq a b ≡ eq_by_cmp node_cmp a b
node_ties a b = both_tied _ _ (name_cmp a.name b.name) (option_cmp name_cmp a.extra b.extra) (texts_ties a.name b.name) (extras_tie a.extra b.extra)
