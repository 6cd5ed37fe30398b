-- Nodes that are level in the order are equal.
use Rattle.std.proofs.Common.{◌≡◌, ℕ, List, Option, Some, None, true, refl, ap, ◌∙◌, is_eq}
use Rattle.std.specs.Cmp.{first_so, second_so}
use Rattle.std.specs.Cmp.Lexicographic.{bytes_decides}
use Rattle.std.specs.Option.{option_eq}
use Rattle.std.specs.declared.cmp.Ordering.TheVariants.{Equal}
use Rattle.std.specs.Str.{bytes_eq}
use Rattle.ul_base.specs.declared.node.Node.{Node}
use Rattle.ul_base.specs.Nodes.{node_cmp, node_eq, node_ties}

same_bytes : (x y : List ℕ) → bytes_eq x y ≡ true → x ≡ y
same_bytes x y e = (bytes_decides x y).0 e

same_extra : (p q : Option (List ℕ)) → option_eq bytes_eq p q ≡ true → p ≡ q
same_extra None None e = refl
same_extra None (Some y) e = cc
same_extra (Some x) None e = cc
same_extra (Some x) (Some y) e = ap Some (same_bytes x y e)

pub node_cmp_same : (a b : Node) → node_cmp a b ≡ Equal → a ≡ b
node_cmp_same a b e =
    let eq : node_eq a b ≡ true = node_ties a b ∙ ap is_eq e in
    let names : a.name ≡ b.name = same_bytes a.name b.name (first_so (bytes_eq a.name b.name) (option_eq bytes_eq a.extra b.extra) eq) in
    let extras : a.extra ≡ b.extra = same_extra a.extra b.extra (second_so (bytes_eq a.name b.name) (option_eq bytes_eq a.extra b.extra) eq) in
    λ i. record { name = names i; extra = extras i }
