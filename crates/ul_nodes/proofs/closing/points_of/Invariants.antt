use Rattle.std.proofs.Common.{◌≡◌, ◌++◌, true, map, string_bytes}
use Rattle.std.specs.List.{All}
use Rattle.ul_nodes.specs.Keys.{key_view, is_literal_key}
use Rattle.ul_nodes.specs.Closing.{branch_parts}
use Rattle.ul_nodes.proofs.closing.points_of.Given as goal

abbrev pub invariant-loop-key : goal.invariant-loop-key
invariant-loop-key g l = record {
  texts : map string_bytes l.texts.items ++ map (λ e. key_view e.0) l.key-iterator.rest.items ≡ map (λ e. key_view e.0) l.fn.made.items;
  parts : l.parts.items ++ branch_parts l.key-iterator.rest.items ≡ branch_parts l.fn.made.items;
  kinds : All (λ e. is_literal_key e.0 ≡ true) l.key-iterator.rest.items;
}
