use Rattle.std.proofs.Common.{◌≡◌, ◌++◌, ◌∷◌, true, map}
use Rattle.std.specs.List.{All}
use Rattle.ul_nodes.specs.Keys.{is_number_key}
use Rattle.ul_nodes.specs.Closing.{branch_parts, number_of}
use Rattle.ul_nodes.proofs.closing.pieces_of.Given as goal

abbrev pub invariant-loop-key : goal.invariant-loop-key
invariant-loop-key g l = record {
  starts : l.starts.items ++ map (λ e. number_of e.0) l.key-iterator.rest.items ≡ 0 ∷ map (λ e. number_of e.0) l.fn.made.items;
  parts : l.parts.items ++ branch_parts l.key-iterator.rest.items ≡ l.fn.other ∷ branch_parts l.fn.made.items;
  kinds : All (λ e. is_number_key e.0 ≡ true) l.key-iterator.rest.items;
}
