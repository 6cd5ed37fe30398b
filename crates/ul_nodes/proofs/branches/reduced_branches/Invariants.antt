use Rattle.std.proofs.Common.{◌≡◌, List, ℕ}
use Rattle.std.specs.List.{All}
use Rattle.ul_nodes.specs.Reduced.{IsReduced}
use Rattle.ul_nodes.specs.Apply.{reduced_branches}
use Rattle.ul_nodes.specs.Keys.{then_branches, KeysOf}
use Rattle.ul_nodes.specs.Rows.{made_view, parts_view, stands}
use Rattle.ul_nodes.proofs.branches.reduced_branches.Given as goal

abbrev pub invariant-loop-key : goal.invariant-loop-key
invariant-loop-key g l = record {
  left : then_branches (made_view g.Parts.Sameness.tree l.made.items) (reduced_branches l.carried (parts_view g.Parts.Sameness.tree l.key-iterator.rest.items) (stands l.carried (made_view g.Parts.Sameness.tree l.made.items) (g.Parts.Sameness.tree l.other)))
      ≡ reduced_branches l.carried (parts_view g.Parts.Sameness.tree l.fn.rows.items) (g.Parts.Sameness.tree l.other);
  reduced : All (λ e. IsReduced (g.Parts.Sameness.tree e.1)) l.key-iterator.rest.items;
  standing : IsReduced (stands l.carried (made_view g.Parts.Sameness.tree l.made.items) (g.Parts.Sameness.tree l.other));
  kinds : (i : List ℕ) → KeysOf i l.fn.rows.items → KeysOf i l.made.items × KeysOf i l.key-iterator.rest.items;
  known : All (λ e. g.Parts.Sameness.known l.parts e.1) l.made.items;
  left_known : All (λ e. g.Parts.Sameness.known l.parts e.1) l.key-iterator.rest.items;
}
