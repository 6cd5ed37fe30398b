use Rattle.ul_ranges.proofs.PieceLaws.{searched_piece}
use Rattle.ul_ranges.proofs.cuts.Cuts.piece_of.Goals as goal

pub returns-in-Ok : goal.returns-in-Ok
returns-in-Ok c =
    rw (← c.self.view_is) (rw c.in-Ok.is at (searched_piece c.self.inside.starts.items c.args.number c.binary_search.result c.self.invariant c.requires
    (rw c.as_slice.ensures.value at c.binary_search.ensures.position)))

pub overflow_sub-result : goal.overflow_sub-result
overflow_sub-result c =
    (rw c.in-Err.is at (searched_piece c.self.inside.starts.items c.args.number c.binary_search.result c.self.invariant c.requires
    (rw c.as_slice.ensures.value at c.binary_search.ensures.position))).0

pub returns-in-Err : goal.returns-in-Err
returns-in-Err c =
    rw (← c.self.view_is) ((rw c.in-Err.is at (searched_piece c.self.inside.starts.items c.args.number c.binary_search.result c.self.invariant c.requires
    (rw c.as_slice.ensures.value at c.binary_search.ensures.position))).1)
