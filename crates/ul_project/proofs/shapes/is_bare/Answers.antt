use Rattle.std.proofs.Common.{◌==◌, Some, length, ap, sym, ◌∙◌}
use Rattle.toml.specs.View.{view}
use Rattle.ul_project.specs.Toml.{says_nothing}
use Rattle.ul_project.proofs.Values.{nothing_array, nothing_table}
use Rattle.ul_project.proofs.shapes.is_bare.Goals as goal

pub returns-in-Array : goal.returns-in-Array
returns-in-Array c =
    c.is_empty.ensures ∙ ap (λ l. length l == 0) c.as_slice.ensures.value
    ∙ sym (ap (λ v. says_nothing (Some (view v))) c.in-Array.is ∙ nothing_array c.in-Array.items)

pub returns-in-Table : goal.returns-in-Table
returns-in-Table c =
    ap (λ n. n == 0) c.len.ensures.len
    ∙ sym (ap (λ v. says_nothing (Some (view v))) c.in-Table.is ∙ nothing_table c.in-Table.table)
