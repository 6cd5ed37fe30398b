use Rattle.std.proofs.Common.{◌≡◌, ◌+◌, ◌≤◌, List, Vec, Global, [], ◌∷◌, ◌++◌, map, take, length, get_or, ap, sym, ◌∙◌, subst, arith}
use Rattle.std.proofs.lemmas.List.{length-map, map-append, take_more}
use Rattle.ul_marker.specs.declared.printed.Comparison.{Comparison}
use Rattle.ul_tree.specs.PathList as PathList
use Rattle.ul_marker_text.specs.Rows.{steps_of}
use Rattle.ul_marker_text.specs.StepViews.{path_view, paths_view, row_view, rows_steps, step_view}
use Rattle.ul_marker_text.specs.TextFacts.{AreWithin}
use Rattle.ul_marker_text.specs.declared.steps.Step.{Step}
use Rattle.ul_marker_text.proofs.Levels.{within_push, within_row}
use Rattle.ul_marker_text.proofs.texts.paths_of_rows.Goals as goal

pub returns-in-Err-clause-refused : goal.returns-in-Err-clause-refused
returns-in-Err-clause-refused c e w =
    let rows = c.args.rows.now in
    let i = c.loop-row.row-index in
    let d = c.row-item.result in
    let found = c.in_ok-path.path.items in
    let steps : map step_view found ≡ steps_of (length (get_or rows i d).items) (row_view (get_or rows i d).items) =
    c.in_ok-path.ensures ∙ ap (λ (z : List Comparison). steps_of (length z) (row_view z)) (c.deref.ensures.value ∙ ap (λ (r : Vec Comparison Global). r.items) c.row-item.is) in
    let count : length found ≡ length (steps_of (length (get_or rows i d).items) (row_view (get_or rows i d).items)) = sym (length-map found step_view) ∙ ap length steps in
    let few = within_row 512 rows i d c.loop-row-test.true w in
    absurd (omega (arith, few, count, c.in-Err.ensures.long.1))

pub loop-row-preserved : goal.loop-row-preserved
loop-row-preserved c =
    let rows = c.args.rows.now in
    let i = c.loop-row.row-index in
    let d = c.row-item.result in
    let row = get_or rows i d in
    let found = c.loop-row.found.items in
    let path = c.in_ok-path.path in
    let short = c.in-Ok.ensures.short in
    let items = c.in_ok-push.ensures.items ∙ ap (λ (p : Vec Step Global). found ++ p ∷ []) short.0 in
    let steps : path_view path ≡ steps_of (length row.items) (row_view row.items) =
    c.in_ok-path.ensures ∙ ap (λ (z : List Comparison). steps_of (length z) (row_view z)) (c.deref.ensures.value ∙ ap (λ (r : Vec Comparison Global). r.items) c.row-item.is) in
    let taken : rows_steps (take (i + 1) rows) ≡ rows_steps (take i rows) ++ steps_of (length row.items) (row_view row.items) ∷ [] =
    ap rows_steps (take_more rows i d c.loop-row-test.true) ∙ map-append (λ (r : Vec Comparison Global). steps_of (length r.items) (row_view r.items)) (take i rows) (row ∷ []) in
    record {
      paths = ap paths_view items ∙ map-append path_view found (path ∷ []) ∙ ap (λ (z : List (List PathList.Step)). z ++ path_view path ∷ []) c.loop-row.invariant.paths
          ∙ ap (λ (z : List PathList.Step). rows_steps (take i rows) ++ z ∷ []) steps ∙ sym taken;
      within = subst (λ (z : List (Vec Step Global)). AreWithin 512 (paths_view z)) (sym items) (within_push 512 found path c.loop-row.invariant.within (subst (λ (p : Vec Step Global). length p.items ≤ 512) short.0 short.1));
    }
