use Rattle.std.proofs.Common.{◌≡◌, ap, sym, ◌∙◌, ◌++◌, drop, List, true, subst}
use Rattle.std.proofs.lemmas.List.{drop_all}
use Rattle.std.specs.List.{All}
use Rattle.ul_nodes.specs.Keys.{keys_view, has_kind}
use Rattle.ul_nodes.specs.declared.level.Key.{Key}
use Rattle.ul_nodes.proofs.Merged.{rest_taken, ended_first, ended_second, kinds_ended}
use Rattle.ul_nodes.proofs.nodes.merged_keys.Goals as goal
use Rattle.ul_nodes.proofs.nodes.merged_keys.Goals.{In_ok-extend_from_slice-2, then-loop-i-test+else-j-right, else-loop-i-test}

-- what was made, and after it what is left of both
ended : (c : In_ok-extend_from_slice-2) → c.extend_from_slice-2.new.self.items ≡ (c.loop-i.made.items ++ drop c.loop-i.i c.args.left.now) ++ drop c.loop-i.j c.args.right.now
ended c =
    c.in_ok-extend_from_slice-2.ensures.items ∙ ap (λ z. c.extend_from_slice.new.self.items ++ z) (rest_taken c.args.right.now c.loop-i.j)
    ∙ ap (λ z. z ++ drop c.loop-i.j c.args.right.now) (c.in_ok-extend_from_slice.ensures.items ∙ ap (λ z. c.loop-i.made.items ++ z) (rest_taken c.args.left.now c.loop-i.i))

pub returns-clause-keys : goal.returns-clause-keys
returns-clause-keys c =
    let made = c.loop-i.made.items in
    let xs = drop c.loop-i.i c.args.left.now in
    let ys = drop c.loop-i.j c.args.right.now in
    ap keys_view (ended c) ∙ elim c.loop-i-test.branch [
      | then-loop-i-test+else-j-right w ↦ ended_second made xs ys (drop_all c.loop-i.j c.args.right.now w.if-j-right.false)
      | else-loop-i-test w ↦ ended_first made xs ys (drop_all c.loop-i.i c.args.left.now w.loop-i-test.false)
    ] ∙ c.loop-i.invariant.keys

pub returns-clause-kinds : goal.returns-clause-kinds
returns-clause-kinds c = λ l p q.
    subst (λ (z : List Key). All (λ k. has_kind l k ≡ true) z) (sym (ended c)) (kinds_ended l c.loop-i.made.items c.args.left.now c.args.right.now c.loop-i.i c.loop-i.j (c.loop-i.invariant.kinds l p q) p q)
