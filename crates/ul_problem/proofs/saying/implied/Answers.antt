use Rattle.std.proofs.Common.{◌≡◌, [], ◌∷◌, ◌∙◌, ap, sym, subst, List, Bool}
use Rattle.std.specs.Prelude.{IfOk}
use Rattle.ul_problem.specs.declared.term.Term.TheVariants.{In, NotIn}
use Rattle.ul_problem.proofs.Said.{pair_met, pair_blank, pair_rises, pair_falls}
use Rattle.ul_problem.proofs.saying.implied.Goals as goal

pub returns-then-node-target : goal.returns-then-node-target
returns-then-node-target c =
    c.one.ensures ∙ (ap (λ (s : List Bool). In c.args.node s ∷ []) c.in_ok-less.ensures ∙ sym (pair_met c.args.node c.args.target c.args.versions.now c.args.permitted.now c.if-node-target.true))

pub returns-then-is_empty : goal.returns-then-is_empty
returns-then-is_empty c =
    c.one-then-is_empty.ensures ∙ (ap (λ (s : List Bool). In c.args.node s ∷ []) c.in_ok-copy.ensures ∙ sym (pair_blank c.args.node c.args.target c.args.versions.now c.args.permitted.now c.if-node-target.false (sym c.is_empty.ensures ∙ c.if-is_empty.true)))

pub returns-then-node-target-2 : goal.returns-then-node-target-2
returns-then-node-target-2 c =
    let here = c.in_ok-versions.ensures.0 ∙ c.in_ok-copy-2.ensures in
    let there = subst (λ made. IfOk made (λ (w : List Bool). w ≡ c.args.permitted.now)) c.in_ok-versions.ensures.1 c.copy-3.ensures in
    c.two.ensures
    ∙ (ap (λ (s : List Bool). In c.args.node s ∷ NotIn c.args.target c.in_ok-versions.permitted ∷ []) here ∙ (ap (λ (w : List Bool). In c.args.node c.args.versions.now ∷ NotIn c.args.target w ∷ []) there
    ∙ sym (pair_rises c.args.node c.args.target c.args.versions.now c.args.permitted.now c.if-node-target-2.true (sym c.is_empty.ensures ∙ c.if-is_empty.false))))

pub returns-else-node-target-2 : goal.returns-else-node-target-2
returns-else-node-target-2 c =
    let here = c.in_ok-versions.ensures.0 ∙ c.in_ok-copy-2.ensures in
    let there = subst (λ made. IfOk made (λ (w : List Bool). w ≡ c.args.permitted.now)) c.in_ok-versions.ensures.1 c.copy-3.ensures in
    c.two-else-node-target-2.ensures
    ∙ (ap (λ (s : List Bool). NotIn c.args.target c.in_ok-versions.permitted ∷ In c.args.node s ∷ []) here ∙ (ap (λ (w : List Bool). NotIn c.args.target w ∷ In c.args.node c.args.versions.now ∷ []) there
    ∙ sym (pair_falls c.args.node c.args.target c.args.versions.now c.args.permitted.now c.if-node-target.false c.if-node-target-2.false (sym c.is_empty.ensures ∙ c.if-is_empty.false))))
