use Rattle.std.proofs.Common.{◌≡◌, Bool, List, ap, sym, ◌∙◌, subst, false}
use Rattle.std.specs.List.{All}
use Rattle.ul_nodes.specs.Plain.{Plain}
use Rattle.ul_nodes.specs.Reduced.{IsReduced}
use Rattle.ul_nodes.specs.Rows.{made_view, stands, standing_part, more_branches}
use Rattle.ul_nodes.specs.Apply.{same}
use Rattle.ul_nodes.specs.Keys.{key_view}
use Rattle.ul_nodes.specs.declared.level.Key.{Key}
use Rattle.ul_nodes.proofs.Making.{added_more, all_push}
use Rattle.ul_nodes.proofs.Viewed.{standing_viewed, standing_known}
use Rattle.ul_nodes.proofs.branches.add.Goals as goal

-- the part that stands, as the code finds it
stands_is : {A : Type 0} (view : A → Plain) (carried : Bool) (xs ys : List (Key × A)) (other part : A) → part ≡ standing_part carried xs other → xs ≡ ys → view part ≡ stands carried (made_view view ys) (view other)
stands_is view carried xs ys other part e s = ap view e ∙ standing_viewed view carried xs other ∙ ap (λ zs. stands carried (made_view view zs) (view other)) s

pub is_same-requires-clause-right_reduced : goal.is_same-requires-clause-right_reduced
is_same-requires-clause-right_reduced g c =
    subst (λ (z : Plain). IsReduced z) (sym (stands_is g.Parts.Sameness.tree c.args.carried c.deref.result.now c.args.made.now.items c.args.other.now c.standing.result.now c.standing.ensures c.deref.ensures.value)) c.requires.stands_reduced

pub is_same-requires-clause-right_known : goal.is_same-requires-clause-right_known
is_same-requires-clause-right_known g c =
    let known = g.Parts.Sameness.known c.args.parts.now in
    subst (λ z. known z) (sym c.standing.ensures)
    (standing_known known c.args.carried c.deref.result.now c.args.other.now (subst (λ (z : List (Key × _)). All (λ e. known e.1) z) (sym c.deref.ensures.value) c.requires.made_known) c.requires.other_known)

pub returns-then-is_same-clause-made : goal.returns-then-is_same-clause-made
returns-then-is_same-clause-made g c =
    let view = g.Parts.Sameness.tree in
    let x = view c.args.next in
    let e = stands_is view c.args.carried c.deref.result.now c.args.made.now.items c.args.other.now c.standing.result.now c.standing.ensures c.deref.ensures.value in
    ap (λ b. more_branches b (made_view view c.args.made.now.items) (key_view c.args.key) x) (sym c.if-is_same.true ∙ c.is_same.ensures ∙ ap (same x) e)

pub returns-clause-made : goal.returns-clause-made
returns-clause-made g c =
    let view = g.Parts.Sameness.tree in
    let x = view c.args.next in
    let e = stands_is view c.args.carried c.deref.result.now c.args.made.now.items c.args.other.now c.standing.result.now c.standing.ensures c.deref.ensures.value in
    let n : same x (stands c.args.carried (made_view view c.args.made.now.items) (view c.args.other.now)) ≡ false = ap (same x) (sym e) ∙ sym c.is_same.ensures ∙ c.if-is_same.false in
    ap (made_view view) c.in_ok-push.ensures.items ∙ added_more view _ c.args.made.now.items c.args.key c.args.next n

pub returns-clause-known : goal.returns-clause-known
returns-clause-known g c = all_push (λ e. g.Parts.Sameness.known c.args.parts.now e.1) c.args.made.now.items c.push.new.self.items (c.args.key, c.args.next) c.in_ok-push.ensures.items c.requires.made_known c.requires.next_known
