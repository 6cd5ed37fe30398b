use Rattle.std.proofs.Common.{◌≡◌, ◌<◌, ◌+◌, ℕ, List, [], ◌∷◌, ◌++◌, length, get_or, take, map, ap, sym, ◌∙◌}
use Rattle.std.proofs.lemmas.List.{append_assoc, map_more, map_push, take_all}
use Rattle.ul_base.specs.declared.node.Node.{Node}
use Rattle.ul_requirement.specs.Truth.{with_extra}
use Rattle.ul_merge.specs.Rows.{aim_of, aims_at}
use Rattle.ul_merge.specs.declared.targets.Aim.{Aim}
use Rattle.ul_merge.proofs.targets.put_extras.Goals as goal

-- the target of an extra more
aims_more : (r : ℕ) (name : List ℕ) (extras : List (List ℕ)) (i : ℕ) (x : List ℕ) (start : List (Node × ℕ)) (before now : List Aim) (target : Node) → i < length extras → x ≡ get_or extras i x → target ≡ with_extra name x
    → now ≡ before ++ (record { target = target; requirement = r }) ∷ [] → map aim_of before ≡ start ++ aims_at r (map (with_extra name) (take i extras)) → map aim_of now ≡ start ++ aims_at r (map (with_extra name) (take (i + 1) extras))
aims_more r name extras i x start before now target lt at made is have =
    let named : target ≡ with_extra name (get_or extras i x) = made ∙ ap (with_extra name) at in
    ap (map aim_of) is ∙ map_push aim_of before (record { target = target; requirement = r })
    ∙ (λ j. have j ++ (named j, r) ∷ [])
    ∙ append_assoc start (aims_at r (map (with_extra name) (take i extras))) ((with_extra name (get_or extras i x), r) ∷ [])
    ∙ ap (λ (zs : List (Node × ℕ)). start ++ zs) (sym (ap (aims_at r) (map_more (with_extra name) extras i x lt) ∙ map_push (λ (n : Node). (n, r)) (map (with_extra name) (take i extras)) (with_extra name (get_or extras i x))))

-- an extra of a name, in other words
same_node : (n m x y : List ℕ) → n ≡ m → x ≡ y → with_extra n x ≡ with_extra m y
same_node n m x y e f = ap (λ (z : List ℕ). with_extra z x) e ∙ ap (with_extra m) f

pub loop-extra-preserved : goal.loop-extra-preserved
loop-extra-preserved c =
    aims_more c.args.requirement c.args.name.now c.args.extras.now c.loop-extra.extra-index c.extra-item.result _ _ _ _ c.loop-extra-test.true c.extra-item.is
    (same_node c.in_ok-copy.field-0 c.args.name.now c.in_ok-copy-2.field-0 c.extra-item.result c.in_ok-copy.ensures c.in_ok-copy-2.ensures) c.in_ok-push.ensures.items c.loop-extra.invariant

pub returns : goal.returns
returns c = c.loop-extra.invariant ∙ ap (λ (xs : List (List ℕ)). map aim_of c.args.aims.now.items ++ aims_at c.args.requirement (map (with_extra c.args.name.now) xs)) (take_all c.loop-extra.extra-index c.args.extras.now c.loop-extra-test.false)
