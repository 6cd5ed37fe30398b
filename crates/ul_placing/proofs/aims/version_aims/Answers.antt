use Rattle.std.proofs.Common.{◌≡◌, ◌<◌, ◌≤◌, ◌++◌, List, length, get_or, ℕ, sym, ap, subst, ◌∙◌}
use Rattle.ul_problem.specs.declared.problem.Need.{Need}
use Rattle.ul_region.specs.Asked.{region_asked}
use Rattle.ul_region.specs.declared.rows.Asked.{Asked}
use Rattle.ul_placing.specs.Aims.{IsFirmIn}
use Rattle.ul_placing.proofs.Aiming.{collected_more, collected_same, collected_all, none_so}
use Rattle.ul_placing.proofs.aims.version_aims.Goals as goal

pub loop-k-preserved-then-not-is_firm : goal.loop-k-preserved-then-not-is_firm
loop-k-preserved-then-not-is_firm c =
    let l : c.loop-k.k < length c.args.at.now.row.now.asked = subst (λ (z : List Asked). c.loop-k.k < length z) c.as_slice-asked.ensures c.loop-k-test.true in
    collected_same (IsFirmIn (region_asked c.args.at.now) c.args.at.now.node.now c.args.at.now.row.now) c.args.at.now.row.now.asked c.args.aims.now c.loop-k.k c.index-asked-k.result c.loop-k.needs l
    (subst (λ (z : List Asked). c.index-asked-k.result ≡ get_or z c.loop-k.k c.index-asked-k.result) c.as_slice-asked.ensures c.index-asked-k.is)
    (subst (λ (n : ℕ). c.loop-k.k < n) (sym c.requires.aims) l) (none_so _ c.is_firm.result c.is_firm.ensures c.if-not-is_firm.true) c.loop-k.invariant

pub loop-k-preserved : goal.loop-k-preserved
loop-k-preserved c =
    let l : c.loop-k.k < length c.args.at.now.row.now.asked = subst (λ (z : List Asked). c.loop-k.k < length z) c.as_slice-asked.ensures c.loop-k-test.true in
    collected_more (IsFirmIn (region_asked c.args.at.now) c.args.at.now.node.now c.args.at.now.row.now) c.args.at.now.row.now.asked c.args.aims.now c.loop-k.k c.index-asked-k.result c.index-aims-k.result c.loop-k.needs c.push_needs.new.needs l
    (subst (λ (z : List Asked). c.index-asked-k.result ≡ get_or z c.loop-k.k c.index-asked-k.result) c.as_slice-asked.ensures c.index-asked-k.is)
    (subst (λ (n : ℕ). c.loop-k.k < n) (sym c.requires.aims) l) c.index-aims-k.is
    (c.in_ok-push_needs.ensures ∙ (ap (λ (z : List Need). z ++ c.as_slice-more.result.now) c.in_ok-make_room.ensures ∙ ap (λ (z : List Need). c.loop-k.needs ++ z) c.as_slice-more.ensures)) (c.is_firm.ensures.0 c.if-not-is_firm.false) c.loop-k.invariant

pub returns : goal.returns
returns c = collected_all (IsFirmIn (region_asked c.args.at.now) c.args.at.now.node.now c.args.at.now.row.now) c.args.at.now.row.now.asked c.args.aims.now c.loop-k.k c.loop-k.needs
    (subst (λ (z : List Asked). length z ≤ c.loop-k.k) c.as_slice-asked.ensures c.loop-k-test.false) c.requires.aims c.loop-k.invariant
