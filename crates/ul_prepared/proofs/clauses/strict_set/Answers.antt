use Rattle.std.proofs.Common.{◌≡◌, ◌<◌, ◌-◌, arith, subst, sym, length, ap, cond, ◌∙◌, refl, List, ℕ, Bool, map}
use Rattle.std.specs.Prelude.{All}
use Rattle.ul_version.specs.Fields.{Fields}
use Rattle.std.proofs.lemmas.Result.{IfOk-weaker}
use Rattle.ul_base.proofs.ForCallers.{made_holds}
use Rattle.ul_ranges.specs.Flags.{either, front, less, set_of}
use Rattle.ul_specifier.specs.Meaning.{meets_clause}
use Rattle.ul_ranges.proofs.ForCallers.{length-front, length-less, length-set_of}
use Rattle.ul_specifier.specs.Clauses.{ClauseFields}
use Rattle.ul_prepared.specs.Clauses.{IsMadeWith, admits_after, is_met_at}
use Rattle.ul_prepared.specs.Parts.{CountsBefore, CountsThrough}
use Rattle.ul_prepared.specs.declared.parts.Part.TheVariants.{Release}
use Rattle.ul_prepared.proofs.ClauseSets.{combined, counts_rise, places_below, strict_is}
use Rattle.ul_prepared.proofs.clauses.strict_set.Goals as goal
use Rattle.ul_prepared.proofs.clauses.strict_set.Goals.{In_ok-set}

pub of_list-requires : goal.of_list-requires
of_list-requires c =
    let rise = counts_rise Release c.clause.inside.version c.args.versions.now c.count_before-low.result c.count_through-high.result c.count_before-low.ensures c.count_through-high.ensures in
    let within = c.count_through-high.ensures.within in
    subst (All (λ (m : ℕ). m < length c.args.versions.now)) (sym c.in_ok-members.ensures)
    (places_below (is_met_at c.args.clause.now c.args.versions.now) c.count_before-low.result (c.count_through-high.result - c.count_before-low.result) (length c.args.versions.now) (omega (arith, rise, within)))

-- the members that were found
made : (c : In_ok-set) → c.in_ok-set.set ≡ set_of (length c.args.versions.now) c.in_ok-members.members.items
made c = made_holds c.of_list.result c.in_ok-set.set (λ z. z ≡ set_of (length c.args.versions.now) c.in_ok-members.members.items) c.in_ok-set.ensures c.of_list.ensures

pub combined_set-requires : goal.combined_set-requires
combined_set-requires c =
    let size : ℕ = length c.args.versions.now in
    let others = less (front size c.chosen-2.result) (front size c.chosen.result) in
    IfOk-weaker c.between-others.result (λ s. s ≡ others) (λ s. length c.in_ok-set.set ≡ length s)
    (λ s e. ap length (made (goal.at.combined_set-requires c).In_ok-set) ∙ length-set_of size c.in_ok-members.members.items
    ∙ sym (ap length e ∙ length-less (front size c.chosen-2.result) (front size c.chosen.result) ∙ length-front size c.chosen-2.result)) c.between-others.ensures

pub returns : goal.returns
returns c =
    let version : c.clause.inside.version ≡ c.args.clause.now.version = ap (λ (s : ClauseFields). s.version) c.clause.view_is in
    let own : c.clause.inside.op ≡ c.args.clause.now.op = ap (λ (s : ClauseFields). s.op) c.clause.view_is in
    let after = c.admits_after-after.ensures ∙ ap admits_after own in
    let from : c.chosen.result ≡ cond (admits_after c.args.clause.now.op) c.count_through-high.result 0 =
    c.chosen.ensures ∙ ap (λ (b : Bool). cond b c.count_through-high.result 0) after in
    let to : c.chosen-2.result ≡ cond (admits_after c.args.clause.now.op) (length c.args.versions.now) c.count_before-low.result =
    c.chosen-2.ensures ∙ ap (λ (b : Bool). cond b (length c.args.versions.now) c.count_before-low.result) after in
    let others = less (front (length c.args.versions.now) c.chosen-2.result) (front (length c.args.versions.now) c.chosen.result) in
    let members = made (goal.at.returns c).In_ok-set ∙ ap (λ (z : List ℕ). set_of (length c.args.versions.now) z) c.in_ok-members.ensures in
    let is = strict_is c.args.clause.now c.args.versions.now c.count_before-low.result c.count_through-high.result c.chosen.result c.chosen-2.result (c.count_through-high.result - c.count_before-low.result) c.requires.strict
    (subst (λ (v : Fields). CountsBefore Release v c.args.versions.now c.count_before-low.result) version c.count_before-low.ensures)
    (subst (λ (v : Fields). CountsThrough Release v c.args.versions.now c.count_through-high.result) version c.count_through-high.ensures) from to refl in
    IfOk-weaker c.combined_set.result (IsMadeWith either c.in_ok-set.set c.between-others.result) (λ s. s ≡ map (meets_clause c.args.clause.now) c.args.versions.now)
    (λ s h. combined either _ _ _ _ _ h.2 members (made_holds c.between-others.result h.0 (λ z. z ≡ others) h.1 c.between-others.ensures) ∙ is) c.combined_set.ensures
