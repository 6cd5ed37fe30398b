use Rattle.std.proofs.Common.{◌≡◌, ap, sym, ◌∙◌, subst, true, List, ℕ}
use Rattle.ul_comparison.specs.Worlds.{WorldFields, IsWorld}
use Rattle.ul_tree.specs.Sample.{sample_from, sample_of}
use Rattle.ul_tree.specs.Values.{tree_holds}
use Rattle.ul_tree.specs.Views.{tree_view}
use Rattle.ul_tree.proofs.Walks.{sample_law}
use Rattle.ul_tree.proofs.samples.sample.Goals as goal

pub into_world-requires : goal.into_world-requires
into_world-requires c =
    let t = tree_view c.args.tree.now in
    let first : c.follow.new.found ≡ sample_of t = c.in_ok-follow.ensures ∙ ap (λ w. sample_from w t) c.in_ok-found.ensures in
    subst IsWorld (sym first) (sample_law.world t c.requires.reduced c.requires.not_false c.requires.no_extra)

pub returns-clause-holds : goal.returns-clause-holds
returns-clause-holds c =
    let t = tree_view c.args.tree.now in
    let first : c.into_world.result ≡ sample_of t = c.into_world.ensures ∙ c.in_ok-follow.ensures ∙ ap (λ w. sample_from w t) c.in_ok-found.ensures in
    subst (λ (w : WorldFields). (x : List ℕ) → tree_holds t w x ≡ true) (sym first) (sample_law.holds t c.requires.reduced c.requires.not_false c.requires.no_extra)
