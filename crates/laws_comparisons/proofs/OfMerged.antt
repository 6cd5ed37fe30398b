-- A lock that the leaves of a fork answer merge into asks what its project and its documents ask.
use Rattle.std.proofs.Common.{List, [], ◌∷◌, sym, subst, ⊎_elim}
use Rattle.std.specs.Prelude.{Contains}
use Rattle.std.specs.List.{AllByRecursion}
use Rattle.ul_base.proofs.ForCallers.{contains_cases, none_in}
use Rattle.ul_filter.specs.Comparisons.{lock_atoms}
use Rattle.ul_forks.specs.Headline.{TreeLeaf}
use Rattle.laws_comparisons.specs.Comparisons.{MergedAskTheirs, asked_atoms}
use Rattle.laws_comparisons.proofs.Asked.{had}
use Rattle.laws_comparisons.proofs.Catalogs.{catalog_asks}
use Rattle.laws_comparisons.proofs.Locks.{lock_asks, region_looks}
use Rattle.laws_comparisons.proofs.Looking.{LooksThere}
use Rattle.laws_comparisons.proofs.Regions.{leaves_look}

each_at : {A : Type 0} (P : A → Type 0) (xs : List A) (x : A) → AllByRecursion P xs → Contains xs x → P x
each_at P [] x h m = absurd (none_in x m)
each_at P (y ∷ ys) x h m = ⊎_elim (λ e. subst P (sym e) h.0) (λ later. each_at P ys x h.1 later) (contains_cases y ys x m)

pub merged_ask_theirs : MergedAskTheirs
merged_ask_theirs q p bounds counts forks leaves l truth answer same merged =
    let asked = asked_atoms p q.catalog in
    let listed = catalog_asks p q.catalog in
    let whole = region_looks p q.catalog bounds truth in
    let each = leaves_look asked q listed p.region counts forks whole answer in
    had asked (lock_atoms l) (lock_asks asked q.catalog listed leaves (λ k m.
    let f = same k m in
    subst (LooksThere asked) (sym f.2) (each_at (λ (x : TreeLeaf). LooksThere asked x.region) forks f.0 each f.1)) p l whole merged)
