use Rattle.std.proofs.Common.{◌∙◌, [], ◌∷◌, ◌++◌, refl, rules, arith, Err}
use Rattle.std.proofs.lemmas.Result.{err_from_is_err_and}
use Rattle.ul_load.specs.Conditions.{beginning}
use Rattle.ul_load.specs.Loading.{document_path, next_name}
use Rattle.ul_load.specs.Views.{progress_view}
use Rattle.ul_index.specs.Catalogs.{Packages}
use Rattle.ul_load.proofs.FaultCauses.{cause_from, same_count}
use Rattle.ul_load.proofs.Growth.{has_first}
use Rattle.ul_load.proofs.Loads.{begin_refuses, follow_refuses, loaded_whole}
use Rattle.ul_load.proofs.ReadOnce.{each_of_none, each_then, first_of_none, read_next, read_so_far}
use Rattle.ul_load.proofs.Turns.{loads_first, loads_on}
use Rattle.ul_load.proofs.loading.load_all.Goals as goal

pub returns-in_err-progress-clause-told : goal.returns-in_err-progress-clause-told
returns-in_err-progress-clause-told g c m a =
    let b = beginning c.args.project.now in
    let p = err_from_is_err_and c.from_residual.result c.from_residual.ensures.1 in
    rw (p.1, p.2) (begin_refuses m c.args.folder.now b c.in_err-progress.field-0.0 c.in_err-progress.ensures.told c.in_err-progress.ensures.bytes)

pub loop-turn-init : goal.loop-turn-init
loop-turn-init g c = record {
  files = refl;
  grown = λ m a. a;
  faults = refl;
  kept = c.in_ok-progress.ensures.kept;
  turns = omega (arith, has_first _ _ c.in_ok-progress.ensures.first);
  first = c.in_ok-progress.ensures.first;
  value = (
    [],
    each_of_none _,
    λ m a. loads_first m c.args.folder.now (beginning c.args.project.now) (progress_view c.in_ok-progress.progress) c.in_ok-progress.ensures.told,
  );
}

pub returns-then-not-has_next-clause-told : goal.returns-then-not-has_next-clause-told
returns-then-not-has_next-clause-told g c m a =
    let b = beginning c.args.project.now in
    let so_far = c.loop-turn.invariant.value in
    rw c.in_ok-catalog.ensures
    (loaded_whole m c.args.folder.now b so_far.0 (progress_view c.loop-turn.progress) c.has_next.result c.has_next.ensures (search rules) (so_far.2 m a))

pub returns-in_err-follow-clause-told : goal.returns-in_err-follow-clause-told
returns-in_err-follow-clause-told g c m a =
    let b = beginning c.args.project.now in
    let p = err_from_is_err_and c.from_residual-in_err-follow.result c.from_residual-in_err-follow.ensures.1 in
    let so_far = c.loop-turn.invariant.value in
    rw (p.1, p.2) (follow_refuses m c.args.folder.now b so_far.0 (progress_view c.loop-turn.progress) c.in_err-follow.field-0.0 c.loop-turn.invariant.kept (search rules)
    (c.in_err-follow.ensures.told m a) c.in_err-follow.ensures.failed (so_far.2 m (c.in_err-follow.ensures.grown m a)))

pub loop-turn-preserved : goal.loop-turn-preserved
loop-turn-preserved g c = record {
  files = c.in_ok-follow.ensures.same ∙ c.loop-turn.invariant.files;
  grown = λ m a. c.loop-turn.invariant.grown m (c.in_ok-follow.ensures.grown m a);
  faults = c.in_ok-follow.ensures.cause ∙ c.loop-turn.invariant.faults;
  kept = c.in_ok-follow.ensures.kept;
  turns = omega (arith, c.in_ok-follow.ensures.one, c.loop-turn.invariant.turns);
  first = c.in_ok-follow.ensures.first _ c.loop-turn.invariant.first;
  value = let so_far = c.loop-turn.invariant.value in (
    so_far.0 ++ document_path c.args.folder.now (next_name (progress_view c.loop-turn.progress)) ∷ [],
    each_then _ _ _ so_far.0 _ so_far.1 c.in_ok-follow.ensures.each,
    λ m a.
        loads_on m c.args.folder.now (beginning c.args.project.now) so_far.0 (progress_view c.loop-turn.progress) _ (search rules)
        (c.in_ok-follow.ensures.told m a) (so_far.2 m (c.in_ok-follow.ensures.grown m a)),
  );
}

pub returns-then-not-has_next-clause-first : goal.returns-then-not-has_next-clause-first
returns-then-not-has_next-clause-first g c =
    rw c.in_ok-catalog.ensures c.loop-turn.invariant.first

pub returns-in_err-progress-clause-cause : goal.returns-in_err-progress-clause-cause
returns-in_err-progress-clause-cause g c =
    let p = err_from_is_err_and c.from_residual.result c.from_residual.ensures.1 in
    rw (p.1, p.2) (same_count {T = Packages} _ _ _ (Err c.in_err-progress.field-0.0) refl c.in_err-progress.ensures.bytes)

pub returns-in_err-catalog-clause-told : goal.returns-in_err-catalog-clause-told
returns-in_err-catalog-clause-told g c m a =
    let p = err_from_is_err_and c.from_residual-in_err-catalog.result c.from_residual-in_err-catalog.ensures.1 in
    rw (p.1, p.2) (tt, tt)

pub returns-in_err-catalog-clause-cause : goal.returns-in_err-catalog-clause-cause
returns-in_err-catalog-clause-cause g c =
    let p = err_from_is_err_and c.from_residual-in_err-catalog.result c.from_residual-in_err-catalog.ensures.1 in
    rw (p.1, p.2) (omega (arith, c.loop-turn.invariant.faults))

pub returns-then-not-has_next-clause-same : goal.returns-then-not-has_next-clause-same
returns-then-not-has_next-clause-same g c = c.loop-turn.invariant.files

pub returns-then-not-has_next-clause-cause : goal.returns-then-not-has_next-clause-cause
returns-then-not-has_next-clause-cause g c = c.loop-turn.invariant.faults

pub returns-in_err-follow-clause-same : goal.returns-in_err-follow-clause-same
returns-in_err-follow-clause-same g c = c.in_err-follow.ensures.same ∙ c.loop-turn.invariant.files

pub returns-in_err-follow-clause-cause : goal.returns-in_err-follow-clause-cause
returns-in_err-follow-clause-cause g c =
    let p = err_from_is_err_and c.from_residual-in_err-follow.result c.from_residual-in_err-follow.ensures.1 in
    rw (p.1, p.2) (cause_from (Unit {0}) Packages _ _ _ _ c.in_err-follow.field-0.0 c.loop-turn.invariant.faults c.in_err-follow.ensures.cause)

pub follow-requires-clause-kept : goal.follow-requires-clause-kept
follow-requires-clause-kept g c = c.loop-turn.invariant.kept

pub returns-in_err-follow-clause-grown : goal.returns-in_err-follow-clause-grown
returns-in_err-follow-clause-grown g c m a = c.loop-turn.invariant.grown m (c.in_err-follow.ensures.grown m a)

pub returns-in_err-progress-clause-once : goal.returns-in_err-progress-clause-once
returns-in_err-progress-clause-once g c m a t loads = first_of_none _ t.0

pub returns-then-not-has_next-clause-once : goal.returns-then-not-has_next-clause-once
returns-then-not-has_next-clause-once g c m a t loads =
    let so_far = c.loop-turn.invariant.value in
    read_so_far m c.args.folder.now (beginning c.args.project.now) _ _ so_far.0 (progress_view c.loop-turn.progress) c.loop-turn.invariant.kept.names so_far.1 (so_far.2 m a) t loads

pub returns-in_err-catalog-clause-once : goal.returns-in_err-catalog-clause-once
returns-in_err-catalog-clause-once g c m a t loads =
    let so_far = c.loop-turn.invariant.value in
    read_so_far m c.args.folder.now (beginning c.args.project.now) _ _ so_far.0 (progress_view c.loop-turn.progress) c.loop-turn.invariant.kept.names so_far.1 (so_far.2 m a) t loads

pub returns-in_err-follow-clause-once : goal.returns-in_err-follow-clause-once
returns-in_err-follow-clause-once g c m a t loads =
    let so_far = c.loop-turn.invariant.value in
    read_next m c.args.folder.now (beginning c.args.project.now) _ _ _ so_far.0 (progress_view c.loop-turn.progress) c.loop-turn.invariant.kept.names (search rules)
    so_far.1 c.in_err-follow.ensures.reads (so_far.2 m (c.in_err-follow.ensures.grown m a)) t loads
