-- Runs of versions, as loops make and read them.
use Rattle.std.specs.Prelude.{Contains, flat_map, slice_get}
use Rattle.std.proofs.Common.{◌≡◌, ◌<◌, ◌≤◌, ◌+◌, ◌⊎◌, ℕ, zero, suc, List, [], ◌∷◌, ◌++◌, length, get_or, map, take, replicate, Bool, Some, refl, sym, ap, subst, ◌∙◌, inl, inr, ⊎_elim, arith}
use Rattle.std.proofs.lemmas.List.{append_assoc, append-nil, length-append, length-replicate, map-append}
use Rattle.std.proofs.lemmas.Grind.{flat_map-append}
use Rattle.std.proofs.lemmas.List.Elements.{Contains-append_left, Contains-append_cases}
use Rattle.std.proofs.lemmas.Option.{none-some, same_Some, slice_get_within}
use Rattle.ul_base.proofs.ForCallers.{none_in}
use Rattle.ul_problem.specs.declared.problem.Need.{Need}
use Rattle.ul_requirement.specs.Fields.{RequirementFields}
use Rattle.ul_index.specs.Applied.{IsFirm}
use Rattle.ul_index.specs.Regions.{Region}
use Rattle.ul_region.specs.declared.rows.Asked.{Asked}
use Rattle.ul_region.specs.declared.rows.Row.{Row}
use Rattle.ul_prepared.specs.Prepared.{AreSharedLists}
use Rattle.ul_prepared.specs.declared.prepared.Planned.{Planned}
use Rattle.ul_placing.specs.Aims.{AreFirmNeeds, AreThoseOf}
use Rattle.ul_placing.specs.Reach.{MarksPlaces, targets_of}
use Rattle.ul_placing.specs.Runs.{IsRunOf, IsStretch, rows_in, rows_of}
use Rattle.ul_placing.specs.declared.aims.Run.{Run}
use Rattle.ul_placing.proofs.Aiming.{AreAimsTo}
use Rattle.ul_placing.proofs.Lists.{joined_front, there}
use Rattle.ul_placing.proofs.Marking.{marked_then}

-- ---- equal elements

-- each of equal elements is that
pub copy_at : {A : Type 0} (n : ℕ) (x y : A) (k : ℕ) → slice_get (replicate n x) k ≡ Some y → y ≡ x
copy_at zero x y k e = absurd (none-some y e)
copy_at (suc n) x y zero e = sym (same_Some x y e)
copy_at (suc n) x y (suc k) e = copy_at n x y k e

-- equal elements and one more, at either end
pub copies_turned : {A : Type 0} (n : ℕ) (x : A) → replicate n x ++ x ∷ [] ≡ x ∷ replicate n x
copies_turned zero x = refl
copies_turned (suc n) x = ap (λ z. x ∷ z) (copies_turned n x)

-- equal elements, mapped
pub copies_mapped : {A B : Type 0} (f : A → B) (n : ℕ) (x : A) → map f (replicate n x) ≡ replicate n (f x)
copies_mapped f zero x = refl
copies_mapped f (suc n) x = ap (λ z. f x ∷ z) (copies_mapped f n x)

-- an element of two lists stands in the first, or behind it
pub joined_at : {A : Type 0} (xs ys : List A) (k : ℕ) (x : A) → slice_get (xs ++ ys) k ≡ Some x → (slice_get xs k ≡ Some x) ⊎ ((j : ℕ) × (k ≡ length xs + j) × (slice_get ys j ≡ Some x))
joined_at [] ys k x e = inr (k, omega arith, e)
joined_at (z ∷ zs) ys zero x e = inl e
joined_at {A} (z ∷ zs) ys (suc k) x e = later (joined_at zs ys k x e)
  where
    later : (slice_get zs k ≡ Some x) ⊎ ((j : ℕ) × (k ≡ length zs + j) × (slice_get ys j ≡ Some x)) → (slice_get (z ∷ zs) (suc k) ≡ Some x) ⊎ ((j : ℕ) × (suc k ≡ length (z ∷ zs) + j) × (slice_get ys j ≡ Some x))
    later (inl h) = inl h
    later (inr h) = inr (h.0, omega (arith, h.1), h.2)

-- ---- runs as a loop makes them

-- the versions of runs and of one more
pub rows_more : (runs now : List Run) (run : Run) → now ≡ runs ++ run ∷ [] → rows_of now ≡ rows_of runs ++ rows_in run
rows_more runs now run e = ap rows_of e ∙ (flat_map-append rows_in runs (run ∷ []) ∙ ap (λ z. rows_of runs ++ z) (append-nil (rows_in run)))

run_at : (run : Run) (j : ℕ) (a : List Need) → slice_get (rows_in run) j ≡ Some a → a ≡ run.needs
run_at run zero a e = sym (same_Some run.needs a e)
run_at run (suc j) a e = copy_at run.others run.needs a j e

run_long : (run : Run) → length (rows_in run) ≡ 1 + run.others
run_long run = let n = length-replicate run.others run.needs in omega (arith, n)

-- the runs of a node so far, up to a version
pub record AreRunsTo (R : Region) (p : Planned) (first : ℕ) (runs : List Run) : Type 0 where
  pub count : length (rows_of runs) ≡ first
  pub within : first ≤ length p.rows.items
  pub each : AreAimsTo R p (rows_of runs)

pub no_runs : (R : Region) (p : Planned) (runs : List Run) → runs ≡ [] → AreRunsTo R p 0 runs
no_runs R p runs e = subst (λ (z : List Run). AreRunsTo R p 0 z) (sym e) (record { count = refl; within = omega arith; each = λ v row aims a d f g. absurd (none-some a g) })

module _ (R : Region) (p : Planned) (first end : ℕ) (run : Run) (shared : AreSharedLists p) (long : length p.aims.items ≡ length p.rows.items) (stretch : IsStretch p.lists.items first end) (of : IsRunOf R p first end run) where
  -- what holds of the first version of a run holds of each
  run_firm : (v : ℕ) (row : Row) (aims : List (List Need)) (a : List Need) (j : ℕ) → slice_get p.rows.items v ≡ Some row → slice_get p.aims.items v ≡ Some aims → v ≡ first + j → slice_get (rows_in run) j ≡ Some a → AreFirmNeeds R p.node row aims a
  run_firm v row aims a j e d at g =
      let within : first < length p.rows.items = let b = stretch.begun in let w = stretch.within in let s = shared.size in omega (arith, b, w, s) in
      let near : j < 1 + run.others = subst (λ (n : ℕ). j < n) (run_long run) (slice_get_within (rows_in run) j a g) in
      let before : v < end = let b = stretch.begun in let c = of.count in omega (arith, at, near, b, c) in
      let list = there p.lists.items first (subst (λ (n : ℕ). first < n) (sym shared.size) within) in
      let own = there p.rows.items first within in
      let needs = there p.aims.items first (subst (λ (n : ℕ). first < n) (sym long) within) in
      let here : slice_get p.lists.items v ≡ Some list.0 = stretch.same v (omega (arith, at)) before ∙ list.1 in
      let same = shared.asked first v list.0 own.0 row list.1 here own.1 e in
      let alike : needs.0 ≡ aims = shared.aims first v list.0 needs.0 aims list.1 here needs.1 d in
      let firm : AreFirmNeeds R p.node own.0 needs.0 run.needs = of.firm own.0 needs.0 own.1 needs.1 in
      subst (λ (z : List Need). AreFirmNeeds R p.node row aims z) (sym (run_at run j a g))
      (subst (λ (z : List (List Need)). AreThoseOf (λ q. IsFirm row.release.now.requirements R p.node q.requirement.now) row.asked z run.needs) alike
      (subst (λ (z : List Asked). AreThoseOf (λ q. IsFirm row.release.now.requirements R p.node q.requirement.now) z needs.0 run.needs) same.1
      (subst (λ (z : List RequirementFields). AreThoseOf (λ q. IsFirm z R p.node q.requirement.now) own.0.asked needs.0 run.needs) same.0 firm)))

  -- one run more
  pub runs_next : (runs now : List Run) → now ≡ runs ++ run ∷ [] → AreRunsTo R p first runs → AreRunsTo R p end now
  runs_next runs now e h =
      let grown : rows_of now ≡ rows_of runs ++ rows_in run = rows_more runs now run e in
      record {
        count = let n = run_long run in let m = length-append (rows_of runs) (rows_in run) in let g = ap length grown in let c = h.count in let o = of.count in let b = stretch.begun in omega (arith, n, m, g, c, o, b);
        within = let w = stretch.within in let s = shared.size in omega (arith, w, s);
        each = λ v row aims a d f g. ⊎_elim (λ k. h.each v row aims a d f k)
            (λ k. run_firm v row aims a k.0 d f (k.1 ∙ ap (λ n. n + k.0) h.count) k.2)
            (joined_at (rows_of runs) (rows_in run) v a (subst (λ (z : List (List Need)). slice_get z v ≡ Some a) grown g));
      }

-- ---- what runs aim at

-- places are marked where others with the same elements were
pub marked_same : (ps qs : List ℕ) (a b : List Bool) (q r : List ℕ) → ((k : ℕ) → Contains ps k → Contains qs k) → ((k : ℕ) → Contains qs k → Contains ps k) → MarksPlaces ps a q b r → MarksPlaces qs a q b r
marked_same ps qs a b q r to from m = record {
  long = m.long;
  keeps = m.keeps;
  front = m.front;
  listed = λ k e. ⊎_elim (λ h. inl h) (λ h. inr (to k h.0, h.1)) (m.listed k e);
  marked = m.marked;
  all = λ k c l. m.all k (from k c) l;
  once = m.once;
}

copies_aim : (needs : List Need) (n k : ℕ) → Contains (flat_map targets_of (replicate n needs)) k → Contains (targets_of needs) k
copies_aim needs zero k c = absurd (none_in k c)
copies_aim needs (suc n) k c = ⊎_elim (λ h. h) (λ h. copies_aim needs n k h) (Contains-append_cases (targets_of needs) (flat_map targets_of (replicate n needs)) k c)

-- all versions of a run aim at what its needs do
run_marked : (run : Run) (a b : List Bool) (q r : List ℕ) → MarksPlaces (targets_of run.needs) a q b r → MarksPlaces (flat_map targets_of (rows_in run)) a q b r
run_marked run a b q r m = marked_same (targets_of run.needs) (flat_map targets_of (rows_in run)) a b q r
    (λ k c. Contains-append_left (targets_of run.needs) (flat_map targets_of (replicate run.others run.needs)) k c)
    (λ k c. copies_aim run.needs (suc run.others) k c) m

-- what the versions of one run more aim at is marked
pub run_marked_then : (runs : List Run) (i : ℕ) (run : Run) (a b c : List Bool) (q r s : List ℕ) → i < length runs → run ≡ get_or runs i run → MarksPlaces (flat_map targets_of (rows_of (take i runs))) a q b r → MarksPlaces (targets_of run.needs) b r c s
    → MarksPlaces (flat_map targets_of (rows_of (take (i + 1) runs))) a q c s
run_marked_then runs i run a b c q r s l at one two =
    marked_then (flat_map targets_of (rows_of (take i runs))) (flat_map targets_of (rows_in run)) (flat_map targets_of (rows_of (take (i + 1) runs))) a b c q r s
    (ap (flat_map targets_of) (joined_front rows_in runs i run l at) ∙ flat_map-append targets_of (rows_of (take i runs)) (rows_in run)) one (run_marked run b c r s two)

-- ---- rows of runs

-- the rows of the next run, mapped, were put behind others
pub rows_left : (f : List Need → List Need) (run : Run) (left rest : List Run) (done now all : List (List Need)) → now ≡ done ++ map f (rows_in run) → left ≡ run ∷ rest → done ++ map f (rows_of left) ≡ all → now ++ map f (rows_of rest) ≡ all
rows_left f run left rest done now all e s h =
    ap (λ (z : List (List Need)). z ++ map f (rows_of rest)) e ∙ (append_assoc done (map f (rows_in run)) (map f (rows_of rest))
    ∙ (ap (λ (z : List (List Need)). done ++ z) (sym (map-append f (rows_in run) (rows_of rest))) ∙ (ap (λ (z : List Run). done ++ map f (rows_of z)) (sym s) ∙ h)))

-- no run is left
pub rows_done : (f : List Need → List Need) (left : List Run) (done all : List (List Need)) → left ≡ [] → done ++ map f (rows_of left) ≡ all → done ≡ all
rows_done f left done all e h = sym (append-nil done) ∙ (ap (λ (z : List Run). done ++ map f (rows_of z)) (sym e) ∙ h)

-- the row of a run and its copies, mapped
pub run_mapped : (f : List Need → List Need) (run : Run) → f run.needs ∷ replicate run.others (f run.needs) ≡ map f (rows_in run)
run_mapped f run = ap (λ z. f run.needs ∷ z) (sym (copies_mapped f run.others run.needs))

-- copies behind others, and then what was copied
pub copies_put : {A : Type 0} (before done now : List A) (n : ℕ) (x : A) → done ≡ before ++ replicate n x → now ≡ done ++ x ∷ [] → now ≡ before ++ x ∷ replicate n x
copies_put before done now n x h e = e ∙ (ap (λ z. z ++ x ∷ []) h ∙ (append_assoc before (replicate n x) (x ∷ []) ∙ ap (λ z. before ++ z) (copies_turned n x)))

-- what is found of the first version of a run, whichever way its row is read
pub first_firm : (R : Region) (p : Planned) (first : ℕ) (row : Row) (aims : List (List Need)) (needs : List Need) → slice_get p.rows.items first ≡ Some row → slice_get p.aims.items first ≡ Some aims → AreFirmNeeds R p.node row aims needs
    → (other : Row) (others : List (List Need)) → slice_get p.rows.items first ≡ Some other → slice_get p.aims.items first ≡ Some others → AreFirmNeeds R p.node other others needs
first_firm R p first row aims needs e d firm other others f g =
    subst (λ (z : List (List Need)). AreFirmNeeds R p.node other z needs) (same_Some aims others (sym d ∙ g))
    (subst (λ (z : Row). AreFirmNeeds R p.node z aims needs) (same_Some row other (sym e ∙ f)) firm)
