-- The order of versions is total, and its ties differ in nothing but zeros at the end of the release.
use Rattle.std.proofs.Common.{◌≡◌, ℕ, ◌+◌, ◌-◌, ◌≤◌, List, [], ◌∷◌, ◌++◌, length, replicate, max, refl, sym, ap, ◌∙◌, arith, inl, inr, Option, Some, None}
use Rattle.std.proofs.lemmas.List.{append_assoc, append-nil, length-append, length-replicate, replicate-append-replicate}
use Rattle.std.proofs.lemmas.Bool.{cases_lt}
use Rattle.std.specs.Ordering.{nat_cmp, ordering_then, ordering_reverse}
use Rattle.std.specs.Cmp.{IsTotalOrder}
use Rattle.std.proofs.lemmas.Cmp.{nat_cmp_total, on_total, then_total, lists_total, nat_list_cmp_total, tied_itself}
use Rattle.std.specs.FinMap.{IsAntisymmetric, nat_cmp-IsAntisymmetric, slice_cmp-IsAntisymmetric}
use Rattle.std.specs.declared.cmp.Ordering.{Ordering}
use Rattle.std.specs.declared.cmp.Ordering.TheVariants.{Less, Equal, Greater}
use Rattle.ul_version.specs.Fields.{Fields}
use Rattle.ul_version.specs.Order.{Place, place_cmp, kind_rank, pre_place, pre_place_of, post_place, dev_place, segment_key, segment_cmp, local_cmp, numbers_cmp, padded_release, release_cmp, suffix_cmp, version_cmp, AreZerosApart, DifferInZeros}
use Rattle.ul_version.specs.declared.fields.Pre.{Pre}
use Rattle.ul_version.specs.declared.fields.PreKind.{PreKind}
use Rattle.ul_version.specs.declared.fields.PreKind.TheVariants.{A, B, Rc}
use Rattle.ul_version.specs.declared.fields.Segment.{Segment}
use Rattle.ul_version.specs.declared.fields.Segment.TheVariants.{Number, Word}

-- ---- releases

slice_cmp-append : (xs ys zs : List ℕ) → length xs ≡ length ys → numbers_cmp (xs ++ zs) (ys ++ zs) ≡ numbers_cmp xs ys
slice_cmp-append [] [] zs e = tied_itself nat_list_cmp_total zs
slice_cmp-append [] (y ∷ ys) zs e = absurd (omega arith)
slice_cmp-append (x ∷ xs) [] zs e = absurd (omega arith)
slice_cmp-append (x ∷ xs) (y ∷ ys) zs e =
    let same : length xs ≡ length ys = omega arith in
    ap (λ (r : Ordering). ordering_then (nat_cmp x y) r) (slice_cmp-append xs ys zs same)

-- more zeros after a padded release
padded-more : (m n : ℕ) (xs : List ℕ) → length xs ≤ m → m ≤ n → padded_release n xs ≡ padded_release m xs ++ replicate (n - m) 0
unfolding padded_release
padded-more m n xs h k =
    let sum : n - length xs ≡ (m - length xs) + (n - m) = omega arith in
    rw (sum, ← replicate-append-replicate {A = ℕ} (m - length xs) (n - m) 0) (sym (append_assoc xs (replicate (m - length xs) 0) (replicate (n - m) 0)))

padded-length : (m : ℕ) (xs : List ℕ) → length xs ≤ m → length (padded_release m xs) ≡ m
unfolding padded_release
padded-length m xs h = length-append xs (replicate (m - length xs) 0) ∙ rw (length-replicate {A = ℕ}) (omega arith)

-- padding two releases to any length that both fit in compares them alike
release_cmp-padded : (n : ℕ) (xs ys : List ℕ) → length xs ≤ n → length ys ≤ n → release_cmp xs ys ≡ numbers_cmp (padded_release n xs) (padded_release n ys)
unfolding release_cmp
release_cmp-padded n xs ys h k =
    let m = max (length xs) (length ys) in
    rw (padded-more m n xs (omega arith) (omega arith), padded-more m n ys (omega arith) (omega arith))
    (sym (slice_cmp-append (padded_release m xs) (padded_release m ys) (replicate (n - m) 0) (padded-length m xs (omega arith) ∙ sym (padded-length m ys (omega arith)))))

pub release_total : IsTotalOrder release_cmp
release_total = record {
  antisymm = λ x y.
      let n = max (length x) (length y) in
      release_cmp-padded n x y (omega arith) (omega arith)
      ∙ nat_list_cmp_total.antisymm (padded_release n x) (padded_release n y)
      ∙ ap ordering_reverse (sym (release_cmp-padded n y x (omega arith) (omega arith)));
  trans = λ x y z p q.
      let n = max (length x) (max (length y) (length z)) in
      release_cmp-padded n x z (omega arith) (omega arith)
      ∙ nat_list_cmp_total.trans (padded_release n x) (padded_release n y) (padded_release n z)
      (sym (release_cmp-padded n x y (omega arith) (omega arith)) ∙ p) (sym (release_cmp-padded n y z (omega arith) (omega arith)) ∙ q);
  congr = λ x y z p.
      let n = max (length x) (max (length y) (length z)) in
      release_cmp-padded n x z (omega arith) (omega arith)
      ∙ nat_list_cmp_total.congr (padded_release n x) (padded_release n y) (padded_release n z) (sym (release_cmp-padded n x y (omega arith) (omega arith)) ∙ p)
      ∙ sym (release_cmp-padded n y z (omega arith) (omega arith));
}

-- ---- the whole order

place_total : IsTotalOrder place_cmp
place_total = then_total (on_total (λ (p : Place). p.0) nat_cmp_total) (on_total (λ (p : Place). p.1) nat_cmp_total)

segment_total : IsTotalOrder segment_cmp
segment_total = on_total segment_key nat_list_cmp_total

suffix_total : IsTotalOrder suffix_cmp
suffix_total = then_total (on_total pre_place place_total) (then_total (on_total (λ (f : Fields). post_place f.post) place_total)
    (then_total (on_total (λ (f : Fields). dev_place f.dev) place_total) (on_total (λ (f : Fields). f.local) (lists_total segment_total))))

pub version_total : IsTotalOrder version_cmp
unfolding version_cmp
version_total = then_total (on_total (λ (f : Fields). f.epoch) nat_cmp_total) (then_total (on_total (λ (f : Fields). f.release) release_total) suffix_total)

-- ---- ties

then_first : (r s : Ordering) → ordering_then r s ≡ Equal → r ≡ Equal
then_first Less s e = cc e
then_first Equal s e = refl
then_first Greater s e = cc e

then_second : (r s : Ordering) → ordering_then r s ≡ Equal → s ≡ Equal
then_second Less s e = cc e
then_second Equal s e = e
then_second Greater s e = cc e

both_tied : (r s : Ordering) → r ≡ Equal → s ≡ Equal → ordering_then r s ≡ Equal
both_tied r s e h = rw (e, h) refl

padded-whole : (n : ℕ) (xs : List ℕ) → length xs ≡ n → padded_release n xs ≡ xs
unfolding padded_release
padded-whole n xs e = let none : n - length xs ≡ 0 = omega arith in rw none (append-nil xs)

zeros_apart : (xs ys : List ℕ) → release_cmp xs ys ≡ Equal → AreZerosApart xs ys
unfolding padded_release
zeros_apart xs ys e = elim (cases_lt (length xs) (length ys)) [
  | inl shorter ↦
      let n = length ys in
      let same : padded_release n xs ≡ padded_release n ys =
      slice_cmp-IsAntisymmetric nat_cmp-IsAntisymmetric _ _ (sym (release_cmp-padded n xs ys (omega arith) (omega arith)) ∙ e) in
      inl (n - length xs, sym (padded-whole n ys refl) ∙ sym same)
  | inr longer ↦
      let n = length xs in
      let same : padded_release n xs ≡ padded_release n ys =
      slice_cmp-IsAntisymmetric nat_cmp-IsAntisymmetric _ _ (sym (release_cmp-padded n xs ys (omega arith) (omega arith)) ∙ e) in
      inr (n - length ys, sym (padded-whole n xs refl) ∙ same)
]

padded-zeros : (xs : List ℕ) (n m : ℕ) → m ≡ length xs + n → padded_release m xs ≡ xs ++ replicate n 0
unfolding padded_release
padded-zeros xs n m e = let k : m - length xs ≡ n = omega arith in rw k refl

tied_zeros : (xs ys : List ℕ) (n : ℕ) → ys ≡ xs ++ replicate n 0 → release_cmp xs ys ≡ Equal
tied_zeros xs ys n e =
    let size : length ys ≡ length xs + n = ap (λ (l : List ℕ). length l) e ∙ length-append xs (replicate n 0) ∙ rw (length-replicate {A = ℕ}) refl in
    release_cmp-padded (length ys) xs ys (omega arith) (omega arith)
    ∙ rw (padded-zeros xs n (length ys) size ∙ sym e, padded-whole (length ys) ys refl) (tied_itself nat_list_cmp_total ys)

reverse_tied : (r s : Ordering) → r ≡ ordering_reverse s → s ≡ Equal → r ≡ Equal
reverse_tied r s e h = e ∙ rw h refl

zeros_tied : (xs ys : List ℕ) → AreZerosApart xs ys → release_cmp xs ys ≡ Equal
zeros_tied xs ys (inl (n, e)) = tied_zeros xs ys n e
zeros_tied xs ys (inr (n, e)) = reverse_tied (release_cmp xs ys) (release_cmp ys xs) (release_total.antisymm xs ys) (tied_zeros ys xs n e)

place-anti : IsAntisymmetric place_cmp
place-anti p q e =
    let a : p.0 ≡ q.0 = nat_cmp-IsAntisymmetric _ _ (then_first _ _ e) in
    let b : p.1 ≡ q.1 = nat_cmp-IsAntisymmetric _ _ (then_second _ _ e) in
    λ i. (a i, b i)

segment-anti : IsAntisymmetric segment_cmp
segment-anti s t e = go s t (slice_cmp-IsAntisymmetric nat_cmp-IsAntisymmetric (segment_key s) (segment_key t) e)
  where
    go : (x y : Segment) → segment_key x ≡ segment_key y → x ≡ y
    go (Word a) (Word b) h = let same : a ≡ b = cc h in ap Word same
    go (Word a) (Number n) h = let bad : ◌≡◌ {A = ℕ} 0 1 = cc h in absurd (omega arith)
    go (Number m) (Word b) h = let bad : ◌≡◌ {A = ℕ} 1 0 = cc h in absurd (omega arith)
    go (Number m) (Number n) h = let same : m ≡ n = cc h in ap Number same

post-anti : (p q : Option ℕ) → post_place p ≡ post_place q → p ≡ q
post-anti None None h = refl
post-anti None (Some n) h = let bad : ◌≡◌ {A = ℕ} 0 1 = ap (λ (x : Place). x.0) h in absurd (omega arith)
post-anti (Some m) None h = let bad : ◌≡◌ {A = ℕ} 1 0 = ap (λ (x : Place). x.0) h in absurd (omega arith)
post-anti (Some m) (Some n) h = ap (λ (x : Place). Some x.1) h

dev-anti : (p q : Option ℕ) → dev_place p ≡ dev_place q → p ≡ q
dev-anti None None h = refl
dev-anti None (Some n) h = let bad : ◌≡◌ {A = ℕ} 1 0 = ap (λ (x : Place). x.0) h in absurd (omega arith)
dev-anti (Some m) None h = let bad : ◌≡◌ {A = ℕ} 0 1 = ap (λ (x : Place). x.0) h in absurd (omega arith)
dev-anti (Some m) (Some n) h = ap (λ (x : Place). Some x.1) h

kind-anti : (a b : PreKind) → kind_rank a ≡ kind_rank b → a ≡ b
kind-anti A A h = refl
kind-anti A B h = absurd (omega arith)
kind-anti A Rc h = absurd (omega arith)
kind-anti B A h = absurd (omega arith)
kind-anti B B h = refl
kind-anti B Rc h = absurd (omega arith)
kind-anti Rc A h = absurd (omega arith)
kind-anti Rc B h = absurd (omega arith)
kind-anti Rc Rc h = refl

kind_rank-some : (k : PreKind) → (1 ≤ kind_rank k) × (kind_rank k ≤ 3)
kind_rank-some A = (omega arith, omega arith)
kind_rank-some B = (omega arith, omega arith)
kind_rank-some Rc = (omega arith, omega arith)

pre_apart : (p : Pre) (q v : Option ℕ) → pre_place_of (Some p) q v ≡ pre_place_of None q v → ⊥
pre_apart p None None h = let r : kind_rank p.kind ≡ 4 = ap (λ (x : Place). x.0) h in let k = kind_rank-some p.kind in omega arith
pre_apart p None (Some n) h = let r : kind_rank p.kind ≡ 0 = ap (λ (x : Place). x.0) h in let k = kind_rank-some p.kind in omega arith
pre_apart p (Some m) v h = let r : kind_rank p.kind ≡ 4 = ap (λ (x : Place). x.0) h in let k = kind_rank-some p.kind in omega arith

pre-anti : (a b : Option Pre) (q v : Option ℕ) → pre_place_of a q v ≡ pre_place_of b q v → a ≡ b
pre-anti None None q v h = refl
pre-anti None (Some p) q v h = absurd (pre_apart p q v (sym h))
pre-anti (Some p) None q v h = absurd (pre_apart p q v h)
pre-anti (Some p) (Some o) q v h =
    let kinds : p.kind ≡ o.kind = kind-anti p.kind o.kind (ap (λ (x : Place). x.0) h) in
    let numbers : p.number ≡ o.number = ap (λ (x : Place). x.1) h in
    λ i. Some (record { kind = kinds i; number = numbers i })

pub version_ties : (f g : Fields) → version_cmp f g ≡ Equal → DifferInZeros f g
unfolding version_cmp
version_ties f g e =
    let e1 = then_second _ _ e in
    let e2 = then_second _ _ e1 in
    let e3 = then_second _ _ e2 in
    let e4 = then_second _ _ e3 in
    let e5 = then_second _ _ e4 in
    let posts : f.post ≡ g.post = post-anti f.post g.post (place-anti _ _ (then_first _ _ e3)) in
    let devs : f.dev ≡ g.dev = dev-anti f.dev g.dev (place-anti _ _ (then_first _ _ e4)) in
    let pres : pre_place f ≡ pre_place g = place-anti _ _ (then_first _ _ e2) in
    record {
      epoch = nat_cmp-IsAntisymmetric _ _ (then_first _ _ e);
      release = zeros_apart f.release g.release (then_first _ _ e1);
      pre = pre-anti f.pre g.pre g.post g.dev (rw (posts, devs) at pres);
      post = posts;
      dev = devs;
      local = slice_cmp-IsAntisymmetric segment-anti f.local g.local e5;
    }

pub zeros_tie : (f g : Fields) → DifferInZeros f g → version_cmp f g ≡ Equal
unfolding version_cmp
zeros_tie f g h =
    let epochs : nat_cmp f.epoch g.epoch ≡ Equal = rw h.epoch (tied_itself nat_cmp_total g.epoch) in
    let pres : place_cmp (pre_place f) (pre_place g) ≡ Equal = rw (h.pre, h.post, h.dev) (tied_itself place_total (pre_place g)) in
    let posts : place_cmp (post_place f.post) (post_place g.post) ≡ Equal = rw h.post (tied_itself place_total (post_place g.post)) in
    let devs : place_cmp (dev_place f.dev) (dev_place g.dev) ≡ Equal = rw h.dev (tied_itself place_total (dev_place g.dev)) in
    let locals : local_cmp f.local g.local ≡ Equal = rw h.local (tied_itself (lists_total segment_total) g.local) in
    both_tied _ _ epochs (both_tied _ _ (zeros_tied f.release g.release h.release) (both_tied _ _ pres (both_tied _ _ posts (both_tied _ _ devs locals))))
