-- The index of a body: how it is built, how it grows, and how a walk along it misses no mark.
use Rattle.std.proofs.Common.{◌≡◌, ◌≢◌, ℕ, zero, suc, ◌+◌, ◌<◌, ◌≤◌, List, [], ◌∷◌, ◌++◌, length, set, replicate, get_or, slice_index, Some, sym, refl, ap, ◌∙◌, subst, arith, get_or-set_same, get_or-set_other, length-set}
use Rattle.std.proofs.lemmas.List.{length-map, length-append}
use Rattle.std.specs.List.{slice_get}
use mathlib.Core.Logic.{dite}
use native.Mathlib.Decide.{ℕ_discrete, dec_lt}
use Rattle.ul_interner.specs.Marked.{Marked, stored_hash}
use Rattle.ul_interner.specs.Index.{bucket_of, buckets, IsNewest, IsIndex, IsIndexed}

at_left : (xs ys : List ℕ) (p : ℕ) → p < length xs → slice_index (xs ++ ys) p ≡ slice_index xs p
at_left [] ys p l = absurd (omega arith)
at_left (x ∷ xs) ys zero l = refl
at_left (x ∷ xs) ys (suc p) l = at_left xs ys p (omega arith)

at_end : (xs : List ℕ) (x p : ℕ) → p ≡ length xs → slice_index (xs ++ x ∷ []) p ≡ x
at_end [] x zero e = refl
at_end [] x (suc p) e = absurd (omega arith)
at_end (y ∷ xs) x zero e = absurd (omega arith)
at_end (y ∷ xs) x (suc p) e = at_end xs x p (omega arith)

pub get_or_any : {X : Type 0} (xs : List X) (i : ℕ) (x y : X) → i < length xs → get_or xs i x ≡ get_or xs i y
get_or_any [] i x y l = absurd (omega arith)
get_or_any (z ∷ zs) zero x y l = refl
get_or_any (z ∷ zs) (suc i) x y l = get_or_any zs i x y (omega arith)

-- one mark more, which is in the bucket
newest_this : (of : List ℕ) (b k : ℕ) → slice_index of k ≡ b → IsNewest of b (suc k) (suc k)
newest_this of b k is = record {
  within = omega arith;
  here = λ p e. ap (slice_index of) (let q : p ≡ k = omega arith in q) ∙ is;
  none = λ p l u. absurd (omega arith);
}

-- one mark more, which is not
newest_other : (of : List ℕ) (b k c : ℕ) → slice_index of k ≢ b → IsNewest of b k c → IsNewest of b (suc k) c
newest_other of b k c not n = record {
  within = omega (arith, n.within);
  here = n.here;
  none = λ p l u. dite (ℕ_discrete p k) (λ e is. not (ap (slice_index of) (sym e) ∙ is)) (λ no. n.none p l (omega arith));
}

-- marks that come later change nothing
newest_longer : (of more : List ℕ) (b k c : ℕ) → k ≤ length of → IsNewest of b k c → IsNewest (of ++ more) b k c
newest_longer of more b k c le n = record {
  within = n.within;
  here = λ p e. at_left of more p (omega (arith, n.within)) ∙ n.here p e;
  none = λ p l u is. n.none p l u (sym (at_left of more p (omega arith)) ∙ is);
}

-- the first k marks are in their buckets
pub record Built (of : List ℕ) (count k : ℕ) (older newest : List ℕ) : Type 0 where
  pub counted : length newest ≡ count
  pub long : length older ≡ length of
  pub newest_of : (b : ℕ) → b < count → IsNewest of b k (slice_index newest b)
  pub older_of : (p : ℕ) → p < k → IsNewest of (slice_index of p) p (slice_index older p)

zero_at : (n k : ℕ) → slice_index (replicate n 0) k ≡ 0
zero_at zero k = refl
zero_at (suc n) zero = refl
zero_at (suc n) (suc k) = zero_at n k

built_more : (of : List ℕ) (count k b x : ℕ) (older newest older' newest' : List ℕ) → Built of count k older newest → k < length of → slice_index of k ≡ b → b < count → x ≡ slice_index newest b
    → older' ≡ set older k x → newest' ≡ set newest b (suc k) → Built of count (suc k) older' newest'
built_more of count k b x older newest older' newest' built l is low old eo en = record {
  counted = ap length en ∙ (length-set newest b (suc k) ∙ built.counted);
  long = ap length eo ∙ (length-set older k x ∙ built.long);
  newest_of = λ c lc. dite (ℕ_discrete c b)
      (λ e. subst (IsNewest of c (suc k)) (sym (ap (λ z. slice_index z c) en ∙ (ap (slice_index (set newest b (suc k))) e ∙ get_or-set_same newest b (suc k) 0 (omega (arith, built.counted)))))
      (newest_this of c k (is ∙ sym e)))
      (λ no. subst (IsNewest of c (suc k)) (sym (ap (λ z. slice_index z c) en ∙ get_or-set_other newest b c (suc k) 0 no))
      (newest_other of c k (slice_index newest c) (λ e. no (sym e ∙ is)) (built.newest_of c lc)));
  older_of = λ p lp. dite (ℕ_discrete p k)
      (λ e. subst (λ z. IsNewest of (slice_index of z) z (slice_index older' z)) (sym e)
      (subst (IsNewest of (slice_index of k) k) (sym (ap (λ z. slice_index z k) eo ∙ (get_or-set_same older k x 0 (omega (arith, built.long)) ∙ old)))
      (subst (λ z. IsNewest of z k (slice_index newest b)) (sym is) (built.newest_of b low))))
      (λ no. subst (IsNewest of (slice_index of p) p) (sym (ap (λ z. slice_index z p) eo ∙ get_or-set_other older k p x 0 no)) (built.older_of p (omega arith)));
}

pub built_next : (of : List ℕ) (count k k' b x : ℕ) (older newest older' newest' : List ℕ) → k' ≡ suc k → Built of count k older newest → k < length of → slice_index of k ≡ b → b < count → x ≡ slice_index newest b
    → older' ≡ set older k x → newest' ≡ set newest b k' → Built of count k' older' newest'
built_next of count k k' b x older newest older' newest' e built l is low old eo en =
    subst (λ z. Built of count z older' newest') (sym e) (built_more of count k b x older newest older' newest' built l is low old eo (en ∙ ap (set newest b) e))

map_at : {L : Type 0} (count : ℕ) (marks : List (Marked L)) (k : ℕ) (m : Marked L) → k < length marks → m ≡ get_or marks k m → slice_index (buckets count marks) k ≡ bucket_of count (stored_hash m)
map_at count [] k m l is = absurd (omega arith)
map_at count (x ∷ xs) zero m l is = ap (λ z. bucket_of count (stored_hash z)) (sym is)
map_at count (x ∷ xs) (suc k) m l is = map_at count xs k m (omega arith) is

pub bucket_at : {L : Type 0} (count : ℕ) (marks : List (Marked L)) (k : ℕ) (m : Marked L) (h b : ℕ) → k < length marks → m ≡ get_or marks k m → h ≡ stored_hash m → b ≡ bucket_of count h
    → slice_index (buckets count marks) k ≡ b
bucket_at count marks k m h b l is eh eb = map_at count marks k m l is ∙ (ap (bucket_of count) (sym eh) ∙ sym eb)

pub length_buckets : {L : Type 0} (count : ℕ) (marks : List (Marked L)) → length (buckets count marks) ≡ length marks
length_buckets count marks = length-map marks (λ m. bucket_of count (stored_hash m))

buckets_append : {L : Type 0} (count : ℕ) (marks more : List (Marked L)) → buckets count (marks ++ more) ≡ buckets count marks ++ buckets count more
buckets_append count [] more = refl
buckets_append count (m ∷ ms) more = ap (λ z. bucket_of count (stored_hash m) ∷ z) (buckets_append count ms more)

-- one mark more
pub indexed_more : {L : Type 0} (marks marks' : List (Marked L)) (older older' newest newest' : List ℕ) (m : Marked L) (h b x c : ℕ) → IsIndexed marks older newest → h ≡ stored_hash m → b ≡ bucket_of (length newest) h → b < length newest
    → x ≡ slice_index newest b → marks' ≡ marks ++ m ∷ [] → older' ≡ older ++ x ∷ [] → c ≡ length marks + 1 → newest' ≡ set newest b c → IsIndexed marks' older' newest'
indexed_more {L} marks marks' older older' newest newest' m h b x c r eh eb low old em eo ec en =
    let count : ℕ = length newest in
    let of : List ℕ = buckets count marks in
    let k : ℕ = length marks in
    let long_of : length of ≡ k = length_buckets count marks in
    let is_b : bucket_of count (stored_hash m) ≡ b = ap (bucket_of count) (sym eh) ∙ sym eb in
    let more : buckets count marks' ≡ of ++ b ∷ [] = ap (buckets count) em ∙ (buckets_append count marks (m ∷ []) ∙ ap (λ z. of ++ z ∷ []) is_b) in
    let now : List ℕ = of ++ b ∷ [] in
    let same : length newest' ≡ count = ap length en ∙ length-set newest b c in
    let last : slice_index now k ≡ b = at_end of b k (sym long_of) in
    let whole : length now ≡ suc k = omega (arith, length-append of (b ∷ []), long_of) in
    let e_c : c ≡ suc k = omega arith in
    let index : IsIndex now count older' newest' = record {
      newest_of = λ d ld. subst (λ z. IsNewest now d z (slice_index newest' d)) (sym whole) (dite (ℕ_discrete d b)
          (λ e. subst (IsNewest now d (suc k)) (sym (ap (λ z. slice_index z d) en ∙ (ap (slice_index (set newest b c)) e ∙ (get_or-set_same newest b c 0 low ∙ e_c)))) (newest_this now d k (last ∙ sym e)))
          (λ no. subst (IsNewest now d (suc k)) (sym (ap (λ z. slice_index z d) en ∙ get_or-set_other newest b d c 0 no))
          (newest_other now d k (slice_index newest d) (λ e. no (sym e ∙ last)) (newest_longer of (b ∷ []) d k (slice_index newest d) (omega arith) (subst (λ z. IsNewest of d z (slice_index newest d)) long_of (r.index.newest_of d ld))))));
      older_of = λ p lp. dite (ℕ_discrete p k)
          (λ e. subst (λ z. IsNewest now (slice_index now z) z (slice_index older' z)) (sym e)
          (subst (IsNewest now (slice_index now k) k) (sym (ap (λ z. slice_index z k) eo ∙ (at_end older x k (sym r.long) ∙ old)))
          (subst (λ z. IsNewest now z k (slice_index newest b)) (sym last) (newest_longer of (b ∷ []) b k (slice_index newest b) (omega arith) (subst (λ z. IsNewest of b z (slice_index newest b)) long_of (r.index.newest_of b low))))))
          (λ no. let lk : p < length of = omega (arith, whole, long_of) in
          subst (λ z. IsNewest now z p (slice_index older' p)) (sym (at_left of (b ∷ []) p lk))
          (subst (IsNewest now (slice_index of p) p) (sym (ap (λ z. slice_index z p) eo ∙ at_left older (x ∷ []) p (omega (arith, r.long, long_of))))
          (newest_longer of (b ∷ []) (slice_index of p) p (slice_index older p) (omega arith) (r.index.older_of p lk))));
    } in record {
      some = omega (arith, same, r.some);
      long = ap length eo ∙ omega (arith, length-append older (x ∷ []), r.long, ap length em, length-append marks (m ∷ []));
      index = subst (λ z. IsIndex (buckets z marks') z older' newest') (sym same) (subst (λ z. IsIndex z count older' newest') (sym more) index);
    }

-- A walk along the marks of a bucket: all marks from next on were looked at, or are in other buckets.
pub record Walk {L : Type 0} (marks : List (Marked L)) (count b : ℕ) (Q : Marked L → Type 0) (next : ℕ) : Type 0 where
  pub within : next ≤ length marks
  pub here : (p : ℕ) → suc p ≡ next → slice_index (buckets count marks) p ≡ b
  pub past : (p : ℕ) (m : Marked L) → next ≤ p → slice_get marks p ≡ Some m → ¬ Q m

got_there : {A : Type 0} (xs : List A) (p : ℕ) (a : A) → slice_get xs p ≡ Some a → (p < length xs) × (a ≡ get_or xs p a)
got_there [] zero a e = absurd (cc)
got_there [] (suc p) a e = absurd (cc)
got_there (x ∷ xs) zero a e = let h : x ≡ a = cc in (omega arith, sym h)
got_there (x ∷ xs) (suc p) a e = let r = got_there xs p a e in (omega (arith, r.0), r.1)

module _ {L : Type 0} (marks : List (Marked L)) (count : ℕ) (Q : Marked L → Type 0) (h b : ℕ) where
  pub walk_begins : (older newest : List ℕ) (next : ℕ) → length newest ≡ count → IsIndexed marks older newest → ((i : ℕ) (m : Marked L) → slice_get marks i ≡ Some m → Q m → stored_hash m ≡ h) → b ≡ bucket_of count h → b < count
      → next ≡ slice_index newest b → Walk marks count b Q next
  walk_begins older newest next same r hashed eb low is =
      let n : IsNewest (buckets count marks) b (length marks) next =
      subst (IsNewest (buckets count marks) b (length marks)) (sym is) (subst (λ z. IsNewest (buckets count marks) b z (slice_index newest b)) (length_buckets count marks)
      (let t : IsIndex (buckets count marks) count older newest = subst (λ z. IsIndex (buckets z marks) z older newest) same r.index in t.newest_of b low)) in record {
        within = n.within;
        here = n.here;
        past = λ p m l e q. let g = got_there marks p m e in n.none p l g.0 (bucket_at count marks p m h b g.0 g.1 (sym (hashed p m e q)) eb);
      }

  pub walk_goes : (older newest : List ℕ) (p next next' : ℕ) (m : Marked L) → length newest ≡ count → IsIndexed marks older newest → ((i : ℕ) (m : Marked L) → slice_get marks i ≡ Some m → Q m → stored_hash m ≡ h) → b ≡ bucket_of count h
      → Walk marks count b Q next → next ≡ suc p → m ≡ get_or marks p m → ¬ Q m → next' ≡ slice_index older p → Walk marks count b Q next'
  walk_goes older newest p next next' m same r hashed eb w en em not is =
      let of : List ℕ = buckets count marks in
      let in_b : slice_index of p ≡ b = w.here p (sym en) in
      let inside : p < length marks = omega (arith, w.within) in
      let n : IsNewest of b p next' = subst (IsNewest of b p) (sym is) (subst (λ z. IsNewest of z p (slice_index older p)) in_b
      (let t : IsIndex of count older newest = subst (λ z. IsIndex (buckets z marks) z older newest) same r.index in t.older_of p (omega (arith, length_buckets count marks)))) in record {
        within = omega (arith, n.within);
        here = n.here;
        past = λ q m' l e is_q. dite (ℕ_discrete q p)
            (λ e_p. let g = got_there marks q m' e in not (subst Q (g.1 ∙ (get_or_any marks q m' m g.0 ∙ (ap (λ z. get_or marks z m) e_p ∙ sym em))) is_q))
            (λ no. dite (dec_lt q p)
            (λ less. let g = got_there marks q m' e in n.none q l less (bucket_at count marks q m' h b g.0 g.1 (sym (hashed q m' e is_q)) eb))
            (λ more. w.past q m' (omega (arith, no, more)) e is_q));
      }

  pub walk_less : (older newest : List ℕ) (p next' : ℕ) → IsIndexed marks older newest → suc p ≤ length marks → next' ≡ slice_index older p → next' ≤ p
  walk_less older newest p next' r inside is = omega (arith, is, (r.index.older_of p (omega (arith, length_buckets (length newest) marks))).within)
