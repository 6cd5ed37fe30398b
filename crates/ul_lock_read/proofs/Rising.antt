-- Strictly increasing lists, one more at the end.
use Rattle.std.proofs.Common.{◌≡◌, ℕ, suc, ◌-◌, length, List, [], ◌∷◌, ◌++◌, Bool, true, refl, sym, ap, ◌∙◌, arith, Some}
use Rattle.std.specs.Prelude.{slice_get}
use Rattle.std.specs.Ordering.{is_lt, is_le, ordering_then}
use Rattle.std.specs.declared.cmp.Ordering.{Ordering}
use Rattle.std.specs.declared.cmp.Ordering.TheVariants.{Less, Equal, Greater}
use Rattle.ul_base.specs.Names.{name_cmp}
use Rattle.ul_version.specs.Order.{version_cmp}
use Rattle.ul_version.specs.Fields.{Fields}
use Rattle.ul_lock.specs.declared.parts.Locked.{Locked}
use Rattle.ul_lock.specs.Orders.{block_less}
use Rattle.ul_lock_read.specs.Automaton.{tops, name_tops, plain_block, several}
use Rattle.ul_lock.specs.Increasing.{Rising, NoneOrSeveral}

-- ---- one more at the end

pub Rising-snoc : {A : Type 0} (less : A → A → Bool) (xs : List A) (y : A) → Rising less xs → tops less xs y ≡ true → Rising less (xs ++ y ∷ [])
Rising-snoc less [] y r t = (tt, tt)
Rising-snoc less (x ∷ []) y r t = (t, (tt, tt))
Rising-snoc less (x ∷ z ∷ xs) y r t = (r.0, Rising-snoc less (z ∷ xs) y r.1 t)

pub Rising-mid : {A : Type 0} (less : A → A → Bool) (xs : List A) (y : A) (ys : List A) → Rising less (xs ++ y ∷ ys) → tops less xs y ≡ true
Rising-mid less [] y ys r = refl
Rising-mid less (x ∷ []) y ys r = r.0
Rising-mid less (x ∷ z ∷ xs) y ys r = Rising-mid less (z ∷ xs) y ys r.1

pub several_are : {A : Type 0} (xs : List A) → several xs ≡ true → NoneOrSeveral xs
several_are [] h = tt
several_are (x ∷ []) h = absurd cc
several_are (x ∷ y ∷ xs) h = tt

pub are_several : {A : Type 0} (x : A) (xs : List A) → NoneOrSeveral (x ∷ xs) → several (x ∷ xs) ≡ true
are_several x [] h = absurd h
are_several x (y ∷ xs) h = refl

-- ---- blocks

-- the order of blocks reads names and versions alone
pub tops_plain : (bs : List Locked) (b : Locked) → tops block_less bs b ≡ tops block_less bs (plain_block b.name b.version [] [] [])
tops_plain [] b = refl
tops_plain (a ∷ []) b = refl
tops_plain (a ∷ c ∷ bs) b = tops_plain (c ∷ bs) b

less_by : (o p : Ordering) → is_lt (ordering_then o p) ≡ true → is_le o ≡ true
less_by Less p h = refl
less_by Equal p h = refl
less_by Greater p h = absurd cc

-- where a block may follow, a block of its name may
pub name_tops_from : (bs : List Locked) (n : List ℕ) (v : Fields) → tops block_less bs (plain_block n v [] [] []) ≡ true → name_tops bs n ≡ true
name_tops_from [] n v h = refl
name_tops_from (b ∷ []) n v h = less_by (name_cmp b.name n) (version_cmp b.version v) h
name_tops_from (b ∷ c ∷ bs) n v h = name_tops_from (c ∷ bs) n v h

then_less : (o p : Ordering) → is_le o ≡ true → p ≡ Less → is_lt (ordering_then o p) ≡ true
then_less Less p h e = refl
then_less Equal p h e = ap is_lt e
then_less Greater p h e = absurd cc

-- a version that comes after the last block's may follow
pub tops_when : (b : Locked) (n : List ℕ) (v : Fields) → is_le (name_cmp b.name n) ≡ true → version_cmp b.version v ≡ Less → block_less b (plain_block n v [] [] []) ≡ true
tops_when b n v h e = then_less (name_cmp b.name n) (version_cmp b.version v) h e

-- ---- the last of a list, as the program reads it

last_at : (n : ℕ) → suc n - 1 ≡ n
last_at n = omega arith

pub tops_last : {A : Type 0} (less : A → A → Bool) (xs : List A) (x y : A) → slice_get xs (length xs - 1) ≡ Some x → tops less xs y ≡ less x y
tops_last less [] x y e = absurd cc
tops_last less (z ∷ []) x y e = let q : z ≡ x = cc in ap (λ k. less k y) q
tops_last less (z ∷ w ∷ xs) x y e = tops_last less (w ∷ xs) x y (ap (slice_get (w ∷ xs)) (last_at (length xs)) ∙ (ap (slice_get (z ∷ w ∷ xs)) (sym (last_at (suc (length xs)))) ∙ e))

pub name_tops_last : (bs : List Locked) (b : Locked) (n : List ℕ) → slice_get bs (length bs - 1) ≡ Some b → name_tops bs n ≡ is_le (name_cmp b.name n)
name_tops_last [] b n e = absurd cc
name_tops_last (z ∷ []) b n e = let q : z ≡ b = cc in ap (λ k. is_le (name_cmp k.name n)) q
name_tops_last (z ∷ w ∷ xs) b n e = name_tops_last (w ∷ xs) b n (ap (slice_get (w ∷ xs)) (last_at (length xs)) ∙ (ap (slice_get (z ∷ w ∷ xs)) (sym (last_at (suc (length xs)))) ∙ e))
