-- What is made of runs of a list, put together, is made of the list.
use Rattle.std.proofs.Common.{arith, ◌≡◌, ℕ, suc, ◌+◌, ◌≤◌, drop, List, [], ◌∷◌, ◌++◌, length, flat_map, All, Vec, Option, Some, None, append_assoc, refl, sym, ap, ap₂, subst, ◌∙◌}
use Rattle.std.specs.Prelude.{slice_get}
use Rattle.std.specs.declared.alloc.Global.{Global}
use Rattle.std.proofs.lemmas.Grind.{flat_map-append}
use Rattle.std.proofs.lemmas.List.{append-nil, drop_all, length-append}
use Rattle.std.proofs.lemmas.List.Elements.{All-push}
use Rattle.std.proofs.lemmas.List.Folds.{drop_split}
use Rattle.ul_nodes.specs.Plain.{Plain}
use Rattle.ul_lock_write.specs.Markers.{first_over}
use Rattle.ul_lock_write.proofs.ForCallers.{over_none}
use Rattle.ul_merge.specs.Made.{AreMade, at_most_one}
use Rattle.ul_merge.specs.Over.{HasOver, ItemsOrOver, OrOver, items_in, with_list}
use Rattle.ul_merge.specs.Runs.{joined_of, run_of}
use Rattle.ul_merge.proofs.OverFacts.{both_printed, over_back, over_front}

-- ---- runs of a list

-- a run more, and what is left behind it
pub run_more : {A : Type 0} (xs : List A) (cs now : List (ℕ × ℕ)) (c : ℕ × ℕ) → now ≡ cs ++ c ∷ [] → c.0 ≤ c.1 → flat_map (run_of xs) cs ++ drop c.0 xs ≡ xs → flat_map (run_of xs) now ++ drop c.1 xs ≡ xs
run_more xs cs now c is low have =
    ap (λ zs. flat_map (run_of xs) zs ++ drop c.1 xs) is ∙ (ap (λ zs. zs ++ drop c.1 xs) (flat_map-append (run_of xs) cs (c ∷ []))
    ∙ (append_assoc (flat_map (run_of xs) cs) (flat_map (run_of xs) (c ∷ [])) (drop c.1 xs)
    ∙ (ap (λ zs. flat_map (run_of xs) cs ++ zs) (append_assoc (run_of xs c) [] (drop c.1 xs) ∙ sym (drop_split xs c.0 c.1 low)) ∙ have)))

-- the last run, behind which nothing is left
pub run_last : {A : Type 0} (xs : List A) (cs now : List (ℕ × ℕ)) (c : ℕ × ℕ) → now ≡ cs ++ c ∷ [] → c.0 ≤ c.1 → length xs ≤ c.1 → flat_map (run_of xs) cs ++ drop c.0 xs ≡ xs → flat_map (run_of xs) now ≡ xs
run_last xs cs now c is low past have =
    sym (append-nil (flat_map (run_of xs) now)) ∙ (ap (λ zs. flat_map (run_of xs) now ++ zs) (sym (drop_all c.1 xs past)) ∙ run_more xs cs now c is low have)

-- a list with one element more
pub long_more : {A : Type 0} (xs now : List A) (x : A) (n : ℕ) → now ≡ xs ++ x ∷ [] → length xs + 1 ≡ n → length now ≡ n
long_more xs now x n is e = ap length is ∙ (length-append xs (x ∷ []) ∙ e)

pub all_more : {A : Type 0} (P : A → Type 0) (xs now : List A) (x : A) → now ≡ xs ++ x ∷ [] → All P xs → P x → All P now
all_more P xs now x is all one = subst (All P) (sym is) (All-push P xs x all one)

-- ---- lists that are made element by element

module _ {A B : Type 0} (Makes : A → Option B → Type 0) where
  -- what is made of a list in front of what is made of another
  made_front : (us vs : List A) (bs cs : List B) → AreMade Makes us bs → AreMade Makes vs cs → AreMade Makes (us ++ vs) (bs ++ cs)
  made_front [] vs bs cs m n = subst (λ (zs : List B). AreMade Makes vs (zs ++ cs)) (sym m) n
  made_front (x ∷ us) vs bs cs m n = (m.0, m.1 ++ cs, m.2, ap (λ (zs : List B). zs ++ cs) m.3 ∙ append_assoc (at_most_one m.0) m.1 cs, made_front us vs m.1 cs m.4 n)

-- what is made of two lists, not all of which need be printed
module _ {A B : Type 0} (Makes : A → Option B → Type 0) (m : B → List Plain) where
  -- the markers of elements in front of others
  markers_front : (bs cs : List B) → flat_map m bs ++ flat_map m cs ≡ flat_map m (bs ++ cs)
  markers_front bs cs = sym (flat_map-append m bs cs)

  list_over : (us vs : List A) (r s : Option (List B)) → OrOver (flat_map m) (AreMade Makes us) r → OrOver (flat_map m) (AreMade Makes vs) s → OrOver (flat_map m) (AreMade Makes (us ++ vs)) (with_list r s)
  list_over us vs (Some bs) (Some cs) (h, n) (k, p) = (made_front Makes us vs bs cs h k, ap first_over (sym (markers_front bs cs)) ∙ both_printed (flat_map m bs) (flat_map m cs) n p)
  list_over us vs (Some bs) None (h, n) (cs, k, w) = (bs ++ cs, made_front Makes us vs bs cs h k, subst HasOver (markers_front bs cs) (over_back (flat_map m bs) (flat_map m cs) w))
  list_over us vs None (Some cs) (bs, h, v) (k, p) = (bs ++ cs, made_front Makes us vs bs cs h k, subst HasOver (markers_front bs cs) (over_front (flat_map m bs) (flat_map m cs) v))
  list_over us vs None None (bs, h, v) (cs, k, w) = (bs ++ cs, made_front Makes us vs bs cs h k, subst HasOver (markers_front bs cs) (over_front (flat_map m bs) (flat_map m cs) v))

  joined_over : {X : Type 0} (f : X → List A) (xs : List X) (os : List (Option (Vec B Global))) → length os ≡ length xs
      → ((k : ℕ) (o : Option (Vec B Global)) → slice_get os k ≡ Some o → (x : X) → slice_get xs k ≡ Some x → ItemsOrOver m (AreMade Makes (f x)) o)
      → OrOver (flat_map m) (AreMade Makes (flat_map f xs)) (joined_of os)
  joined_over f [] [] e each = (refl, over_none)
  joined_over f [] (o ∷ os) e each = absurd (omega (arith, e))
  joined_over f (x ∷ xs) [] e each = absurd (omega (arith, e))
  joined_over f (x ∷ xs) (o ∷ os) e each = list_over (f x) (flat_map f xs) (items_in o) (joined_of os) (each 0 o refl x refl) (joined_over f xs os (omega (arith, e)) (λ k y h z i. each (suc k) y h z i))

  -- what was made of runs of a list, one behind another, is what is made of the list
  pub runs_made : {X : Type 0} (f : X → List A) (xs : List X) (os : List (Option (Vec B Global))) (us : List A) (all : Option (Vec B Global)) → flat_map f xs ≡ us → length os ≡ length xs
      → ((k : ℕ) (o : Option (Vec B Global)) → slice_get os k ≡ Some o → (x : X) → slice_get xs k ≡ Some x → ItemsOrOver m (AreMade Makes (f x)) o)
      → items_in all ≡ joined_of os → ItemsOrOver m (AreMade Makes us) all
  runs_made f xs os us all is len each made = subst (OrOver (flat_map m) (AreMade Makes us)) (sym made)
      (subst (λ (zs : List A). OrOver (flat_map m) (AreMade Makes zs) (joined_of os)) is (joined_over f xs os len each))
