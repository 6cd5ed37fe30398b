-- Places that are listed, each of so many.
use Rattle.std.proofs.Common.{◌≡◌, ◌⊎◌, ◌<◌, ◌≤◌, ◌+◌, ℕ, zero, suc, List, [], ◌∷◌, ◌++◌, length, get_or, Bool, true, false, replicate, Some, Contains, refl, sym, ap, ◌∙◌, subst, inl, inr, ⊎_elim, arith}
use Rattle.std.proofs.lemmas.List.{append-nil}
use Rattle.std.proofs.lemmas.List.Elements.{Contains-get_or}
use Rattle.ul_lock_nodes.specs.Flags.{is_flagged}
use Rattle.ul_lock_nodes.proofs.ForCallers.{below_or_at, last_in, still_in}
use Rattle.ul_reach.specs.Rounds.{AreListed, FlagsOnly, ListsAll, one_unless}

never_flagged : (n k : ℕ) → is_flagged (replicate n false) k ≡ true → ⊥
never_flagged zero k e = cc
never_flagged (suc n) zero e = cc
never_flagged (suc n) (suc k) e = never_flagged n k e

pub none_listed : (flags : List Bool) (n : ℕ) (places : List ℕ) → flags ≡ replicate n false → AreListed flags places
none_listed flags n places is k e = absurd (never_flagged n k (sym (ap (λ fs. is_flagged fs k) is) ∙ e))

-- the flag of a listed place is set
pub listed_more : (flags next : List Bool) (places : List ℕ) (i d : ℕ) → i < length places → FlagsOnly (get_or places i d) flags next → AreListed flags places → AreListed next places
listed_more flags next places i d lt only each k e = ⊎_elim (each k) (λ q. subst (Contains places) (sym q) (Contains-get_or places i d lt)) (only k e)

-- ---- a place more, unless it is listed

pub none_more : (places : List ℕ) (listed : Bool) (place : ℕ) → listed ≡ true → places ≡ places ++ one_unless listed place
none_more places true place e = sym (append-nil places)
none_more places false place e = cc

pub one_more : (places now : List ℕ) (listed : Bool) (place : ℕ) → listed ≡ false → now ≡ places ++ place ∷ [] → now ≡ places ++ one_unless listed place
one_more places now true place e is = cc
one_more places now false place e is = is

in_still : (places : List ℕ) (listed : Bool) (place k : ℕ) → Contains places k → Contains (places ++ one_unless listed place) k
in_still places true place k c = subst (λ ps. Contains ps k) (sym (append-nil places)) c
in_still places false place k c = still_in places place k c

in_now : (places : List ℕ) (listed : Bool) (place : ℕ) → (listed ≡ true → Contains places place) → Contains (places ++ one_unless listed place) place
in_now places true place c = in_still places true place place (c refl)
in_now places false place c = last_in places place

pub each_more : (flags : List Bool) (now places : List ℕ) (place : ℕ) (listed : Bool) → now ≡ places ++ one_unless listed place → AreListed flags places → AreListed flags now
each_more flags now places place listed is each k e = subst (λ ps. Contains ps k) (sym is) (in_still places listed place k (each k e))

pub all_more : (flags : List Bool) (now places : List ℕ) (place : ℕ) (listed : Bool) → now ≡ places ++ one_unless listed place → is_flagged flags place ≡ listed → AreListed flags places → ListsAll place places
    → ListsAll (place + 1) now
all_more flags now places place listed is read each before k lt = subst (λ ps. Contains ps k) (sym is) (⊎_elim (λ below. in_still places listed place k (before k below))
    (λ q. subst (Contains (places ++ one_unless listed place)) (sym q) (in_now places listed place (λ e. each place (read ∙ e)))) (below_or_at k place lt))
