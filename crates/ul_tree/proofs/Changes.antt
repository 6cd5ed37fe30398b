-- A test that changes at cuts alone, by its changes.
use Rattle.std.proofs.Common.{◌≡◌, ℕ, ◌^◌, ◌≤◌, ◌<◌, List, [], ◌∷◌, Bool, true, false, true≢false, refl, sym, ap, ◌∙◌, arith, subst, inl, inr, nat_lt}
use Rattle.std.specs.Prelude.{not, if◌then◌else◌}
use Rattle.std.proofs.lemmas.Bool.{cases_lt, lt-ltb, le-ltb}
use Rattle.ul_nodes.specs.Apply.{same_bool}
use Rattle.ul_specifier.specs.Clauses.{ClauseFields}
use Rattle.ul_tree.specs.Pieces.{changes_of, cuts_at, cuts_of, digit, meets_at, starts_of}
use Rattle.ul_tree.proofs.Cuts.{EachApart, meets_steady}

-- numbers that don't descend, each at least this one and below 2^96
abbrev pub Ascend : ℕ → List ℕ → Type 0
Ascend lo [] = Unit {0}
Ascend lo (c ∷ cs) = (lo ≤ c) × (c < 2 ^ 96) × Ascend c cs

-- numbers that rise, each above this one and below 2^96
abbrev pub Climb : ℕ → List ℕ → Type 0
Climb lo [] = Unit {0}
Climb lo (c ∷ cs) = (lo < c) × (c < 2 ^ 96) × Climb c cs

-- from a number on, a test changes at cuts alone
abbrev pub Steady : (ℕ → Bool) → ℕ → List ℕ → Type 0
Steady t lo cuts = (x y : ℕ) → lo ≤ x → x ≤ y → y < 2 ^ 96 → EachApart x y cuts → t x ≡ t y

-- a truth that changes at each start, at a number
abbrev pub flipped_at : Bool → List ℕ → ℕ → Bool
flipped_at held [] n = held
flipped_at held (s ∷ ss) n = if nat_lt n s then held else flipped_at (not held) ss n

same_is : (a b : Bool) → same_bool a b ≡ true → a ≡ b
same_is true b h = sym h
same_is false true h = h
same_is false false h = refl

other_is : (a b : Bool) → same_bool a b ≡ false → a ≡ not b
other_is true true h = absurd (true≢false h)
other_is true false h = refl
other_is false true h = refl
other_is false false h = absurd (true≢false h)

climbs_from : (a b : ℕ) (cs : List ℕ) → a ≤ b → Ascend b cs → Ascend a cs
climbs_from a b [] h u = u
climbs_from a b (c ∷ cs) h u = (omega (arith, u.0), u.1, u.2)

-- below all cuts a truth stays
flipped-low : (t : ℕ → Bool) (held : Bool) (lo n : ℕ) (cuts : List ℕ) → n < lo → Ascend lo cuts → flipped_at held (changes_of t held cuts) n ≡ held
flipped-low t held lo n [] h u = refl
flipped-low t held lo n (c ∷ cs) h u = go (same_bool (t c) held) refl (flipped-low t held c n cs (omega (arith, u.0)) u.2)
  where
    go : (v : Bool) → same_bool (t c) held ≡ v → flipped_at held (changes_of t held cs) n ≡ held
        → flipped_at held (if v then changes_of t held cs else c ∷ changes_of t (t c) cs) n ≡ held
    go true e ih = ih
    go false e ih = rw (lt-ltb n c (omega (arith, u.0))) refl

apart-low : (x y lo : ℕ) (cs : List ℕ) → y < lo → Ascend lo cs → EachApart x y cs
apart-low x y lo [] h u = tt
apart-low x y lo (c ∷ cs) h u = (inr (omega (arith, u.0)), apart-low x y c cs (omega (arith, u.0)) u.2)

steady_from : (t : ℕ → Bool) (lo c : ℕ) (cs : List ℕ) → lo ≤ c → Steady t lo (c ∷ cs) → Steady t c cs
steady_from t lo c cs h s x y from ordered fits apart = s x y (omega arith) ordered fits (inl from, apart)

-- the changes say what the test says
pub changes-hold : (t : ℕ → Bool) (held : Bool) (lo n : ℕ) (cuts : List ℕ) → t lo ≡ held → lo ≤ n → n < 2 ^ 96 → Ascend lo cuts → Steady t lo cuts
    → flipped_at held (changes_of t held cuts) n ≡ t n
changes-hold t held lo n [] e h fits u s = sym e ∙ s lo n (omega arith) h fits tt
changes-hold t held lo n (c ∷ cs) e h fits u s = elim (cases_lt n c) [
  | inl below ↦
      let up : Ascend c (c ∷ cs) = (omega arith, u.1, u.2) in
      flipped-low t held c n (c ∷ cs) below up ∙ sym e ∙ s lo n (omega arith) h fits (apart-low lo n c (c ∷ cs) below up)
  | inr from ↦
      let later = steady_from t lo c cs u.0 s in
      step (same_bool (t c) held) refl from (λ q. changes-hold t held c n cs q from fits u.2 later) (changes-hold t (t c) c n cs refl from fits u.2 later)
]
  where
    step : (v : Bool) → same_bool (t c) held ≡ v → c ≤ n → (t c ≡ held → flipped_at held (changes_of t held cs) n ≡ t n)
        → flipped_at (t c) (changes_of t (t c) cs) n ≡ t n
        → flipped_at held (if v then changes_of t held cs else c ∷ changes_of t (t c) cs) n ≡ t n
    step true q from same other = same (same_is (t c) held q)
    step false q from same other = rw (le-ltb n c from) (subst (λ (b : Bool). flipped_at b (changes_of t (t c) cs) n ≡ t n) (other_is (t c) held q) other)

not_fixed : (b : Bool) → b ≡ not b → ⊥
not_fixed true h = true≢false h
not_fixed false h = true≢false (sym h)

-- and the changes rise
pub changes-climb : (t : ℕ → Bool) (held : Bool) (lo : ℕ) (cuts : List ℕ) → t lo ≡ held → Ascend lo cuts → Climb lo (changes_of t held cuts)
changes-climb t held lo [] e u = tt
changes-climb t held lo (c ∷ cs) e u =
    step (same_bool (t c) held) refl (changes-climb t held lo cs e (climbs_from lo c cs u.0 u.2)) (changes-climb t (t c) c cs refl u.2)
  where
    step : (v : Bool) → same_bool (t c) held ≡ v → Climb lo (changes_of t held cs) → Climb c (changes_of t (t c) cs)
        → Climb lo (if v then changes_of t held cs else c ∷ changes_of t (t c) cs)
    step true q same other = same
    step false q same other = (
      elim (cases_lt lo c) [
        | inl above ↦ above
        | inr below ↦ let is : lo ≡ c = omega (arith, u.0) in absurd (not_fixed held (sym e ∙ ap t is ∙ other_is (t c) held q))
      ],
      u.1,
      other,
    )

-- ---- the cuts of a release

ascend_at : (a b c : ℕ) → a < 2 ^ 32 → b < 2 ^ 32 → c < 2 ^ 32 → Ascend 0 (cuts_at a b c)
ascend_at a b c p q r =
    (omega arith, omega arith, (omega arith, omega arith, (omega arith, omega arith, (omega arith, omega arith, (omega arith, omega arith, (omega arith, omega arith, tt))))))

pub cuts-ascend : (release : List ℕ) → Ascend 0 (cuts_of release)
unfolding cuts_of
cuts-ascend release = ascend_at (digit release 0) (digit release 1) (digit release 2) (omega arith) (omega arith) (omega arith)

-- the starts of a clause rise, and say its truth at each interpreter
pub starts-climb : (clause : ClauseFields) (full : Bool) → Climb 0 (starts_of clause full)
starts-climb clause full = changes-climb (meets_at clause full) (meets_at clause full 0) 0 (cuts_of clause.version.release) refl (cuts-ascend clause.version.release)

pub starts-hold : (clause : ClauseFields) (full : Bool) (n : ℕ) → n < 2 ^ 96 → flipped_at (meets_at clause full 0) (starts_of clause full) n ≡ meets_at clause full n
starts-hold clause full n fits =
    changes-hold (meets_at clause full) (meets_at clause full 0) 0 n (cuts_of clause.version.release) refl (omega arith) fits (cuts-ascend clause.version.release)
    (λ x y from ordered within apart. meets_steady clause full x y ordered within apart)
