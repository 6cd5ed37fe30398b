-- What the fields of a seat keep over a draw.
use Rattle.std.proofs.Common.{◌≡◌, ℕ, ◌+◌, ◌<◌, ◌^◌, ◌≤◌, List, [], ◌∷◌, ◌++◌, length, sym, ap, ◌∙◌, subst, arith, length-append}
use Rattle.std.specs.Prelude.{All}
use Rattle.std.specs.List.Sorted.{IsStrictlyIncreasing}
use Rattle.std.proofs.lemmas.List.Elements.{All-push, All-weaker}
use Rattle.atomic_table.specs.Table.{Me}
use Rattle.ul_claims.specs.declared.steps.Tally.{Tally}
use Rattle.ul_claims.specs.Rule.{tally}
use Rattle.ul_claims.specs.Seats.{Keeps}
use Rattle.ul_claims.proofs.Numbers.{below_more, below_same, IsStrictlyIncreasing-push, length-rising}

-- the number is the limit or more, and isn't kept
pub keeps_same : (slots : List (ℕ × ℕ)) (limit parts : ℕ) (drawn kept : List ℕ) (room n : ℕ) → Keeps slots limit parts drawn kept room → All (λ x. x < n) drawn → length drawn < 2 ^ 32
    → limit ≤ n → (me : Me ℕ Tally) → me ≡ (tally parts (drawn ++ n ∷ []), slots) → Keeps me.1 limit me.0.parts me.0.drawn kept room
keeps_same slots limit parts drawn kept room n k above few past me is =
    let P : Me ℕ Tally → Type 0 = λ m. Keeps m.1 limit m.0.parts m.0.drawn kept room in
    subst P (sym is) record {
      free = k.free;
      below_limit = k.below_limit ∙ sym (below_same limit drawn n past);
      rising = IsStrictlyIncreasing-push drawn n k.rising above;
      some_part = k.some_part;
      few = omega (arith, length-append drawn (n ∷ []));
      has_room = k.has_room;
    }

-- the number is below the limit, and is kept
pub keeps_more : (slots : List (ℕ × ℕ)) (limit parts : ℕ) (drawn kept : List ℕ) (room n : ℕ) → Keeps slots limit parts drawn kept room → All (λ x. x < n) drawn → length drawn < 2 ^ 32
    → n < limit → (me : Me ℕ Tally) → me ≡ (tally parts (drawn ++ n ∷ []), slots) → (kept' : List ℕ) → kept' ≡ kept ++ n ∷ [] → (room' : ℕ) → room' ≡ room → Keeps me.1 limit me.0.parts me.0.drawn kept' room'
keeps_more slots limit parts drawn kept room n k above few low me is kept' more room' same =
    let P : Me ℕ Tally → Type 0 = λ m. Keeps m.1 limit m.0.parts m.0.drawn kept' room' in
    subst P (sym is) record {
      free = k.free;
      below_limit = more ∙ (ap (λ z. z ++ n ∷ []) k.below_limit ∙ sym (below_more limit drawn n low));
      rising = IsStrictlyIncreasing-push drawn n k.rising above;
      some_part = k.some_part;
      few = omega (arith, length-append drawn (n ∷ []));
      has_room = omega (arith, k.has_room, same);
    }

pub rises : (drawn : List ℕ) (n : ℕ) → IsStrictlyIncreasing drawn → All (λ x. x < n) drawn → (after : List ℕ) → after ≡ drawn ++ n ∷ [] → IsStrictlyIncreasing after
rises drawn n rising above after is = subst IsStrictlyIncreasing (sym is) (IsStrictlyIncreasing-push drawn n rising above)

-- a seat that draws n has drawn at most n + 1 numbers
pub few_so_far : (drawn : List ℕ) (n : ℕ) → IsStrictlyIncreasing drawn → All (λ x. x < n) drawn → (after : List ℕ) → after ≡ drawn ++ n ∷ [] → length after ≤ n + 1
few_so_far drawn n rising above after is =
    let low : All (λ x. x < n + 1) (drawn ++ n ∷ []) = All-push (λ x. x < n + 1) drawn n (All-weaker (λ x. x < n) (λ x. x < n + 1) (λ x l. omega arith) drawn above) (omega arith) in
    omega (arith, ap length is, length-rising (n + 1) (drawn ++ n ∷ []) (IsStrictlyIncreasing-push drawn n rising above) low)
