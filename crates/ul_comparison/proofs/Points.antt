-- What stands before and after the first point of a text.
use Rattle.std.proofs.Common.{◌≡◌, ◌<◌, ◌+◌, ℕ, List, [], length, Option, Some, None, arith, Bor}
use Rattle.std.proofs.lemmas.List.{drop_all}
use Rattle.std.specs.List.{after_first, before_first, position_or_len}
use Rattle.std.specs.Option.{MatchOption, IfSome}
use Rattle.ul_comparison.specs.Triples.{is_point}

-- what a cut at a point says
abbrev pub IsCut : List ℕ → Option (Bor (List ℕ) × Bor (List ℕ)) → Type 0
IsCut text r = MatchOption r (position_or_len is_point text ≡ length text)
    (λ x. (position_or_len is_point text < length text) × (x.0.now ≡ before_first is_point text) × (x.1.now ≡ after_first is_point text))

-- the parts that a cut gives
pub parts_at : (text : List ℕ) (r : Option (Bor (List ℕ) × Bor (List ℕ))) → IsCut text r
    → IfSome r (λ p. (p.0.now ≡ before_first is_point text) × (p.1.now ≡ after_first is_point text))
parts_at text None cut = tt
parts_at text (Some p) cut = (cut.1, cut.2)

-- nothing stands after a point that isn't there
pub none_after : (text : List ℕ) (r : Option (Bor (List ℕ) × Bor (List ℕ))) → IsCut text r → r ≡ None → after_first is_point text ≡ []
none_after text r cut e = let there : position_or_len is_point text ≡ length text = rw e at cut in drop_all (position_or_len is_point text + 1) text (omega arith)
