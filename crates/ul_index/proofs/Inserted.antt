-- Keys that are put in order.
use Rattle.std.proofs.Common.{◌≡◌, List, [], ◌∷◌, map, refl, ap, ◌∙◌}
use Rattle.std.specs.BTreeSet.{insert_key}
use Rattle.std.specs.Ordering.{match_ordering, on}
use Rattle.std.specs.declared.cmp.Ordering.{Ordering}
use Rattle.std.specs.declared.cmp.Ordering.TheVariants.{Less, Equal, Greater}

match_map : {K L : Type 0} (f : K → L) (o : Ordering) (a b c : List K) → map f (match_ordering o a b c) ≡ match_ordering o (map f a) (map f b) (map f c)
match_map f Less a b c = refl
match_map f Equal a b c = refl
match_map f Greater a b c = refl

-- a key is put where its value is
pub insert_mapped : {K L : Type 0} (f : K → L) (cmp : L → L → Ordering) (ks : List K) (k : K) → map f (insert_key (on f cmp) ks k) ≡ insert_key cmp (map f ks) (f k)
insert_mapped f cmp [] k = refl
insert_mapped f cmp (x ∷ xs) k = match_map f (cmp (f k) (f x)) (k ∷ x ∷ xs) (x ∷ xs) (x ∷ insert_key (on f cmp) xs k)
    ∙ ap (λ l. match_ordering (cmp (f k) (f x)) (f k ∷ f x ∷ map f xs) (f x ∷ map f xs) (f x ∷ l)) (insert_mapped f cmp xs k)
