-- Lists that have, in order, an element for each key of a kind.
use Rattle.std.specs.Prelude.{◌≡◌, List, Contains, Bool}
use Rattle.ul_lock.specs.Increasing.{Rising}

-- the list strictly increases, and has an element for each wanted key and no other, and each is right
pub record IsIndex {A K : Type 0} (key : A → K) (less : A → A → Bool) (Wanted : K → Type 0) (Right : A → Type 0) (xs : List A)
    : Type 0 where
  pub rises : Rising less xs
  pub wanted : (x : A) → Contains xs x → Wanted (key x)
  pub right : (x : A) → Contains xs x → Right x
  pub each : (i : K) → Wanted i → (x : A) × Contains xs x × (key x ≡ i)
