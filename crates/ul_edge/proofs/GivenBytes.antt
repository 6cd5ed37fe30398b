-- What a reader gave and a writer took, a call after a call.
use Rattle.std.proofs.Common.{◌≡◌, ◌++◌, ◌≤◌, ◌∙◌, ℕ, List, Option, None, Some, length, take, Result, Ok, Err, ap, sym, arith}
use Rattle.std.proofs.lemmas.List.{take-append-le, take-take}
use Rattle.std.proofs.KnownBytes.{Keeps-trans}
use Rattle.std.specs.Io.KnownBytes.{Appends, Consumes, Keeps, ReadConsumes, WriteAppends}

-- calls that gave nothing, and then one more
consumes_kept : (first now after : Option (List ℕ)) (bytes : List ℕ) → Keeps first now → Consumes now after bytes → Consumes first after bytes
consumes_kept None _ _ _ _ _ = tt
consumes_kept (Some _) None _ _ h _ = absurd h
consumes_kept (Some _) (Some _) None _ _ k = absurd k
consumes_kept (Some _) (Some _) (Some _) _ h k = sym h ∙ k

-- reads that gave nothing, and then one more
pub read_kept : {E : Type 0} (first now after : Option (List ℕ)) (r : Result ℕ E) (chunk : List ℕ) → Keeps first now → ReadConsumes now after r chunk → ReadConsumes first after r chunk
read_kept first now after (Ok n) chunk h k = (consumes_kept first now after (take n chunk) h k.0, k.1)
read_kept first now after (Err _) chunk h k = Keeps-trans first now after h k

appends_kept : (first now after : Option (List ℕ)) (bytes : List ℕ) → Keeps first now → Appends now after bytes → Appends first after bytes
appends_kept None _ _ _ _ _ = tt
appends_kept (Some _) None _ _ h _ = absurd h
appends_kept (Some _) (Some _) None _ _ k = absurd k
appends_kept (Some _) (Some _) (Some _) bytes h k = k ∙ ap (λ t. t ++ bytes) h

-- writes that took nothing, and then one more
pub write_kept : {E : Type 0} (first now after : Option (List ℕ)) (r : Result ℕ E) (piece : List ℕ) → Keeps first now → WriteAppends now after r piece → WriteAppends first after r piece
write_kept first now after (Ok n) piece h k = appends_kept first now after (take n piece) h k
write_kept first now after (Err _) piece h k = Keeps-trans first now after h k

-- what a read wrote at the front of a chunk, with the rest of the chunk behind it
pub within : (given rest : List ℕ) (count len : ℕ) → count ≤ length given → length given ≤ len → take count (take len (given ++ rest)) ≡ take count given
within given rest count len fits low = take-take count len (given ++ rest) (omega (arith, fits, low)) ∙ take-append-le count given rest fits
