-- A list that is short enough is that of a `Vec`.
use Rattle.std.proofs.Common.{◌≡◌, ◌<◌, ◌^◌, List, Vec, length, refl, arith}
use Rattle.std.specs.declared.alloc.Global.{Global}
use denote.RawPtr.{null_ptr}

-- the `Vec` of a list's elements; no contract says where they lie
pub vec_of : {A : Type 0} (xs : List A) → length xs < 2 ^ 63 → (v : Vec A Global) × (v.items ≡ xs)
vec_of xs h = (
  record {
    ptr = null_ptr;
    len = length xs;
    cap = length xs;
    alloc = record { memory = record { seal = tt } };
    items = xs;
    ok = (refl, omega arith);
    small = h;
  },
  refl,
)
