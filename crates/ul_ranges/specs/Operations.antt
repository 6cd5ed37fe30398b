-- Operations on two sets, on words of their bits and on the flags of one number.
use Rattle.std.specs.Prelude.{ℕ, Bool, true, false, cond, bit_and, bit_or}
use Rattle.std.specs.Int.{bit_not, w64}
use Rattle.ul_ranges.specs.declared.words.Operation.{Operation}
use Rattle.ul_ranges.specs.declared.words.Operation.TheVariants.{Meet, Join, Less}

-- whether both flags are set
abbrev pub in_both : Bool → Bool → Bool
in_both x y = cond x y false

-- whether one of them is set
abbrev pub in_either : Bool → Bool → Bool
in_either x y = cond x true y

-- whether the first alone is set
abbrev pub in_first : Bool → Bool → Bool
in_first x y = cond y false x

-- what an operation makes of two flags
abbrev pub flag_by : Operation → Bool → Bool → Bool
flag_by Meet x y = in_both x y
flag_by Join x y = in_either x y
flag_by Less x y = in_first x y

-- what it makes of two words
abbrev pub word_by : Operation → ℕ → ℕ → ℕ
word_by Meet x y = bit_and x y
word_by Join x y = bit_or x y
word_by Less x y = bit_and x (bit_not w64 y)
