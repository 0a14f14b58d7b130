-- What a word is as a number in a base. Assumes nothing.
use Rattle.std.specs.Prelude.{ℕ, Bool, true, false, cond, ◌&&◌, List, [], ◌∷◌, Some, None, Option, nat_le, nat_lt}
use Rattle.std.specs.Str.Parse.{digits_value}
use Rattle.std.specs.Char.{digit_value}

-- each byte is a digit of the base; from ten on the digits are letters, in either case
abbrev pub all_digits : ℕ → List ℕ → Bool
all_digits base [] = true
all_digits base (b ∷ bs) = nat_lt (digit_value b) base && all_digits base bs

-- one or more digits, and nothing else
abbrev pub numeral : ℕ → List ℕ → Bool
numeral base [] = false
numeral base (b ∷ bs) = all_digits base (b ∷ bs)

-- the number that a numeral of the base writes, where it is at most the limit
abbrev pub reading_of : ℕ → ℕ → List ℕ → Option ℕ
reading_of base most bs = cond (numeral base bs && nat_le (digits_value base bs) most) (Some (digits_value base bs)) None

-- a decimal number up to the limit
abbrev pub number_of : List ℕ → ℕ → Option ℕ
number_of bs most = reading_of 10 most bs
