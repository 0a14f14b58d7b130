-- What a word is as a seed, and how a seed is written. Assumes nothing.
use Rattle.std.specs.Prelude.{ℕ, zero, suc, ◌-◌, ◌/◌, ◌%◌, ◌^◌, cond, List, [], ◌∷◌, ◌++◌, codes, Option, ◌==◌}
use Rattle.std.specs.Char.{digit_char}
use Rattle.tokens.specs.Numbers.{reading_of}

-- a seed: a hexadecimal number of 64 bits
abbrev pub seed_of : List ℕ → Option ℕ
seed_of bs = reading_of 16 (2 ^ 64 - 1) bs

-- a number below 16 ^ k in hexadecimal, in lower case and without leading zeros: no digit for 0
abbrev pub hex_digits : ℕ → ℕ → List ℕ
hex_digits zero n = []
hex_digits (suc k) n = cond (n == 0) [] (hex_digits k (n / 16) ++ digit_char (n % 16) ∷ [])

-- how a seed is written
abbrev pub seed_text : ℕ → List ℕ
seed_text n = cond (n == 0) (codes "0") (hex_digits 16 n)
