-- Arrows that the generator SplitMix64 makes from a seed. Assumes nothing.
use Rattle.std.specs.Prelude.{ℕ, ◌+◌, ◌*◌, ◌/◌, ◌%◌, ◌^◌, Bool, cond, ◌||◌, Some, None, ◌==◌, bit_xor, nat_lt}
use Rattle.model.specs.Arrows.{Cells}

-- z xor z shifted right by s bits
abbrev pub xor_shifted : ℕ → ℕ → ℕ
xor_shifted s z = bit_xor z (z / 2 ^ s)

-- the generator's state at its output of this number, counted from 1
abbrev pub state_at : ℕ → ℕ → ℕ
state_at seed number = (seed + 0x9E3779B97F4A7C15 * number) % 2 ^ 64

-- the output of a state
abbrev pub scrambled : ℕ → ℕ
scrambled z =
    xor_shifted 31 ((xor_shifted 27 ((xor_shifted 30 z * 0xBF58476D1CE4E5B9) % 2 ^ 64) * 0x94D049BB133111EB) % 2 ^ 64)

-- the number of the output for vertex v and index k
abbrev pub output_number : ℕ → ℕ → ℕ
output_number v k = v * 4096 + k + 1

-- the word at vertex v and index k
abbrev pub seeded_word : ℕ → ℕ → ℕ → ℕ
seeded_word seed v k = scrambled (state_at seed (output_number v k))

-- there is no port without a degree, at a vertex above 1,023 and at an index above 4,095
abbrev pub lacks_word : ℕ → ℕ → ℕ → Bool
lacks_word v k d = d == 0 || (nat_lt 1023 v || nat_lt 4095 k)

-- the port is the word's remainder by the degree
abbrev pub seeded_cells : ℕ → Cells
seeded_cells seed v k d = cond (lacks_word v k d) None (Some (seeded_word seed v k % d))
