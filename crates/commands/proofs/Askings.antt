-- What the words after a command's name say, by how many they are. Assumes nothing.
use Rattle.std.proofs.Common.{◌≡◌, ℕ, ◌≤◌, Bool, cond, List, [], ◌∷◌, ◌++◌, length, get_or, Ok, codes, Result, refl, ap, arith, Bor}
use Rattle.std.specs.Str.{bytes_eq}
use Rattle.std.specs.Fn.{Shared}
use Rattle.commands.specs.Args.{Computes, and_then}
use Rattle.commands.specs.Commands.{walk, listed_of, order_of}
use Rattle.tokens.specs.Words.{bytes}
use Rattle.commands.specs.declared.command.Mistake.{Mistake}

-- the word at i as the code reads it
abbrev pub word_at : List (Bor (List ℕ)) → ℕ → Bor (List ℕ)
word_at ws i = get_or ws i (record { ref_ptr = (0, 0); now = [] })

-- one word, which is `walk` or not
pub order_by_word : (ws : List (Bor (List ℕ))) (is : Bool) → length ws ≡ 1 → is ≡ bytes_eq (word_at ws 0).now (codes "walk") → cond is (Ok walk) (listed_of (bytes ws)) ≡ order_of (bytes ws)
order_by_word [] is e same = absurd (omega arith)
order_by_word (a ∷ []) is e same = ap (λ (t : Bool). cond t (Ok walk) (listed_of (a.now ∷ []))) same
order_by_word (a ∷ b ∷ ws) is e same = absurd (omega arith)

pub order_by_words : (ws : List (Bor (List ℕ))) → 2 ≤ length ws → listed_of (bytes ws) ≡ order_of (bytes ws)
order_by_words [] some = absurd (omega arith)
order_by_words (a ∷ []) some = absurd (omega arith)
order_by_words (a ∷ b ∷ ws) some = refl

-- numbers that were read, and the rest
abbrev pub behind : List ℕ → Result (List ℕ) Mistake → Result (List ℕ) Mistake
behind ns rest = and_then rest (λ ms. Ok (ns ++ ms))

-- a call of the reader at the word at i
pub at_word : {F : Type 0} (calls : Shared F (Bor (List ℕ) × Unit {0}) (Result ℕ Mistake)) (reader : F) (f : List ℕ → Result ℕ Mistake) (ws : List (Bor (List ℕ))) (i : ℕ) (r : Result ℕ Mistake) → Computes calls reader f → calls.post reader (word_at ws i, tt) r → r ≡ f (word_at ws i).now
at_word calls reader f ws i r computes met = computes _ r (record { shown = word_at ws i; shows = refl; says = record { met = met } })
