-- What the words after a command's name say. Assumes nothing.
use Rattle.std.specs.Prelude.{◌≡◌, ⊤, ℕ, cond, List, [], ◌∷◌, Some, None, Ok, Err, codes, Option, Result}
use Rattle.std.specs.Borrow.{Bor}
use Rattle.std.specs.Fn.{Shared, FnReturnsAt}
use Rattle.std.specs.Str.{bytes_eq}
use Rattle.tokens.specs.Numbers.{number_of}
use Rattle.commands.specs.declared.command.Mistake.{Mistake}
use Rattle.commands.specs.declared.command.Unread.{Unread}
use Rattle.commands.specs.declared.command.Unread.TheVariants as unread
use Rattle.commands.specs.declared.command.Mistake.TheVariants.{Count, Number}

-- what is made of a reading; a mistake stays
abbrev pub and_then : {A B : Type 0} → Result A Mistake → (A → Result B Mistake) → Result B Mistake
and_then (Err e) more = Err e
and_then (Ok a) more = more a

-- a reading of the code, by what its value means
abbrev pub meant : {A B : Type 0} → (A → B) → Result A Mistake → Result B Mistake
meant means (Err e) = Err e
meant means (Ok a) = Ok (means a)

-- the same of a reading that memory may be short for; then it says nothing
abbrev pub Reads : {A B : Type 0} → (A → B) → Result A Unread → Result B Mistake → Type 0
Reads means (Ok a) meaning = Ok (means a) ≡ meaning
Reads means (Err (unread.Mistake e)) meaning = Err e ≡ meaning
Reads means (Err (unread.NoMemory full)) meaning = ⊤

-- a word that writes no number, or too large a one, is a mistake
abbrev pub or_mistake : Option ℕ → Result ℕ Mistake
or_mistake None = Err Number
or_mistake (Some n) = Ok n

-- a number where a vertex, a port, a size or a depth stands
abbrev pub small_of : List ℕ → Result ℕ Mistake
small_of word = or_mistake (number_of word 65535)

-- a port: `-` is the root's
abbrev pub port_of : List ℕ → Result ℕ Mistake
port_of word = cond (bytes_eq word (codes "-")) (Ok 65535) (small_of word)

-- each call of the code's reader gives what f says of the word
abbrev pub Computes : {F : Type 0} → Shared F (Bor (List ℕ) × Unit {0}) (Result ℕ Mistake) → F → (List ℕ → Result ℕ Mistake) → Type 0
Computes calls reader f = (word : List ℕ) (r : Result ℕ Mistake) → FnReturnsAt calls reader word r → r ≡ f word

-- numbers, in order, each word read by f, or the mistake in one of them
abbrev pub list_of : (List ℕ → Result ℕ Mistake) → List (List ℕ) → Result (List ℕ) Mistake
list_of f [] = Ok []
list_of f (w ∷ ws) = and_then (f w) (λ n. and_then (list_of f ws) (λ ns. Ok (n ∷ ns)))

-- two numbers, or the mistake in one of them
abbrev pub pair_of : List ℕ → List ℕ → Result (ℕ × ℕ) Mistake
pair_of left right = and_then (small_of left) (λ m. and_then (small_of right) (λ n. Ok (m, n)))

-- the only word
abbrev pub single_of : List (List ℕ) → Result (List ℕ) Mistake
single_of [] = Err Count
single_of (w ∷ []) = Ok w
single_of (w ∷ v ∷ ws) = Err Count

-- two words
abbrev pub two_of : List (List ℕ) → Result (List ℕ × List ℕ) Mistake
two_of [] = Err Count
two_of (a ∷ []) = Err Count
two_of (a ∷ b ∷ []) = Ok (a, b)
two_of (a ∷ b ∷ c ∷ rest) = Err Count

-- two words around a fixed one; another in its place is this mistake
abbrev pub around_of : List ℕ → Mistake → List (List ℕ) → Result (List ℕ × List ℕ) Mistake
around_of text missing [] = Err Count
around_of text missing (a ∷ []) = Err Count
around_of text missing (a ∷ word ∷ []) = Err Count
around_of text missing (a ∷ word ∷ b ∷ []) = cond (bytes_eq word text) (Ok (a, b)) (Err missing)
around_of text missing (a ∷ word ∷ b ∷ more ∷ rest) = Err Count
