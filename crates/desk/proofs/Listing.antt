-- The front of a list. Assumes nothing.
use Rattle.std.proofs.Common.{◌≡◌, ℕ, min, List, length, take, sym, ap, ◌∙◌, ⊎_elim, arith}
use Rattle.std.proofs.lemmas.Bool.{cases_lt}
use Rattle.std.proofs.lemmas.List.{take_all}

-- a front that is cut to the list's length
pub front_cut : {X : Type 0} (n cut : ℕ) (xs : List X) → cut ≡ min n (length xs) → take cut xs ≡ take n xs
front_cut {X} n cut xs is =
    ⊎_elim
    (λ under. let same : cut ≡ n = omega arith in ap (λ (m : ℕ). take m xs) same)
    (λ past. take_all cut xs (omega arith) ∙ sym (take_all n xs past))
    (cases_lt n (length xs))
