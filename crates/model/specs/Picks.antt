-- Small means that the definitions share: going on from an answer that there may be, and the lowest number that passes a test. Assumes nothing.
use Rattle.std.specs.Prelude.{ℕ, zero, suc, Bool, cond, Some, None, Option}
use Rattle.std.specs.Option.{option_or}

-- goes on with the value, if there is one
abbrev pub then : {A B : Type 0} → Option A → (A → Option B) → Option B
then None f = None
then (Some x) f = f x

-- a test of the value; false where there is none
abbrev pub passes : {A : Type 0} → Option A → (A → Bool) → Bool
passes None t = Bool.false
passes (Some x) t = t x

-- the answer at the lowest number below n that has one
abbrev pub first : {A : Type 0} → (ℕ → Option A) → ℕ → Option A
first g zero = None
first g (suc n) = option_or (first g n) (g n)

-- the lowest number below n that passes the test
abbrev pub lowest : (ℕ → Bool) → ℕ → Option ℕ
lowest test n = first (λ v. cond (test v) (Some v) None) n
