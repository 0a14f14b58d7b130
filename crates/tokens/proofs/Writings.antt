-- What is written of a number is read back. Assumes nothing.
use Rattle.std.proofs.Common.{◌≡◌, ℕ, zero, suc, ◌-◌, ◌/◌, ◌%◌, ◌^◌, ◌<◌, ◌≤◌, false, List, [], ◌∷◌, ◌++◌, Some, codes, decimal, sym, refl, ap, ◌∙◌, ⊎_elim, append_assoc, append-nil, pow-suc, arith}
use Rattle.std.proofs.lemmas.Nat.{div_below}
use Rattle.std.proofs.lemmas.Fmt.{decimal_is_IsNumeral, digits_is_IsNumeral}
use Rattle.std.specs.Fmt.{digits, digits_onto}
use Rattle.std.proofs.lemmas.Bool.{eq-eqb, ne_eqb, cases_eq, cond-true, cond-false}
use Rattle.std.specs.Char.{digit_char}
use Rattle.tokens.proofs.Readings.{taken}
use Rattle.tokens.specs.Numbers.{reading_of}
use Rattle.tokens.specs.Seeds.{seed_of, hex_digits, seed_text}

-- a decimal number as it is written is read back
pub number_back : (most n : ℕ) → most < 2 ^ 32 → n ≤ most → reading_of 10 most (decimal n) ≡ Some n
number_back most n small within =
    let back = decimal_is_IsNumeral n (omega arith) in
    taken 10 most (decimal n) back.0 (omega (arith, back.1)) ∙ ap Some back.1

no_digits : (k n : ℕ) → n ≡ 0 → hex_digits k n ≡ []
no_digits zero n none = refl
no_digits (suc k) n none = cond-true _ [] _ (eq-eqb n 0 none)

-- k digits are enough for a number below 16 ^ k
digits_are : (k j n : ℕ) (acc : List ℕ) → 0 < n → n < 16 ^ k → k ≤ j → digits_onto j 16 false n acc ≡ hex_digits k n ++ acc
digits_are zero j n acc some small room = absurd (omega arith)
digits_are (suc k) zero n acc some small room = absurd (omega arith)
digits_are (suc k) (suc j) n acc some small room =
    let last = digit_char (n % 16) in
    let spelled : hex_digits (suc k) n ++ acc ≡ hex_digits k (n / 16) ++ last ∷ acc =
    ap (λ (l : List ℕ). l ++ acc) (cond-false _ [] _ (ne_eqb n 0 (omega arith))) ∙ append_assoc (hex_digits k (n / 16)) (last ∷ []) acc in
    ⊎_elim
    (λ (none : n / 16 ≡ 0). cond-true _ _ _ (eq-eqb _ 0 none) ∙ ap (λ (l : List ℕ). l ++ last ∷ acc) (sym (no_digits k (n / 16) none)) ∙ sym spelled)
    (λ (more : n / 16 ≡ 0 → ⊥).
    cond-false _ _ _ (ne_eqb _ 0 more)
    ∙ digits_are k j (n / 16) (last ∷ acc) (omega arith) (div_below n 16 (16 ^ k) (omega arith) (omega (arith, pow-suc 16 k))) (omega arith)
    ∙ sym spelled)
    (cases_eq (n / 16) 0)

as_digits : (n : ℕ) → digits 16 false n ≡ digits_onto 64 16 false n []
unfolding digits
as_digits n = refl

-- how a seed is written
pub seed_text_is : (n : ℕ) → n < 2 ^ 64 → digits 16 false n ≡ seed_text n
seed_text_is n small =
    ⊎_elim
    (λ (none : n ≡ 0). ap (digits 16 false) none ∙ as_digits 0 ∙ sym (cond-true _ (codes "0") _ (eq-eqb n 0 none)))
    (λ (some : n ≡ 0 → ⊥).
    as_digits n ∙ digits_are 16 64 n [] (omega arith) (omega arith) (omega arith) ∙ append-nil (hex_digits 16 n) ∙ sym (cond-false _ (codes "0") _ (ne_eqb n 0 some)))
    (cases_eq n 0)

-- a seed as it is written is read back
pub seed_back : (n : ℕ) → n < 2 ^ 64 → seed_of (seed_text n) ≡ Some n
seed_back n small =
    let back = digits_is_IsNumeral 16 false (omega arith) (omega arith) n (omega arith) in
    ap seed_of (sym (seed_text_is n small)) ∙ taken 16 (2 ^ 64 - 1) (digits 16 false n) back.0 (omega (arith, back.1)) ∙ ap Some back.1
