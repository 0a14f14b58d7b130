-- One digit after another gives the number of a word, and a numeral is read as its value. Assumes nothing.
use Rattle.std.proofs.Common.{◌≡◌, ℕ, ◌+◌, ◌*◌, ◌<◌, ◌≤◌, Bool, true, false, cond, ◌&&◌, ltb, leb, List, [], ◌∷◌, length, get_or, drop, Some, None, Ok, Err, Option, Result, MatchResult, sym, refl, ap, ◌∙◌, le-mul_of_pos_right, arith}
use Rattle.std.proofs.lemmas.Bool.{and_right, le-leb, lt-leb, lt-ltb, le-ltb, leb-true}
use Rattle.std.proofs.lemmas.Bool.Decides.{Decides-and, Decides-like, Decides-ltb}
use Rattle.std.proofs.lemmas.List.{at_drop_more, at_drop_all}
use Rattle.std.specs.Bool.{Decides}
use Rattle.std.specs.Char.{digit_value}
use Rattle.std.specs.Result.{result_ok}
use Rattle.std.specs.Str.Parse.{AllDigits, IsNumeral, digits_value, digits_value_after}
use Rattle.tokens.specs.Numbers.{all_digits, numeral, reading_of}

-- ---- a numeral

digits_decide : (base : ℕ) (bs : List ℕ) → Decides (all_digits base bs) (AllDigits base bs)
digits_decide base [] = ((λ _. tt), (λ _. refl))
digits_decide base (b ∷ bs) = Decides-and (ltb (digit_value b) base) (all_digits base bs) (Decides-ltb (digit_value b) base) (digits_decide base bs)

numeral_decides : (base : ℕ) (bs : List ℕ) → Decides (numeral base bs) (IsNumeral base bs)
numeral_decides base [] = ((λ is. absurd (cc)), (λ (some, digits). absurd (omega arith)))
numeral_decides base (b ∷ bs) = Decides-like (all_digits base (b ∷ bs)) (λ digits. (omega arith, digits)) (λ (some, digits). digits) (digits_decide base (b ∷ bs))

read_decides : (base most : ℕ) (bs : List ℕ) → Decides (numeral base bs && leb (digits_value base bs) most) (IsNumeral base bs × (digits_value base bs ≤ most))
read_decides base most bs = Decides-and (numeral base bs) (leb (digits_value base bs) most) (numeral_decides base bs) (leb-true _ _, le-leb _ _)

-- a numeral up to the limit is read as its value
pub taken : (base most : ℕ) (bs : List ℕ) → IsNumeral base bs → digits_value base bs ≤ most → reading_of base most bs ≡ Some (digits_value base bs)
taken base most bs is within = ap (λ (t : Bool). cond t (Some (digits_value base bs)) None) ((read_decides base most bs).1 (is, within))

-- ---- digit by digit

-- the number of a word where n is what its digits so far write
abbrev pub reading_after : ℕ → ℕ → ℕ → List ℕ → Option ℕ
reading_after base n most bs = cond (all_digits base bs && leb (digits_value_after base n bs) most) (Some (digits_value_after base n bs)) None

pub from_start : (base most : ℕ) (bs : List ℕ) → (length bs ≡ 0 → ⊥) → reading_after base 0 most bs ≡ reading_of base most bs
from_start base most [] some = absurd (some refl)
from_start base most (b ∷ bs) some = refl

-- the word where its first byte is a digit or not, and n is what the digits up to it write
abbrev with_first : Bool → ℕ → ℕ → ℕ → List ℕ → Option ℕ
with_first digit base n most rest = cond ((digit && all_digits base rest) && leb (digits_value_after base n rest) most) (Some (digits_value_after base n rest)) None

-- the byte at i of the word, and its code as a character
module _ (base n most i : ℕ) (w : List ℕ) (code : ℕ) (within : i < length w) (at : code ≡ get_or w i 0) where
  opened : (t : Bool) → t ≡ ltb (digit_value code) base → with_first t base (n * base + digit_value code) most (drop (i + 1) w) ≡ reading_after base n most (drop i w)
  opened t is =
      ap (λ (d : Bool). with_first d base (n * base + digit_value code) most (drop (i + 1) w)) is
      ∙ ap (λ (k : ℕ). with_first (ltb (digit_value k) base) base (n * base + digit_value k) most (drop (i + 1) w)) at
      ∙ sym (at_drop_more (reading_after base n most) w i 0 within)

  -- a digit is taken in
  pub one_digit : (v d : ℕ) → (digit_value code < base) × (d ≡ digit_value code) → v ≡ n * base + d → reading_after base v most (drop (i + 1) w) ≡ reading_after base n most (drop i w)
  one_digit v d (digit, is) all =
      ap (λ (k : ℕ). reading_after base k most (drop (i + 1) w)) (all ∙ ap (λ (k : ℕ). n * base + k) is)
      ∙ opened true (sym (lt-ltb _ base digit))

  -- a byte that is no digit spoils the word
  pub no_digit : (digit_value code < base → ⊥) → None ≡ reading_after base n most (drop i w)
  no_digit other = opened false (sym (le-ltb _ base (omega arith)))

pub at_end : (base n most i : ℕ) (w : List ℕ) → n ≤ most → length w ≤ i → Some n ≡ reading_after base n most (drop i w)
at_end base n most i w within past =
    ap (λ (d : Bool). cond d (Some n) None) (sym (le-leb n most within)) ∙ sym (at_drop_all (reading_after base n most) w i past)

grows : (base n : ℕ) (bs : List ℕ) → 0 < base → n ≤ digits_value_after base n bs
grows base n [] some = omega arith
grows base n (b ∷ bs) some = omega (arith, le-mul_of_pos_right {m = base} n some, grows base (n * base + digit_value b) bs some)

pub too_large : (base n most : ℕ) (bs : List ℕ) → 0 < base → most < n → reading_after base n most bs ≡ None
too_large base n most bs some above =
    ap (λ (d : Bool). cond d (Some (digits_value_after base n bs)) None) (and_right _ _ (lt-leb (digits_value_after base n bs) most (omega (arith, grows base n bs some))))

-- ---- texts

-- what a clause says of a result that was passed on as an option
pub refused : {X E : Type 0} (r : Result X E) (P : X → Type 0) (Q : E → Type 0) → MatchResult r P Q → None ≡ result_ok r → (e : E) × Q e
refused (Ok x) P Q h none = absurd (cc)
refused (Err e) P Q h none = (e, h)
