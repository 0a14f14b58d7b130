-- How a line is cut into its words. Assumes nothing.
use Rattle.std.proofs.Common.{◌≡◌, ℕ, suc, ◌+◌, ◌≤◌, Bool, true, false, cond, not, eqb, ltb, List, [], ◌∷◌, ◌++◌, length, take, Some, None, Option, sym, refl, ap, ◌∙◌, append_assoc, append-nil, arith}
use Rattle.std.proofs.lemmas.Bool.{ne_eqb}
use Rattle.std.proofs.lemmas.Bool.Decides.{nat_tests}
use Rattle.std.specs.List.{before_first, position_or_len, slice_split, onto_first, filter}
use Rattle.std.specs.Option.{unwrap_or}
use Rattle.tokens.specs.Words.{blank, uncommented, whole, words_after}

pub uncommented_is : (line : List ℕ) → before_first (λ b. eqb b 35) line ≡ uncommented line
uncommented_is [] = refl
uncommented_is (b ∷ line) = by (eqb b 35) (uncommented_is line)
  where
    by : (t : Bool) → before_first (λ b. eqb b 35) line ≡ uncommented line → take (cond (not t) (1 + position_or_len (λ b. eqb b 35) line) 0) (b ∷ line) ≡ cond t [] (b ∷ uncommented line)
    by true is = refl
    by false is =
        let longer : 1 + position_or_len (λ b. eqb b 35) line ≡ suc (position_or_len (λ b. eqb b 35) line) = omega arith in
        ap (λ (k : ℕ). take k (b ∷ line)) longer ∙ ap (λ (l : List ℕ). b ∷ l) is

-- a place that may lack, and the end in its stead
pub place_or_end : (p n : ℕ) (r : Option ℕ) → p ≤ n → r ≡ cond (ltb p n) (Some p) None → unwrap_or r n ≡ p
place_or_end p n (Some k) low is = grind (arith, nat_tests)
place_or_end p n None low is = grind (arith, nat_tests)

abbrev pub some : List ℕ → Bool
some w = not (eqb (length w) 0)

-- the first part goes on with the word begun
abbrev attached : List ℕ → List (List ℕ) → List (List ℕ)
attached begun [] = begun ∷ []
attached begun (w ∷ ws) = (begun ++ w) ∷ ws

one_whole : (w : List ℕ) (ws : List (List ℕ)) → whole w ++ filter some ws ≡ filter some (w ∷ ws)
one_whole [] ws = refl
one_whole (b ∷ w) ws = ap (λ (t : Bool). cond (not t) ((b ∷ w) ∷ filter some ws) (filter some ws)) (sym (ne_eqb (length (b ∷ w)) 0 (omega arith)))

attached_none : (ws : List (List ℕ)) → filter some (attached [] ws) ≡ filter some ws
attached_none [] = refl
attached_none (w ∷ ws) = refl

attached_one : (begun : List ℕ) (b : ℕ) (ws : List (List ℕ)) → attached (begun ++ b ∷ []) ws ≡ attached begun (onto_first b ws)
attached_one begun b [] = refl
attached_one begun b (w ∷ ws) = ap (λ (v : List ℕ). v ∷ ws) (append_assoc begun (b ∷ []) w)

parts_after : (begun bs : List ℕ) → filter some (attached begun (slice_split blank bs)) ≡ words_after begun bs
parts_after begun [] = ap (λ (w : List ℕ). filter some (w ∷ [])) (append-nil begun) ∙ sym (one_whole begun []) ∙ append-nil (whole begun)
parts_after begun (b ∷ bs) = by (blank b) (parts_after [] bs) (parts_after (begun ++ b ∷ []) bs)
  where
    by : (t : Bool) → filter some (attached [] (slice_split blank bs)) ≡ words_after [] bs → filter some (attached (begun ++ b ∷ []) (slice_split blank bs)) ≡ words_after (begun ++ b ∷ []) bs
        → filter some (attached begun (cond t ([] ∷ slice_split blank bs) (onto_first b (slice_split blank bs)))) ≡ cond t (whole begun ++ words_after [] bs) (words_after (begun ++ b ∷ []) bs)
    by true ends goes_on =
        ap (λ (w : List ℕ). filter some (w ∷ slice_split blank bs)) (append-nil begun)
        ∙ sym (one_whole begun (slice_split blank bs))
        ∙ ap (λ (ws : List (List ℕ)). whole begun ++ ws) (sym (attached_none (slice_split blank bs)) ∙ ends)
    by false ends goes_on = ap (filter some) (sym (attached_one begun b (slice_split blank bs))) ∙ goes_on

-- the parts between the blanks, without the empty ones, are the words of a text
pub parts_are : (bs : List ℕ) → filter some (slice_split blank bs) ≡ words_after [] bs
parts_are bs = sym (attached_none (slice_split blank bs)) ∙ parts_after [] bs
