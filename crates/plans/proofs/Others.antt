-- Which vertex stands where among the others. Assumes nothing.
use Rattle.std.proofs.Common.{◌≡◌, ℕ, ◌+◌, ◌-◌, ◌<◌, ◌≤◌, cond, ltb, length, get_or, Some, sym, ap, ◌∙◌, ⊎_elim, arith}
use Rattle.plans.specs.Completes.{others}
use Rattle.plans.specs.Others.{others_split, others_length, others_none}
use Rattle.std.proofs.lemmas.List.FromFn.{length-range_with_len, get_or-range_with_len}
use Rattle.std.proofs.lemmas.List.{get_or_append_left, get_or-append_right}
use Rattle.std.proofs.lemmas.Option.{slice_get-get_or}
use Rattle.std.proofs.lemmas.Bool.{cases_lt, cond-true, cond-false, lt-ltb, le-ltb}
use Rattle.std.specs.List.{range_with_len, slice_get}

-- all vertices but v, or none where v is no vertex
pub others_count : (n v : ℕ) → length (others n v) ≡ cond (ltb v n) (n - 1) 0
others_count n v =
    ⊎_elim
    (λ within. others_length n v within ∙ sym (cond-true (ltb v n) (n - 1) 0 (lt-ltb v n within)))
    (λ past. ap length (others_none n v past) ∙ sym (cond-false (ltb v n) (n - 1) 0 (le-ltb v n past)))
    (cases_lt v n)

-- v is a vertex if others are counted at it
pub others_within : (n v i : ℕ) → i < length (others n v) → v < n
others_within n v i there = ⊎_elim (λ within. within) (λ past. absurd (omega (arith, ap length (others_none n v past)))) (cases_lt v n)

-- below v the vertices stand at the place of their number
below_v : (n v i : ℕ) → v < n → i < v → get_or (others n v) i 0 ≡ i
below_v n v i within low =
    let front : i < length (range_with_len 0 v) = omega (arith, length-range_with_len 0 v) in
    ap (λ ws. get_or ws i 0) (others_split n v within) ∙ get_or_append_left (range_with_len 0 v) (range_with_len (v + 1) (n - 1 - v)) 0 i front
    ∙ get_or-range_with_len 0 v i 0 low ∙ omega arith

-- above v they stand one place lower
above_v : (n v i : ℕ) → v < n → v ≤ i → i < n - 1 → get_or (others n v) i 0 ≡ i + 1
above_v n v i within high less =
    ap (λ ws. get_or ws i 0) (others_split n v within)
    ∙ get_or-append_right (range_with_len 0 v) (range_with_len (v + 1) (n - 1 - v)) v i 0 (length-range_with_len 0 v) high
    ∙ get_or-range_with_len (v + 1) (n - 1 - v) (i - v) 0 (omega arith) ∙ omega arith

pub nth_others : (n v i : ℕ) → i < length (others n v) → slice_get (others n v) i ≡ Some (cond (ltb i v) i (i + 1))
nth_others n v i there =
    let within : v < n = others_within n v i there in
    let less : i < n - 1 = omega (arith, others_length n v within) in
    let read : get_or (others n v) i 0 ≡ cond (ltb i v) i (i + 1) =
    ⊎_elim
    (λ low. below_v n v i within low ∙ sym (cond-true (ltb i v) i (i + 1) (lt-ltb i v low)))
    (λ high. above_v n v i within high less ∙ sym (cond-false (ltb i v) i (i + 1) (le-ltb i v high)))
    (cases_lt i v) in
    slice_get-get_or (others n v) i 0 there ∙ ap (λ w. Some w) read
