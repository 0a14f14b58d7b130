-- How many vertices other than one there are, and that they are vertices. Assumes nothing.
use Rattle.std.specs.Prelude.{◌≡◌, ℕ, zero, suc, ◌+◌, ◌-◌, ◌<◌, ◌≤◌, Bool, true, false, cond, not, List, [], ◌∷◌, ◌++◌, length, filter, ◌==◌, ◌≢◌, nat_lt, refl}
use Rattle.std.proofs.Common.{ap, ◌∙◌, ⊎_elim, arith}
use Rattle.plans.specs.Completes.{others}
use Rattle.std.proofs.lemmas.List.FromFn.{length-range_with_len}
use Rattle.std.proofs.ByRecursion.{all_kept_by}
use Rattle.std.proofs.lemmas.List.{length-append}
use Rattle.std.proofs.lemmas.Bool.{cond-true, cond-false, eq-eqb, ne_eqb, cases_lt, lt-ltb, le-ltb}
use Rattle.std.specs.List.{range_with_len, AllByRecursion}

abbrev but : ℕ → ℕ → Bool
but v w = not (w == v)

-- the first of a row goes where it is v, and stays where it is not
skips : (v a : ℕ) (ws : List ℕ) → a ≡ v → filter (but v) (a ∷ ws) ≡ filter (but v) ws
skips v a ws here = cond-false (but v a) (a ∷ filter (but v) ws) (filter (but v) ws) (ap not (eq-eqb a v here))

stays : (v a : ℕ) (ws : List ℕ) → (a ≢ v) → filter (but v) (a ∷ ws) ≡ a ∷ filter (but v) ws
stays v a ws apart = cond-true (but v a) (a ∷ filter (but v) ws) (filter (but v) ws) (ap not (ne_eqb a v apart))

-- all above v stay
above_stay : (v a n : ℕ) → v < a → filter (but v) (range_with_len a n) ≡ range_with_len a n
above_stay v a zero past = refl
above_stay v a (suc n) past = stays v a (range_with_len (a + 1) n) (λ e. omega arith) ∙ ap (λ ws. a ∷ ws) (above_stay v (a + 1) n (omega arith))

-- with v among a, .., a + k + m, what stays are the k below v and the m above it
split : (v a k m : ℕ) → a + k ≡ v → filter (but v) (range_with_len a (k + suc m)) ≡ range_with_len a k ++ range_with_len (v + 1) m
split v a zero m here =
    let e : a ≡ v = omega arith in
    let one : zero + suc m ≡ suc m = omega arith in
    ap (λ n. filter (but v) (range_with_len a n)) one ∙ skips v a (range_with_len (a + 1) m) e ∙ above_stay v (a + 1) m (omega arith) ∙ ap (λ b. range_with_len (b + 1) m) e
split v a (suc k) m here =
    let one : suc k + suc m ≡ suc (k + suc m) = omega arith in
    ap (λ n. filter (but v) (range_with_len a n)) one ∙ stays v a (range_with_len (a + 1) (k + suc m)) (λ e. omega arith) ∙ ap (λ ws. a ∷ ws) (split v (a + 1) k m (omega arith))

pub others_none : (n v : ℕ) → n ≤ v → others n v ≡ []
others_none n v past = cond-false (nat_lt v n) (filter (but v) (range_with_len 0 n)) [] (le-ltb v n past)

-- the vertices below v, then those above it
pub others_split : (n v : ℕ) → v < n → others n v ≡ range_with_len 0 v ++ range_with_len (v + 1) (n - 1 - v)
others_split n v within =
    let all : n ≡ v + suc (n - 1 - v) = omega arith in
    cond-true (nat_lt v n) (filter (but v) (range_with_len 0 n)) [] (lt-ltb v n within) ∙ ap (λ k. filter (but v) (range_with_len 0 k)) all ∙ split v 0 v (n - 1 - v) (omega arith)

pub others_length : (n v : ℕ) → v < n → length (others n v) ≡ n - 1
others_length n v within =
    ap length (others_split n v within) ∙ length-append (range_with_len 0 v) (range_with_len (v + 1) (n - 1 - v))
    ∙ omega (arith, length-range_with_len 0 v, length-range_with_len (v + 1) (n - 1 - v))

pub others_few : (n : ℕ) → n ≤ 1024 → (v : ℕ) → length (others n v) ≤ 1023
others_few n most v =
    ⊎_elim (λ within. omega (arith, others_length n v within)) (λ past. omega (arith, ap length (others_none n v past))) (cases_lt v n)

counting_below : (a n b : ℕ) → a + n ≤ b → AllByRecursion (λ w. w < b) (range_with_len a n)
counting_below a zero b le = tt
counting_below a (suc n) b le = (omega arith, counting_below (a + 1) n b (omega arith))

-- a row stays below n whether it is chosen or not
pub others_below : (n v : ℕ) → AllByRecursion (λ w. w < n) (others n v)
others_below n v =
    elim (nat_lt v n) as (λ b. AllByRecursion (λ w. w < n) (cond b (filter (but v) (range_with_len 0 n)) [])) [ true ↦ all_kept_by (but v) (λ w. w < n) (range_with_len 0 n) (counting_below 0 n n (omega arith)) | false ↦ tt ]
