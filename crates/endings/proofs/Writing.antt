-- Loops over the entries of a draw and over a buffer. Assumes nothing.
use Rattle.std.proofs.Common.{◌≡◌, ℕ, zero, suc, ◌+◌, ◌<◌, Bool, true, false, cond, ◌&&◌, List, [], ◌∷◌, ◌++◌, map, length, get_or, drop, set, Some, None, refl, sym, ap, ◌∙◌, arith}
use Rattle.std.proofs.lemmas.List.FromFn.{map-range_with_len_more, length-map-range_with_len}
use Rattle.std.proofs.lemmas.List.Folds.{find-append}
use Rattle.std.proofs.lemmas.List.{append_assoc, drop_more, set_at, map-id}
use Rattle.std.specs.List.{range_with_len, find, list_all}
use Rattle.std.specs.Option.{option_or}
use Rattle.model.specs.Picks.{lowest}
use Rattle.model.specs.declared.draw.Entry.{Entry}
use Rattle.theory.specs.Calls.{none_open}

-- none is open where all are settled
pub none_open_is : (es : List Entry) → none_open es ≡ list_all (λ e. e.settled) es
none_open_is [] = refl
none_open_is (e ∷ es) = by e.settled (none_open_is es)
  where
    by : (b : Bool) → none_open es ≡ list_all (λ e. e.settled) es → cond b (none_open es) false ≡ (b && list_all (λ e. e.settled) es)
    by true is = is
    by false is = refl

-- the lowest number that passes is the first that is found
pub lowest_finds : (test : ℕ → Bool) (n : ℕ) → find test (range_with_len 0 n) ≡ lowest test n
lowest_finds test zero = refl
lowest_finds test (suc n) =
    let one_more : range_with_len 0 (n + 1) ≡ range_with_len 0 n ++ n ∷ [] = sym (map-id _) ∙ map-range_with_len_more (λ (x : ℕ). x) 0 n n (omega arith) ∙ ap (λ (xs : List ℕ). xs ++ n ∷ []) (map-id _) in
    ap (λ m. find test (range_with_len 0 m)) (let e : suc n ≡ n + 1 = omega arith in e)
    ∙ ap (find test) one_more
    ∙ find-append test (range_with_len 0 n) (n ∷ [])
    ∙ ap (λ o. option_or o (cond (test n) (Some n) None)) (lowest_finds test n)

-- one more number of a function's is written over the old ones
pub one_more : (f : ℕ → ℕ) (v x : ℕ) (xs old : List ℕ) → v < length old → xs ≡ map f (range_with_len 0 v) ++ drop v old → x ≡ f v → set xs v x ≡ map f (range_with_len 0 (v + 1)) ++ drop (v + 1) old
one_more f v x xs old inside is here =
    let front = map f (range_with_len 0 v) in
    ap (λ (ys : List ℕ). set ys v x) is
    ∙ ap (λ (ys : List ℕ). set (front ++ ys) v x) (drop_more old v 0 inside)
    ∙ set_at front (get_or old v 0) (drop (v + 1) old) x v (length-map-range_with_len f 0 v)
    ∙ ap (λ (y : ℕ). front ++ y ∷ drop (v + 1) old) here
    ∙ sym (append_assoc front (f v ∷ []) (drop (v + 1) old))
    ∙ ap (λ (ys : List ℕ). ys ++ drop (v + 1) old) (sym (map-range_with_len_more f 0 v v (omega arith)))
