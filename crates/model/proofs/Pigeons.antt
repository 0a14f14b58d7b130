-- Different numbers below n are at most n. Assumes nothing.
use Rattle.std.proofs.Common.{◌≡◌, ℕ, ◌<◌, ◌≤◌, true, false, eqb, List, [], ◌∷◌, length, sym, subst, ⊎_elim, ◌≢◌}
use Rattle.std.specs.List.{AllByRecursion, IsDistinct, list_any}
use Rattle.std.proofs.ByRecursion.{All-weaker}
use Rattle.std.proofs.lemmas.Bool.{eqb-true, false≢true, ne_eqb, or_cases}
use Rattle.std.proofs.lemmas.Map.Keys.{IsDistinct-cons}
use Rattle.std.proofs.lemmas.Map.Steps.{length-le_from_distinct_below}
use Rattle.model.specs.Distinct.{Distinct}

apart : (xs : List ℕ) → Distinct xs → IsDistinct eqb xs
unfolding IsDistinct
apart [] d = tt
apart (x ∷ xs) (fresh, d) = IsDistinct-cons eqb x xs (All-weaker (λ y. x ≢ y) (λ y. eqb x y ≡ false) (ne_eqb x) xs fresh) (apart xs d)

found_below : (n : ℕ) (xs : List ℕ) → AllByRecursion (λ x. x < n) xs → (q : ℕ) → list_any (eqb q) xs ≡ true → q < n
found_below n [] below q found = absurd (false≢true found)
found_below n (x ∷ xs) (lt, below) q found =
    ⊎_elim (λ here. subst (λ y. y < n) (sym (eqb-true q x here)) lt) (found_below n xs below q) (or_cases (eqb q x) _ found)

pub pigeons : (n : ℕ) (xs : List ℕ) → AllByRecursion (λ x. x < n) xs → Distinct xs → length xs ≤ n
pigeons n xs below d = length-le_from_distinct_below xs n (apart xs d) (found_below n xs below)
