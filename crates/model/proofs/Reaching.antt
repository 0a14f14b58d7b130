-- Counting arrows is enough to know whether a way leads to a vertex without one. Assumes nothing.
use Rattle.std.proofs.Common.{◌≡◌, ℕ, zero, suc, ◌<◌, ◌≤◌, true, eqb, List, [], ◌∷◌, length, Some, None, Option, refl, ap, ◌∙◌, inl, inr, ⊎_elim, arith}
use Rattle.std.proofs.lemmas.Bool.{eqb-true, eq-eqb, or_cases, or_left, or_right, false≢true}
use Rattle.model.specs.Picks.{passes}
use Rattle.model.specs.Ways.{Way, Leads}
use Rattle.model.specs.Trees.{comes_to}
use Rattle.model.proofs.Pigeons.{pigeons}
use Rattle.model.proofs.Ways.{lead_on, way_all, way_distinct, way_fresh}

module _ (f : ℕ → Option ℕ) (w : ℕ) where
  comes_here : (k v : ℕ) → v ≡ w → comes_to f w k v ≡ true
  comes_here zero v here = eq-eqb v w here
  comes_here (suc k) v here = or_left (eqb v w) _ (eq-eqb v w here)

  comes_on : (k u v : ℕ) → f u ≡ Some v → comes_to f w k v ≡ true → comes_to f w (suc k) u ≡ true
  comes_on k u v arrow rest = or_right (eqb u w) _ (ap (λ o. passes o (λ x. comes_to f w k x)) arrow ∙ rest)

  -- as many arrows as the way has suffice, and so do more
  comes_along : (k u : ℕ) (xs : List ℕ) → length xs < k → Way f u xs w → comes_to f w k u ≡ true
  comes_along zero u xs short way = absurd (omega arith)
  comes_along (suc k) u [] short way = comes_on k u w way (comes_here k w refl)
  comes_along (suc k) u (x ∷ xs) short (first, way) = comes_on k u x first (comes_along k x xs (omega arith) way)

  -- what counting finds is a way
  pub leads : (k v : ℕ) → comes_to f w k v ≡ true → Leads f v w
  leads zero v came = inl (eqb-true v w came)
  leads (suc k) v came = ⊎_elim (λ here. inl (eqb-true v w here)) (next (f v) refl (leads k)) (or_cases (eqb v w) _ came)
    where
      next : (o : Option ℕ) → f v ≡ o → ((x : ℕ) → comes_to f w k x ≡ true → Leads f x w) → passes o (λ x. comes_to f w k x) ≡ true → Leads f v w
      next None none on never = absurd (false≢true never)
      next (Some x) arrow on rest = lead_on f v x w arrow (on x rest)

  -- where the arrows lead below n and none leads on from w, n arrows suffice
  pub comes : (n : ℕ) → ((u v : ℕ) → f u ≡ Some v → v < n) → f w ≡ None → (v : ℕ) → v < n → Leads f v w → comes_to f w n v ≡ true
  comes n below ends v in_plan (inl here) = comes_here n v here
  comes n below ends v in_plan (inr (xs, way)) =
      let few : length (v ∷ xs) ≤ n = pigeons n (v ∷ xs) (in_plan, way_all f (λ x. x < n) below v xs w way) (way_distinct f v xs w (way_fresh f w ends v xs way) way) in
      comes_along n v xs (omega arith) way
