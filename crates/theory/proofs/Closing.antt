-- Following arrows from a vertex either closes or ends, and never both; where it closes there is one cycle. Assumes nothing.
use Rattle.std.proofs.Common.{◌≡◌, ℕ, suc, ◌<◌, ◌≤◌, true, ◌⊎◌, List, [], ◌∷◌, ◌++◌, length, Some, None, Option, sym, subst, inl, inr, ⊎_elim, arith}
use Rattle.std.proofs.lemmas.Bool.{cases_Bool}
use Rattle.model.specs.Ways.{Way, Leads}
use Rattle.model.proofs.Ways.{none_some, same_some, lead_along, way_more, way_all, way_distinct, no_loop}
use Rattle.theory.specs.Cycles.{among}
use Rattle.theory.specs.Laws.{Loops, Rounds, RunsOut, Closes}
use Rattle.theory.proofs.Cycles.{among_here, way_rest, cycle_leads, cycles_meet}
use Rattle.theory.proofs.Trails.{off_fresh}
use Rattle.model.proofs.Pigeons.{pigeons}

module _ (g : ℕ → Option ℕ) where
  -- ---- leads

  -- one arrow more at the end
  pub lead_more : (u v w : ℕ) → Leads g u v → g v ≡ Some w → Leads g u w
  lead_more u v w (inl e) arrow = inr ([], subst (λ z. g z ≡ Some w) (sym e) arrow)
  lead_more u v w (inr (xs, way)) arrow = inr (xs ++ v ∷ [], way_more g u xs v w way arrow)

  pub lead_join : (u v w : ℕ) → Leads g u v → Leads g v w → Leads g u w
  lead_join u v w (inl e) rest = subst (λ z. Leads g z w) (sym e) rest
  lead_join u v w (inr (xs, way)) rest = lead_along g u xs v w way rest

  -- of two vertices to which u leads, one leads to the other
  ahead : (u : ℕ) (xs : List ℕ) (x y : ℕ) → Way g u xs x → (ys : List ℕ) → Way g u ys y → Leads g x y ⊎ Leads g y x
  ahead u [] x y way [] last = inl (inl (same_some (g u) x y way last))
  ahead u [] x y way (z ∷ zs) (first, rest) = inl (inr (zs, subst (λ t. Way g t zs y) (same_some (g u) z x first way) rest))
  ahead u (s ∷ ss) x y (first, way) [] last = inr (inr (ss, subst (λ t. Way g t ss x) (same_some (g u) s y first last) way))
  ahead u (s ∷ ss) x y (first, way) (z ∷ zs) (second, rest) = ahead s ss x y way zs (subst (λ t. Way g t zs y) (same_some (g u) z s second first) rest)

  pub linear : (u x y : ℕ) → Leads g u x → Leads g u y → Leads g x y ⊎ Leads g y x
  linear u x y (inl e) to_y = inl (subst (λ z. Leads g z y) e to_y)
  linear u x y (inr (xs, way)) (inl e) = inr (subst (λ z. Leads g z x) e (inr (xs, way)))
  linear u x y (inr (xs, way)) (inr (ys, other)) = ahead u xs x y way ys other

  -- ---- closing and ending

  stays : (y x : ℕ) → g y ≡ None → Leads g y x → y ≡ x
  stays y x none (inl e) = e
  stays y x none (inr ([], arrow)) = absurd (none_some (g y) x none arrow)
  stays y x none (inr (z ∷ zs, (arrow, way))) = absurd (none_some (g y) z none arrow)

  pub not_both : (v c : ℕ) → Rounds g v c → RunsOut g v → ⊥
  not_both v c (to_c, (xs, loop)) (y, to_y, none) =
      no_loop g y none c xs loop (⊎_elim (λ on. on) (λ back. inl (sym (stays y c none back))) (linear v c y to_c to_y))

  -- the loop goes on from the next vertex, which leads back
  next_loop : (u s : ℕ) → Loops g u → g u ≡ Some s → Loops g s × Leads g s u
  next_loop u s ([], loop) arrow = let e : u ≡ s = same_some (g u) u s loop arrow in (subst (λ z. Loops g z) e ([], loop), inl (sym e))
  next_loop u s (z ∷ zs, (first, rest)) arrow =
      let on : Way g s zs u = subst (λ t. Way g t zs u) (same_some (g u) z s first arrow) rest in
      ((zs ++ u ∷ [], way_more g s zs u s on arrow), inr (zs, on))

  back_along : (u : ℕ) (ys : List ℕ) (x : ℕ) → Loops g u → Way g u ys x → Leads g x u
  back_along u [] x loop arrow = (next_loop u x loop arrow).1
  back_along u (s ∷ ss) x loop (arrow, way) =
      let (again, to_u) = next_loop u s loop arrow in
      lead_join x s u (back_along s ss x again way) to_u

  -- a vertex on a loop is led back to
  pub back : (u x : ℕ) → Loops g u → Leads g u x → Leads g x u
  back u x loop (inl e) = inl (sym e)
  back u x loop (inr (ys, way)) = back_along u ys x loop way

  -- ---- the cycle that is come to

  pub closes_rounds : (v : ℕ) (c : List ℕ) → Closes g v c → (m : ℕ) × (among m c ≡ true) × Rounds g v m
  closes_rounds v [] (cyc, some) = absurd cyc
  closes_rounds v (m ∷ rest) ((way, low), (x, on, to_x)) =
      (m, among_here m rest, (lead_join v x m to_x (inr (way_rest g m rest m x way on)), (rest, way)))

  -- a loop that v comes to is on it
  pub rounds_on : (v c : ℕ) (cyc : List ℕ) → Rounds g v c → Closes g v cyc → among c cyc ≡ true
  rounds_on v c cyc (to_c, loop) (is_cycle, (x, on, to_x)) =
      cycle_leads g cyc x c is_cycle on (⊎_elim (λ x_c. x_c) (back c x loop) (linear v x c to_x to_c))

  pub closes_once : (v : ℕ) (c d : List ℕ) → Closes g v c → Closes g v d → c ≡ d
  closes_once v c d left right =
      let (m, on, rounds) = closes_rounds v c left in
      cycles_meet g c d m left.0 right.0 on (rounds_on v m d rounds right)

  -- a way of as many arrows as there are vertices has come round
  pub long_loops : (n : ℕ) → ((u w : ℕ) → g u ≡ Some w → w < n) → (v : ℕ) (xs : List ℕ) (w : ℕ) → v < n → n ≤ suc (length xs) → Way g v xs w → Loops g w
  long_loops n to v xs w low long way = ⊎_elim
      (way_rest g v xs w w way)
      (λ off.
      let fresh = off_fresh w (v ∷ xs) off in
      let here : w < n = last v xs way in
      let few : length (w ∷ v ∷ xs) ≤ n = pigeons n (w ∷ v ∷ xs) (here, (low, way_all g (λ x. x < n) to v xs w way)) (fresh, way_distinct g v xs w fresh.1 way) in
      absurd (omega arith))
      (cases_Bool (among w (v ∷ xs)))
    where
      last : (u : ℕ) (ys : List ℕ) → Way g u ys w → w < n
      last u [] arrow = to u w arrow
      last u (y ∷ ys) (arrow, rest) = last y ys rest
