-- Going once round a cycle from any of its vertices comes by the lowest. Assumes nothing.
use Rattle.std.proofs.Common.{◌≡◌, ℕ, suc, ◌+◌, ◌<◌, ◌≤◌, min, true, false, ◌⊎◌, List, [], ◌∷◌, length, Some, None, Option, sym, ap, ◌∙◌, subst, inl, inr, ⊎_elim, arith, length-append}
use Rattle.std.proofs.lemmas.Bool.{cases_lt, both_ways, or_parts}
use Rattle.model.specs.Ways.{Way}
use Rattle.model.proofs.Ways.{none_some, same_some}
use Rattle.theory.specs.Cycles.{among, Cycle}
use Rattle.theory.specs.Draws.{from_on, up_to}
use Rattle.theory.proofs.Cycles.{among_here, cycle_next, cycle_low, cycle_distinct, cycle_arrow}
use Rattle.theory.proofs.Trails.{cut_at, from_fresh, fresh_off, parts}

-- a cycle of at most n vertices from its lowest, m, with the start on it
module _ (arrow : ℕ → Option ℕ) (n start m : ℕ) (rest : List ℕ) (cyc : Cycle arrow (m ∷ rest)) where
  -- the lowest so far is the lowest of all, or the way goes on to that without coming by the start
  abbrev Toward : ℕ → ℕ → ℕ → Type 0
  Toward here low gone = (low ≡ m) ⊎ ((zs : List ℕ) × Way arrow here zs m × (among start zs ≡ false) × (gone + length zs < n))

  pub record Lowering (here low gone : ℕ) : Type 0 where
    pub here_on : among here (m ∷ rest) ≡ true
    pub low_on : among low (m ∷ rest) ≡ true
    pub toward : Toward here low gone

  pub begins : among start (m ∷ rest) ≡ true → length (m ∷ rest) ≤ n → Lowering start start 0
  begins on few =
      let (ys, is, way, before) = cut_at arrow start m rest m on cyc.0 in
      let whole : length (up_to start (m ∷ rest)) + length (from_on start (m ∷ rest)) ≡ length (m ∷ rest) = sym (length-append (up_to start (m ∷ rest)) (from_on start (m ∷ rest))) ∙ ap length (parts start (m ∷ rest)) in
      let behind : length (from_on start (m ∷ rest)) ≡ suc (length ys) = ap length is in
      record {
        here_on = on;
        low_on = on;
        toward = inr (ys, way, fresh_off start ys (from_fresh start (m ∷ rest) ys (cycle_distinct arrow (m ∷ rest) cyc) is), omega arith);
      }

  module _ (here low gone : ℕ) (l : Lowering here low gone) where
    pub not_out : arrow here ≡ None → ⊥
    not_out none = let (y, on) = cycle_arrow arrow (m ∷ rest) here cyc l.here_on in none_some (arrow here) y none on

    -- once round
    pub all_round : n ≤ gone → low ≡ m
    all_round long = by l.toward
      where
        by : Toward here low gone → low ≡ m
        by (inl e) = e
        by (inr (zs, way, off, short)) = absurd (omega arith)

    module _ (next : ℕ) (on : arrow here ≡ Some next) where
      next_on : among next (m ∷ rest) ≡ true
      next_on = cycle_next arrow (m ∷ rest) here next cyc l.here_on on

      -- the next vertex is not the start, which the way to the lowest does not come by
      abbrev Ahead : Type 0
      Ahead = (zs : List ℕ) × Way arrow next zs m × (among start (next ∷ zs) ≡ false) × (gone + 1 + length zs < n)

      lowered : (min low next ≡ m) ⊎ Ahead
      lowered = by l.toward
        where
          by : Toward here low gone → (min low next ≡ m) ⊎ Ahead
          by (inl e) = inl (omega (arith, cycle_low arrow m rest next cyc next_on))
          by (inr ([], last, off, short)) = inl (omega (arith, cycle_low arrow m rest low cyc l.low_on, same_some (arrow here) next m on last))
          by (inr (z ∷ zs, (first, way), off, short)) =
              let e : z ≡ next = same_some (arrow here) z next first on in
              inr (zs, subst (λ t. Way arrow t zs m) e way, subst (λ t. among start (t ∷ zs) ≡ false) e off, omega arith)

      pub back_at_start : next ≡ start → min low next ≡ m
      back_at_start same = ⊎_elim (λ e. e) (λ (zs, way, off, short). absurd (both_ways _ off (subst (λ t. among t (next ∷ zs) ≡ true) same (among_here next zs)))) lowered

      pub goes_on : Lowering next (min low next) (gone + 1)
      goes_on = record {
        here_on = next_on;
        low_on = ⊎_elim
            (λ lt. let e : low ≡ min low next = omega arith in subst (λ t. among t (m ∷ rest) ≡ true) e l.low_on)
            (λ ge. let e : next ≡ min low next = omega arith in subst (λ t. among t (m ∷ rest) ≡ true) e next_on)
            (cases_lt low next);
        toward = ⊎_elim inl (λ (zs, way, off, short). inr (zs, way, (or_parts _ _ off).1, short)) lowered;
      }
