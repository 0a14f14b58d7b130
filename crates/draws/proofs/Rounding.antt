-- A way that leaves a mark behind: to meet it again is to have come round, and so is to go as many arrows as there are vertices. Assumes nothing.
use Rattle.std.proofs.Common.{◌≡◌, ℕ, suc, ◌+◌, ◌<◌, ◌≤◌, ◌⊎◌, List, [], ◌∷◌, ◌++◌, length, Some, Option, sym, refl, ap, ◌∙◌, subst, inl, inr, arith, length-append}
use Rattle.model.specs.Ways.{Way, Leads}
use Rattle.model.proofs.Ways.{way_more}
use Rattle.theory.specs.Laws.{Loops, Rounds}
use Rattle.theory.proofs.Closing.{lead_more, lead_join, long_loops}

module _ (arrow : ℕ → Option ℕ) (v : ℕ) where
  -- so many arrows lead from v to here
  abbrev Gone : ℕ → ℕ → Type 0
  Gone here gone = ((gone ≡ 0) × (v ≡ here)) ⊎ ((xs : List ℕ) × Way arrow v xs here × (suc (length xs) ≡ gone))

  -- they do, over the mark
  pub record Walking (mark here gone : ℕ) : Type 0 where
    pub went : Gone here gone
    pub to_mark : Leads arrow v mark
    pub past : Leads arrow mark here

  pub begins : Walking v v 0
  begins = record { went = inl (refl, refl); to_mark = inl refl; past = inl refl }

  module _ (mark here gone : ℕ) (w : Walking mark here gone) where
    to_here : Leads arrow v here
    to_here = lead_join arrow v mark here w.to_mark w.past

    loop_at : arrow here ≡ Some mark → Leads arrow mark here → Loops arrow mark
    loop_at last (inl e) = ([], ap arrow e ∙ last)
    loop_at last (inr (xs, way)) = (xs ++ here ∷ [], way_more arrow mark xs here mark way last)

    pub met : (next : ℕ) → arrow here ≡ Some next → next ≡ mark → Rounds arrow v next
    met next on same = subst (λ z. Rounds arrow v z) (sym same) (w.to_mark, loop_at (on ∙ ap Some same) w.past)

    further : (next : ℕ) → arrow here ≡ Some next → Gone here gone → Gone next (gone + 1)
    further next on (inl (none, e)) = inr ([], subst (λ z. arrow z ≡ Some next) (sym e) on, omega arith)
    further next on (inr (xs, way, long)) = inr (xs ++ here ∷ [], way_more arrow v xs here next way on, omega (arith, length-append xs (here ∷ [])))

    -- the mark stays, or is moved up
    pub walks_on : (next moved : ℕ) → arrow here ≡ Some next → (moved ≡ mark) ⊎ (moved ≡ next) → Walking moved next (gone + 1)
    walks_on next moved on (inl e) = record {
      went = further next on w.went;
      to_mark = subst (λ z. Leads arrow v z) (sym e) w.to_mark;
      past = subst (λ z. Leads arrow z next) (sym e) (lead_more arrow mark here next w.past on);
    }
    walks_on next moved on (inr e) = record {
      went = further next on w.went;
      to_mark = subst (λ z. Leads arrow v z) (sym e) (lead_more arrow v here next to_here on);
      past = inl e;
    }

    pub came_round : (n : ℕ) → ((u t : ℕ) → arrow u ≡ Some t → t < n) → v < n → n ≤ gone → Rounds arrow v here
    came_round n to low long = by w.went
      where
        by : Gone here gone → Rounds arrow v here
        by (inl (none, e)) = absurd (omega arith)
        by (inr (xs, way, count)) = (inr (xs, way), long_loops arrow n to v xs here low (omega arith) way)
