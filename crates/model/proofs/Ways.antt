-- Ways along arrows: how they join, and that only one leads to a vertex without an arrow. Assumes nothing.
use Rattle.std.proofs.Common.{◌≡◌, ℕ, ◌<◌, List, [], ◌∷◌, ◌++◌, length, Some, None, Option, sym, refl, ap, ◌∙◌, subst, inl, inr, arith, length-append}
use Rattle.std.specs.List.{AllByRecursion}
use Rattle.std.proofs.ByRecursion.{All-weaker}
use Rattle.model.specs.Ways.{Way, Leads}
use Rattle.model.specs.Distinct.{Fresh, Distinct}

pub none_some : {A : Type 0} (o : Option A) (x : A) → o ≡ None → o ≡ Some x → ⊥
none_some o x none some = let z : ◌≡◌ {A = ℕ} 0 1 = cc in omega arith

pub same_some : {A : Type 0} (o : Option A) (x y : A) → o ≡ Some x → o ≡ Some y → x ≡ y
same_some o x y p q = cc

module _ (f : ℕ → Option ℕ) where
  -- one arrow more at the front
  pub lead_on : (u v w : ℕ) → f u ≡ Some v → Leads f v w → Leads f u w
  lead_on u v w arrow (inl here) = inr ([], arrow ∙ ap Some here)
  lead_on u v w arrow (inr (xs, way)) = inr (v ∷ xs, (arrow, way))

  pub lead_along : (u : ℕ) (xs : List ℕ) (v w : ℕ) → Way f u xs v → Leads f v w → Leads f u w
  lead_along u [] v w arrow rest = lead_on u v w arrow rest
  lead_along u (x ∷ xs) v w (arrow, way) rest = lead_on u x w arrow (lead_along x xs v w way rest)

  -- what comes after the first arrow
  pub lead_off : (u v w : ℕ) → (u ≡ w → ⊥) → f u ≡ Some v → Leads f u w → Leads f v w
  lead_off u v w apart arrow (inl here) = absurd (apart here)
  lead_off u v w apart arrow (inr ([], last)) = inl (same_some (f u) v w arrow last)
  lead_off u v w apart arrow (inr (x ∷ xs, (first, way))) = inr (xs, subst (λ y. Way f y xs w) (same_some (f u) x v first arrow) way)

  -- from a vertex without an arrow no way leads on
  pub no_lead : (u w : ℕ) → (u ≡ w → ⊥) → f u ≡ None → Leads f u w → ⊥
  no_lead u w apart none (inl here) = apart here
  no_lead u w apart none (inr ([], last)) = none_some (f u) w none last
  no_lead u w apart none (inr (x ∷ xs, (first, way))) = none_some (f u) x none first

  pub way_join : (u : ℕ) (xs : List ℕ) (v : ℕ) (ys : List ℕ) (w : ℕ) → Way f u xs v → Way f v ys w → Way f u (xs ++ v ∷ ys) w
  way_join u [] v ys w first rest = (first, rest)
  way_join u (x ∷ xs) v ys w (first, way) rest = (first, way_join x xs v ys w way rest)

  -- one arrow more at the end
  pub way_more : (u : ℕ) (xs : List ℕ) (v w : ℕ) → Way f u xs v → f v ≡ Some w → Way f u (xs ++ v ∷ []) w
  way_more u xs v w way last = way_join u xs v [] w way last

  -- the vertices of a way are where arrows lead
  pub way_all : (P : ℕ → Type 0) → ((u v : ℕ) → f u ≡ Some v → P v) → (u : ℕ) (xs : List ℕ) (w : ℕ) → Way f u xs w → AllByRecursion P xs
  way_all P leads u [] w way = tt
  way_all P leads u (x ∷ xs) w (first, way) = (leads u x first, way_all P leads x xs w way)

  -- the way to v that meets it at its end alone is one
  pub way_once : (u : ℕ) (xs ys : List ℕ) (v : ℕ) → Fresh v xs → Fresh v ys → Way f u xs v → Way f u ys v → xs ≡ ys
  way_once u [] [] v a b p q = refl
  way_once u [] (y ∷ ys) v a (b, fresh) p (q, way) = absurd (b (same_some (f u) v y p q))
  way_once u (x ∷ xs) [] v (a, fresh) b (p, way) q = absurd (a (same_some (f u) v x q p))
  way_once u (x ∷ xs) (y ∷ ys) v (a, fresh) (b, fresh2) (p, way) (q, way2) =
      let e : y ≡ x = same_some (f u) y x q p in
      ap (λ l. x ∷ l) (way_once x xs ys v fresh fresh2 way (subst (λ z. Way f z ys v) e way2)) ∙ ap (λ z. z ∷ ys) (sym e)

  -- from each vertex of such a way a shorter one leads to its end
  shorter : (u : ℕ) (xs : List ℕ) (v : ℕ) → Fresh v xs → Way f u xs v → AllByRecursion (λ y. (ys : List ℕ) × (length ys < length xs) × Fresh v ys × Way f y ys v) xs
  shorter u [] v fresh way = tt
  shorter u (x ∷ xs) v (apart, fresh) (first, way) = (
    (xs, omega arith, fresh, way),
    All-weaker _ _ (λ y (ys, less, clear, rest). (ys, omega arith, clear, rest)) xs (shorter x xs v fresh way),
  )

  -- so none of its vertices comes again
  again : (u : ℕ) (xs : List ℕ) (v : ℕ) → Fresh v xs → Way f u xs v → Fresh u xs
  again u xs v fresh way = All-weaker (λ y. (ys : List ℕ) × (length ys < length xs) × Fresh v ys × Way f y ys v) (λ y. u ≡ y → ⊥)
      (λ y (ys, less, clear, rest) same. let e : xs ≡ ys = way_once u xs ys v fresh clear way (subst (λ z. Way f z ys v) (sym same) rest) in omega (arith, ap length e))
      xs (shorter u xs v fresh way)

  -- a way that meets its end at its end alone meets no vertex twice
  pub way_distinct : (u : ℕ) (xs : List ℕ) (v : ℕ) → Fresh v xs → Way f u xs v → Distinct (u ∷ xs)
  way_distinct u [] v fresh way = (tt, tt)
  way_distinct u (x ∷ xs) v (apart, fresh) (first, way) = (again u (x ∷ xs) v (apart, fresh) (first, way), way_distinct x xs v fresh way)

  -- w has no arrow: a way to it is at its end there
  module _ (w : ℕ) (ends : f w ≡ None) where
    no_way : (xs : List ℕ) → Way f w xs w → ⊥
    no_way [] way = none_some (f w) w ends way
    no_way (x ∷ xs) (first, way) = none_some (f w) x ends first

    pub way_fresh : (u : ℕ) (xs : List ℕ) → Way f u xs w → Fresh w xs
    way_fresh u [] way = tt
    way_fresh u (x ∷ xs) (first, way) = (λ same. no_way xs (subst (λ z. Way f z xs w) (sym same) way), way_fresh x xs way)

    -- from a vertex on a loop no way leads to it
    pub no_loop : (u : ℕ) (xs : List ℕ) → Way f u xs u → Leads f u w → ⊥
    no_loop u xs loop (inl here) = no_way xs (subst (λ z. Way f z xs z) here loop)
    no_loop u xs loop (inr (ys, way)) =
        let twice = way_join u xs u ys w loop way in
        let same : ys ≡ xs ++ u ∷ ys = way_once u ys (xs ++ u ∷ ys) w (way_fresh u ys way) (way_fresh u (xs ++ u ∷ ys) twice) way twice in
        omega (arith, ap length same, length-append xs (u ∷ ys))
