-- Counting what passes a test by maps there and back. Assumes nothing.
use Rattle.std.proofs.Common.{◌≡◌, suc, ◌≤◌, Bool, true, List, [], ◌∷◌, map, length, count_by, filter, sym, refl, ap, ◌∙◌, subst, inl, inr, arith}
use Rattle.std.specs.List.{AllByRecursion}
use Rattle.std.proofs.lemmas.List.{length-map}
use Rattle.std.proofs.lemmas.List.Sums.{length-filter}
use Rattle.model.specs.Distinct.{In, Fresh, Distinct}
use Rattle.theory.proofs.Members.{all_from_in, map_in, in_kept, kept_in, distinct_kept, distinct_map}

module _ {X : Type 0} where
  -- the list without what stands where x was found
  abbrev removed : (x : X) (ys : List X) → In x ys → List X
  removed x [] never = absurd never
  removed x (y ∷ ys) (inl here) = ys
  removed x (y ∷ ys) (inr later) = y ∷ removed x ys later

  -- it is one shorter
  length_removed : (x : X) (ys : List X) (there : In x ys) → length ys ≡ suc (length (removed x ys there))
  length_removed x [] never = absurd never
  length_removed x (y ∷ ys) (inl here) = refl
  length_removed x (y ∷ ys) (inr later) = ap suc (length_removed x ys later)

  -- whatever differs from x is still there
  in_removed : (x : X) (ys : List X) (there : In x ys) (z : X) → In z ys → (x ≡ z → ⊥) → In z (removed x ys there)
  in_removed x [] never z at apart = absurd never
  in_removed x (y ∷ ys) (inl here) z (inl same) apart = absurd (apart (here ∙ sym same))
  in_removed x (y ∷ ys) (inl here) z (inr at) apart = at
  in_removed x (y ∷ ys) (inr later) z (inl same) apart = inl same
  in_removed x (y ∷ ys) (inr later) z (inr at) apart = inr (in_removed x ys later z at apart)

  -- different members of a list are at most as many as it has
  pub members_few : (xs ys : List X) → Distinct xs → AllByRecursion (λ x. In x ys) xs → length xs ≤ length ys
  members_few [] ys d inside = omega arith
  members_few (x ∷ xs) ys (fresh, d) (there, inside) =
      omega (arith, length_removed x ys there, members_few xs (removed x ys there) d (still xs fresh inside))
    where
      still : (zs : List X) → Fresh x zs → AllByRecursion (λ z. In z ys) zs → AllByRecursion (λ z. In z (removed x ys there)) zs
      still [] off at = tt
      still (z ∷ zs) (o, off) (a, at) = (in_removed x ys there z a o, still zs off at)

  -- f leads from what passes P to what passes Q, and g leads back
  abbrev pub ThereAndBack : List X → (X → Bool) → (X → Bool) → (X → X) → (X → X) → Type 0
  ThereAndBack xs P Q f g = (x : X) → In x xs → P x ≡ true → In (f x) xs × (Q (f x) ≡ true) × (g (f x) ≡ x)

  -- so what passes P is at most as much as what passes Q
  pub count_at_most : (xs : List X) (P Q : X → Bool) (f g : X → X) → Distinct xs → ThereAndBack xs P Q f g → count_by P xs ≤ count_by Q xs
  count_at_most xs P Q f g d there =
      omega (
        arith,
        length-filter P xs,
        length-filter Q xs,
        length-map (filter P xs) f,
        members_few (map f (filter P xs)) (filter Q xs) (distinct_map f g (filter P xs) undone (distinct_kept P xs d)) landed,
      )
    where
      undone : AllByRecursion (λ x. g (f x) ≡ x) (filter P xs)
      undone = all_from_in (λ x. g (f x) ≡ x) (filter P xs) (λ x at. let (member, passed) = kept_in P xs x at in (there x member passed).2)

      landed : AllByRecursion (λ y. In y (filter Q xs)) (map f (filter P xs))
      landed = all_from_in (λ y. In y (filter Q xs)) (map f (filter P xs)) (λ y at.
          let (x, in_kept_x, is) = map_in f (filter P xs) y at in
          let (member, passed) = kept_in P xs x in_kept_x in
          let (goes, passes, back) = there x member passed in
          subst (λ z. In z (filter Q xs)) (sym is) (in_kept Q xs (f x) goes passes))

  -- maps there and back, each undoing the other, give equal counts
  pub count_same : (xs : List X) (P Q : X → Bool) (f g : X → X) → Distinct xs → ThereAndBack xs P Q f g → ThereAndBack xs Q P g f → count_by P xs ≡ count_by Q xs
  count_same xs P Q f g d there back = omega (arith, count_at_most xs P Q f g d there, count_at_most xs Q P g f d back)
