-- What stands in lists that are made of others, and where nothing stands twice in them. Assumes nothing.
use Rattle.std.proofs.Common.{◌≡◌, ℕ, zero, suc, ◌+◌, ◌<◌, ◌≤◌, Bool, true, false, cond, ◌⊎◌, List, [], ◌∷◌, ◌++◌, map, filter, sym, refl, ap, ◌∙◌, subst, inl, inr, arith}
use Rattle.std.specs.List.{range_with_len, flat_map, AllByRecursion}
use Rattle.std.proofs.ByRecursion.{All-append, all_kept_by}
use Rattle.std.proofs.lemmas.Bool.{cases_eq}
use Rattle.model.specs.Distinct.{In, Fresh, Distinct}

module _ {X : Type 0} (P : X → Type 0) where
  -- what holds of all holds of each
  pub all_in : (xs : List X) (x : X) → AllByRecursion P xs → In x xs → P x
  all_in [] x all never = absurd never
  all_in (y ∷ ys) x (first, all) (inl here) = subst P (sym here) first
  all_in (y ∷ ys) x (first, all) (inr later) = all_in ys x all later

  -- and the other way round
  pub all_from_in : (xs : List X) → ((x : X) → In x xs → P x) → AllByRecursion P xs
  all_from_in [] each = tt
  all_from_in (y ∷ ys) each = (each y (inl refl), all_from_in ys (λ x later. each x (inr later)))

module _ {X : Type 0} where
  pub in_append_left : (xs ys : List X) (x : X) → In x xs → In x (xs ++ ys)
  in_append_left [] ys x never = absurd never
  in_append_left (z ∷ xs) ys x (inl here) = inl here
  in_append_left (z ∷ xs) ys x (inr later) = inr (in_append_left xs ys x later)

  pub in_append_right : (xs ys : List X) (x : X) → In x ys → In x (xs ++ ys)
  in_append_right [] ys x there = there
  in_append_right (z ∷ xs) ys x there = inr (in_append_right xs ys x there)

  pub append_in : (xs ys : List X) (x : X) → In x (xs ++ ys) → In x xs ⊎ In x ys
  append_in [] ys x there = inr there
  append_in (z ∷ xs) ys x (inl here) = inl (inl here)
  append_in (z ∷ xs) ys x (inr later) = on (append_in xs ys x later)
    where
      on : In x xs ⊎ In x ys → In x (z ∷ xs) ⊎ In x ys
      on (inl first) = inl (inr first)
      on (inr second) = inr second

  -- two lists that share nothing
  pub distinct_append : (xs ys : List X) → Distinct xs → Distinct ys → AllByRecursion (λ x. Fresh x ys) xs → Distinct (xs ++ ys)
  distinct_append [] ys dx dy apart = dy
  distinct_append (x ∷ xs) ys (fresh, dx) dy (off, apart) = (All-append (λ y. x ≡ y → ⊥) xs ys fresh off, distinct_append xs ys dx dy apart)

module _ {X Y : Type 0} (f : X → Y) where
  pub in_map : (xs : List X) (x : X) → In x xs → In (f x) (map f xs)
  in_map [] x never = absurd never
  in_map (z ∷ xs) x (inl here) = inl (ap f here)
  in_map (z ∷ xs) x (inr later) = inr (in_map xs x later)

  pub map_in : (xs : List X) (y : Y) → In y (map f xs) → (x : X) × In x xs × (y ≡ f x)
  map_in [] y never = absurd never
  map_in (z ∷ xs) y (inl here) = (z, inl refl, here)
  map_in (z ∷ xs) y (inr later) = let (x, there, is) = map_in xs y later in (x, inr there, is)

  -- where g undoes f, different values have different images
  pub distinct_map : (g : Y → X) (xs : List X) → AllByRecursion (λ x. g (f x) ≡ x) xs → Distinct xs → Distinct (map f xs)
  distinct_map g [] undone d = tt
  distinct_map g (x ∷ xs) (back, undone) (fresh, d) = (apart xs undone fresh, distinct_map g xs undone d)
    where
      apart : (ys : List X) → AllByRecursion (λ y. g (f y) ≡ y) ys → Fresh x ys → Fresh (f x) (map f ys)
      apart [] backs off = tt
      apart (y ∷ ys) (b, backs) (o, off) = ((λ same. o (sym back ∙ ap g same ∙ b)), apart ys backs off)

module _ {X Y : Type 0} (f : X → List Y) where
  pub in_joined : (xs : List X) (x : X) (y : Y) → In x xs → In y (f x) → In y (flat_map f xs)
  in_joined [] x y never there = absurd never
  in_joined (z ∷ xs) x y (inl here) there = in_append_left (f z) (flat_map f xs) y (subst (λ w. In y (f w)) here there)
  in_joined (z ∷ xs) x y (inr later) there = in_append_right (f z) (flat_map f xs) y (in_joined xs x y later there)

  pub joined_in : (xs : List X) (y : Y) → In y (flat_map f xs) → (x : X) × In x xs × In y (f x)
  joined_in [] y never = absurd never
  joined_in (z ∷ xs) y there = from (append_in (f z) (flat_map f xs) y there) (joined_in xs y)
    where
      from : In y (f z) ⊎ In y (flat_map f xs) → (In y (flat_map f xs) → (x : X) × In x xs × In y (f x)) → (x : X) × In x (z ∷ xs) × In y (f x)
      from (inl first) on = (z, inl refl, first)
      from (inr rest) on = let (x, at, in_x) = on rest in (x, inr at, in_x)

module _ {X : Type 0} (test : X → Bool) where
  pub in_kept : (xs : List X) (x : X) → In x xs → test x ≡ true → In x (filter test xs)
  in_kept [] x never passed = absurd never
  in_kept (z ∷ xs) x (inl here) passed = subst (λ b. In x (cond b (z ∷ filter test xs) (filter test xs))) (sym (ap test (sym here) ∙ passed)) (inl here)
  in_kept (z ∷ xs) x (inr later) passed = on (test z) (in_kept xs x later passed)
    where
      on : (b : Bool) → In x (filter test xs) → In x (cond b (z ∷ filter test xs) (filter test xs))
      on true rest = inr rest
      on false rest = rest

  pub kept_in : (xs : List X) (x : X) → In x (filter test xs) → In x xs × (test x ≡ true)
  kept_in [] x never = absurd never
  kept_in (z ∷ xs) x there = on (test z) refl there (kept_in xs x)
    where
      on : (b : Bool) → test z ≡ b → In x (cond b (z ∷ filter test xs) (filter test xs)) → (In x (filter test xs) → In x xs × (test x ≡ true)) → In x (z ∷ xs) × (test x ≡ true)
      on true is (inl here) rest = (inl here, ap test here ∙ is)
      on true is (inr later) rest = let (at, passed) = rest later in (inr at, passed)
      on false is later rest = let (at, passed) = rest later in (inr at, passed)

  pub distinct_kept : (xs : List X) → Distinct xs → Distinct (filter test xs)
  distinct_kept [] d = tt
  distinct_kept (x ∷ xs) (fresh, d) = on (test x) (distinct_kept xs d)
    where
      on : (b : Bool) → Distinct (filter test xs) → Distinct (cond b (x ∷ filter test xs) (filter test xs))
      on true rest = (all_kept_by test (λ y. x ≡ y → ⊥) xs fresh, rest)
      on false rest = rest

-- ---- counting up

pub in_counting : (a n x : ℕ) → a ≤ x → x < a + n → In x (range_with_len a n)
in_counting a zero x low high = absurd (omega arith)
in_counting a (suc n) x low high = at (cases_eq x a) (in_counting (a + 1) n x)
  where
    at : (x ≡ a) ⊎ (x ≡ a → ⊥) → (a + 1 ≤ x → x < a + 1 + n → In x (range_with_len (a + 1) n)) → In x (range_with_len a (suc n))
    at (inl here) on = inl here
    at (inr apart) on = inr (on (omega arith) (omega arith))

pub counting_in : (a n x : ℕ) → In x (range_with_len a n) → (a ≤ x) × (x < a + n)
counting_in a zero x never = absurd never
counting_in a (suc n) x (inl here) = omega arith
counting_in a (suc n) x (inr later) = omega (arith, counting_in (a + 1) n x later)

pub distinct_counting : (a n : ℕ) → Distinct (range_with_len a n)
distinct_counting a zero = tt
distinct_counting a (suc n) = (all_from_in (λ y. a ≡ y → ⊥) (range_with_len (a + 1) n) (λ x there. omega (arith, counting_in (a + 1) n x there)), distinct_counting (a + 1) n)
