-- Cycles at the same heights are equal or apart, and pops of cycles that are apart can change turns. Assumes nothing.
use Rattle.std.proofs.Common.{◌≡◌, ℕ, suc, ◌<◌, ◌≤◌, Bool, true, false, cond, eqb, ◌⊎◌, List, [], ◌∷◌, Some, Option, sym, refl, ap, ◌∙◌, subst, inl, inr, ⊎_elim, arith}
use mathlib.Core.Path.{fun_ext}
use Rattle.std.specs.List.{AllByRecursion}
use Rattle.std.proofs.ByRecursion.{All-weaker}
use Rattle.std.proofs.lemmas.Bool.{eqb-true, eq-eqb, or_cases, or_left, or_right, false≢true, cases_Bool, both_ways}
use Rattle.model.specs.Ways.{Way, Leads}
use Rattle.model.specs.Arrows.{Arrows}
use Rattle.theory.specs.Cycles.{Heights, seen, among, Cycle, coloured, raise}
use Rattle.model.specs.Distinct.{Fresh, Distinct}
use Rattle.model.proofs.Ways.{same_some, way_once, way_distinct}

-- ---- what is among a list

pub among_here : (v : ℕ) (xs : List ℕ) → among v (v ∷ xs) ≡ true
among_here v xs = or_left (eqb v v) (among v xs) (eq-eqb v v refl)

pub among_later : (v x : ℕ) (xs : List ℕ) → among v xs ≡ true → among v (x ∷ xs) ≡ true
among_later v x xs on = or_right (eqb v x) (among v xs) on

pub among_cases : (v x : ℕ) (xs : List ℕ) → among v (x ∷ xs) ≡ true → (v ≡ x) ⊎ (among v xs ≡ true)
among_cases v x xs on = ⊎_elim (λ e. inl (eqb-true v x e)) inr (or_cases (eqb v x) (among v xs) on)

pub among_all : (P : ℕ → Type 0) (v : ℕ) (xs : List ℕ) → AllByRecursion P xs → among v xs ≡ true → P v
among_all P v [] all on = absurd (false≢true on)
among_all P v (x ∷ xs) (here, all) on = ⊎_elim (λ e. subst P (sym e) here) (among_all P v xs all) (among_cases v x xs on)

pub all_among : (P : ℕ → Type 0) (xs : List ℕ) → ((v : ℕ) → among v xs ≡ true → P v) → AllByRecursion P xs
all_among P [] each = tt
all_among P (x ∷ xs) each = (each x (among_here x xs), all_among P xs (λ v on. each v (among_later v x xs on)))

module _ (f : ℕ → Option ℕ) where
  -- from each vertex of a way the rest of it leads to its end
  pub way_rest : (u : ℕ) (xs : List ℕ) (w y : ℕ) → Way f u xs w → among y (u ∷ xs) ≡ true → (ys : List ℕ) × Way f y ys w
  way_rest u [] w y way on = ⊎_elim (λ e. ([], subst (λ z. f z ≡ Some w) (sym e) way)) (λ on2. absurd (false≢true on2)) (among_cases y u [] on)
  way_rest u (x ∷ xs) w y (first, way) on = ⊎_elim
      (λ e. (x ∷ xs, (subst (λ z. f z ≡ Some x) (sym e) first, way)))
      (way_rest x xs w y way)
      (among_cases y u (x ∷ xs) on)

  -- the arrow of a vertex of a way leads to a later one, or to its end
  pub way_next : (u : ℕ) (xs : List ℕ) (w y z : ℕ) → Way f u xs w → among y (u ∷ xs) ≡ true → f y ≡ Some z → (among z xs ≡ true) ⊎ (z ≡ w)
  way_next u [] w y z way on arrow = ⊎_elim
      (λ e. inr (same_some (f u) z w (subst (λ t. f t ≡ Some z) e arrow) way)) (λ on2. absurd (false≢true on2)) (among_cases y u [] on)
  way_next u (x ∷ xs) w y z (first, way) on arrow = ⊎_elim
      (λ e. inl (subst (λ t. among t (x ∷ xs) ≡ true) (same_some (f u) x z first (subst (λ t. f t ≡ Some z) e arrow)) (among_here x xs)))
      (λ later. ⊎_elim (λ on2. inl (among_later z x xs on2)) inr (way_next x xs w y z way later arrow))
      (among_cases y u (x ∷ xs) on)

  -- a cycle's arrows stay on it
  pub cycle_next : (c : List ℕ) (y z : ℕ) → Cycle f c → among y c ≡ true → f y ≡ Some z → among z c ≡ true
  cycle_next [] y z cyc on arrow = absurd cyc
  cycle_next (v ∷ vs) y z (way, low) on arrow = ⊎_elim (among_later z v vs) (λ e. subst (λ t. among t (v ∷ vs) ≡ true) (sym e) (among_here v vs)) (way_next v vs v y z way on arrow)

  pub cycle_stays : (c : List ℕ) (y : ℕ) (ys : List ℕ) (z : ℕ) → Cycle f c → among y c ≡ true → Way f y ys z → among z c ≡ true
  cycle_stays c y [] z cyc on way = cycle_next c y z cyc on way
  cycle_stays c y (x ∷ xs) z cyc on (first, way) = cycle_stays c x xs z cyc (cycle_next c y x cyc on first) way

  -- its first vertex is the lowest on it
  pub cycle_low : (v : ℕ) (vs : List ℕ) (y : ℕ) → Cycle f (v ∷ vs) → among y (v ∷ vs) ≡ true → v ≤ y
  cycle_low v vs y (way, low) on = ⊎_elim (λ e. omega arith) (λ later. let lt : v < y = among_all (λ x. v < x) y vs low later in omega arith) (among_cases y v vs on)

  cycle_lowest_on : (v : ℕ) (vs : List ℕ) (w : ℕ) (ws : List ℕ) (x : ℕ) → Cycle f (v ∷ vs) → Cycle f (w ∷ ws) → among x (v ∷ vs) ≡ true → among x (w ∷ ws) ≡ true → w ≤ v
  cycle_lowest_on v vs w ws x a b on_a on_b =
      let (ys, way) = way_rest v vs v x a.0 on_a in
      cycle_low w ws v b (cycle_stays (w ∷ ws) x ys v b on_b way)

  above_fresh : (t : ℕ) (xs : List ℕ) → AllByRecursion (λ y. t < y) xs → Fresh t xs
  above_fresh t xs low = All-weaker (λ y. t < y) (λ y. t ≡ y → ⊥) (λ y lt e. omega arith) xs low

  -- a cycle meets no vertex twice
  pub cycle_distinct : (c : List ℕ) → Cycle f c → Distinct c
  cycle_distinct [] cyc = absurd cyc
  cycle_distinct (v ∷ vs) (way, low) = way_distinct f v vs v (above_fresh v vs low) way

  -- two cycles with a vertex in common are the same
  pub cycles_meet : (c d : List ℕ) (x : ℕ) → Cycle f c → Cycle f d → among x c ≡ true → among x d ≡ true → c ≡ d
  cycles_meet [] d x a b on_a on_b = absurd a
  cycles_meet (v ∷ vs) [] x a b on_a on_b = absurd b
  cycles_meet (v ∷ vs) (w ∷ ws) x a b on_a on_b =
      let up : w ≤ v = cycle_lowest_on v vs w ws x a b on_a on_b in
      let down : v ≤ w = cycle_lowest_on w ws v vs x b a on_b on_a in
      let e : w ≡ v = omega arith in
      ap (λ l. v ∷ l) (way_once f v vs ws v (above_fresh v vs a.1) (above_fresh v ws (subst (λ t. AllByRecursion (λ y. t < y) ws) e b.1)) a.0 (subst (λ t. Way f t ws t) e b.0)) ∙ ap (λ t. t ∷ ws) (sym e)

-- every vertex of a cycle has an arrow, and where the arrows lead from one is on the cycle
pub cycle_arrow : (f : ℕ → Option ℕ) (c : List ℕ) (x : ℕ) → Cycle f c → among x c ≡ true → (y : ℕ) × (f x ≡ Some y)
cycle_arrow f [] x cyc on = absurd cyc
cycle_arrow f (v ∷ vs) x (way, low) on = first (way_rest f v vs v x way on)
  where
    first : (ys : List ℕ) × Way f x ys v → (y : ℕ) × (f x ≡ Some y)
    first ([], arrow) = (v, arrow)
    first (y ∷ ys, (arrow, rest)) = (y, arrow)

pub cycle_leads : (f : ℕ → Option ℕ) (c : List ℕ) (x y : ℕ) → Cycle f c → among x c ≡ true → Leads f x y → among y c ≡ true
cycle_leads f c x y cyc on (inl e) = subst (λ z. among z c ≡ true) e on
cycle_leads f c x y cyc on (inr (ys, way)) = cycle_stays f c x ys y cyc on way

-- ---- cycles that are apart

-- no vertex of c is on d
abbrev pub Apart : List ℕ → List ℕ → Type 0
Apart c d = (v : ℕ) → among v c ≡ true → among v d ≡ false

pub apart_sym : (c d : List ℕ) → Apart c d → Apart d c
apart_sym c d apart v on = ⊎_elim (λ yes_c. absurd (both_ways _ (apart v yes_c) on)) (λ off. off) (cases_Bool (among v c))

-- cycles at the same heights are the same, or apart
pub same_or_apart : (f : ℕ → Option ℕ) (c d : List ℕ) → Cycle f c → Cycle f d → (c ≡ d) ⊎ Apart c d
same_or_apart f c d a b = by c (λ x on. on)
  where
    by : (xs : List ℕ) → ((x : ℕ) → among x xs ≡ true → among x c ≡ true) → (c ≡ d) ⊎ ((v : ℕ) → among v xs ≡ true → among v d ≡ false)
    by [] sub = inr (λ v on. absurd (false≢true on))
    by (x ∷ xs) sub = ⊎_elim
        (λ on. inl (cycles_meet f c d x a b (sub x (among_here x xs)) on))
        (λ off. ⊎_elim inl (λ rest. inr (λ v on. ⊎_elim (λ e. subst (λ t. among t d ≡ false) (sym e) off) (rest v) (among_cases v x xs on))) (by xs (λ y on. sub y (among_later y x xs on))))
        (cases_Bool (among x d))

way_same : (f g : ℕ → Option ℕ) (u : ℕ) (xs : List ℕ) (w : ℕ) → ((y : ℕ) → among y (u ∷ xs) ≡ true → g y ≡ f y) → Way f u xs w → Way g u xs w
way_same f g u [] w same way = same u (among_here u []) ∙ way
way_same f g u (x ∷ xs) w same (first, way) = (same u (among_here u (x ∷ xs)) ∙ first, way_same f g x xs w (λ y on. same y (among_later y u (x ∷ xs) on)) way)

-- a cycle is one of any arrows that are the same along it
pub cycle_same : (f g : ℕ → Option ℕ) (c : List ℕ) → ((y : ℕ) → among y c ≡ true → g y ≡ f y) → Cycle f c → Cycle g c
cycle_same f g [] same cyc = cyc
cycle_same f g (v ∷ vs) same (way, low) = (way_same f g v vs v same way, low)

pub coloured_same : (h g : Heights) (c : List ℕ) → ((y : ℕ) → among y c ≡ true → g y ≡ h y) → coloured g c ≡ coloured h c
coloured_same h g [] same = refl
coloured_same h g (v ∷ vs) same = rest (coloured_same h g vs (λ y on. same y (among_later y v vs on))) (same v (among_here v vs))
  where
    rest : {a b : List (ℕ × ℕ)} → a ≡ b → g v ≡ h v → (v, g v) ∷ a ≡ (v, h v) ∷ b
    rest e here = cc

pub raise_off : (d : List ℕ) (h : Heights) (v : ℕ) → among v d ≡ false → raise d h v ≡ h v
raise_off d h v off = ap (λ b. cond b (suc (h v)) (h v)) off

pub raise_on : (d : List ℕ) (h : Heights) (v : ℕ) → among v d ≡ true → raise d h v ≡ suc (h v)
raise_on d h v on = ap (λ b. cond b (suc (h v)) (h v)) on

pub raise_up : (c : List ℕ) (h : Heights) (v : ℕ) → h v ≤ raise c h v
raise_up c h v = by (among v c)
  where
    by : (b : Bool) → h v ≤ cond b (suc (h v)) (h v)
    by true = omega arith
    by false = omega arith

-- popping d leaves a cycle that is apart from it, with its heights
pub cycle_kept : (arrows : Arrows) (h : Heights) (c d : List ℕ) → Apart c d → Cycle (seen arrows h) c → Cycle (seen arrows (raise d h)) c
cycle_kept arrows h c d apart cyc = cycle_same (seen arrows h) (seen arrows (raise d h)) c (λ y on. ap (arrows y) (raise_off d h y (apart y on))) cyc

pub colours_kept : (h : Heights) (c d : List ℕ) → Apart c d → coloured (raise d h) c ≡ coloured h c
colours_kept h c d apart = coloured_same h (raise d h) c (λ y on. raise_off d h y (apart y on))

pub raise_comm : (c d : List ℕ) (h : Heights) → raise c (raise d h) ≡ raise d (raise c h)
raise_comm c d h = fun_ext (λ v. by (among v c) (among v d) v)
  where
    by : (a b : Bool) (v : ℕ) → cond a (suc (cond b (suc (h v)) (h v))) (cond b (suc (h v)) (h v)) ≡ cond b (suc (cond a (suc (h v)) (h v))) (cond a (suc (h v)) (h v))
    by true true v = refl
    by true false v = refl
    by false true v = refl
    by false false v = refl
