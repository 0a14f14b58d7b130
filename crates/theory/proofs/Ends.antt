-- The end is what its words say: a popping sequence by lowest cycles, with none left after, and the only one. Assumes nothing.
use Rattle.std.proofs.Common.{◌≡◌, ℕ, zero, suc, ◌+◌, ◌-◌, ◌<◌, ◌≤◌, Bool, true, false, cond, eqb, ltb, List, [], ◌∷◌, length, Some, None, Option, sym, refl, ap, ◌∙◌, subst, ⊎_elim, arith, MatchOption}
use mathlib.Core.Path.{fun_ext}
use Rattle.std.specs.Option.{option_map}
use Rattle.std.specs.List.{AllByRecursion}
use Rattle.std.proofs.lemmas.Bool.{eqb-true, eq-eqb, ne_eqb, ltb-true, lt-ltb, cases_lt}
use Rattle.model.specs.Ways.{Way}
use Rattle.model.specs.Arrows.{Arrows}
use Rattle.theory.specs.Cycles.{Heights, seen, among, Cycle, Coloured, coloured, raise, Pops, Final}
use Rattle.theory.specs.Ends.{closes, lowest_cycle, End, noting, if_some, popped_out, HoldsLowest, LowestPops}
use Rattle.model.specs.Picks.{then}
use Rattle.theory.proofs.Cycles.{among_here, cycle_low, cycle_distinct, cycles_meet, raise_on, raise_up}
use Rattle.model.proofs.Lowest.{NoAnswer, IsFirst, first_tells}
use Rattle.model.proofs.Pigeons.{pigeons}
use Rattle.model.proofs.Ways.{none_some, same_some, way_all}

-- ---- one cycle, found by its lowest vertex

module _ (f : ℕ → Option ℕ) (v : ℕ) where
  -- c is the way from u back to v over vertices above v
  abbrev Closed : ℕ → List ℕ → Type 0
  Closed u c = (vs : List ℕ) × (c ≡ u ∷ vs) × Way f u vs v × AllByRecursion (λ x. v < x) vs

  abbrev turn : ℕ → ℕ → ℕ → Option (List ℕ)
  turn k u w = cond (eqb w v) (Some (u ∷ [])) (cond (ltb v w) (option_map (λ xs. u ∷ xs) (closes f v k w)) None)

  closed_more : (u w : ℕ) (o : Option (List ℕ)) (c : List ℕ) → f u ≡ Some w → v < w → ((xs : List ℕ) → o ≡ Some xs → Closed w xs) → option_map (λ xs. u ∷ xs) o ≡ Some c → Closed u c
  closed_more u w None c arrow up rest is = absurd (none_some None c refl is)
  closed_more u w (Some xs) c arrow up rest is =
      let (ws, e, way, low) = rest xs refl in
      (w ∷ ws, sym (same_some (Some (u ∷ xs)) (u ∷ xs) c refl is) ∙ ap (λ l. u ∷ l) e, (arrow, way), (up, low))

  turn_closed : (k u w : ℕ) (c : List ℕ) → f u ≡ Some w → ((xs : List ℕ) → closes f v k w ≡ Some xs → Closed w xs) → turn k u w ≡ Some c → Closed u c
  turn_closed k u w c arrow rest = by (eqb w v) refl (ltb v w) refl
    where
      by : (b : Bool) → eqb w v ≡ b → (t : Bool) → ltb v w ≡ t → cond b (Some (u ∷ [])) (cond t (option_map (λ xs. u ∷ xs) (closes f v k w)) None) ≡ Some c → Closed u c
      by true same t test is = ([], sym (same_some (Some (u ∷ [])) (u ∷ []) c refl is), arrow ∙ ap Some (eqb-true w v same), tt)
      by false apart true up is = closed_more u w (closes f v k w) c arrow (ltb-true v w up) rest is
      by false apart false down is = absurd (none_some None c refl is)

  closes_closed : (k u : ℕ) (c : List ℕ) → closes f v k u ≡ Some c → Closed u c
  closes_closed zero u c is = absurd (none_some None c refl is)
  closes_closed (suc k) u c is = by (f u) refl (closes_closed k) is
    where
      by : (o : Option ℕ) → f u ≡ o → ((w : ℕ) (xs : List ℕ) → closes f v k w ≡ Some xs → Closed w xs) → then o (turn k u) ≡ Some c → Closed u c
      by None none rest is = absurd (none_some None c refl is)
      by (Some w) arrow rest is = turn_closed k u w c arrow (rest w) is

  closed_closes : (k u : ℕ) (vs : List ℕ) → length vs < k → Way f u vs v → AllByRecursion (λ x. v < x) vs → closes f v k u ≡ Some (u ∷ vs)
  closed_closes zero u vs short way low = absurd (omega arith)
  closed_closes (suc k) u [] short way low = ap (λ o. then o (turn k u)) way ∙ ap (λ b. cond b (Some (u ∷ [])) (cond (ltb v v) (option_map (λ xs. u ∷ xs) (closes f v k v)) None)) (eq-eqb v v refl)
  closed_closes (suc k) u (x ∷ xs) short (arrow, way) (up, low) =
      ap (λ o. then o (turn k u)) arrow
      ∙ ap (λ b. cond b (Some (u ∷ [])) (cond (ltb v x) (option_map (λ xs. u ∷ xs) (closes f v k x)) None)) (ne_eqb x v (λ e. omega arith))
      ∙ ap (λ b. cond b (option_map (λ xs. u ∷ xs) (closes f v k x)) None) (lt-ltb v x up)
      ∙ ap (option_map (λ xs. u ∷ xs)) (closed_closes k x xs (omega arith) way low)

-- the arrows stay below n
pub record Stays (f : ℕ → Option ℕ) (n : ℕ) : Type 0 where
  pub from : (u w : ℕ) → f u ≡ Some w → u < n
  pub to : (u w : ℕ) → f u ≡ Some w → w < n

module _ (f : ℕ → Option ℕ) (n : ℕ) (stays : Stays f n) where
  way_from : (u : ℕ) (xs : List ℕ) (w : ℕ) → Way f u xs w → u < n
  way_from u [] w way = stays.from u w way
  way_from u (x ∷ xs) w (arrow, way) = stays.from u x arrow

  pub cycle_below : (c : List ℕ) → Cycle f c → AllByRecursion (λ x. x < n) c
  cycle_below [] cyc = absurd cyc
  cycle_below (v ∷ vs) (way, low) = (way_from v vs v way, way_all f (λ x. x < n) stays.to v vs v way)

  cycle_found : (v : ℕ) (vs : List ℕ) → Cycle f (v ∷ vs) → closes f v n v ≡ Some (v ∷ vs)
  cycle_found v vs (way, low) =
      let few : length (v ∷ vs) ≤ n = pigeons n (v ∷ vs) (cycle_below (v ∷ vs) (way, low)) (cycle_distinct f (v ∷ vs) (way, low)) in
      closed_closes f v n v vs (omega arith) way low

  -- what `lowest_cycle` finds is a cycle that holds the lowest vertex on any; where it finds none there is none
  pub lowest_cycle_tells : MatchOption (lowest_cycle f n) ((c : List ℕ) → Cycle f c → ⊥) (λ c. Cycle f c × HoldsLowest f c)
  lowest_cycle_tells = by (lowest_cycle f n) (first_tells (λ v. closes f v n v) n)
    where
      by : (o : Option (List ℕ)) → MatchOption o (NoAnswer (λ v. closes f v n v) n) (λ c. IsFirst (λ v. closes f v n v) n c) → MatchOption o ((c : List ℕ) → Cycle f c → ⊥) (λ c. Cycle f c × HoldsLowest f c)
      by None none = λ c cyc. no_cycle c cyc
        where
          no_cycle : (c : List ℕ) → Cycle f c → ⊥
          no_cycle [] cyc = cyc
          no_cycle (v ∷ vs) cyc = none_some _ (v ∷ vs) (none v (cycle_below (v ∷ vs) cyc).0) (cycle_found v vs cyc)
      by (Some c) found =
          let v = found.at in
          let (vs, e, way, low) = closes_closed f v n v c found.answer in
          (subst (Cycle f) (sym e) (way, low), (v, subst (λ l. among v l ≡ true) (sym e) (among_here v vs), λ d x cyc on. least d x cyc on))
        where
          least : (d : List ℕ) (x : ℕ) → Cycle f d → among x d ≡ true → found.at ≤ x
          least [] x cyc on = absurd cyc
          least (w ∷ ws) x cyc on = ⊎_elim
              (λ lt. absurd (none_some _ (w ∷ ws) (found.lower w lt) (cycle_found w ws cyc)))
              (λ ge. let le : w ≤ x = cycle_low f w ws x cyc on in omega arith)
              (cases_lt w found.at)

-- ---- the end

-- an arrow starts at a vertex below n, at a height below the top, and leads below n
pub record Within (arrows : Arrows) (n top : ℕ) : Type 0 where
  pub from : (v k w : ℕ) → arrows v k ≡ Some w → v < n
  pub under : (v k w : ℕ) → arrows v k ≡ Some w → k < top
  pub to : (v k w : ℕ) → arrows v k ≡ Some w → w < n

-- how often vertices below n can still be raised
abbrev pub room : ℕ → Heights → ℕ → ℕ
room top h zero = 0
room top h (suc n) = (top - h n) + room top h n

module _ (top : ℕ) (h g : Heights) (up : (v : ℕ) → h v ≤ g v) where
  room_falls : (n : ℕ) → room top g n ≤ room top h n
  room_falls zero = omega arith
  room_falls (suc n) = omega (arith, up n, room_falls n)

  -- it falls where a vertex below the top is raised
  room_less : (n v : ℕ) → v < n → h v < g v → h v < top → room top g n < room top h n
  room_less zero v below raised under = absurd (omega arith)
  room_less (suc n) v below raised under = ⊎_elim
      (λ lt. omega (arith, up n, room_less n v lt raised under))
      (λ ge. let e : v ≡ n = omega arith in omega (arith, subst (λ x. h x < g x) e raised, subst (λ x. h x < top) e under, room_falls n))
      (cases_lt v n)

module _ (arrows : Arrows) (n top : ℕ) (within : Within arrows n top) where
  pub stays : (h : Heights) → Stays (seen arrows h) n
  stays h = record { from = λ u w is. within.from u (h u) w is; to = λ u w is. within.to u (h u) w is }

  arrow_under : (h : Heights) (u : ℕ) (xs : List ℕ) (w : ℕ) → Way (seen arrows h) u xs w → h u < top
  arrow_under h u [] w way = within.under u (h u) w way
  arrow_under h u (x ∷ xs) w (arrow, way) = within.under u (h u) x arrow

  -- a pop takes room
  pub pop_room : (h : Heights) (c : List ℕ) → Cycle (seen arrows h) c → room top (raise c h) n < room top h n
  pop_room h [] cyc = absurd cyc
  pop_room h (v ∷ vs) cyc =
      let raised : raise (v ∷ vs) h v ≡ suc (h v) = raise_on (v ∷ vs) h v (among_here v vs) in
      room_less top h (raise (v ∷ vs) h) (raise_up (v ∷ vs) h) n v (cycle_below (seen arrows h) n (stays h) (v ∷ vs) cyc).0 (omega arith) (arrow_under h v vs v cyc.0)

  -- the cycles that are popped out are popped by lowest ones, and none is left
  pub popped_out_law : (k : ℕ) (h : Heights) → room top h n < k → let e = popped_out arrows n k h in LowestPops arrows h e.cycles e.heights × Final arrows e.heights
  popped_out_law zero h few = absurd (omega arith)
  popped_out_law (suc k) h few = by (lowest_cycle (seen arrows h) n) (lowest_cycle_tells (seen arrows h) n (stays h)) (popped_out_law k)
    where
      Law : End → Type 0
      Law e = LowestPops arrows h e.cycles e.heights × Final arrows e.heights

      by : (o : Option (List ℕ)) → MatchOption o ((c : List ℕ) → Cycle (seen arrows h) c → ⊥) (λ c. Cycle (seen arrows h) c × HoldsLowest (seen arrows h) c)
          → ((g : Heights) → room top g n < k → let e = popped_out arrows n k g in LowestPops arrows g e.cycles e.heights × Final arrows e.heights)
          → Law (if_some o (record { heights = h; cycles = [] }) (λ c. noting (coloured h c) (popped_out arrows n k (raise c h))))
      by None none rest = (λ v. refl, none)
      by (Some c) (cyc, low) rest =
          let (pops, fin) = rest (raise c h) (let less = pop_room h c cyc in omega arith) in
          ((c, cyc, low, refl, pops), fin)

-- ---- and the only one

module _ (arrows : Arrows) where
  lowest_one : (f : ℕ → Option ℕ) (c d : List ℕ) → Cycle f c → Cycle f d → HoldsLowest f c → HoldsLowest f d → c ≡ d
  lowest_one f c d a b (v, on_c, low) (w, on_d, low2) =
      let le : v ≤ w = low d w b on_d in
      let ge : w ≤ v = low2 c v a on_c in
      let e : v ≡ w = omega arith in
      cycles_meet f c d v a b on_c (subst (λ x. among x d ≡ true) (sym e) on_d)

  pub lowest_pops : (h : Heights) (ks : List Coloured) (h2 : Heights) → LowestPops arrows h ks h2 → Pops arrows h ks h2
  lowest_pops h [] h2 same = same
  lowest_pops h (k ∷ ks) h2 (c, cyc, low, is, rest) = (c, cyc, is, lowest_pops (raise c h) ks h2 rest)

  pub end_one : (h : Heights) (ks ls : List Coloured) (h1 h2 : Heights) → LowestPops arrows h ks h1 → LowestPops arrows h ls h2 → Final arrows h1 → Final arrows h2
      → (ks ≡ ls) × ((v : ℕ) → h1 v ≡ h2 v)
  end_one h [] [] h1 h2 p q fin fin2 = (refl, λ v. sym (p v) ∙ q v)
  end_one h [] (l ∷ ls) h1 h2 p (d, cyc, low, is, rest) fin fin2 = absurd (subst (Final arrows) (sym (fun_ext p)) fin d cyc)
  end_one h (k ∷ ks) [] h1 h2 (c, cyc, low, is, rest) q fin fin2 = absurd (subst (Final arrows) (sym (fun_ext q)) fin2 c cyc)
  end_one h (k ∷ ks) (l ∷ ls) h1 h2 (c, cyc, low, is, rest) (d, cyc2, low2, is2, rest2) fin fin2 =
      let e : c ≡ d = lowest_one (seen arrows h) c d cyc cyc2 low low2 in
      let (same, high) = end_one (raise c h) ks ls h1 h2 rest (subst (λ x. LowestPops arrows (raise x h) ls h2) (sym e) rest2) fin fin2 in
      let heads : k ≡ l = is ∙ ap (coloured h) e ∙ sym is2 in
      (cc, high)
