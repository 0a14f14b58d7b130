-- Fillings: the list of them has each once and nothing else, and what their cells are. Assumes nothing.
use Rattle.std.proofs.Common.{◌≡◌, ℕ, zero, suc, ◌-◌, ◌*◌, ◌/◌, ◌%◌, ◌<◌, ◌≤◌, true, false, cond, eqb, leb, ◌⊎◌, List, [], ◌∷◌, map, length, get_or, set, replicate, Some, None, sym, refl, ap, ◌∙◌, subst, inl, inr, ⊎_elim, suc-mul, mul-zero, zero-mul, add-one, arith}
use native.Mathlib.Nat.{div-eq_of_lt, div-eq-sub-div}
use lib.Arith.{digits_lt, digits_div, digits_mod}
use Rattle.std.specs.List.{range_with_len, flat_map, slice_get}
use Rattle.std.proofs.lemmas.List.Elements.{length_all_zip, AllZip-get_or}
use Rattle.std.proofs.lemmas.List.{length-append, length-replicate, get_or-replicate, get_or_append_left, get_or-append_right, get_or-set_same}
use Rattle.std.proofs.lemmas.Option.{slice_get-get_or}
use Rattle.std.proofs.lemmas.Bool.{cases_lt, cases_Bool, ne_eqb, eqb-false, le-leb, lt-leb, leb-false, or_from, or_right, or_parts}
use Rattle.model.specs.Distinct.{In, Fresh, Distinct}
use Rattle.model.specs.Filed.{rank, lacks_cell, place, filed_cells}
use Rattle.theory.specs.Fillings.{drained, cell_count, cell_place, vertex_at, bounds, WithinBounds, Filling, Fills, lists_within, fillings}
use Rattle.model.specs.Layouts.{Layout, Sound}
use Rattle.model.specs.Picks.{then}
use Rattle.theory.proofs.Drained.{drained_long, drained_at, rank_below}
use Rattle.theory.proofs.Members.{all_in, all_from_in, in_map, map_in, in_joined, joined_in, in_counting, counting_in, distinct_append, distinct_map, distinct_counting}

-- ---- the list of all

-- the port before each of the lists
abbrev before : List (List ℕ) → ℕ → List (List ℕ)
before rest port = map (λ ports. port ∷ ports) rest

-- what is within the bounds is listed
pub listed : (bs ports : List ℕ) → WithinBounds ports bs → In ports (lists_within bs)
listed [] [] within = inl refl
listed [] (x ∷ xs) never = absurd never
listed (b ∷ bs) [] never = absurd never
listed (b ∷ bs) (x ∷ xs) (below, within) =
    in_joined (before (lists_within bs)) (range_with_len 0 b) x (x ∷ xs) (in_counting 0 b x (omega arith) (omega arith)) (in_map (λ ports. x ∷ ports) (lists_within bs) xs (listed bs xs within))

-- what is listed is within the bounds
pub listed_within : (bs ports : List ℕ) → In ports (lists_within bs) → WithinBounds ports bs
listed_within [] ports (inl here) = subst (λ xs. WithinBounds xs []) (sym here) tt
listed_within [] ports (inr never) = absurd never
listed_within (b ∷ bs) ports there =
    let (x, counted, in_x) = joined_in (before (lists_within bs)) (range_with_len 0 b) ports there in
    let (xs, rest, is) = map_in (λ tail. x ∷ tail) (lists_within bs) ports in_x in
    subst (λ ys. WithinBounds ys (b ∷ bs)) (sym is) (omega (arith, counting_in 0 b x counted), listed_within bs xs rest)

-- what stands behind the first
abbrev behind : List ℕ → List ℕ
behind [] = []
behind (x ∷ xs) = xs

-- lists with different first ports are different
apart_before : (rest : List (List ℕ)) (x : ℕ) (xs : List ℕ) → Fresh x xs → (ports other : List ℕ) → In ports (before rest x) → In other (flat_map (before rest) xs) → ports ≡ other → ⊥
apart_before rest x xs fresh ports other at there same =
    let (t, in_t, is) = map_in (λ tail. x ∷ tail) rest ports at in
    let (y, in_y, in_rest) = joined_in (before rest) xs other there in
    let (u, in_u, is_other) = map_in (λ tail. y ∷ tail) rest other in_rest in
    let first : x ≡ y = cc in
    all_in (λ z. x ≡ z → ⊥) xs y fresh in_y first

-- different first ports before different lists
distinct_before : (rest : List (List ℕ)) → Distinct rest → (ports : List ℕ) → Distinct ports → Distinct (flat_map (before rest) ports)
distinct_before rest d [] dp = tt
distinct_before rest d (x ∷ xs) (fresh, dp) =
    distinct_append (before rest x) (flat_map (before rest) xs) (distinct_map (λ tail. x ∷ tail) behind rest (all_from_in (λ tail. tail ≡ tail) rest (λ tail at. refl)) d) (distinct_before rest d xs dp)
    (all_from_in (λ ports. Fresh ports (flat_map (before rest) xs)) (before rest x) (λ ports at.
    all_from_in (λ other. ports ≡ other → ⊥) (flat_map (before rest) xs) (λ other there. apart_before rest x xs fresh ports other at there)))

-- each is listed once
pub distinct_lists : (bs : List ℕ) → Distinct (lists_within bs)
distinct_lists [] = (tt, tt)
distinct_lists (b ∷ bs) = distinct_before (lists_within bs) (distinct_lists bs) (range_with_len 0 b) (distinct_counting 0 b)

-- every filling stands in the list, nothing else does, and each stands once
pub fillings_all : (p : Layout) (depth : ℕ) (ports : List ℕ) → Filling p depth ports → In ports (fillings p depth)
fillings_all p depth ports filling = listed (bounds p depth) ports filling

pub fillings_only : (p : Layout) (depth : ℕ) (ports : List ℕ) → In ports (fillings p depth) → Filling p depth ports
fillings_only p depth ports there = listed_within (bounds p depth) ports there

pub fillings_once : (p : Layout) (depth : ℕ) → Distinct (fillings p depth)
fillings_once p depth = distinct_lists (bounds p depth)

-- ---- the bounds

-- where there is a cell the depth is not 0
depth_some : (m depth i : ℕ) → i < m * depth → 0 < depth
depth_some m zero i within = absurd (omega (arith, mul-zero m))
depth_some m (suc depth) i within = omega arith

module _ (degree : ℕ → ℕ) (depth : ℕ) where
  -- the degree of each vertex, as often as the depth says
  abbrev each_bound : List ℕ → List ℕ
  each_bound vs = flat_map (λ v. replicate depth (degree v)) vs

  -- there are as many as vertices times the depth
  each_bound_long : (vs : List ℕ) → length (each_bound vs) ≡ length vs * depth
  each_bound_long [] = sym (zero-mul depth)
  each_bound_long (v ∷ vs) =
      length-append (replicate depth (degree v)) (each_bound vs) ∙ omega (arith, length-replicate depth (degree v), each_bound_long vs, suc-mul (length vs) depth)

  -- the one at i is the degree of the vertex that division finds
  each_bound_at : (vs : List ℕ) (i : ℕ) → i < length vs * depth → get_or (each_bound vs) i 0 ≡ degree (get_or vs (i / depth) 0)
  each_bound_at [] i within = absurd (omega (arith, zero-mul depth))
  each_bound_at (v ∷ vs) i within = at (cases_lt i depth) (each_bound_at vs (i - depth))
    where
      some : 0 < depth
      some = depth_some (suc (length vs)) depth i within

      at : (i < depth) ⊎ (depth ≤ i) → (i - depth < length vs * depth → get_or (each_bound vs) (i - depth) 0 ≡ degree (get_or vs ((i - depth) / depth) 0)) → get_or (each_bound (v ∷ vs)) i 0 ≡ degree (get_or (v ∷ vs) (i / depth) 0)
      at (inl low) on =
          get_or_append_left (replicate depth (degree v)) (each_bound vs) 0 i (omega (arith, length-replicate depth (degree v))) ∙ get_or-replicate depth i (degree v) 0 low
          ∙ ap (λ j. degree (get_or (v ∷ vs) j 0)) (sym (div-eq_of_lt low))
      at (inr high) on =
          get_or-append_right (replicate depth (degree v)) (each_bound vs) depth i 0 (length-replicate depth (degree v)) high ∙ on (omega (arith, suc-mul (length vs) depth))
          ∙ ap (λ j. degree (get_or (v ∷ vs) j 0)) (sym (div-eq-sub-div some high ∙ add-one ((i - depth) / depth)))

-- ports below their bounds, place by place
within_from : (ports bs : List ℕ) → length ports ≡ length bs → ((i : ℕ) → i < length ports → get_or ports i 0 < get_or bs i 0) → WithinBounds ports bs
within_from [] [] long below = tt
within_from [] (b ∷ bs) long below = absurd (omega arith)
within_from (x ∷ xs) [] long below = absurd (omega arith)
within_from (x ∷ xs) (b ∷ bs) long below = (below 0 (omega arith), within_from xs bs (omega arith) (λ i short. below (suc i) (omega arith)))

-- another port below the bound of its place
within_set : (ports bs : List ℕ) (i q : ℕ) → WithinBounds ports bs → q < get_or bs i 0 → WithinBounds (set ports i q) bs
within_set [] [] i q within below = tt
within_set [] (b ∷ bs) i q never below = absurd never
within_set (x ∷ xs) [] i q never below = absurd never
within_set (x ∷ xs) (b ∷ bs) zero q (first, within) below = (below, within)
within_set (x ∷ xs) (b ∷ bs) (suc i) q (first, within) below = (first, within_set xs bs i q within below)

-- other places are as they were
nth_set_other : (xs : List ℕ) (i j q : ℕ) → (j ≡ i → ⊥) → slice_get (set xs i q) j ≡ slice_get xs j
nth_set_other [] i j q apart = refl
nth_set_other (x ∷ xs) zero zero q apart = absurd (apart refl)
nth_set_other (x ∷ xs) zero (suc j) q apart = refl
nth_set_other (x ∷ xs) (suc i) zero q apart = refl
nth_set_other (x ∷ xs) (suc i) (suc j) q apart = nth_set_other xs i j q (λ same. apart (ap suc same))

module _ (p : Layout) (sound : Sound p) (depth : ℕ) where
  -- one bound for each cell
  pub bounds_long : length (bounds p depth) ≡ cell_count p depth
  bounds_long = each_bound_long p.degree depth (drained p) ∙ ap (λ m. m * depth) (drained_long p sound)

  -- it is the degree of the vertex of the cell
  pub bounds_at : (i : ℕ) → i < cell_count p depth → get_or (bounds p depth) i 0 ≡ p.degree (vertex_at p depth i)
  bounds_at i within = each_bound_at p.degree depth (drained p) i (subst (λ m. i < m * depth) (sym (drained_long p sound)) within)

  -- a filling has one port for each cell
  pub filling_long : (ports : List ℕ) → Filling p depth ports → length ports ≡ cell_count p depth
  filling_long ports filling = length_all_zip (λ port b. port < b) ports (bounds p depth) filling ∙ bounds_long

  -- the two forms of a filling say the same
  pub filling_fills : (ports : List ℕ) → Filling p depth ports → Fills p depth ports
  filling_fills ports filling = (
    filling_long ports filling,
    λ i within.
        let long : length ports ≡ cell_count p depth = filling_long ports filling in
        subst (λ b. get_or ports i 0 < b) (bounds_at i within) (AllZip-get_or (λ port b. port < b) ports (bounds p depth) i 0 0 filling (omega arith)),
  )

  pub fills_filling : (ports : List ℕ) → Fills p depth ports → Filling p depth ports
  fills_filling ports (long, below) = within_from ports (bounds p depth) (long ∙ sym bounds_long) (λ i within.
      let inside : i < cell_count p depth = omega arith in
      subst (λ b. get_or ports i 0 < b) (sym (bounds_at i inside)) (below i inside))

  -- ---- the cells

  -- there is no cell from the depth on
  pub cell_past : (ports : List ℕ) (v k d : ℕ) → depth ≤ k → filed_cells p.size p.root depth ports v k d ≡ None
  cell_past ports v k d past =
      ap (λ b. then (cond b None (Some (cell_place p depth v k))) (slice_get ports)) (or_right (eqb v p.root) _ (or_right (leb p.size v) _ (le-leb depth k past)))

  module _ (v k : ℕ) (apart : v ≡ p.root → ⊥) (in_plan : v < p.size) (shallow : k < depth) where
    -- the place is among those of the cells
    pub place_below : cell_place p depth v k < cell_count p depth
    place_below = digits_lt (rank_below p sound v apart in_plan) shallow

    -- the cell at the place is one of v
    pub vertex_there : vertex_at p depth (cell_place p depth v k) ≡ v
    vertex_there = ap (λ i. get_or (drained p) i 0) (digits_div (rank p.root v) shallow) ∙ drained_at p sound v apart in_plan

    -- there is a cell
    pub place_there : place p.size p.root depth v k ≡ Some (cell_place p depth v k)
    place_there =
        let has : lacks_cell p.size p.root depth v k ≡ false = or_from (eqb v p.root) _ (ne_eqb v p.root apart) (or_from (leb p.size v) _ (lt-leb p.size v in_plan) (lt-leb depth k shallow)) in
        ap (λ b. cond b None (Some (cell_place p depth v k))) has

    -- its port is the one at its place
    pub cell_nth : (ports : List ℕ) (d : ℕ) → filed_cells p.size p.root depth ports v k d ≡ slice_get ports (cell_place p depth v k)
    cell_nth ports d = ap (λ o. then o (slice_get ports)) place_there

    module _ (ports : List ℕ) (filling : Filling p depth ports) where
      -- a filling reaches past the place
      pub place_inside : cell_place p depth v k < length ports
      place_inside = subst (λ n. cell_place p depth v k < n) (sym (filling_long ports filling)) place_below

      -- the cell holds the port at its place
      pub cell_port : (d : ℕ) → filed_cells p.size p.root depth ports v k d ≡ Some (get_or ports (cell_place p depth v k) 0)
      cell_port d = cell_nth ports d ∙ slice_get-get_or ports (cell_place p depth v k) 0 place_inside

      -- which is a port of v
      pub port_below : get_or ports (cell_place p depth v k) 0 < p.degree v
      port_below = subst (λ u. get_or ports (cell_place p depth v k) 0 < p.degree u) vertex_there ((filling_fills ports filling).1 (cell_place p depth v k) place_below)

      -- the cells of a filling are all there, and each holds a port of its vertex
      pub cell_there : (d : ℕ) → (q : ℕ) × (filed_cells p.size p.root depth ports v k d ≡ Some q) × (q < p.degree v)
      cell_there d = (get_or ports (cell_place p depth v k) 0, cell_port d, port_below)

  -- cells at one place are one cell
  pub same_place : (v k : ℕ) → (v ≡ p.root → ⊥) → v < p.size → k < depth → (w j : ℕ) → (w ≡ p.root → ⊥) → w < p.size → j < depth → cell_place p depth w j ≡ cell_place p depth v k → (w ≡ v) × (j ≡ k)
  same_place v k v_apart v_in k_shallow w j w_apart w_in j_shallow same = (
    sym (vertex_there w j w_apart w_in j_shallow) ∙ ap (vertex_at p depth) same ∙ vertex_there v k v_apart v_in k_shallow,
    sym (digits_mod (rank p.root w) j_shallow) ∙ ap (λ i. i % depth) same ∙ digits_mod (rank p.root v) k_shallow,
  )

  -- ---- another port in one cell

  module _ (v k : ℕ) (apart : v ≡ p.root → ⊥) (in_plan : v < p.size) (shallow : k < depth) (ports : List ℕ) (filling : Filling p depth ports) (q : ℕ) (below : q < p.degree v) where
    -- the list is a filling again
    pub replaced_filling : Filling p depth (set ports (cell_place p depth v k) q)
    replaced_filling =
        let bound : get_or (bounds p depth) (cell_place p depth v k) 0 ≡ p.degree v = bounds_at (cell_place p depth v k) (place_below v k apart in_plan shallow) ∙ ap p.degree (vertex_there v k apart in_plan shallow) in
        within_set ports (bounds p depth) (cell_place p depth v k) q filling (subst (λ b. q < b) (sym bound) below)

    -- the cell holds the new port
    pub replaced_here : (d : ℕ) → filed_cells p.size p.root depth (set ports (cell_place p depth v k) q) v k d ≡ Some q
    replaced_here d =
        cell_port v k apart in_plan shallow (set ports (cell_place p depth v k) q) replaced_filling d
        ∙ ap Some (get_or-set_same ports (cell_place p depth v k) q 0 (place_inside v k apart in_plan shallow ports filling))

    -- the other cells are as they were
    pub replaced_other : (w j d : ℕ) → ((w ≡ v) × (j ≡ k) → ⊥) → filed_cells p.size p.root depth (set ports (cell_place p depth v k) q) w j d ≡ filed_cells p.size p.root depth ports w j d
    replaced_other w j d differs = ⊎_elim
        (λ lacks. lacking (set ports (cell_place p depth v k) q) lacks ∙ sym (lacking ports lacks))
        (λ has.
        let (no_root, rest) = or_parts (eqb w p.root) _ has in
        let (vertex, index) = or_parts (leb p.size w) _ rest in
        let w_apart : w ≡ p.root → ⊥ = eqb-false w p.root no_root in
        let w_in : w < p.size = leb-false p.size w vertex in
        let j_shallow : j < depth = leb-false depth j index in
        cell_nth w j w_apart w_in j_shallow (set ports (cell_place p depth v k) q) d
        ∙ nth_set_other ports (cell_place p depth v k) (cell_place p depth w j) q (λ same. differs (same_place v k apart in_plan shallow w j w_apart w_in j_shallow same))
        ∙ sym (cell_nth w j w_apart w_in j_shallow ports d))
        (cases_Bool (lacks_cell p.size p.root depth w j))
      where
        lacking : (xs : List ℕ) → lacks_cell p.size p.root depth w j ≡ true → filed_cells p.size p.root depth xs w j d ≡ None
        lacking xs lacks = ap (λ b. then (cond b None (Some (cell_place p depth w j))) (slice_get xs)) lacks
