-- Reseating vertex by vertex, and why every vertex has its seat. Assumes nothing.
use Rattle.std.proofs.Common.{◌≡◌, ℕ, suc, ◌+◌, ◌-◌, ◌<◌, Bool, true, false, cond, not, ◌&&◌, ◌||◌, ltb, leb, List, [], ◌∷◌, ◌++◌, length, get_or, take, drop, set, is_some, Some, None, Ok, Err, filter, Option, Result, sym, refl, ap, ◌∙◌, subst, inl, inr, arith, length-set, MatchOption}
use Rattle.std.proofs.lemmas.List.{length-take-le, set-append_left, take-append-drop}
use Rattle.std.proofs.lemmas.Bool.{eqb-true, eqb-false, ltb-false, leb-false, not-false, not_from_false, and_parts, and_from, or_parts, both_ways}
use Rattle.std.specs.List.{range_with_len}
use Rattle.std.specs.Option.{option_or}
use Rattle.model.proofs.Lowest.{NoneBelow, IsLowest, lowest_tells}
use Rattle.model.proofs.Ways.{none_some, same_some}
use Rattle.model.specs.Answers.{answered}
use Rattle.model.specs.Arrows.{Cells, visible, is_dry}
use Rattle.model.specs.Depths.{cells_fault}
use Rattle.model.specs.Distinct.{In}
use Rattle.model.specs.Filed.{lacks_cell, place}
use Rattle.model.specs.Layouts.{Layout, Sound, is_root}
use Rattle.model.specs.declared.fault.DrawFault.{DrawFault}
use Rattle.model.specs.declared.fault.DrawFault.TheVariants.{Short, OtherPlan, Dry}
use Rattle.sources.specs.declared.listing.Listing.{Listing}
use Rattle.theory.proofs.Fillings.{place_below}
use Rattle.theory.proofs.Reseating.{in_drained, shown_shallow}
use Rattle.theory.specs.Calls.{first_fault}
use Rattle.theory.specs.Cycles.{Heights}
use Rattle.theory.specs.Draws.{State, is_of, height_of}
use Rattle.theory.specs.Endings.{lowest_dry, dry_fault, end_fault, written}
use Rattle.theory.specs.Fillings.{drained, cell_count, cell_place}
use Rattle.theory.specs.Reseats.{cells_of, seats, reseated, room_fault, reseat_fault, reseats_to}
use Rattle.endings.specs.Seats.{seat, HasSeats}

-- ---- one vertex

-- what has a place is a cell of a vertex other than the root above the depth, so the place is among those of the cells
pub placed_below : (p : Layout) → Sound p → (l : Listing) (depth v k at : ℕ) → l ≡ record { size = p.size; root = p.root; depth = depth } → Some at ≡ place l.size l.root l.depth v k → at < cell_count p depth
placed_below p sound l depth v k at listed is = by (lacks_cell p.size p.root depth v k) refl (sym (is ∙ ap (λ (x : Listing). place x.size x.root x.depth v k) listed))
  where
    by : (b : Bool) → lacks_cell p.size p.root depth v k ≡ b → cond b None (Some (cell_place p depth v k)) ≡ Some at → at < cell_count p depth
    by true lacks none = absurd (none_some None at refl none)
    by false has some =
        let (apart, rest) = or_parts (is_root p v) (leb p.size v || leb depth k) has in
        let (within, shallow) = or_parts (leb p.size v) (leb depth k) rest in
        subst (λ x. x < cell_count p depth) (same_some (Some (cell_place p depth v k)) _ _ refl some)
        (place_below p sound depth v k (eqb-false v p.root apart) (leb-false p.size v within) (leb-false depth k shallow))

-- ---- all of them, by what is left from v on

abbrev pub left_from : Layout → ℕ → List ℕ
left_from p v = filter (λ x. not (is_root p x)) (range_with_len v (p.size - v))

module _ (p : Layout) (depth : ℕ) (h : Heights) (u : List ℕ) where
  abbrev pub seats_from : ℕ → List ℕ → List ℕ
  seats_from v F = seats p depth h u (left_from p v) F

  -- v is the first that is left, unless it is the root
  seats_step : (v : ℕ) (F : List ℕ) → v < p.size → seats_from v F ≡ seats_from (v + 1) (seat p depth h u v F)
  seats_step v F within =
      ap (λ n. seats p depth h u (filter (λ x. not (is_root p x)) (range_with_len v n)) F) (let e : p.size - v ≡ suc (p.size - (v + 1)) = omega arith in e)
      ∙ by (is_root p v)
    where
      by : (b : Bool) → seats p depth h u (cond (not b) (v ∷ left_from p (v + 1)) (left_from p (v + 1))) F ≡ seats_from (v + 1) (cond b F (set F (cell_place p depth v (h v)) (get_or u v 0)))
      by true = refl
      by false = refl

  -- what is left after v gives the whole again
  pub seats_more : (v : ℕ) (F G whole : List ℕ) → v < p.size → G ≡ seat p depth h u v F → seats_from v F ≡ whole → seats_from (v + 1) G ≡ whole
  seats_more v F G whole within is gives = ap (seats_from (v + 1)) is ∙ sym (seats_step v F within) ∙ gives

  -- what stands behind all seats stays
  pub seats_front : (vs F G : List ℕ) → ((v : ℕ) → In v vs → cell_place p depth v (h v) < length F) → seats p depth h u vs (F ++ G) ≡ seats p depth h u vs F ++ G
  seats_front [] F G inside = refl
  seats_front (v ∷ vs) F G inside =
      let at = cell_place p depth v (h v) in
      ap (λ xs. seats p depth h u vs xs) (set-append_left F G at (get_or u v 0) (inside v (inl refl)))
      ∙ seats_front vs (set F at (get_or u v 0)) G (λ w there. subst (λ n. cell_place p depth w (h w) < n) (sym (length-set F at (get_or u v 0))) (inside w (inr there)))

-- ---- why every vertex has its seat

or_none : {A : Type 0} (o q : Option A) → option_or o q ≡ None → (o ≡ None) × (q ≡ None)
or_none None q none = (refl, none)
or_none (Some x) q none = absurd (none_some (Some x) x none refl)

one_test : (t : Bool) (e : DrawFault) → first_fault ((t, e) ∷ []) ≡ None → t ≡ false
one_test true e none = absurd (none_some (Some e) e none refl)
one_test false e none = refl

two_tests : (s t : Bool) (e : DrawFault) → first_fault ((s, e) ∷ (t, e) ∷ []) ≡ None → (s ≡ false) × (t ≡ false)
two_tests true t e none = absurd (none_some (Some e) e none refl)
two_tests false t e none = (refl, one_test t e none)

-- with no dry vertex every one but the root shows a port
none_dry : (p : Layout) (a : Cells) (h : Heights) → dry_fault (lowest_dry p a h) ≡ None → (v : ℕ) → v < p.size → is_root p v ≡ false → (q : ℕ) × (visible p a v (h v) ≡ Some q)
none_dry p a h none v within other = at (lowest_dry p a h) none (lowest_tells (λ u. is_dry p a u (h u)) p.size)
  where
    shown : (o : Option ℕ) → visible p a v (h v) ≡ o → (not (is_root p v) && not (is_some o)) ≡ false → (q : ℕ) × (visible p a v (h v) ≡ Some q)
    shown (Some q) is wet = (q, is)
    shown None is wet = absurd (both_ways _ wet (and_from _ _ (not_from_false _ other) refl))

    at : (o : Option ℕ) → dry_fault o ≡ None → MatchOption o (NoneBelow (λ u. is_dry p a u (h u)) p.size) (λ w. IsLowest (λ u. is_dry p a u (h u)) p.size w) → (q : ℕ) × (visible p a v (h v) ≡ Some q)
    at None never wet = shown (visible p a v (h v)) refl (wet v within)
    at (Some w) never found = absurd (none_some (Some (Dry w)) (Dry w) never refl)

-- where nothing is refused
pub ready : (p : Layout) → Sound p → (d : State) (depth : ℕ) (cells ports : List ℕ) → reseat_fault p d depth cells ports ≡ None → HasSeats p d depth cells ports
ready p sound d depth cells ports none =
    let front = take (cell_count p depth) cells in
    let (room, rest) = or_none (room_fault p.size depth (length cells) (length ports)) _ none in
    let (limits, short) = or_none (cells_fault p.size depth) _ room in
    let (few_cells, few_ports) = two_tests (ltb (length cells) (cell_count p depth)) (ltb (length ports) p.size) Short short in
    let (of_plan, rest2) = or_none (first_fault ((not (is_of p d), OtherPlan) ∷ [])) _ rest in
    let (ended, rest3) = or_none (end_fault p (cells_of p depth front) d) _ rest2 in
    let (over, wet) = or_none _ (dry_fault (lowest_dry p (cells_of p depth front) (height_of d.entries))) ended in
    record {
      entered = eqb-true (length d.entries) p.size (and_parts _ _ (not-false _ (one_test (not (is_of p d)) OtherPlan of_plan))).0;
      shallow = λ v low apart. let (q, shows) = none_dry p (cells_of p depth front) (height_of d.entries) wet v low apart in shown_shallow p sound depth front v (height_of d.entries v) q shows;
      room = ltb-false (length cells) (cell_count p depth) few_cells;
      enough = ltb-false (length ports) p.size few_ports;
    }

-- the seats are in the front
pub in_front : (p : Layout) → Sound p → (d : State) (depth : ℕ) (cells ports : List ℕ) → HasSeats p d depth cells ports
    → reseated p depth (height_of d.entries) ports cells ≡ reseated p depth (height_of d.entries) ports (take (cell_count p depth) cells) ++ drop (cell_count p depth) cells
in_front p sound d depth cells ports has =
    let h = height_of d.entries in
    let front = take (cell_count p depth) cells in
    ap (λ F. reseated p depth h ports F) (sym (take-append-drop (cell_count p depth) cells))
    ∙ seats_front p depth h ports (drained p) front (drop (cell_count p depth) cells) (λ v there.
    let (low, other) = in_drained p v there in
    let below : cell_place p depth v (h v) < cell_count p depth = place_below p sound depth v (h v) (eqb-false v p.root other) low (has.shallow v low other) in
    omega (arith, length-take-le (cell_count p depth) cells has.room))

-- what is refused changes nothing
pub refused : (fault : Option DrawFault) (e : DrawFault) (r : Result (Unit {0}) DrawFault) (ports new : List ℕ) → r ≡ Err e → ◌≡◌ {A = Result (Unit {0}) DrawFault} (Err e) (answered fault tt)
    → ◌≡◌ {A = Result (Unit {0}) DrawFault × List ℕ} (r, ports) (written fault ports new)
refused None e r ports new is found = absurd (cc)
refused (Some x) e r ports new is found = ap (λ (y : Result (Unit {0}) DrawFault). (y, ports)) (is ∙ found)

-- where nothing is refused, the call is the seating of all
pub reseats_all : (p : Layout) → Sound p → (d : State) (depth : ℕ) (cells ports new : List ℕ) → reseat_fault p d depth cells ports ≡ None → new ≡ reseated p depth (height_of d.entries) ports cells
    → ◌≡◌ {A = Result (Unit {0}) DrawFault × List ℕ} (Ok tt, new) (reseats_to p d depth cells ports)
reseats_all p sound d depth cells ports new none is =
    let split = in_front p sound d depth cells ports (ready p sound d depth cells ports none) in
    let both : List ℕ → Result (Unit {0}) DrawFault × List ℕ = λ xs. (Ok tt, xs) in
    ap both (is ∙ split)
    ∙ ap (λ o. written o cells (reseated p depth (height_of d.entries) ports (take (cell_count p depth) cells) ++ drop (cell_count p depth) cells)) (sym none)
