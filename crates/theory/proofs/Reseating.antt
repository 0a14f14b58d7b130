-- Reseating by an ended draw gives a filling whose draws pop the same cycles and end in the new tree, and reseating back gives the old filling. Assumes nothing.
use Rattle.std.proofs.Common.{◌≡◌, ℕ, ◌<◌, ◌≤◌, Bool, true, false, cond, not, ltb, ◌⊎◌, List, [], ◌∷◌, ◌++◌, length, get_or, take, drop, set, is_some, Some, None, Ok, Option, sym, refl, ap, ◌∙◌, subst, inl, inr, ⊎_elim, append-nil, arith, length-set, get_or-set_other, get_or-set_same}
use mathlib.Core.Path.{fun_ext}
use Rattle.std.specs.List.{range_with_len}
use Rattle.std.specs.List.Sorted.{IsPermutation}
use Rattle.std.specs.Option.{option_or}
use Rattle.std.proofs.lemmas.List.{ext_get_or, take_all, drop_all}
use Rattle.std.proofs.lemmas.Bool.{cases_eq, cases_lt, eqb-false, ne_eqb, le-ltb, not-true, not_from_true, not_from_false, and_left, and_right, cases_Bool}
use Rattle.model.specs.Arrows.{Cells, counts, visible, sight, is_dry}
use Rattle.model.specs.Depths.{cells_fault}
use Rattle.theory.specs.Calls.{first_fault, none_open}
use Rattle.theory.specs.Cycles.{Heights, flat, seen, Cycle, Coloured, Pops, Final}
use Rattle.model.specs.Distinct.{In, Fresh, Distinct}
use Rattle.theory.specs.Draws.{State, is_of, height_of}
use Rattle.theory.specs.Endings.{lowest_dry, dry_fault, end_fault, written}
use Rattle.theory.specs.Fillings.{drained, cell_count, cell_place, Filling}
use Rattle.model.specs.Layouts.{Layout, Sound, is_root}
use Rattle.theory.specs.Outcomes.{end_of}
use Rattle.model.specs.Picks.{then}
use Rattle.theory.specs.Reseats.{cells_of, seats, reseated, says_yes, reseat_fault, reseats_to, Shows}
use Rattle.model.specs.Trees.{follow, tree_check, Reaches, IsTree}
use Rattle.model.specs.declared.fault.DrawFault.{DrawFault}
use Rattle.model.specs.declared.fault.DrawFault.TheVariants as fault
use Rattle.model.specs.declared.tree.TreeCheck.TheVariants.{Tree}
use Rattle.theory.proofs.Agreeing.{pops_agree, tree_no_cycle}
use Rattle.theory.proofs.Fillings.{filling_long, place_inside, cell_port, cell_past, replaced_filling, replaced_here, replaced_other}
use Rattle.theory.proofs.Outcomes.{to_end}
use Rattle.theory.proofs.Members.{in_kept, kept_in, in_counting, counting_in, distinct_kept, distinct_counting}
use Rattle.theory.proofs.Sights.{visible_some, visible_cell, sight_within}
use Rattle.model.proofs.Lowest.{lowest_none}
use Rattle.model.proofs.Ways.{none_some, same_some, no_lead}

-- a member that is fresh is none
fresh_in : {X : Type 0} (x : X) (xs : List X) → Fresh x xs → In x xs → ⊥
fresh_in x [] fresh there = there
fresh_in x (y ∷ ys) (apart, fresh) (inl e) = apart e
fresh_in x (y ∷ ys) (apart, fresh) (inr there) = fresh_in x ys fresh there

module _ (p : Layout) where
  -- the vertices but the root are just those
  pub drained_in : (v : ℕ) → v < p.size → is_root p v ≡ false → In v (drained p)
  drained_in v low other = in_kept (λ x. not (is_root p x)) (range_with_len 0 p.size) v (in_counting 0 p.size v (omega arith) (omega arith)) (not_from_false _ other)

  pub in_drained : (v : ℕ) → In v (drained p) → (v < p.size) × (is_root p v ≡ false)
  in_drained v there =
      let (listed, passed) = kept_in (λ x. not (is_root p x)) (range_with_len 0 p.size) v there in
      let (low, high) = counting_in 0 p.size v listed in
      (omega arith, not-true _ passed)

  drained_once : Distinct (drained p)
  drained_once = distinct_kept (λ x. not (is_root p x)) (range_with_len 0 p.size) (distinct_counting 0 p.size)

-- a visible cell lies above the depth
pub shown_shallow : (p : Layout) → Sound p → (depth : ℕ) (F : List ℕ) (v k q : ℕ) → visible p (cells_of p depth F) v k ≡ Some q → k < depth
shown_shallow p sound depth F v k q shows =
    ⊎_elim (λ lt. lt) (λ ge. absurd (none_some _ q (cell_past p sound depth F v k (p.degree v) ge) (visible_some p (cells_of p depth F) v k q shows).cell)) (cases_lt k depth)

-- ---- the cells after reseating

module _ (p : Layout) (sound : Sound p) (depth : ℕ) (h : Heights) (u : List ℕ) where
  -- v has a cell at its height, and its port in u is one of its ports
  pub record Seat (v : ℕ) : Type 0 where
    pub in_plan : v < p.size
    pub apart : v ≡ p.root → ⊥
    pub shallow : h v < depth
    pub port : get_or u v 0 < p.degree v

  abbrev at : ℕ → ℕ
  at v = cell_place p depth v (h v)

  pub seats_filling : (vs : List ℕ) → ((v : ℕ) → In v vs → Seat v) → (F : List ℕ) → Filling p depth F → Filling p depth (seats p depth h u vs F)
  seats_filling [] seat F filling = filling
  seats_filling (v ∷ vs) seat F filling =
      let s = seat v (inl refl) in
      seats_filling vs (λ w there. seat w (inr there)) (set F (at v) (get_or u v 0)) (replaced_filling p sound depth v (h v) s.apart s.in_plan s.shallow F filling (get_or u v 0) s.port)

  -- cells that are not at their vertex's height are as they were
  pub seats_other : (vs : List ℕ) → ((v : ℕ) → In v vs → Seat v) → (F : List ℕ) → Filling p depth F → (w j d : ℕ) → (In w vs → j ≡ h w → ⊥) → cells_of p depth (seats p depth h u vs F) w j d ≡ cells_of p depth F w j d
  seats_other [] seat F filling w j d off = refl
  seats_other (v ∷ vs) seat F filling w j d off =
      let s = seat v (inl refl) in
      let G = set F (at v) (get_or u v 0) in
      seats_other vs (λ x there. seat x (inr there)) G (replaced_filling p sound depth v (h v) s.apart s.in_plan s.shallow F filling (get_or u v 0) s.port) w j d (λ there e. off (inr there) e)
      ∙ replaced_other p sound depth v (h v) s.apart s.in_plan s.shallow F filling (get_or u v 0) s.port w j d (λ (same, level). off (inl same) (level ∙ ap h (sym same)))

  -- the cell at a vertex's height holds its port in u
  pub seats_here : (vs : List ℕ) → Distinct vs → ((v : ℕ) → In v vs → Seat v) → (F : List ℕ) → Filling p depth F → (w d : ℕ) → In w vs → cells_of p depth (seats p depth h u vs F) w (h w) d ≡ Some (get_or u w 0)
  seats_here [] once seat F filling w d there = absurd there
  seats_here (v ∷ vs) (fresh, once) seat F filling w d (inl same) =
      let s = seat v (inl refl) in
      let G = set F (at v) (get_or u v 0) in
      subst (λ x. cells_of p depth (seats p depth h u vs G) x (h x) d ≡ Some (get_or u x 0)) (sym same)
      (seats_other vs (λ x there. seat x (inr there)) G (replaced_filling p sound depth v (h v) s.apart s.in_plan s.shallow F filling (get_or u v 0) s.port) v (h v) d (λ there e. fresh_in v vs fresh there)
      ∙ replaced_here p sound depth v (h v) s.apart s.in_plan s.shallow F filling (get_or u v 0) s.port d)
  seats_here (v ∷ vs) (fresh, once) seat F filling w d (inr there) =
      let s = seat v (inl refl) in
      seats_here vs once (λ x inside. seat x (inr inside)) (set F (at v) (get_or u v 0)) (replaced_filling p sound depth v (h v) s.apart s.in_plan s.shallow F filling (get_or u v 0) s.port) w d there

  -- ---- the same by places

  seats_long : (vs F : List ℕ) → length (seats p depth h u vs F) ≡ length F
  seats_long [] F = refl
  seats_long (v ∷ vs) F = seats_long vs (set F (at v) (get_or u v 0)) ∙ length-set F (at v) (get_or u v 0)

  -- a place that is no seat
  seats_off : (vs F : List ℕ) (i : ℕ) → ((v : ℕ) → In v vs → at v ≡ i → ⊥) → get_or (seats p depth h u vs F) i 0 ≡ get_or F i 0
  seats_off [] F i off = refl
  seats_off (v ∷ vs) F i off = seats_off vs (set F (at v) (get_or u v 0)) i (λ w there. off w (inr there)) ∙ get_or-set_other F (at v) i (get_or u v 0) 0 (λ e. off v (inl refl) (sym e))

-- seats that get back what F has there: F comes back
module _ (p : Layout) (depth : ℕ) (h : Heights) (t F : List ℕ) where
  restored : (vs G : List ℕ) → ((v : ℕ) → In v vs → (get_or t v 0 ≡ get_or F (cell_place p depth v (h v)) 0) × (cell_place p depth v (h v) < length G))
      → ((i : ℕ) → ((v : ℕ) → In v vs → cell_place p depth v (h v) ≡ i → ⊥) → get_or G i 0 ≡ get_or F i 0) → (i : ℕ) → get_or (seats p depth h t vs G) i 0 ≡ get_or F i 0
  restored [] G old off i = off i (λ v never. absurd never)
  restored (v ∷ vs) G old off i =
      let here = cell_place p depth v (h v) in
      let (same, inside) = old v (inl refl) in
      restored vs (set G here (get_or t v 0))
      (λ w there. let (old_w, in_w) = old w (inr there) in (old_w, subst (λ n. cell_place p depth w (h w) < n) (sym (length-set G here (get_or t v 0))) in_w))
      (λ j apart. ⊎_elim
      (λ e. subst (λ x. get_or (set G here (get_or t v 0)) x 0 ≡ get_or F x 0) (sym e) (get_or-set_same G here (get_or t v 0) 0 inside ∙ same))
      (λ other. get_or-set_other G here j (get_or t v 0) 0 other ∙ off j (elsewhere j apart other))
      (cases_eq j here))
      i
    where
      elsewhere : (j : ℕ) → ((w : ℕ) → In w vs → cell_place p depth w (h w) ≡ j → ⊥) → (j ≡ cell_place p depth v (h v) → ⊥) → (w : ℕ) → In w (v ∷ vs) → cell_place p depth w (h w) ≡ j → ⊥
      elsewhere j apart other w (inl same) e = other (sym e ∙ ap (λ x. cell_place p depth x (h x)) same)
      elsewhere j apart other w (inr there) e = apart w there e

-- ---- an ended draw over a filling, and another tree

module _ (p : Layout) (sound : Sound p) (depth : ℕ) (deep : depth ≤ 4096) (F : List ℕ) (filling : Filling p depth F) (h : Heights) (t u : List ℕ)
    (shows : Shows p (cells_of p depth F) h t) (tree : IsTree p u) where
  abbrev old : Cells
  old = cells_of p depth F

  abbrev pub reseated_list : List ℕ
  reseated_list = reseated p depth h u F

  abbrev new : Cells
  new = cells_of p depth reseated_list

  -- a tree's port at a vertex other than the root is one of its ports
  tree_port : (v : ℕ) → v < p.size → (v ≡ p.root → ⊥) → get_or u v 0 < p.degree v
  tree_port v low apart = ⊎_elim (λ lt. lt) (λ ge. absurd (stuck ge (tree.all_reach v low))) (cases_lt (get_or u v 0) (p.degree v))
    where
      nowhere : p.degree v ≤ get_or u v 0 → follow p u v ≡ None
      nowhere ge = ap (λ b. cond b None (p.target v (get_or u v 0))) (ne_eqb v p.root apart) ∙ sound.target_none v (get_or u v 0) ge

      stuck : p.degree v ≤ get_or u v 0 → Reaches p u v → ⊥
      stuck ge reaches = no_lead (follow p u) v p.root apart (nowhere ge) reaches

  seat : (v : ℕ) → In v (drained p) → Seat p sound depth h u v
  seat v there =
      let (low, other) = in_drained p v there in
      let apart : v ≡ p.root → ⊥ = eqb-false v p.root other in
      record { in_plan = low; apart = apart; shallow = shown_shallow p sound depth F v (h v) (get_or t v 0) (shows v low other); port = tree_port v low apart }

  pub reseated_filling : Filling p depth reseated_list
  reseated_filling = seats_filling p sound depth h u (drained p) seat F filling

  -- below the heights nothing is changed
  below_same : (v k : ℕ) → k < h v → sight p new v k ≡ sight p old v k
  below_same v k low = ap (λ o. then (cond (is_root p v) None (then o (counts (p.degree v) k))) (p.target v)) (seats_other p sound depth h u (drained p) seat F filling v k (p.degree v) (λ there e. omega arith))

  -- at the heights the new tree shows
  pub reseated_shows : Shows p new h u
  reseated_shows v low other =
      let there = drained_in p v low other in
      let s = seat v there in
      visible_cell p new v (h v) (get_or u v 0) other (let sh = s.shallow in omega arith) s.port (seats_here p sound depth h u (drained p) (drained_once p) seat F filling v (p.degree v) there)

  at_heights : (v : ℕ) → seen (sight p new) h v ≡ follow p u v
  at_heights v = by (is_root p v) refl (cases_lt v p.size)
    where
      by : (b : Bool) → is_root p v ≡ b → (v < p.size) ⊎ (p.size ≤ v) → seen (sight p new) h v ≡ follow p u v
      by true root place = ap (λ b. then (cond b None (then (new v (h v) (p.degree v)) (counts (p.degree v) (h v)))) (p.target v)) root ∙ sym (ap (λ b. cond b None (p.target v (get_or u v 0))) root)
      by false other (inl low) = ap (λ o. then o (p.target v)) (reseated_shows v low other) ∙ sym (ap (λ b. cond b None (p.target v (get_or u v 0))) other)
      by false other (inr past) = no_sight (sight p new v (h v)) refl ∙ sym (ap (λ b. cond b None (p.target v (get_or u v 0))) other ∙ sound.target_none v (get_or u v 0) (let none : p.degree v ≡ 0 = sound.degree_none v past in omega arith))
        where
          no_sight : (o : Option ℕ) → sight p new v (h v) ≡ o → sight p new v (h v) ≡ None
          no_sight None is = is
          no_sight (Some w) is = absurd (let low : v < p.size = (sight_within p new sound).from v (h v) w is in omega arith)

  pub reseated_final : Final (sight p new) h
  reseated_final c cyc = tree_no_cycle p sound u tree c (subst (λ f. Cycle f c) (fun_ext at_heights) cyc)

  -- what was popped over the old cells is popped over the new ones, and comes to their end
  pub reseated_end : (cs : List Coloured) → Pops (sight p old) flat cs h → IsPermutation (end_of p new).cycles cs × ((v : ℕ) → h v ≡ (end_of p new).heights v)
  reseated_end cs pops = to_end p new sound cs h (pops_agree (sight p old) (sight p new) flat cs h below_same pops) reseated_final

  -- reseating to the old tree gives back the old cells
  pub reseated_back : reseated p depth h t reseated_list ≡ F
  reseated_back =
      let long : length reseated_list ≡ length F = seats_long p sound depth h u (drained p) F in
      ext_get_or 0 (reseated p depth h t reseated_list) F (seats_long p sound depth h t (drained p) reseated_list ∙ long)
      (λ i inside. restored p depth h t F (drained p) reseated_list
      (λ v there.
      let s = seat v there in
      let (low, other) = in_drained p v there in (
        same_some (old v (h v) (p.degree v)) (get_or t v 0) (get_or F (cell_place p depth v (h v)) 0) (visible_some p old v (h v) (get_or t v 0) (shows v low other)).cell (cell_port p sound depth v (h v) s.apart s.in_plan s.shallow F filling (p.degree v)),
        subst (λ n. cell_place p depth v (h v) < n) (sym long) (place_inside p sound depth v (h v) s.apart s.in_plan s.shallow F filling),
      ))
      (λ j off. seats_off p sound depth h u (drained p) F j off) i)

-- ---- the call

-- every vertex but the root shows a port, so none is dry
shows_wet : (p : Layout) (a : Cells) (h : Heights) (t : List ℕ) → Shows p a h t → lowest_dry p a h ≡ None
shows_wet p a h t shows = lowest_none (λ v. is_dry p a v (h v)) p.size (λ v low. by v low (cases_Bool (is_root p v)))
  where
    by : (v : ℕ) → v < p.size → (is_root p v ≡ true) ⊎ (is_root p v ≡ false) → is_dry p a v (h v) ≡ false
    by v low (inl root) = and_left _ _ (not_from_true _ root)
    by v low (inr other) = and_right _ _ (ap (λ o. not (is_some o)) (shows v low other))

-- a call that passes every test is not refused
passed : (limits ended : Option DrawFault) (few_cells few_ports of_plan said : Bool) → limits ≡ None → few_cells ≡ false → few_ports ≡ false → of_plan ≡ true → ended ≡ None → said ≡ true
    → option_or (option_or limits (first_fault ((few_cells, fault.Short) ∷ (few_ports, fault.Short) ∷ []))) (option_or (first_fault ((not of_plan, fault.OtherPlan) ∷ [])) (option_or ended (first_fault ((not said, fault.NoTree) ∷ [])))) ≡ None
passed limits ended few_cells few_ports of_plan said a b c d e f = rw (a, b, c, d, e, f)

-- over a filling within the limits, an ended draw of this plan reseats to any tree
pub reseats_filling : (p : Layout) → Sound p → (d : State) (depth : ℕ) (F t u : List ℕ) → cells_fault p.size depth ≡ None → Filling p depth F → is_of p d ≡ true → none_open d.entries ≡ true
    → Shows p (cells_of p depth F) (height_of d.entries) t → tree_check p u ≡ Ok Tree → p.size ≤ length u → reseats_to p d depth F u ≡ (Ok tt, reseated p depth (height_of d.entries) u F)
reseats_filling p sound d depth F t u limits filling of_plan over shows says enough =
    let h = height_of d.entries in
    let count = cell_count p depth in
    let long : length F ≡ count = filling_long p sound depth F filling in
    let all : take count F ≡ F = take_all count F (omega arith) in
    let ended : end_fault p (cells_of p depth (take count F)) d ≡ None =
    ap (λ G. end_fault p (cells_of p depth G) d) all
    ∙ ap (λ b. option_or (first_fault ((not b, fault.StillOpen) ∷ [])) (dry_fault (lowest_dry p (cells_of p depth F) h))) over
    ∙ ap dry_fault (shows_wet p (cells_of p depth F) h t shows) in
    let none : reseat_fault p d depth F u ≡ None =
    passed (cells_fault p.size depth) (end_fault p (cells_of p depth (take count F)) d) (ltb (length F) count) (ltb (length u) p.size) (is_of p d) (says_yes (tree_check p u))
    limits (le-ltb (length F) count (omega arith)) (le-ltb (length u) p.size enough) of_plan ended (ap says_yes says) in
    ap (λ o. written o F (reseated p depth h u (take count F) ++ drop count F)) none
    ∙ ap (λ xs. written None F xs) (ap (λ xs. xs ++ drop count F) (ap (reseated p depth h u) all) ∙ ap (λ xs. reseated p depth h u F ++ xs) (drop_all count F (omega arith)) ∙ append-nil (reseated p depth h u F))
