-- What holds of a draw after any calls: its heights come from popping cycles, and no cycle is left on settled vertices. Assumes nothing.
use Rattle.std.proofs.Common.{◌≡◌, ℕ, zero, suc, ◌+◌, ◌<◌, Bool, true, false, cond, not, ltb, ◌⊎◌, List, [], ◌∷◌, ◌++◌, map, length, get_or, drop, set, is_ok, Some, None, Option, Result, sym, refl, ap, ◌∙◌, subst, ⊎_elim, append_assoc, append-nil, arith, length-append, length-drop, MatchOption}
use mathlib.Core.Path.{fun_ext}
use Rattle.std.specs.List.{AllByRecursion}
use Rattle.std.proofs.lemmas.List.{set_at, drop_more, length-map, map_push}
use Rattle.std.proofs.lemmas.Bool.{false≢true, cases_Bool, both_ways, or_cases, or_left, or_right, ltb-true, eq-eqb, and_from, not-false, cases_lt}
use Rattle.model.specs.Arrows.{Cells, counts, sight}
use Rattle.theory.specs.Calls.{Strategy, After, first_fault, refused, pops_cycle, settles, by_trail, tries, telling, steps, none_open, stopped, preceded, all_told, runs_on, runs, Call, try_at, step, run, does, worked, popped_by, start}
use Rattle.theory.specs.Cycles.{flat, seen, among, Cycle, Coloured, coloured, raise, Pops, Final}
use Rattle.model.specs.Distinct.{Distinct}
use Rattle.theory.specs.Draws.{height_of, is_settled, changed, higher, shut, Held, opened, is_of, shown, Trail, trail, turned, record_of}
use Rattle.theory.specs.Ends.{if_some}
use Rattle.model.specs.Layouts.{Layout, Sound, is_root}
use Rattle.model.specs.Orders.{open_marks}
use Rattle.model.specs.Picks.{then}
use Rattle.model.specs.Ways.{Way}
use Rattle.model.specs.declared.draw.Entry.{Entry}
use Rattle.model.specs.declared.draw.Pop.{Pop}
use Rattle.model.specs.declared.draw.Tried.{Tried}
use Rattle.model.specs.declared.draw.Stop.{Stop}
use Rattle.model.specs.declared.draw.Stop.TheVariants.{Ended, Spent, Full}
use Rattle.model.specs.declared.fault.DrawFault.{DrawFault}
use Rattle.model.specs.declared.fault.DrawFault.TheVariants as fault
use Rattle.theory.proofs.Cycles.{among_here, among_cases, way_rest, cycle_arrow, cycle_leads, cycle_same, raise_off}
use Rattle.theory.proofs.Ends.{Stays, cycle_below, stays}
use Rattle.theory.proofs.Entries.{length_changed, raised_heights, settled_marks, raised_marks, settled_heights, opened_long, opened_heights, opened_marks, opened_past}
use Rattle.theory.proofs.Popping.{pops_join}
use Rattle.theory.proofs.Sights.{sight_within}
use Rattle.theory.proofs.Trails.{Told, Round, Leaves, ClosedUnder, turned_among, turned_cycle, told}
use Rattle.model.proofs.Ways.{none_some}

-- a property that arrows carry on holds all along a cycle that has it once
carried : (f : ℕ → Option ℕ) (P : ℕ → Type 0) → ((x y : ℕ) → P x → f x ≡ Some y → P y) → (c : List ℕ) (x : ℕ) → Cycle f c → among x c ≡ true → P x → (y : ℕ) → among y c ≡ true → P y
carried f P on_arrow [] x cyc on px = absurd cyc
carried f P on_arrow (v ∷ vs) x (way, low) on px =
    let (xs, to_v) = way_rest f v vs v x way on in
    let pv : P v = along xs x v to_v px in
    λ y there. all_along v vs v way pv y there
  where
    along : (xs : List ℕ) (u w : ℕ) → Way f u xs w → P u → P w
    along [] u w arrow pu = on_arrow u w pu arrow
    along (z ∷ zs) u w (arrow, rest) pu = along zs z w rest (on_arrow u z pu arrow)

    all_along : (u : ℕ) (us : List ℕ) (w : ℕ) → Way f u us w → P u → (y : ℕ) → among y (u ∷ us) ≡ true → P y
    all_along u [] w arrow pu y there = ⊎_elim (λ e. subst P (sym e) pu) (λ never. absurd (false≢true never)) (among_cases y u [] there)
    all_along u (z ∷ zs) w (arrow, rest) pu y there = ⊎_elim (λ e. subst P (sym e) pu) (all_along z zs w rest (on_arrow u z pu arrow) y) (among_cases y u (z ∷ zs) there)

-- the cycle of a trail that came round
pub round_cycle : (f : ℕ → Option ℕ) (path l : List ℕ) → Round f path l → Cycle f (turned l)
round_cycle f path l round = subst (λ x. Cycle f (turned x)) (sym round.is) (turned_cycle f round.first round.rest (subst Distinct round.is round.distinct) round.way)

module _ (p : Layout) (a : Cells) (sound : Sound p) where
  -- the marks of a draw: an arrow from a settled vertex leads to a settled one, and no cycle holds a settled vertex
  pub record Sane (es : List Entry) : Type 0 where
    pub sized : length es ≡ p.size
    pub closed : (x y : ℕ) → is_settled es x ≡ true → shown p a es x ≡ Some y → is_settled es y ≡ true
    pub no_cycle : (c : List ℕ) (x : ℕ) → Cycle (shown p a es) c → among x c ≡ true → is_settled es x ≡ true → ⊥

  pub shown_stays : (es : List Entry) → Stays (shown p a es) p.size
  shown_stays es = stays (sight p a) p.size 4096 (sight_within p a sound) (height_of es)

  pub inside : (es : List Entry) → length es ≡ p.size → (c : List ℕ) → Cycle (shown p a es) c → AllByRecursion (λ v. v < length es) c
  inside es sized c cyc = subst (λ n. AllByRecursion (λ v. v < n) c) (sym sized) (cycle_below (shown p a es) p.size (shown_stays es) c cyc)

  -- ---- popping a cycle of open vertices
  module _ (es : List Entry) (sane : Sane es) (c : List ℕ) (cyc : Cycle (shown p a es) c) (opens : (x : ℕ) → among x c ≡ true → is_settled es x ≡ false) where
    heights_raised : height_of (changed higher c es) ≡ raise c (height_of es)
    heights_raised = fun_ext (raised_heights c es (inside es sane.sized c cyc))

    -- a settled vertex is not on the cycle, and shows what it showed
    same_shown : (x : ℕ) → is_settled es x ≡ true → shown p a (changed higher c es) x ≡ shown p a es x
    same_shown x shut_x =
        let off : among x c ≡ false = ⊎_elim (λ on. absurd (both_ways _ (opens x on) shut_x)) (λ no_on. no_on) (cases_Bool (among x c)) in
        ap (sight p a x) (ap (λ h. h x) heights_raised ∙ raise_off c (height_of es) x off)

    pub pop_sane : Sane (changed higher c es)
    pop_sane = record {
      sized = length_changed higher c es ∙ sane.sized;
      closed = λ x y shut_x arrow.
          let old : is_settled es x ≡ true = sym (raised_marks c es x) ∙ shut_x in
          raised_marks c es y ∙ sane.closed x y old (sym (same_shown x old) ∙ arrow);
      no_cycle = λ d x cyc_d on shut_x.
          let old : is_settled es x ≡ true = sym (raised_marks c es x) ∙ shut_x in
          let all_shut = carried (shown p a (changed higher c es)) (λ z. is_settled es z ≡ true) (λ u w shut_u arrow. sane.closed u w shut_u (sym (same_shown u shut_u) ∙ arrow)) d x cyc_d on old in
          sane.no_cycle d x (cycle_same (shown p a (changed higher c es)) (shown p a es) d (λ y there. sym (same_shown y (all_shut y there))) cyc_d) on old;
    }

  -- ---- settling a trail that leaves
  module _ (es : List Entry) (sane : Sane es) (path : List ℕ) (within : AllByRecursion (λ v. v < length es) path)
      (leaves : (x : ℕ) → among x path ≡ true → Leaves (shown p a es) (is_settled es) x) (under : ClosedUnder (shown p a es) (is_settled es) path) where
    same_sight : shown p a (changed shut path es) ≡ shown p a es
    same_sight = ap (seen (sight p a)) (fun_ext (settled_heights path es))

    now_settled : (x : ℕ) → is_settled (changed shut path es) x ≡ true → (among x path ≡ true) ⊎ (is_settled es x ≡ true)
    now_settled x is = or_cases (among x path) (is_settled es x) (sym (settled_marks path es within x) ∙ is)

    on_now : (x : ℕ) → among x path ≡ true → is_settled (changed shut path es) x ≡ true
    on_now x on = settled_marks path es within x ∙ or_left (among x path) (is_settled es x) on

    before_now : (x : ℕ) → is_settled es x ≡ true → is_settled (changed shut path es) x ≡ true
    before_now x old = settled_marks path es within x ∙ or_right (among x path) (is_settled es x) old

    pub settle_sane : Sane (changed shut path es)
    settle_sane = record {
      sized = length_changed shut path es ∙ sane.sized;
      closed = λ x y is arrow.
          let old_arrow : shown p a es x ≡ Some y = sym (ap (λ f. f x) same_sight) ∙ arrow in
          ⊎_elim
          (λ on. ⊎_elim (on_now y) (before_now y) (under x y on old_arrow))
          (λ old. before_now y (sane.closed x y old old_arrow))
          (now_settled x is);
      no_cycle = λ c x cyc on is.
          let old_cyc : Cycle (shown p a es) c = subst (λ f. Cycle f c) same_sight cyc in
          ⊎_elim
          (λ there. out c x old_cyc on (leaves x there))
          (λ old. sane.no_cycle c x old_cyc on old)
          (now_settled x is);
    }
      where
        out : (c : List ℕ) (x : ℕ) → Cycle (shown p a es) c → among x c ≡ true → Leaves (shown p a es) (is_settled es) x → ⊥
        out c x cyc on (y, leads, stop) =
            let on_y = cycle_leads (shown p a es) c x y cyc on leads in
            ⊎_elim
            (λ none. let (z, arrow) = cycle_arrow (shown p a es) c y cyc on_y in none_some (shown p a es y) z none arrow)
            (λ old. sane.no_cycle c y cyc on_y old)
            stop

  -- ---- what holds of a draw and its list

  -- the draw is of the plan, its marks are sane, its heights come from popping cs, pops is their number, and the list holds their records in turn and beyond them what it held
  pub record Good (l : List Pop) (h : Held) (cs : List Coloured) : Type 0 where
    pub rooted : h.draw.root ≡ p.root
    pub sane : Sane h.draw.entries
    pub popped : Pops (sight p a) flat cs (height_of h.draw.entries)
    pub counted : h.draw.pops ≡ length cs
    pub listed : h.list ≡ map record_of cs ++ drop (length cs) l

  pub is_of_plan : (l : List Pop) (h : Held) (cs : List Coloured) → Good l h cs → is_of p h.draw ≡ true
  is_of_plan l h cs good = and_from _ _ (eq-eqb _ _ good.sane.sized) (eq-eqb _ _ good.rooted)

  -- the same after a call
  abbrev pub Keeps : {A : Type 0} → List Pop → List Coloured → After A → Type 0
  Keeps l cs x = Good l x.held (cs ++ x.popped)

  same_good : (l : List Pop) (h : Held) (cs : List Coloured) → Good l h cs → Good l h (cs ++ [])
  same_good l h cs good = subst (Good l h) (sym (append-nil cs)) good

  -- one record more
  list_more : (cs : List Coloured) (k : Coloured) (l list : List Pop) (n : ℕ) → n ≡ length cs → list ≡ map record_of cs ++ drop (length cs) l → n < length list
      → set list n (record_of k) ≡ map record_of (cs ++ k ∷ []) ++ drop (length (cs ++ k ∷ [])) l
  list_more cs k l list n is_n is few =
      let front : length (map record_of cs) ≡ n = length-map cs record_of ∙ sym is_n in
      let long : length list ≡ length (map record_of cs) + length (drop (length cs) l) = ap length is ∙ length-append (map record_of cs) (drop (length cs) l) in
      let more : length cs < length l = omega (arith, length-drop (length cs) l) in
      let opened_up : drop (length cs) l ≡ get_or l (length cs) (record_of []) ∷ drop (length cs + 1) l = drop_more l (length cs) (record_of []) more in
      let pushed : length (cs ++ k ∷ []) ≡ length cs + 1 = length-append cs (k ∷ []) in
      ap (λ x. set x n (record_of k)) (is ∙ ap (λ x. map record_of cs ++ x) opened_up)
      ∙ set_at (map record_of cs) (get_or l (length cs) (record_of [])) (drop (length cs + 1) l) (record_of k) n front
      ∙ sym (append_assoc (map record_of cs) (record_of k ∷ []) (drop (length cs + 1) l))
      ∙ ap (λ x. x ++ drop (length cs + 1) l) (sym (map_push record_of cs k))
      ∙ ap (λ m. map record_of (cs ++ k ∷ []) ++ drop m l) (sym pushed)

  -- its heights come from popping one more
  pub pop_pops : (l : List Pop) (h : Held) (cs : List Coloured) → Good l h cs → (c : List ℕ) → Cycle (shown p a h.draw.entries) c
      → Pops (sight p a) flat (cs ++ coloured (height_of h.draw.entries) c ∷ []) (height_of (changed higher c h.draw.entries))
  pop_pops l h cs good c cyc =
      let es = h.draw.entries in
      pops_join (sight p a) cs (coloured (height_of es) c ∷ []) flat (height_of es) (height_of (changed higher c es)) good.popped (c, cyc, refl, λ v. sym (raised_heights c es (inside es good.sane.sized c cyc) v))

  pop_good : (l : List Pop) (h : Held) (cs : List Coloured) → Good l h cs → (c : List ℕ) → Cycle (shown p a h.draw.entries) c → ((x : ℕ) → among x c ≡ true → is_settled h.draw.entries x ≡ false)
      → h.draw.pops < length h.list → Keeps l cs (pops_cycle h c)
  pop_good l h cs good c cyc opens room =
      let es = h.draw.entries in
      let k = coloured (height_of es) c in
      record {
        rooted = good.rooted;
        sane = pop_sane es good.sane c cyc opens;
        popped = pop_pops l h cs good c cyc;
        counted = ap suc good.counted ∙ (let pushed : length (cs ++ k ∷ []) ≡ length cs + 1 = length-append cs (k ∷ []) in omega arith);
        listed = list_more cs k l h.list h.draw.pops good.counted good.listed room;
      }

  settle_good : (l : List Pop) (h : Held) (cs : List Coloured) → Good l h cs → (path : List ℕ) → AllByRecursion (λ v. v < p.size) path
      → ((x : ℕ) → among x path ≡ true → Leaves (shown p a h.draw.entries) (is_settled h.draw.entries) x) → ClosedUnder (shown p a h.draw.entries) (is_settled h.draw.entries) path → Keeps l cs (settles h path)
  settle_good l h cs good path low leaves under =
      let es = h.draw.entries in
      same_good l (settles h path).held cs (record {
        rooted = good.rooted;
        sane = settle_sane es good.sane path (subst (λ n. AllByRecursion (λ v. v < n) path) (sym good.sane.sized) low) leaves under;
        popped = subst (Pops (sight p a) flat cs) (sym (fun_ext (settled_heights path es))) good.popped;
        counted = good.counted;
        listed = good.listed;
      })

  pub trail_good : (l : List Pop) (h : Held) (cs : List Coloured) → Good l h cs → (t : Trail) → Told (shown p a h.draw.entries) (is_settled h.draw.entries) p.size t → Keeps l cs (by_trail h t)
  trail_good l h cs good t tells = by t.loop tells.ends
    where
      f : ℕ → Option ℕ
      f = shown p a h.draw.entries

      by : (o : Option (List ℕ)) → MatchOption o (((x : ℕ) → among x t.path ≡ true → Leaves f (is_settled h.draw.entries) x) × ClosedUnder f (is_settled h.draw.entries) t.path) (λ l2. Round f t.path l2)
          → Keeps l cs (if_some o (settles h t.path) (λ l2. cond (ltb h.draw.pops (length h.list)) (pops_cycle h (turned l2)) (refused h fault.ListFull)))
      by None (leaves, under) = settle_good l h cs good t.path tells.inside leaves under
      by (Some l2) round = room (ltb h.draw.pops (length h.list)) refl
        where
          room : (b : Bool) → ltb h.draw.pops (length h.list) ≡ b → Keeps l cs (cond b (pops_cycle h (turned l2)) (refused h fault.ListFull))
          room true is = pop_good l h cs good (turned l2) (round_cycle f t.path l2 round) (λ x on. tells.all_open x (round.on_path x (turned_among l2 x on))) (ltb-true _ _ is)
          room false is = same_good l h cs good

  pub shown_to : (es : List Entry) (v : ℕ) → v < p.size → Told (shown p a es) (is_settled es) p.size (trail p a es v)
  shown_to es v low = told (shown p a es) (is_settled es) p.size (shown_stays es).from (shown_stays es).to (suc p.size) [] v (omega arith) low tt tt (λ x on. absurd (false≢true on))

  -- the faults of a try that come before the trail: without one, v is a vertex of the plan
  pub tries_good : (l : List Pop) (h : Held) (cs : List Coloured) → Good l h cs → (v : ℕ) → Keeps l cs (tries p a v h)
  tries_good l h cs good v = other (not (is_of p h.draw)) (not (ltb v p.size)) refl (is_settled h.draw.entries v)
    where
      other : (b t : Bool) → not (ltb v p.size) ≡ t → (s : Bool) → Keeps l cs (if_some (first_fault ((b, fault.OtherPlan) ∷ (t, fault.Vertex v) ∷ (s, fault.AlreadySettled v) ∷ [])) (by_trail h (trail p a h.draw.entries v)) (λ e. refused h e))
      other true t is s = same_good l h cs good
      other false true is s = same_good l h cs good
      other false false is true = same_good l h cs good
      other false false is false = trail_good l h cs good (trail p a h.draw.entries v) (shown_to h.draw.entries v (ltb-true v p.size (not-false _ is)))

  pub steps_good : (l : List Pop) (h : Held) (cs : List Coloured) → Good l h cs → (s : Strategy) → Keeps l cs (steps p a s h)
  steps_good l h cs good s = by (is_of p h.draw) (s [] (open_marks h.draw.entries))
    where
      by : (b : Bool) (o : Option ℕ) → Keeps l cs (cond b (if_some o (refused h fault.NothingOpen) (λ v. telling v (tries p a v h))) (refused h fault.OtherPlan))
      by true None = same_good l h cs good
      by true (Some v) = tries_good l h cs good v
      by false o = same_good l h cs good

  runs_on_good : (l : List Pop) (left made : ℕ) (h : Held) (cs : List Coloured) → Good l h cs → (s : Strategy) → Keeps l cs (runs_on p a s left made h)
  runs_on_good l zero made h cs good s = by (none_open h.draw.entries)
    where
      by : (b : Bool) → Keeps l cs (cond b (stopped h made Ended) (stopped h made Spent))
      by true = same_good l h cs good
      by false = same_good l h cs good
  runs_on_good l (suc left) made h cs good s = by (none_open h.draw.entries) (is_ok x.answer) (runs_on_good l left (suc made) x.held (cs ++ x.popped) (steps_good l h cs good s) (all_told s x.told))
    where
      x : After (Result Tried DrawFault)
      x = steps p a s h

      rest : After (Result (ℕ × Stop) DrawFault)
      rest = runs_on p a (all_told s x.told) left (suc made) x.held

      by : (b o : Bool) → Keeps l (cs ++ x.popped) rest → Keeps l cs (cond b (stopped h made Ended) (cond o (preceded x.popped x.told rest) (stopped h made Full)))
      by true o later = same_good l h cs good
      by false true later = subst (Good l rest.held) (append_assoc cs x.popped rest.popped) later
      by false false later = same_good l h cs good

  runs_good : (l : List Pop) (h : Held) (cs : List Coloured) → Good l h cs → (s : Strategy) (budget : ℕ) → Keeps l cs (runs p a s budget h)
  runs_good l h cs good s budget = by (is_of p h.draw)
    where
      by : (b : Bool) → Keeps l cs (cond b (runs_on p a s budget 0 h) (refused h fault.OtherPlan))
      by true = runs_on_good l budget 0 h cs good s
      by false = same_good l h cs good

  pub does_good : (l : List Pop) (c : Call) (h : Held) (cs : List Coloured) → Good l h cs → Keeps l cs (does p a c h)
  does_good l (try_at v) h cs good = tries_good l h cs good v
  does_good l (step s) h cs good = steps_good l h cs good s
  does_good l (run s budget) h cs good = runs_good l h cs good s budget

  pub worked_good : (l : List Pop) (calls : List Call) (h : Held) (cs : List Coloured) → Good l h cs → Good l (worked p a calls h) (cs ++ popped_by p a calls h)
  worked_good l [] h cs good = same_good l h cs good
  worked_good l (c ∷ calls) h cs good =
      let x = does p a c h in
      subst (Good l (worked p a calls x.held)) (append_assoc cs x.popped (popped_by p a calls x.held)) (worked_good l calls x.held (cs ++ x.popped) (does_good l c h cs good))

  -- ---- a fresh draw

  root_dark : (es : List Entry) (x : ℕ) → is_root p x ≡ true → shown p a es x ≡ None
  root_dark es x root = ap (λ b. then (cond b None (then (a x (height_of es x) (p.degree x)) (counts (p.degree x) (height_of es x)))) (p.target x)) root

  fresh_root : (x : ℕ) → is_settled (opened p).entries x ≡ true → is_root p x ≡ true
  fresh_root x shut_x = ⊎_elim (λ within. sym (opened_marks p x within) ∙ shut_x) (λ past. absurd (both_ways _ (opened_past p x past) shut_x)) (cases_lt x p.size)

  pub start_good : (l : List Pop) → Good l (start p l) []
  start_good l = record {
    rooted = refl;
    sane = record {
      sized = opened_long p;
      closed = λ x y shut_x arrow. absurd (none_some _ y (root_dark (opened p).entries x (fresh_root x shut_x)) arrow);
      no_cycle = λ c x cyc on shut_x. let (y, arrow) = cycle_arrow (shown p a (opened p).entries) c x cyc on in none_some _ y (root_dark (opened p).entries x (fresh_root x shut_x)) arrow;
    };
    popped = λ v. sym (opened_heights p v);
    counted = refl;
    listed = refl;
  }

  -- any calls on a fresh draw
  pub calls_good : (l : List Pop) (calls : List Call) → Good l (worked p a calls (start p l)) (popped_by p a calls (start p l))
  calls_good l calls = worked_good l calls (start p l) [] (start_good l)

  -- ---- nothing is open: no cycle is left

  all_settled : (es : List Entry) → none_open es ≡ true → (v : ℕ) → v < length es → is_settled es v ≡ true
  all_settled [] none v within = absurd (omega arith)
  all_settled (e ∷ es) none v within = by e.settled refl none v within (all_settled es)
    where
      by : (b : Bool) → e.settled ≡ b → cond b (none_open es) false ≡ true → (w : ℕ) → w < suc (length es) → (none_open es ≡ true → (u : ℕ) → u < length es → is_settled es u ≡ true) → is_settled (e ∷ es) w ≡ true
      by true is rest zero low on = is
      by true is rest (suc w) low on = on rest w (omega arith)
      by false is never w low on = absurd (false≢true never)

  pub ended_final : (l : List Pop) (h : Held) (cs : List Coloured) → Good l h cs → none_open h.draw.entries ≡ true → Final (sight p a) (height_of h.draw.entries)
  ended_final l h cs good none [] cyc = cyc
  ended_final l h cs good none (v ∷ vs) cyc =
      let es = h.draw.entries in
      good.sane.no_cycle (v ∷ vs) v cyc (among_here v vs) (all_settled es none v (inside es good.sane.sized (v ∷ vs) cyc).0)
