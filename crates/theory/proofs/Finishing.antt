-- A run by any order that picks open vertices stops as ended, if its budget reaches the end's cycles plus the vertices and its list has room for those cycles. Assumes nothing.
use Rattle.std.proofs.Common.{◌≡◌, ℕ, zero, suc, ◌+◌, ◌-◌, ◌<◌, ◌≤◌, Bool, true, false, cond, not, ltb, List, [], ◌∷◌, ◌++◌, map, length, get_or, drop, is_ok, Some, None, Ok, Option, Result, sym, refl, ap, ◌∙◌, subst, append-nil, arith, length-append, length-drop, MatchOption}
use Rattle.std.proofs.lemmas.List.{length-map, get_or-map}
use Rattle.std.proofs.lemmas.Bool.{false≢true, true≢false, both_ways, lt-ltb, not-true, not-false}
use Rattle.model.specs.Arrows.{Cells, sight}
use Rattle.theory.specs.Calls.{Strategy, once_told, After, first_fault, refused, pops_cycle, settles, by_trail, tries, telling, steps, none_open, open_count, stopped, preceded, all_told, runs_on, runs}
use Rattle.theory.specs.Cycles.{flat, among, Coloured, coloured, Pops}
use Rattle.theory.specs.Draws.{no_entry, height_of, is_settled, changed_from, changed, higher, shut, Held, is_of, shown, Trail, trail_on, trail, turned, from_on, record_of}
use Rattle.theory.specs.Ends.{if_some}
use Rattle.model.specs.Layouts.{Layout, Sound}
use Rattle.model.specs.Orders.{open_marks, PicksOpen}
use Rattle.theory.specs.Outcomes.{end_of, Lawful}
use Rattle.model.specs.declared.draw.Entry.{Entry}
use Rattle.model.specs.declared.draw.Pop.{Pop}
use Rattle.model.specs.declared.draw.Stop.{Stop}
use Rattle.model.specs.declared.draw.Stop.TheVariants.{Ended, Spent, Full}
use Rattle.model.specs.declared.draw.Tried.{Tried}
use Rattle.model.specs.declared.fault.DrawFault.{DrawFault}
use Rattle.model.specs.declared.fault.DrawFault.TheVariants as fault
use Rattle.theory.proofs.Cycles.{among_here}
use Rattle.theory.proofs.Drawing.{Good, is_of_plan, shown_to, steps_good, round_cycle, pop_pops}
use Rattle.theory.proofs.Outcomes.{pops_few}
use Rattle.theory.proofs.Trails.{Told, Round, Leaves, ClosedUnder, among_left}

-- ---- open vertices

pub count_none : (es : List Entry) → none_open es ≡ false → 0 < open_count es
count_none [] some = absurd (true≢false some)
count_none (e ∷ es) some = by e.settled some (count_none es)
  where
    by : (b : Bool) → cond b (none_open es) false ≡ false → (none_open es ≡ false → 0 < open_count es) → 0 < cond b (open_count es) (suc (open_count es))
    by true some rest = rest some
    by false some rest = omega arith

pub none_settled : (es : List Entry) → ((v : ℕ) → v < length es → is_settled es v ≡ true) → none_open es ≡ true
none_settled [] all = refl
none_settled (e ∷ es) all = by e.settled (all 0 (omega arith)) (none_settled es (λ v low. all (suc v) (omega arith)))
  where
    by : (b : Bool) → b ≡ true → none_open es ≡ true → cond b (none_open es) false ≡ true
    by true is rest = rest
    by false is rest = absurd (false≢true is)

pub open_at : (es : List Entry) (v : ℕ) → v < length es → get_or (open_marks es) v false ≡ not (is_settled es v)
open_at es v low = get_or-map (λ (e : Entry). not e.settled) es v no_entry false low

-- raising opens and settles nothing
raised_count : (c : List ℕ) (i : ℕ) (es : List Entry) → open_count (changed_from higher c i es) ≡ open_count es
raised_count c i [] = refl
raised_count c i (e ∷ es) = by (among i c) (raised_count c (suc i) es)
  where
    rest : List Entry
    rest = changed_from higher c (suc i) es

    by : (b : Bool) → open_count rest ≡ open_count es → cond (cond b (higher e) e).settled (open_count rest) (suc (open_count rest)) ≡ cond e.settled (open_count es) (suc (open_count es))
    by true same = ap (λ n. cond e.settled n (suc n)) same
    by false same = ap (λ n. cond e.settled n (suc n)) same

settled_most : (c : List ℕ) (i : ℕ) (es : List Entry) → open_count (changed_from shut c i es) ≤ open_count es
settled_most c i [] = omega arith
settled_most c i (e ∷ es) = by (among i c) e.settled refl (settled_most c (suc i) es)
  where
    rest : List Entry
    rest = changed_from shut c (suc i) es

    by : (b s : Bool) → e.settled ≡ s → open_count rest ≤ open_count es → cond (cond b (shut e) e).settled (open_count rest) (suc (open_count rest)) ≤ cond s (open_count es) (suc (open_count es))
    by true true is less = omega arith
    by true false is less = omega arith
    by false true is less = subst (λ x. cond x (open_count rest) (suc (open_count rest)) ≤ open_count es) (sym is) less
    by false false is less = subst (λ x. cond x (open_count rest) (suc (open_count rest)) ≤ suc (open_count es)) (sym is) (omega arith)

-- settling an open vertex leaves fewer
pub settled_less : (c : List ℕ) (i : ℕ) (es : List Entry) (k : ℕ) → k < length es → among (i + k) c ≡ true → is_settled es k ≡ false → open_count (changed_from shut c i es) < open_count es
settled_less c i [] k low on open_k = absurd (omega arith)
settled_less c i (e ∷ es) zero low on open_k =
    let here : among i c ≡ true = subst (λ j. among j c ≡ true) (let z : i + 0 ≡ i = omega arith in z) on in
    let less = settled_most c (suc i) es in
    subst (λ b. cond (cond b (shut e) e).settled (open_count (changed_from shut c (suc i) es)) (suc (open_count (changed_from shut c (suc i) es))) < open_count (e ∷ es)) (sym here)
    (subst (λ s. open_count (changed_from shut c (suc i) es) < cond s (open_count es) (suc (open_count es))) (sym open_k) (omega arith))
settled_less c i (e ∷ es) (suc k) low on open_k = by (among i c) e.settled refl (settled_less c (suc i) es k (omega arith) (subst (λ j. among j c ≡ true) (let z : i + suc k ≡ suc i + k = omega arith in z) on) open_k)
  where
    rest : List Entry
    rest = changed_from shut c (suc i) es

    by : (b s : Bool) → e.settled ≡ s → open_count rest < open_count es → cond (cond b (shut e) e).settled (open_count rest) (suc (open_count rest)) < cond s (open_count es) (suc (open_count es))
    by true true is less = less
    by true false is less = omega arith
    by false true is less = subst (λ x. cond x (open_count rest) (suc (open_count rest)) < open_count es) (sym is) less
    by false false is less = subst (λ x. cond x (open_count rest) (suc (open_count rest)) < suc (open_count es)) (sym is) (omega arith)

-- ---- the trail of an open vertex holds it

trail_keeps : (f : ℕ → Option ℕ) (settled : ℕ → Bool) (k : ℕ) (path : List ℕ) (v x : ℕ) → among x path ≡ true → among x (trail_on f settled k path v).path ≡ true
trail_keeps f settled zero path v x on = on
trail_keeps f settled (suc k) path v x on = by (settled v) (among v path) (f v) (λ w. trail_keeps f settled k (path ++ v ∷ []) w x (among_left x path (v ∷ []) on))
  where
    by : (s b : Bool) (o : Option ℕ) → ((w : ℕ) → among x (trail_on f settled k (path ++ v ∷ []) w).path ≡ true)
        → among x (cond s (record { path = path; loop = None }) (cond b (record { path = path; loop = Some (from_on v path) }) (if_some o (record { path = path ++ v ∷ []; loop = None }) (λ w. trail_on f settled k (path ++ v ∷ []) w)))).path ≡ true
    by true b o rest = on
    by false true o rest = on
    by false false None rest = among_left x path (v ∷ []) on
    by false false (Some w) rest = rest w

pub trail_holds : (f : ℕ → Option ℕ) (settled : ℕ → Bool) (k v : ℕ) → settled v ≡ false → among v (trail_on f settled (suc k) [] v).path ≡ true
trail_holds f settled k v open_v = by (settled v) open_v (f v)
  where
    by : (s : Bool) → s ≡ false → (o : Option ℕ) → among v (cond s (record { path = []; loop = None }) (if_some o (record { path = v ∷ []; loop = None }) (λ w. trail_on f settled k (v ∷ []) w))).path ≡ true
    by true is o = absurd (true≢false is)
    by false is None = among_here v []
    by false is (Some w) = trail_keeps f settled k (v ∷ []) w v (among_here v [])

module _ (p : Layout) (a : Cells) (sound : Sound p) (l : List Pop) (room : length (end_of p a).cycles ≤ length l) where
  -- what is still to do: the end's cycles that were not popped, and the open vertices
  abbrev to_do : Held → List Coloured → ℕ
  to_do h cs = (length (end_of p a).cycles - length cs) + open_count h.draw.entries

  -- a call was not refused, and left less to do
  abbrev GetsOn : {A : Type 0} → Held → List Coloured → After (Result A DrawFault) → Type 0
  GetsOn h cs x = (is_ok x.answer ≡ true) × (to_do x.held (cs ++ x.popped) < to_do h cs)

  list_long : (h : Held) (cs : List Coloured) → Good p a sound l h cs → length cs ≤ length l → length h.list ≡ length l
  list_long h cs good few = ap length good.listed ∙ length-append (map record_of cs) (drop (length cs) l) ∙ omega (arith, length-map cs record_of, length-drop (length cs) l)

  pops_on : (h : Held) (cs : List Coloured) → Good p a sound l h cs → (c : List ℕ) → Pops (sight p a) flat (cs ++ coloured (height_of h.draw.entries) c ∷ []) (height_of (changed higher c h.draw.entries)) → GetsOn h cs (pops_cycle h c)
  pops_on h cs good c whole =
      let k = coloured (height_of h.draw.entries) c in
      let most = pops_few p a sound (cs ++ k ∷ []) (height_of (changed higher c h.draw.entries)) whole in
      let long : length (cs ++ k ∷ []) ≡ length cs + 1 = length-append cs (k ∷ []) in
      let same : open_count (changed higher c h.draw.entries) ≡ open_count h.draw.entries = raised_count c 0 h.draw.entries in
      (refl, omega arith)

  settles_on : (h : Held) (cs : List Coloured) → Good p a sound l h cs → (path : List ℕ) (v : ℕ) → among v path ≡ true → v < p.size → is_settled h.draw.entries v ≡ false → GetsOn h cs (settles h path)
  settles_on h cs good path v on low open_v =
      let less : open_count (changed shut path h.draw.entries) < open_count h.draw.entries =
      settled_less path 0 h.draw.entries v (let e : length h.draw.entries ≡ p.size = good.sane.sized in omega arith) (subst (λ j. among j path ≡ true) (let z : v ≡ 0 + v = omega arith in z) on) open_v in
      let same : length (cs ++ []) ≡ length cs = ap length (append-nil cs) in
      (refl, omega arith)

  -- a try at an open vertex
  trail_gets_on : (h : Held) (cs : List Coloured) → Good p a sound l h cs → (v : ℕ) → v < p.size → is_settled h.draw.entries v ≡ false → (t : Trail) → among v t.path ≡ true
      → Told (shown p a h.draw.entries) (is_settled h.draw.entries) p.size t → GetsOn h cs (by_trail h t)
  trail_gets_on h cs good v low open_v t on tells = by t.loop refl
    where
      f : ℕ → Option ℕ
      f = shown p a h.draw.entries

      By : Option (List ℕ) → Type 0
      By o = GetsOn h cs (if_some o (settles h t.path) (λ l2. cond (ltb h.draw.pops (length h.list)) (pops_cycle h (turned l2)) (refused h fault.ListFull)))

      by : (o : Option (List ℕ)) → t.loop ≡ o → By o
      by None is = settles_on h cs good t.path v on low open_v
      by (Some l2) is = popped (subst (λ o. MatchOption o (((x : ℕ) → among x t.path ≡ true → Leaves f (is_settled h.draw.entries) x) × ClosedUnder f (is_settled h.draw.entries) t.path) (λ l3. Round f t.path l3)) is tells.ends)
        where
          popped : Round f t.path l2 → By (Some l2)
          popped round =
              let c = turned l2 in
              let k = coloured (height_of h.draw.entries) c in
              let cyc = round_cycle f t.path l2 round in
              let whole : Pops (sight p a) flat (cs ++ k ∷ []) (height_of (changed higher c h.draw.entries)) = pop_pops p a sound l h cs good c cyc in
              let most = pops_few p a sound (cs ++ k ∷ []) (height_of (changed higher c h.draw.entries)) whole in
              let long : length (cs ++ k ∷ []) ≡ length cs + 1 = length-append cs (k ∷ []) in
              let lists : length h.list ≡ length l = list_long h cs good (omega arith) in
              let fits : ltb h.draw.pops (length h.list) ≡ true = lt-ltb _ _ (let e : h.draw.pops ≡ length cs = good.counted in omega arith) in
              subst (λ b. GetsOn h cs (cond b (pops_cycle h c) (refused h fault.ListFull))) (sym fits) (pops_on h cs good c whole)

  tries_on : (h : Held) (cs : List Coloured) → Good p a sound l h cs → (v : ℕ) → v < p.size → is_settled h.draw.entries v ≡ false → GetsOn h cs (tries p a v h)
  tries_on h cs good v low open_v = by (not (is_of p h.draw)) (ap not (is_of_plan p a sound l h cs good)) (not (ltb v p.size)) (ap not (lt-ltb v p.size low)) (is_settled h.draw.entries v) open_v
    where
      t : Trail
      t = trail p a h.draw.entries v

      by : (b : Bool) → b ≡ false → (c : Bool) → c ≡ false → (s : Bool) → s ≡ false → GetsOn h cs (if_some (first_fault ((b, fault.OtherPlan) ∷ (c, fault.Vertex v) ∷ (s, fault.AlreadySettled v) ∷ [])) (by_trail h t) (λ e. refused h e))
      by true never c cs2 s ss = absurd (true≢false never)
      by false b2 true never s ss = absurd (true≢false never)
      by false b2 false c2 true never = absurd (true≢false never)
      by false b2 false c2 false s2 = trail_gets_on h cs good v low open_v t (trail_holds (shown p a h.draw.entries) (is_settled h.draw.entries) p.size v open_v) (shown_to p a sound h.draw.entries v low)

  steps_on : (h : Held) (cs : List Coloured) → Good p a sound l h cs → (s : Strategy) → Lawful s → none_open h.draw.entries ≡ false → GetsOn h cs (steps p a s h)
  steps_on h cs good s lawful some = subst (λ b. GetsOn {A = Tried} h cs (cond b (if_some (s [] (open_marks h.draw.entries)) (refused h fault.NothingOpen) (λ v. telling v (tries p a v h))) (refused h fault.OtherPlan))) (sym (is_of_plan p a sound l h cs good)) (by (s [] (open_marks es)) (lawful [] (open_marks es)))
    where
      es : List Entry
      es = h.draw.entries

      long : length (open_marks es) ≡ length es
      long = length-map es (λ (e : Entry). not e.settled)

      by : (o : Option ℕ) → PicksOpen (open_marks es) o → GetsOn h cs (if_some o (refused h fault.NothingOpen) (λ v. telling v (tries p a v h)))
      by None none = absurd (both_ways _ some (none_settled es (λ v low. not-false _ (sym (open_at es v low) ∙ none v (omega (arith, long))))))
      by (Some v) (low, on) =
          let within : v < length es = omega (arith, long) in
          let e : length es ≡ p.size = good.sane.sized in
          let gone = tries_on h cs good v (omega arith) (not-true _ (sym (open_at es v within) ∙ on)) in
          (gone.0, gone.1)

  all_lawful : (s : Strategy) → Lawful s → (vs : List ℕ) → Lawful (all_told s vs)
  all_lawful s lawful [] = lawful
  all_lawful s lawful (v ∷ vs) = all_lawful (once_told s v) (λ told marks. lawful (v ∷ told) marks) vs

  -- the run stopped as ended, with nothing open
  abbrev pub Finished : After (Result (ℕ × Stop) DrawFault) → Type 0
  Finished x = (k : ℕ) × (x.answer ≡ Ok (k, Ended)) × (none_open x.held.draw.entries ≡ true)

  runs_on_finishes : (left made : ℕ) (h : Held) (cs : List Coloured) → Good p a sound l h cs → (s : Strategy) → Lawful s → to_do h cs ≤ left → Finished (runs_on p a s left made h)
  runs_on_finishes zero made h cs good s lawful enough = by (none_open h.draw.entries) refl
    where
      by : (b : Bool) → none_open h.draw.entries ≡ b → Finished (cond b (stopped h made Ended) (stopped h made Spent))
      by true none = (made, refl, none)
      by false some = absurd (let more = count_none h.draw.entries some in omega arith)
  runs_on_finishes (suc left) made h cs good s lawful enough = by (none_open h.draw.entries) refl (λ go. runs_on_finishes left (suc made) x.held (cs ++ x.popped) (steps_good p a sound l h cs good s) (all_told s x.told) (all_lawful s lawful x.told) go)
    where
      x : After (Result Tried DrawFault)
      x = steps p a s h

      rest : After (Result (ℕ × Stop) DrawFault)
      rest = runs_on p a (all_told s x.told) left (suc made) x.held

      by : (b : Bool) → none_open h.draw.entries ≡ b → (to_do x.held (cs ++ x.popped) ≤ left → Finished rest)
          → Finished (cond b (stopped h made Ended) (cond (is_ok x.answer) (preceded x.popped x.told rest) (stopped h made Full)))
      by true none later = (made, refl, none)
      by false some later =
          let (went, less) = steps_on h cs good s lawful some in
          let (k, answer, none) = later (omega arith) in
          subst (λ o. Finished (cond o (preceded x.popped x.told rest) (stopped h made Full))) (sym went) (k, answer, none)

  open_most : (es : List Entry) → open_count es ≤ length es
  open_most [] = omega arith
  open_most (e ∷ es) = by e.settled (open_most es)
    where
      by : (b : Bool) → open_count es ≤ length es → cond b (open_count es) (suc (open_count es)) ≤ suc (length es)
      by true less = omega arith
      by false less = omega arith

  -- a budget of the end's cycles plus the vertices suffices
  pub runs_finish : (h : Held) (cs : List Coloured) → Good p a sound l h cs → (s : Strategy) (budget : ℕ) → Lawful s → length (end_of p a).cycles + p.size ≤ budget → Finished (runs p a s budget h)
  runs_finish h cs good s budget lawful enough =
      let most = open_most h.draw.entries in
      let e : length h.draw.entries ≡ p.size = good.sane.sized in
      subst (λ b. Finished (cond b (runs_on p a s budget 0 h) (refused h fault.OtherPlan))) (sym (is_of_plan p a sound l h cs good)) (runs_on_finishes budget 0 h cs good s lawful (omega arith))
