-- The laws of a step and a run: a run's tries are steps in a row, and it stops for the first reason that holds. Assumes nothing.
use Rattle.std.proofs.Common.{◌≡◌, ℕ, zero, suc, ◌+◌, ◌<◌, Bool, true, false, cond, not, ◌&&◌, eqb, ltb, List, [], ◌∷◌, length, get_or, is_ok, Some, None, Ok, Err, Option, Result, sym, refl, ap, ◌∙◌, subst, ⊎_elim, arith}
use Rattle.std.proofs.lemmas.List.{length-map}
use Rattle.std.proofs.lemmas.Bool.{false≢true, true≢false, cases_Bool, both_ways, eqb-true, and_parts, not-true, not-false, lt-ltb}
use Rattle.model.specs.Arrows.{Cells}
use Rattle.model.specs.Layouts.{Layout, Sound}
use Rattle.model.specs.Orders.{open_marks, PicksOpen}
use Rattle.model.specs.declared.draw.Entry.{Entry}
use Rattle.model.specs.declared.draw.Stop.{Stop}
use Rattle.model.specs.declared.draw.Stop.TheVariants.{Ended, Spent, Full}
use Rattle.model.specs.declared.draw.Tried.{Tried}
use Rattle.model.specs.declared.fault.DrawFault.{DrawFault}
use Rattle.model.specs.declared.fault.DrawFault.TheVariants as fault
use Rattle.theory.specs.Calls.{Strategy, once_told, all_told, After, first_fault, refused, settles, pops_cycle, by_trail, tries, telling, steps, none_open, stopped, preceded, runs_on}
use Rattle.theory.specs.Draws.{is_settled, changed, higher, shut, Held, is_of, Trail, trail, turned}
use Rattle.theory.specs.Ends.{if_some}
use Rattle.theory.specs.Laws.{TryLaw, StepLaw, stepped, in_a_row, GoesOn, Stops, RunLaw}
use Rattle.theory.specs.Outcomes.{Lawful}
use Rattle.theory.proofs.Entries.{length_changed}
use Rattle.theory.proofs.Finishing.{none_settled, open_at}
use Rattle.theory.proofs.TryLaw.{try_law}

-- ---- open vertices by their marks

marks_long : (es : List Entry) → length (open_marks es) ≡ length es
marks_long es = length-map es _

-- an open vertex was picked: some vertex is open
pub some_open : (es : List Entry) (v : ℕ) → v < length (open_marks es) → get_or (open_marks es) v false ≡ true → none_open es ≡ false
some_open es v within is = ⊎_elim (λ none. absurd (all_shut es v none within is)) (λ some. some) (cases_Bool (none_open es))
  where
    all_shut : (fs : List Entry) (w : ℕ) → none_open fs ≡ true → w < length (open_marks fs) → get_or (open_marks fs) w false ≡ true → ⊥
    all_shut [] w none low open_w = omega arith
    all_shut (e ∷ fs) w none low open_w = by e.settled refl none w low open_w (all_shut fs)
      where
        by : (b : Bool) → e.settled ≡ b → cond b (none_open fs) false ≡ true → (u : ℕ) → u < suc (length (open_marks fs)) → get_or (not e.settled ∷ open_marks fs) u false ≡ true
            → ((x : ℕ) → none_open fs ≡ true → x < length (open_marks fs) → get_or (open_marks fs) x false ≡ true → ⊥) → ⊥
        by true is_b rest zero low_u open_u on = both_ways e.settled (not-true _ open_u) is_b
        by true is_b rest (suc u) low_u open_u on = on u rest (omega arith) open_u
        by false is_b never u low_u open_u on = false≢true never

pub none_marked : (es : List Entry) → ((v : ℕ) → v < length (open_marks es) → get_or (open_marks es) v false ≡ false) → none_open es ≡ true
none_marked es none = none_settled es (λ v low. not-false _ (sym (open_at es v low) ∙ none v (subst (λ n. v < n) (sym (marks_long es)) low)))

pub open_vertex : (es : List Entry) (v : ℕ) → v < length (open_marks es) → get_or (open_marks es) v false ≡ true → (v < length es) × (is_settled es v ≡ false)
open_vertex es v within is = let low : v < length es = subst (λ n. v < n) (marks_long es) within in (low, not-true _ (sym (open_at es v low) ∙ is))

module _ (p : Layout) (a : Cells) (sound : Sound p) where
  -- ---- the law of a step

  pub at_pick : (s : Strategy) (h : Held) (o : Option ℕ) → is_of p h.draw ≡ true → s [] (open_marks h.draw.entries) ≡ o → steps p a s h ≡ if_some o (refused h fault.NothingOpen) (λ v. telling v (tries p a v h))
  at_pick s h o of_plan is = λ i. cond (of_plan i) (if_some (is i) (refused h fault.NothingOpen) (λ v. telling v (tries p a v h))) (refused h fault.OtherPlan)

  pub step_law : (s : Strategy) (h : Held) → PicksOpen (open_marks h.draw.entries) (s [] (open_marks h.draw.entries)) → StepLaw p a (s [] (open_marks h.draw.entries)) h (steps p a s h).held (steps p a s h).answer
  step_law s h lawful = record {
    picks_open = lawful;
    tried = λ v of_plan is. subst (λ x. TryLaw p a v h x.held x.answer) (sym (at_pick s h (Some v) of_plan is)) (try_law p a v h sound);
    none_left = λ of_plan is.
        let there = at_pick s h None of_plan is in
        (none_marked h.draw.entries (subst (λ o. PicksOpen (open_marks h.draw.entries) o) is lawful), ap (λ x. x.answer) there, ap (λ x. x.held) there);
  }

  -- ---- a step leaves a draw of the same plan

  of_same : (h : Held) (es : List Entry) (pops : ℕ) → length es ≡ length h.draw.entries → is_of p (record { entries = es; root = h.draw.root; pops = pops }) ≡ is_of p h.draw
  of_same h es pops same = ap (λ n. eqb n p.size && eqb h.draw.root p.root) same

  tries_of : (v : ℕ) (h : Held) → is_of p (tries p a v h).held.draw ≡ is_of p h.draw
  tries_of v h = by (first_fault ((not (is_of p h.draw), fault.OtherPlan) ∷ (not (ltb v p.size), fault.Vertex v) ∷ (is_settled h.draw.entries v, fault.AlreadySettled v) ∷ []))
    where
      t : Trail
      t = trail p a h.draw.entries v

      room : (l : List ℕ) (b : Bool) → is_of p (cond b (pops_cycle h (turned l)) (refused h fault.ListFull)).held.draw ≡ is_of p h.draw
      room l true = of_same h (changed higher (turned l) h.draw.entries) (suc h.draw.pops) (length_changed higher (turned l) h.draw.entries)
      room l false = refl

      trails : (o : Option (List ℕ)) → is_of p (if_some o (settles h t.path) (λ l. cond (ltb h.draw.pops (length h.list)) (pops_cycle h (turned l)) (refused h fault.ListFull))).held.draw ≡ is_of p h.draw
      trails None = of_same h (changed shut t.path h.draw.entries) h.draw.pops (length_changed shut t.path h.draw.entries)
      trails (Some l) = room l (ltb h.draw.pops (length h.list))

      by : (o : Option DrawFault) → is_of p (if_some o (by_trail h t) (λ e. refused h e)).held.draw ≡ is_of p h.draw
      by None = trails t.loop
      by (Some e) = refl

  pub steps_of : (s : Strategy) (h : Held) → is_of p (steps p a s h).held.draw ≡ is_of p h.draw
  steps_of s h = by (is_of p h.draw) (s [] (open_marks h.draw.entries))
    where
      by : (b : Bool) (o : Option ℕ) → is_of p (cond b (if_some o (refused h fault.NothingOpen) (λ v. telling v (tries p a v h))) (refused h fault.OtherPlan)).held.draw ≡ is_of p h.draw
      by true None = refl
      by true (Some v) = tries_of v h
      by false o = refl

  -- ---- a step by a lawful order is refused only where the list is full

  by_trail_full : (h : Held) (t : Trail) → is_ok (by_trail h t).answer ≡ false → (by_trail h t).answer ≡ Err fault.ListFull
  by_trail_full h t = by t.loop
    where
      room : (l : List ℕ) (b : Bool) → is_ok (cond b (pops_cycle h (turned l)) (refused h fault.ListFull)).answer ≡ false → (cond b (pops_cycle h (turned l)) (refused h fault.ListFull)).answer ≡ Err fault.ListFull
      room l true no_Ok = absurd (true≢false no_Ok)
      room l false no_Ok = refl

      by : (o : Option (List ℕ)) → is_ok (if_some o (settles h t.path) (λ l. cond (ltb h.draw.pops (length h.list)) (pops_cycle h (turned l)) (refused h fault.ListFull))).answer ≡ false
          → (if_some o (settles h t.path) (λ l. cond (ltb h.draw.pops (length h.list)) (pops_cycle h (turned l)) (refused h fault.ListFull))).answer ≡ Err fault.ListFull
      by None no_Ok = absurd (true≢false no_Ok)
      by (Some l) no_Ok = room l (ltb h.draw.pops (length h.list)) no_Ok

  tries_full : (h : Held) (v : ℕ) → is_of p h.draw ≡ true → v < length h.draw.entries → is_settled h.draw.entries v ≡ false → is_ok (tries p a v h).answer ≡ false → (tries p a v h).answer ≡ Err fault.ListFull
  tries_full h v of_plan low open_v =
      let sized : length h.draw.entries ≡ p.size = eqb-true _ _ (and_parts _ _ of_plan).0 in
      let inside : ltb v p.size ≡ true = lt-ltb v p.size (subst (λ n. v < n) sized low) in
      by (is_of p h.draw) of_plan (ltb v p.size) inside (is_settled h.draw.entries v) open_v
    where
      t : Trail
      t = trail p a h.draw.entries v

      by : (b : Bool) → b ≡ true → (s : Bool) → s ≡ true → (o : Bool) → o ≡ false
          → is_ok (if_some (first_fault ((not b, fault.OtherPlan) ∷ (not s, fault.Vertex v) ∷ (o, fault.AlreadySettled v) ∷ [])) (by_trail h t) (λ e. refused h e)).answer ≡ false
          → (if_some (first_fault ((not b, fault.OtherPlan) ∷ (not s, fault.Vertex v) ∷ (o, fault.AlreadySettled v) ∷ [])) (by_trail h t) (λ e. refused h e)).answer ≡ Err fault.ListFull
      by true is_b true is_s false is_o no_Ok = by_trail_full h t no_Ok
      by true is_b true is_s true is_o no_Ok = absurd (true≢false is_o)
      by true is_b false is_s o is_o no_Ok = absurd (false≢true is_s)
      by false is_b s is_s o is_o no_Ok = absurd (false≢true is_b)

  pub steps_full : (s : Strategy) (h : Held) → Lawful s → is_of p h.draw ≡ true → none_open h.draw.entries ≡ false → is_ok (steps p a s h).answer ≡ false → (steps p a s h).answer ≡ Err fault.ListFull
  steps_full s h lawful of_plan some = by (is_of p h.draw) of_plan (s [] (open_marks h.draw.entries)) (lawful [] (open_marks h.draw.entries))
    where
      by : (b : Bool) → b ≡ true → (o : Option ℕ) → PicksOpen (open_marks h.draw.entries) o → is_ok (cond b (if_some o (refused h fault.NothingOpen) (λ v. telling v (tries p a v h))) (refused h fault.OtherPlan)).answer ≡ false
          → (cond b (if_some o (refused h fault.NothingOpen) (λ v. telling v (tries p a v h))) (refused h fault.OtherPlan)).answer ≡ Err fault.ListFull
      by true is None none no_Ok = absurd (both_ways _ some (none_marked h.draw.entries none))
      by true is (Some v) (within, marked) no_Ok = let (low, open_v) = open_vertex h.draw.entries v within marked in tries_full h v of_plan low open_v no_Ok
      by false is o picks no_Ok = absurd (false≢true is)

  told_lawful : (s : Strategy) (vs : List ℕ) → Lawful s → Lawful (all_told s vs)
  told_lawful s [] lawful = lawful
  told_lawful s (v ∷ vs) lawful = told_lawful (once_told s v) vs (λ told marks. lawful (v ∷ told) marks)

  -- ---- the law of a run

  -- what is left of a run after so many tries: j more steps in a row, before each of which it goes on, and then it stops
  pub record RestOf (s : Strategy) (left made : ℕ) (h : Held) (x : After (Result (ℕ × Stop) DrawFault)) : Type 0 where
    pub more : ℕ
    pub why : Stop
    pub answers : x.answer ≡ Ok (made + more, why)
    pub steps_made : (in_a_row p a more (record { order = s; held = h })).held ≡ x.held
    pub went_on : (k : ℕ) → k < more → GoesOn p a (made + left) (made + k) (in_a_row p a k (record { order = s; held = h }))
    pub stopped_for : Stops p a (made + left) (made + more) (in_a_row p a more (record { order = s; held = h })) why

  at_once : (s : Strategy) (left made : ℕ) (h : Held) (why : Stop) → Stops p a (made + left) (made + 0) (record { order = s; held = h }) why → RestOf s left made h (stopped h made why)
  at_once s left made h why stops = record {
    more = 0;
    why = why;
    answers = ap (λ k. Ok (k, why)) (let e : made ≡ made + 0 = omega arith in e);
    steps_made = refl;
    went_on = λ k low. absurd (omega arith);
    stopped_for = stops;
  }

  one_before : (s : Strategy) (left made : ℕ) (h : Held) → none_open h.draw.entries ≡ false → is_ok (steps p a s h).answer ≡ true
      → (x : After (Result (ℕ × Stop) DrawFault)) → RestOf (all_told s (steps p a s h).told) left (suc made) (steps p a s h).held x → RestOf s (suc left) made h (preceded (steps p a s h).popped (steps p a s h).told x)
  one_before s left made h some ok x rest =
      let budget : suc made + left ≡ made + suc left = omega arith in
      let at : suc made + rest.more ≡ made + suc rest.more = omega arith in
      record {
        more = suc rest.more;
        why = rest.why;
        answers = rest.answers ∙ ap (λ k. Ok (k, rest.why)) at;
        steps_made = rest.steps_made;
        went_on = goes;
        stopped_for = subst (λ k. Stops p a (made + suc left) k (in_a_row p a rest.more (stepped p a (record { order = s; held = h }))) rest.why) at (subst (λ b. Stops p a b (suc made + rest.more) (in_a_row p a rest.more (stepped p a (record { order = s; held = h }))) rest.why) budget rest.stopped_for);
      }
    where
      goes : (k : ℕ) → k < suc rest.more → GoesOn p a (made + suc left) (made + k) (in_a_row p a k (record { order = s; held = h }))
      goes zero low = record { some_open = some; not_spent = omega arith; has_room = ok }
      goes (suc k) low =
          let g = rest.went_on k (omega arith) in
          record { some_open = g.some_open; not_spent = omega (arith, g.not_spent); has_room = g.has_room }

  pub rest_of : (left made : ℕ) (s : Strategy) (h : Held) → Lawful s → is_of p h.draw ≡ true → RestOf s left made h (runs_on p a s left made h)
  rest_of zero made s h lawful of_plan = by (none_open h.draw.entries) refl
    where
      by : (b : Bool) → none_open h.draw.entries ≡ b → RestOf s 0 made h (cond b (stopped h made Ended) (stopped h made Spent))
      by true is = at_once s 0 made h Ended is
      by false is = at_once s 0 made h Spent (is, refl)
  rest_of (suc left) made s h lawful of_plan = by (none_open h.draw.entries) refl (is_ok (steps p a s h).answer) refl (rest_of left (suc made) (all_told s (steps p a s h).told) (steps p a s h).held (told_lawful s (steps p a s h).told lawful) (steps_of s h ∙ of_plan))
    where
      x : After (Result Tried DrawFault)
      x = steps p a s h

      rest : After (Result (ℕ × Stop) DrawFault)
      rest = runs_on p a (all_told s x.told) left (suc made) x.held

      by : (b : Bool) → none_open h.draw.entries ≡ b → (o : Bool) → is_ok x.answer ≡ o → RestOf (all_told s x.told) left (suc made) x.held rest
          → RestOf s (suc left) made h (cond b (stopped h made Ended) (cond o (preceded x.popped x.told rest) (stopped h made Full)))
      by true is o ok later = at_once s (suc left) made h Ended is
      by false is true ok later = one_before s left made h is ok rest later
      by false is false ok later = at_once s (suc left) made h Full (is, omega arith, steps_full s h lawful of_plan is ok)

  same_answer : (k j : ℕ) (why stop : Stop) → ◌≡◌ {A = Result (ℕ × Stop) DrawFault} (Ok (k, why)) (Ok (j, stop)) → (k ≡ j) × (why ≡ stop)
  same_answer k j why stop is = let e : ◌≡◌ {A = ℕ × Stop} (k, why) (j, stop) = cc in (ap (λ (x : ℕ × Stop). x.0) e, ap (λ (x : ℕ × Stop). x.1) e)

  -- the law of a run that answers so many tries and why it stopped
  pub run_law : (s : Strategy) (budget : ℕ) (h : Held) → Lawful s → is_of p h.draw ≡ true → (tries : ℕ) (why : Stop) → (runs_on p a s budget 0 h).answer ≡ Ok (tries, why) → RunLaw p a s budget h (runs_on p a s budget 0 h).held tries why
  run_law s budget h lawful of_plan tries why is = of_rest (rest_of budget 0 s h lawful of_plan)
    where
      of_rest : RestOf s budget 0 h (runs_on p a s budget 0 h) → RunLaw p a s budget h (runs_on p a s budget 0 h).held tries why
      of_rest rest =
          let (count, same) = same_answer _ tries _ why (sym rest.answers ∙ is) in
          let more : rest.more ≡ tries = omega (arith, count) in
          let none : (k : ℕ) → 0 + k ≡ k = λ k. omega arith in
          record {
            steps_made = ap (λ k. (in_a_row p a k (record { order = s; held = h })).held) (sym more) ∙ rest.steps_made;
            went_on = λ k low.
                let g = rest.went_on k (omega arith) in
                record { some_open = g.some_open; not_spent = omega (arith, g.not_spent); has_room = g.has_room };
            stopped_for =
                subst (λ w. Stops p a budget tries (in_a_row p a tries (record { order = s; held = h })) w) same
                (subst (λ k. Stops p a budget k (in_a_row p a k (record { order = s; held = h })) rest.why) more
                (subst (λ b. Stops p a b rest.more (in_a_row p a rest.more (record { order = s; held = h })) rest.why) (none budget)
                (subst (λ k. Stops p a (0 + budget) k (in_a_row p a rest.more (record { order = s; held = h })) rest.why) (none rest.more) rest.stopped_for)));
          }
