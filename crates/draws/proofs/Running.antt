-- A run, turn by turn: what is left of it gives what the whole gives. Assumes nothing.
use Rattle.std.proofs.Common.{◌≡◌, ℕ, zero, suc, ◌+◌, ◌-◌, ◌≤◌, Bool, true, false, cond, ◌<◌, List, [], ◌∷◌, ◌++◌, is_ok, Some, None, Ok, Err, Option, Result, sym, refl, ap, ◌∙◌, subst, arith}
use Rattle.std.proofs.lemmas.Bool.{both_ways}
use Rattle.model.specs.Arrows.{Cells}
use Rattle.model.specs.Layouts.{Layout, Sound}
use Rattle.model.specs.Orders.{open_marks, PicksOpen}
use Rattle.model.specs.declared.draw.Stop.{Stop}
use Rattle.model.specs.declared.draw.Stop.TheVariants.{Ended, Spent, Full}
use Rattle.model.specs.declared.draw.Tried.{Tried}
use Rattle.model.specs.declared.fault.DrawFault.{DrawFault}
use Rattle.model.specs.declared.fault.DrawFault.TheVariants as fault
use Rattle.theory.specs.Calls.{Strategy, all_told, told_all, strategy_of, After, refused, tries, telling, steps, none_open, stopped, preceded, runs_on, runs}
use Rattle.theory.specs.Draws.{Held, is_of}
use Rattle.theory.specs.Laws.{StepLaw, RunLaw}
use Rattle.theory.specs.Outcomes.{Lawful}
use Rattle.theory.proofs.TryLaw.{try_law}
use Rattle.theory.proofs.RunLaw.{some_open, none_marked, at_pick, step_law, steps_of, run_law}

-- ---- one turn

module _ (p : Layout) (a : Cells) (s : Strategy) (made : ℕ) (h : Held) where
  runs_ended : (left : ℕ) → none_open h.draw.entries ≡ true → runs_on p a s left made h ≡ stopped h made Ended
  runs_ended zero none = ap (λ b. cond b (stopped h made Ended) (stopped h made Spent)) none
  runs_ended (suc left) none = ap (λ b. cond b (stopped h made Ended) (cond (is_ok (steps p a s h).answer) (preceded (steps p a s h).popped (steps p a s h).told (runs_on p a (all_told s (steps p a s h).told) left (suc made) (steps p a s h).held)) (stopped h made Full))) none

  runs_spent : (left : ℕ) → left ≡ 0 → none_open h.draw.entries ≡ false → runs_on p a s left made h ≡ stopped h made Spent
  runs_spent zero is some = ap (λ b. cond b (stopped h made Ended) (stopped h made Spent)) some
  runs_spent (suc left) is some = absurd (omega arith)

  runs_turn : (left : ℕ) (b : Bool) → none_open h.draw.entries ≡ false → is_ok (steps p a s h).answer ≡ b
      → runs_on p a s (suc left) made h ≡ cond b (preceded (steps p a s h).popped (steps p a s h).told (runs_on p a (all_told s (steps p a s h).told) left (suc made) (steps p a s h).held)) (stopped h made Full)
  runs_turn left b some ok = λ i. cond (some i) (stopped h made Ended) (cond (ok i) (preceded (steps p a s h).popped (steps p a s h).told (runs_on p a (all_told s (steps p a s h).told) left (suc made) (steps p a s h).held)) (stopped h made Full))

-- ---- an order and its strategy

module _ {O : Type 0} (picks : O → List Bool → Option ℕ) (tells : O → ℕ → O) where
  abbrev strategy : O → Strategy
  strategy o = strategy_of picks tells o

  told_strategy : (o : O) (vs : List ℕ) → all_told (strategy o) vs ≡ strategy (told_all tells o vs)
  told_strategy o [] = refl
  told_strategy o (v ∷ vs) = told_strategy (tells o v) vs

  told_append : (o : O) (us vs : List ℕ) → told_all tells o (us ++ vs) ≡ told_all tells (told_all tells o us) vs
  told_append o [] vs = refl
  told_append o (u ∷ us) vs = told_append (tells o u) us vs

  module _ (lawful : (o : O) (marks : List Bool) → PicksOpen marks (picks o marks)) (p : Layout) (a : Cells) (sound : Sound p) where
    strategy_lawful : (o : O) → Lawful (strategy o)
    strategy_lawful o told marks = lawful (told_all tells o told) marks

    -- a pick is an open vertex
    pub picked_open : (o : O) (h : Held) (v : ℕ) → picks o (open_marks h.draw.entries) ≡ Some v → none_open h.draw.entries ≡ false
    picked_open o h v is = let (within, open_v) = subst (λ x. PicksOpen (open_marks h.draw.entries) x) is (lawful o (open_marks h.draw.entries)) in some_open h.draw.entries v within open_v

    pub none_picked : (o : O) (h : Held) → picks o (open_marks h.draw.entries) ≡ None → none_open h.draw.entries ≡ true
    none_picked o h is = none_marked h.draw.entries (subst (λ x. PicksOpen (open_marks h.draw.entries) x) is (lawful o (open_marks h.draw.entries)))

    -- ---- a step

    -- what a step by the order leaves, answers and tells
    abbrev pub Stepped : O → Held → Held → Result Tried DrawFault → O → Type 0
    Stepped o h after r last = record {
      held : after ≡ (steps p a (strategy o) h).held;
      answer : r ≡ (steps p a (strategy o) h).answer;
      order : last ≡ told_all tells o (steps p a (strategy o) h).told;
      law : StepLaw p a (picks o (open_marks h.draw.entries)) h after r;
    }

    stepped_as : (o : O) (h after : Held) (r : Result Tried DrawFault) (last : O) (x : After (Result Tried DrawFault)) → steps p a (strategy o) h ≡ x → after ≡ x.held → r ≡ x.answer → last ≡ told_all tells o x.told → Stepped o h after r last
    stepped_as o h after r last x is is_held_lem is_answer is_order =
        let held : after ≡ (steps p a (strategy o) h).held = is_held_lem ∙ ap (λ y. y.held) (sym is) in
        let answer : r ≡ (steps p a (strategy o) h).answer = is_answer ∙ ap (λ y. y.answer) (sym is) in
        let pick = picks o (open_marks h.draw.entries) in
        record {
          held = held;
          answer = answer;
          order = is_order ∙ ap (λ y. told_all tells o y.told) (sym is);
          law =
              subst (λ y. StepLaw p a pick h y r) (sym held)
              (subst (λ y. StepLaw p a pick h (steps p a (strategy o) h).held y) (sym answer) (step_law p a sound (strategy o) h (lawful o (open_marks h.draw.entries))));
        }

    step_at : (o : O) (h : Held) (v : ℕ) → is_of p h.draw ≡ true → picks o (open_marks h.draw.entries) ≡ Some v → steps p a (strategy o) h ≡ telling v (tries p a v h)
    step_at o h v of_plan is = at_pick p a sound (strategy o) h (Some v) of_plan is

    pub steps_at : (o : O) (h after : Held) (r : Result Tried DrawFault) (last : O) (v : ℕ) → is_of p h.draw ≡ true → picks o (open_marks h.draw.entries) ≡ Some v
        → let x = telling v (tries p a v h) in after ≡ x.held → r ≡ x.answer → last ≡ told_all tells o x.told → Stepped o h after r last
    steps_at o h after r last v of_plan is held answer order = stepped_as o h after r last (telling v (tries p a v h)) (step_at o h v of_plan is) held answer order

    pub steps_nowhere : (o : O) (h : Held) → is_of p h.draw ≡ true → picks o (open_marks h.draw.entries) ≡ None → Stepped o h h (Err fault.NothingOpen) o
    steps_nowhere o h of_plan is = stepped_as o h h (Err fault.NothingOpen) o (refused h fault.NothingOpen) (at_pick p a sound (strategy o) h None of_plan is) refl refl refl

    -- ---- a run

    abbrev rest : ℕ → O → ℕ → Held → After (Result (ℕ × Stop) DrawFault)
    rest budget o made h = runs_on p a (strategy o) (budget - made) made h

    abbrev whole : ℕ → O → Held → After (Result (ℕ × Stop) DrawFault)
    whole budget o h = runs_on p a (strategy o) budget 0 h

    -- after so many tries, with the order in the value o and h held, what is left gives what the whole gives
    pub record Running (budget : ℕ) (first : O) (start : Held) (o : O) (made : ℕ) (h : Held) : Type 0 where
      pub of_plan : is_of p h.draw ≡ true
      pub within : made ≤ budget
      pub same_held : (rest budget o made h).held ≡ (whole budget first start).held
      pub same_answer : (rest budget o made h).answer ≡ (whole budget first start).answer
      pub same_order : told_all tells o (rest budget o made h).told ≡ told_all tells first (whole budget first start).told

    pub begins : (budget : ℕ) (first : O) (start : Held) → is_of p start.draw ≡ true → Running budget first start first 0 start
    begins budget first start of_plan =
        let all : budget - 0 ≡ budget = omega arith in
        let same : rest budget first 0 start ≡ whole budget first start = ap (λ n. runs_on p a (strategy first) n 0 start) all in
        record { of_plan = of_plan; within = omega arith; same_held = ap (λ x. x.held) same; same_answer = ap (λ x. x.answer) same; same_order = ap (λ x. told_all tells first x.told) same }

    module _ (budget : ℕ) (first : O) (start : Held) (o : O) (made : ℕ) (h : Held) (r : Running budget first start o made h) (of_start : is_of p start.draw ≡ true) where
      -- what a run that stops so leaves, answers and tells
      abbrev pub Stopped : O → Held → ℕ → Stop → Type 0
      Stopped last after count why = record {
        held : after ≡ (runs p a (strategy first) budget start).held;
        answer : Ok (count, why) ≡ (runs p a (strategy first) budget start).answer;
        order : last ≡ told_all tells first (runs p a (strategy first) budget start).told;
        law : RunLaw p a (strategy first) budget start after count why;
      }

      stops : (why : Stop) → rest budget o made h ≡ stopped h made why → Stopped o h made why
      stops why is =
          let ran : runs p a (strategy first) budget start ≡ whole budget first start = ap (λ b. cond b (whole budget first start) (refused start fault.OtherPlan)) of_start in
          let held : h ≡ (whole budget first start).held = ap (λ x. x.held) (sym is) ∙ r.same_held in
          let answer : Ok (made, why) ≡ (whole budget first start).answer = ap (λ x. x.answer) (sym is) ∙ r.same_answer in
          record {
            held = held ∙ ap (λ x. x.held) (sym ran);
            answer = answer ∙ ap (λ x. x.answer) (sym ran);
            order = ap (λ x. told_all tells o x.told) (sym is) ∙ r.same_order ∙ ap (λ x. told_all tells first x.told) (sym ran);
            law = subst (λ x. RunLaw p a (strategy first) budget start x made why) (sym held) (run_law p a sound (strategy first) budget start (strategy_lawful first) of_start made why (sym answer));
          }

      pub stops_ended : picks o (open_marks h.draw.entries) ≡ None → Stopped o h made Ended
      stops_ended none = stops Ended (runs_ended p a (strategy o) made h (budget - made) (none_picked o h none))

      pub ended_at : budget ≤ made → picks o (open_marks h.draw.entries) ≡ None → Stopped o h budget Ended
      ended_at past none = subst (λ n. Stopped o h n Ended) (let e : made ≡ budget = omega (arith, r.within) in e) (stops_ended none)

      module _ (v : ℕ) (pick : picks o (open_marks h.draw.entries) ≡ Some v) where
        pub spent_at : budget ≤ made → Stopped o h budget Spent
        spent_at past = subst (λ n. Stopped o h n Spent) (let e : made ≡ budget = omega (arith, r.within) in e) (stops Spent (runs_spent p a (strategy o) made h (budget - made) (omega arith) (picked_open o h v pick)))

        abbrev x : After (Result Tried DrawFault)
        x = telling v (tries p a v h)

        turn : (left : ℕ) (b : Bool) → budget - made ≡ suc left → is_ok x.answer ≡ b → rest budget o made h ≡ cond b (preceded x.popped x.told (runs_on p a (strategy (told_all tells o x.told)) left (suc made) x.held)) (stopped h made Full)
        turn left b more ok =
            let is : steps p a (strategy o) h ≡ x = step_at o h v r.of_plan pick in
            ap (λ n. runs_on p a (strategy o) n made h) more
            ∙ runs_turn p a (strategy o) made h left b (picked_open o h v pick) (ap (λ y. is_ok y.answer) is ∙ ok)
            ∙ ap (λ y. cond b (preceded y.popped y.told (runs_on p a (all_told (strategy o) y.told) left (suc made) y.held)) (stopped h made Full)) is
            ∙ ap (λ s. cond b (preceded x.popped x.told (runs_on p a s left (suc made) x.held)) (stopped h made Full)) (told_strategy o x.told)

        one_less : made < budget → budget - made ≡ suc (budget - (made + 1))
        one_less unspent = omega arith

        -- a refused try leaves all as it was, and the order is told nothing
        pub stops_full : made < budget → (t : Result Tried DrawFault) → is_ok t ≡ false → t ≡ x.answer → (last : O) (after : Held) → last ≡ told_all tells o x.told → after ≡ x.held → Stopped last after made Full
        stops_full unspent (Ok y) failed is last after is_last is_after = absurd (both_ways _ failed refl)
        stops_full unspent (Err e) failed is last after is_last is_after =
            let full : is_ok x.answer ≡ false = ap (λ t. is_ok t) (sym is) in
            let same_order : last ≡ o = is_last ∙ ap (λ b. told_all tells o (cond b (v ∷ []) [])) full in
            let same : after ≡ h = is_after ∙ (try_law p a v h sound).unchanged e (sym is) in
            subst (λ y. Stopped y after made Full) (sym same_order) (subst (λ y. Stopped o y made Full) (sym same) (stops Full (turn (budget - (made + 1)) false (one_less unspent) full)))

        pub goes_on : made < budget → is_ok x.answer ≡ true → (last : O) (after : Held) → last ≡ told_all tells o x.told → after ≡ x.held → Running budget first start last (made + 1) after
        goes_on unspent ok last after is_last is_after = subst (λ y. Running budget first start y (made + 1) after) (sym is_last) (subst (λ y. Running budget first start (told_all tells o x.told) (made + 1) y) (sym is_after) next)
          where
            later : After (Result (ℕ × Stop) DrawFault)
            later = rest budget (told_all tells o x.told) (made + 1) x.held

            is : rest budget o made h ≡ preceded x.popped x.told later
            is = turn (budget - (made + 1)) true (one_less unspent) ok ∙ ap (λ n. preceded x.popped x.told (runs_on p a (strategy (told_all tells o x.told)) (budget - (made + 1)) n x.held)) (let e : suc made ≡ made + 1 = omega arith in e)

            next : Running budget first start (told_all tells o x.told) (made + 1) x.held
            next = record {
              of_plan = ap (λ y. is_of p y.held.draw) (sym (step_at o h v r.of_plan pick)) ∙ steps_of p a sound (strategy o) h ∙ r.of_plan;
              within = omega (arith, r.within);
              same_held = ap (λ y. y.held) (sym is) ∙ r.same_held;
              same_answer = ap (λ y. y.answer) (sym is) ∙ r.same_answer;
              same_order = sym (told_append o x.told later.told) ∙ ap (λ y. told_all tells o y.told) (sym is) ∙ r.same_order;
            }
