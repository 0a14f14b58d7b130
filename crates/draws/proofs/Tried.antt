-- What a try finds on its way decides what it does. Assumes nothing.
use Rattle.std.proofs.Common.{◌≡◌, ℕ, suc, ◌<◌, ◌≤◌, Bool, true, false, cond, not, ltb, List, [], ◌∷◌, length, Some, None, Ok, Option, Result, sym, refl, ap, ◌∙◌, subst, arith, MatchOption}
use Rattle.std.proofs.lemmas.Bool.{lt-ltb}
use Rattle.model.specs.Arrows.{Cells}
use Rattle.model.specs.Layouts.{Layout, Sound}
use Rattle.model.specs.declared.draw.Entry.{Entry}
use Rattle.model.specs.declared.draw.Tried.{Tried}
use Rattle.model.specs.declared.draw.Tried.TheVariants.{Settled}
use Rattle.model.specs.declared.fault.DrawFault.{DrawFault}
use Rattle.model.specs.declared.fault.DrawFault.TheVariants as fault
use Rattle.theory.specs.Calls.{After, first_fault, refused, settles, by_trail, tries}
use Rattle.theory.specs.Cycles.{among, Cycle}
use Rattle.theory.specs.Draws.{height_of, is_settled, changed, higher, Held, is_of, shown, Trail, trail, turned}
use Rattle.theory.specs.Ends.{if_some}
use Rattle.theory.specs.Laws.{Rounds, RunsOut, Closes, open_arrows, TryLaw}
use Rattle.theory.proofs.Closing.{not_both, closes_rounds, rounds_on}
use Rattle.theory.proofs.Cycles.{cycle_arrow, cycle_same}
use Rattle.theory.proofs.Drawing.{inside, shown_to}
use Rattle.theory.proofs.Entries.{raised_heights}
use Rattle.theory.proofs.TryLaw.{open_arrow, arrow_open, EndedTrail, follows, try_law}
use Rattle.draws.specs.Popping.{popping}
use Rattle.draws.proofs.Shown.{cycle_under}

module _ (p : Layout) (a : Cells) (sound : Sound p) where
  -- no vertex is raised above 4,096
  pub raised_low : (es : List Entry) → length es ≡ p.size → (c : List ℕ) → Cycle (shown p a es) c → ((v : ℕ) → height_of es v ≤ 4096) → (v : ℕ) → height_of (changed higher c es) v ≤ 4096
  raised_low es sized c cyc low v = subst (λ k. k ≤ 4096) (sym (raised_heights c es (inside p a sound es sized c cyc) v)) (by (among v c) refl)
    where
      by : (b : Bool) → among v c ≡ b → cond b (suc (height_of es v)) (height_of es v) ≤ 4096
      by true on = omega (arith, cycle_under p a sound es c cyc v on)
      by false off = low v

  -- a cycle of open vertices is one of visible arrows
  open_cycle : (es : List Entry) (c : List ℕ) → Cycle (open_arrows p a es) c → Cycle (shown p a es) c
  open_cycle es c cyc = cycle_same (open_arrows p a es) (shown p a es) c same cyc
    where
      same : (y : ℕ) → among y c ≡ true → shown p a es y ≡ open_arrows p a es y
      same y on =
          let (z, arrow) = cycle_arrow (open_arrows p a es) c y cyc on in
          sym (open_arrow (shown p a es) (is_settled es) y (arrow_open (shown p a es) (is_settled es) y z arrow).0)

  module _ (es : List Entry) (v : ℕ) (low : v < p.size) (open_v : is_settled es v ≡ false) where
    tells : MatchOption (trail p a es v).loop (EndedTrail (shown p a es) (is_settled es) v (trail p a es v).path) (λ l. Closes (open_arrows p a es) v (turned l))
    tells = follows (shown p a es) (is_settled es) p.size p.size v open_v (shown_to p a sound es v low)

    -- the way comes to `on`, which is on a loop: so does the trail
    pub comes_to_cycle : (on : ℕ) → Rounds (open_arrows p a es) v on → (l : List ℕ) × ((trail p a es v).loop ≡ Some l) × Cycle (shown p a es) (turned l) × (among on (turned l) ≡ true)
    comes_to_cycle on rounds = by (trail p a es v).loop refl tells
      where
        by : (o : Option (List ℕ)) → (trail p a es v).loop ≡ o → MatchOption o (EndedTrail (shown p a es) (is_settled es) v (trail p a es v).path) (λ l. Closes (open_arrows p a es) v (turned l))
            → (l : List ℕ) × ((trail p a es v).loop ≡ Some l) × Cycle (shown p a es) (turned l) × (among on (turned l) ≡ true)
        by None is ended = absurd (not_both (open_arrows p a es) v on rounds ended.ends)
        by (Some l) is closes = (l, is, open_cycle es (turned l) closes.0, rounds_on (open_arrows p a es) v on (turned l) rounds closes)

    pub goes_straight : RunsOut (open_arrows p a es) v → (trail p a es v).loop ≡ None
    goes_straight out = by (trail p a es v).loop refl tells
      where
        by : (o : Option (List ℕ)) → (trail p a es v).loop ≡ o → MatchOption o (EndedTrail (shown p a es) (is_settled es) v (trail p a es v).path) (λ l. Closes (open_arrows p a es) v (turned l)) → (trail p a es v).loop ≡ None
        by None is ended = is
        by (Some l) is closes = let (m, there, rounds) = closes_rounds (open_arrows p a es) v (turned l) closes in absurd (not_both (open_arrows p a es) v m rounds out)

  module _ (h : Held) (v : ℕ) (of_plan : is_of p h.draw ≡ true) (low : v < p.size) (open_v : is_settled h.draw.entries v ≡ false) where
    abbrev t : Trail
    t = trail p a h.draw.entries v

    goes : tries p a v h ≡ by_trail h t
    goes = by (is_of p h.draw) of_plan (ltb v p.size) (lt-ltb v p.size low) (is_settled h.draw.entries v) open_v
      where
        by : (b : Bool) → b ≡ true → (s : Bool) → s ≡ true → (o : Bool) → o ≡ false → if_some (first_fault ((not b, fault.OtherPlan) ∷ (not s, fault.Vertex v) ∷ (o, fault.AlreadySettled v) ∷ [])) (by_trail h t) (λ e. refused h e) ≡ by_trail h t
        by b is_b s is_s o is_o = λ i. if_some (first_fault ((not (is_b i), fault.OtherPlan) ∷ (not (is_s i), fault.Vertex v) ∷ (is_o i, fault.AlreadySettled v) ∷ [])) (by_trail h t) (λ e. refused h e)

    goes_as : (o : Option (List ℕ)) → t.loop ≡ o → tries p a v h ≡ if_some o (settles h t.path) (λ l. popping h (turned l))
    goes_as o is = goes ∙ ap (λ x. if_some x (settles h t.path) (λ l. popping h (turned l))) is

    -- what the try leaves and answers, and its law
    abbrev pub Does : Held → Result Tried DrawFault → Type 0
    Does after r = record { held : after ≡ (tries p a v h).held; answer : r ≡ (tries p a v h).answer; law : TryLaw p a v h after r }

    does : (x : After (Result Tried DrawFault)) → tries p a v h ≡ x → (after : Held) (r : Result Tried DrawFault) → after ≡ x.held → r ≡ x.answer → Does after r
    does x is after r left answers =
        let held : after ≡ (tries p a v h).held = left ∙ ap (λ (y : After (Result Tried DrawFault)). y.held) (sym is) in
        let answer : r ≡ (tries p a v h).answer = answers ∙ ap (λ (y : After (Result Tried DrawFault)). y.answer) (sym is) in
        record { held = held; answer = answer; law = subst (λ y. TryLaw p a v h y r) (sym held) (subst (λ y. TryLaw p a v h (tries p a v h).held y) (sym answer) (try_law p a v h sound)) }

    module _ (on : ℕ) (rounds : Rounds (open_arrows p a h.draw.entries) v on) where
      pub cycle_there : (c : List ℕ) × Cycle (shown p a h.draw.entries) c × (among on c ≡ true)
      cycle_there = let (l, is, cyc, there) = comes_to_cycle h.draw.entries v low open_v on rounds in (turned l, cyc, there)

      pub pops_there : (after : Held) (r : Result Tried DrawFault) → ((c : List ℕ) → Cycle (shown p a h.draw.entries) c → among on c ≡ true → (after ≡ (popping h c).held) × (r ≡ (popping h c).answer)) → Does after r
      pops_there after r pops =
          let (l, is, cyc, there) = comes_to_cycle h.draw.entries v low open_v on rounds in
          let (left, answers) = pops (turned l) cyc there in
          does (popping h (turned l)) (goes_as (Some l) is) after r left answers

    pub settles_there : RunsOut (open_arrows p a h.draw.entries) v → (after : Held) (k : ℕ) → after ≡ (settles h t.path).held → k ≡ length t.path → Does after (Ok (Settled k))
    settles_there out after k left count = does (settles h t.path) (goes_as None (goes_straight h.draw.entries v low open_v out)) after (Ok (Settled k)) left (ap (λ n. Ok (Settled n)) count)
