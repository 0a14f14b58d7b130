-- The commands on halls leave a hall alone. Assumes nothing.
use Rattle.std.proofs.Common.{◌≡◌, ℕ, Bool, true, false, cond, Some, None, Ok, Option, Result, refl, ap, ◌∙◌, inl, inr}
use Rattle.std.proofs.lemmas.Bool.{both_ways}
use Rattle.commands.specs.Commands as asks
use Rattle.commands.specs.Commands.{Asked, on_halls}
use Rattle.desk.specs.Drawings.{Drawing}
use Rattle.model.specs.declared.fault.DrawFault.{DrawFault}
use Rattle.plans.specs.Cablings.{unlinked}
use Rattle.plans.specs.Limits.{plan_fault}
use Rattle.session.specs.Desks.{Place, empty, linking, filing, ready, Planned, completed, Arrowed, Desk, hall_alone, has_hall_alone, closing, closes, before, goes_on, misplaced_at, unless_fault, new_plan, linking_at, does, Takes}
use Rattle.session.specs.Said as said
use Rattle.session.specs.Said.{Said}
use Rattle.session.specs.declared.answer.Misplaced.{Misplaced}
use Rattle.session.specs.declared.answer.Refusal.{Refusal}
use Rattle.theory.specs.Ends.{if_some}

-- ---- what is due

closing_alone : (x : Place) (a : Option Arrowed) (y : Option Drawing) → hall_alone x a y ≡ true → hall_alone (closing x).1 a y ≡ true
closing_alone empty a y alone = alone
closing_alone (linking c) a y alone = alone
closing_alone (filing p q) a y alone = absurd (both_ways false refl alone)
closing_alone (ready p) a y alone = alone

pub closes_alone : (d : Desk) → has_hall_alone d ≡ true → has_hall_alone (closes d).1 ≡ true
closes_alone d alone = closing_alone d.place d.arrows d.drawing alone

pub before_alone : (c : Asked) (d : Desk) → has_hall_alone d ≡ true → has_hall_alone (before c d).1 ≡ true
before_alone c d alone = by (goes_on c d.place)
  where
    by : (t : Bool) → has_hall_alone (cond t (None, d) (closes d)).1 ≡ true
    by true = alone
    by false = closes_alone d alone

-- ---- what the commands do

-- another plan, unless there is a fault
taken_alone : (f : Option DrawFault) (d : Desk) (r : Result Said Refusal) (x : Place) → has_hall_alone d ≡ true → hall_alone x None None ≡ true → has_hall_alone (unless_fault f d (r, new_plan d x)).1 ≡ true
taken_alone None d r x alone next = next
taken_alone (Some e) d r x alone next = alone

link_alone : (x : Place) (a b : ℕ) (s : Option Arrowed) (y : Option Drawing) → hall_alone x s y ≡ true → hall_alone (linking_at x a b).1 s y ≡ true
link_alone empty a b s y alone = alone
link_alone (linking c) a b s y alone = alone
link_alone (filing p q) a b s y alone = alone
link_alone (ready p) a b s y alone = alone

plan_alone : (o : Option Planned) (d : Desk) (m : Misplaced) (f : Planned → Result Said Refusal) → has_hall_alone d ≡ true → has_hall_alone (if_some o (misplaced_at m d) (λ p. (f p, d))).1 ≡ true
plan_alone None d m f alone = alone
plan_alone (Some p) d m f alone = alone

does_alone : (c : Asked) (d : Desk) (line : ℕ) → on_halls c ≡ true → has_hall_alone d ≡ true → has_hall_alone (does d line c).1 ≡ true
does_alone (asks.complete n r) d line on alone = taken_alone (plan_fault n r) d (Ok (said.complete n r)) (ready (completed n r)) alone refl
does_alone (asks.table n r) d line on alone = taken_alone (plan_fault n r) d (Ok said.silent) (linking (unlinked n r)) alone refl
does_alone (asks.link a b) d line on alone = link_alone d.place a b d.arrows d.drawing alone
does_alone (asks.check ports) d line on alone = plan_alone _ d _ _ alone
does_alone (asks.help scope) d line on alone = alone
does_alone c d line on alone = absurd (both_ways _ refl on)

pub takes_alone : (c : Asked) (d after : Desk) (line : ℕ) (r : Result Said Refusal) → on_halls c ≡ true → has_hall_alone d ≡ true → Takes d line c r after → has_hall_alone after ≡ true
takes_alone c d after line r on alone (inl is) = ap (λ x. has_hall_alone x.1) is ∙ does_alone c d line on alone
takes_alone c d after line r on alone (inr lacks) = ap has_hall_alone lacks.same ∙ alone
