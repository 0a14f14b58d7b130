-- Both orders pick an open vertex where there is one. Assumes nothing.
use Rattle.std.specs.Prelude.{◌≡◌, ℕ, ◌<◌, ◌≤◌, Bool, true, false, cond, ◌&&◌, List, length, IfSome, Some, None, vec_items, Option, MatchOption, nat_le, refl}
use Rattle.std.proofs.Common.{⊎_elim, arith}
use Rattle.model.proofs.Lowest.{IsLowest, NoneBelow, lowest_tells}
use Rattle.model.specs.Orders.{PicksOpen}
use Rattle.model.specs.Picks.{then}
use Rattle.model.specs.Walks.{is_open, open_from, or_lowest, if_open}
use Rattle.orders.specs.Told.{walk_pick, filed_pick}
use Rattle.orders.specs.declared.filed.FiledOrder.{FiledOrder}
use Rattle.orders.specs.declared.walk.Walk.{Walk}
use Rattle.std.proofs.lemmas.List.{get_or_past}
use Rattle.std.proofs.lemmas.Bool.{and_cases, and_parts, both_ways, cases_lt, le-leb}
use Rattle.std.specs.List.{slice_get}

module _ (marks : List Bool) where
  abbrev Open : ℕ → Type 0
  Open v = (v < length marks) × (is_open marks v ≡ true)

  -- from the start on no vertex is open
  abbrev ShutFrom : ℕ → Type 0
  ShutFrom start = (u : ℕ) → u < length marks → start ≤ u → is_open marks u ≡ false

  abbrev open_past : ℕ → ℕ → Bool
  open_past start u = nat_le start u && is_open marks u

  from_tells : (start : ℕ) → MatchOption (open_from marks start) (ShutFrom start) Open
  from_tells start = by (open_from marks start) (lowest_tells (open_past start) (length marks))
    where
      by : (o : Option ℕ) → MatchOption o (NoneBelow (open_past start) (length marks)) (IsLowest (open_past start) (length marks)) → MatchOption o (ShutFrom start) Open
      by None none =
          λ u below from. ⊎_elim
          (λ under. absurd (both_ways (nat_le start u) under (le-leb start u from)))
          (λ shut. shut)
          (and_cases (nat_le start u) (is_open marks u) (none u below))
      by (Some v) found = (found.within, (and_parts (nat_le start v) (is_open marks v) found.passes).1)

  -- the pick, if there is one, is an open vertex
  abbrev IfAny : Option ℕ → Type 0
  IfAny pick = IfSome pick Open

  -- then with the lowest open vertex behind it the pick is lawful
  pub or_lowest_lawful : (pick : Option ℕ) → IfAny pick → PicksOpen marks (or_lowest marks pick)
  or_lowest_lawful None _ = by (open_from marks 0) (from_tells 0)
    where
      by : (o : Option ℕ) → MatchOption o (ShutFrom 0) Open → PicksOpen marks o
      by None shut = λ u below. shut u below (omega arith)
      by (Some v) found = found
  or_lowest_lawful (Some v) found = found

  from_any : (start : ℕ) → IfAny (open_from marks start)
  from_any start = by (open_from marks start) (from_tells start)
    where
      by : (o : Option ℕ) → MatchOption o (ShutFrom start) Open → IfAny o
      by None _ = tt
      by (Some v) found = found

  -- an open vertex is a vertex, since each has a mark
  within : (v : ℕ) → is_open marks v ≡ true → v < length marks
  within v is = ⊎_elim (λ lt. lt) (λ past. absurd (both_ways (is_open marks v) (get_or_past marks v false past) is)) (cases_lt v (length marks))

  -- what stands at a place of a list, if it is open
  entry_any : (entry : Option ℕ) → IfAny (then entry (if_open marks))
  entry_any None = tt
  entry_any (Some v) = by (is_open marks v) refl
    where
      by : (b : Bool) → is_open marks v ≡ b → IfAny (cond b (Some v) None)
      by true is = (within v is, is)
      by false _ = tt

pub walk_lawful : (w : Walk) (marks : List Bool) → PicksOpen marks (walk_pick w marks)
walk_lawful w marks = or_lowest_lawful marks (open_from marks w.last) (from_any marks w.last)

pub filed_lawful : (o : FiledOrder) (marks : List Bool) → PicksOpen marks (filed_pick o marks)
filed_lawful o marks =
    let entry = slice_get (vec_items o.vertices) o.place in
    or_lowest_lawful marks (then entry (if_open marks)) (entry_any marks entry)
