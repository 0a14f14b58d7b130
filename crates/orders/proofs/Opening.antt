-- Looking for the first open vertex. Assumes nothing.
use Rattle.std.proofs.Common.{◌≡◌, ℕ, ◌<◌, ◌≤◌, Bool, true, false, ◌&&◌, leb, List, length, Some, None, Option, MatchOption, sym, subst, ⊎_elim, arith}
use Rattle.model.proofs.Lowest.{lowest_is, lowest_none}
use Rattle.model.specs.Walks.{is_open, open_from}
use Rattle.std.proofs.lemmas.Bool.{and_from, and_left, and_right, cases_lt, le-leb, lt-leb}

-- one mark for each of the n vertices
module _ (marks : List Bool) (n : ℕ) (all : n ≡ length marks) (start : ℕ) where
  -- no vertex from the start up to v is open
  abbrev pub ShutBetween : ℕ → Type 0
  ShutBetween v = (u : ℕ) → start ≤ u → u < v → is_open marks u ≡ false

  abbrev test : ℕ → Bool
  test u = leb start u && is_open marks u

  none_below : (v : ℕ) → ShutBetween v → (u : ℕ) → u < v → test u ≡ false
  none_below v shut u below =
      ⊎_elim
      (λ under. and_left (leb start u) (is_open marks u) (lt-leb start u under))
      (λ from. and_right (leb start u) (is_open marks u) (shut u from below))
      (cases_lt u start)

  -- the first open vertex that was found, or that there is none
  pub found_first : (o : Option ℕ) → MatchOption o (ShutBetween n) (λ v. (start ≤ v) × (v < n) × (is_open marks v ≡ true) × ShutBetween v) → o ≡ open_from marks start
  found_first None shut = sym (lowest_none test (length marks) (none_below (length marks) (subst ShutBetween all shut)))
  found_first (Some v) (from, within, here, shut) = sym (lowest_is test (length marks) v (record {
    within = omega (arith, all);
    passes = and_from (leb start v) (is_open marks v) (le-leb start v from) here;
    lower = none_below v shut;
  }))
