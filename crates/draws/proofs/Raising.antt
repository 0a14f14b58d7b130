-- Raising the vertices of a cycle one after the other, from its lowest along the arrows. Assumes nothing.
use Rattle.std.proofs.Common.{◌≡◌, ℕ, suc, ◌+◌, ◌<◌, true, false, List, [], ◌∷◌, ◌++◌, length, get_or, set, Some, None, Option, sym, refl, ap, ◌∙◌, subst, append_assoc, arith, length-append}
use Rattle.model.specs.Distinct.{Distinct}
use Rattle.model.specs.Ways.{Way}
use Rattle.model.specs.declared.draw.Entry.{Entry}
use Rattle.model.proofs.Ways.{none_some, same_some}
use Rattle.theory.specs.Cycles.{among, Cycle}
use Rattle.model.specs.Arrows.{Cells}
use Rattle.model.specs.Layouts.{Layout, Sound}
use Rattle.theory.specs.Draws.{no_entry, height_of, shown, changed, higher}
use Rattle.theory.proofs.Cycles.{among_here, among_all, cycle_distinct}
use Rattle.theory.proofs.Entries.{changed_nothing, changed_off, changed_more, length_changed}
use Rattle.theory.proofs.Trails.{among_right, distinct_off}
use Rattle.draws.proofs.Shown.{cycle_few, cycle_within, cycle_under, same_shown}

-- the way goes on from each of its vertices
way_from : (f : ℕ → Option ℕ) (u : ℕ) (us : List ℕ) (w : ℕ) (done : List ℕ) (here : ℕ) (left : List ℕ) → u ∷ us ≡ done ++ here ∷ left → Way f u us w → Way f here left w
way_from f u us w [] here left is way = let e : u ≡ here = cc in let r : us ≡ left = cc in subst (λ z. Way f z left w) e (subst (λ l. Way f u l w) r way)
way_from f u [] w (d ∷ ds) here left is way = absurd (let e : [] ≡ ds ++ here ∷ left = cc in let z : 0 ≡ length ds + suc (length left) = ap length e ∙ length-append ds (here ∷ left) in omega arith)
way_from f u (x ∷ xs) w (d ∷ ds) here left is (first, way) = way_from f x xs w ds here left (let e : x ∷ xs ≡ ds ++ here ∷ left = cc in e) way

-- what stands behind another stands behind the first
later_on : (low : ℕ) (rest done : List ℕ) (here x : ℕ) (left : List ℕ) → low ∷ rest ≡ done ++ here ∷ x ∷ left → among x rest ≡ true
later_on low rest [] here x left is = let e : x ∷ left ≡ rest = cc in subst (λ l. among x l ≡ true) e (among_here x left)
later_on low rest (d ∷ ds) here x left is = let e : ds ++ here ∷ x ∷ left ≡ rest = cc in subst (λ l. among x l ≡ true) e (among_right x ds (here ∷ x ∷ left) (among_right x (here ∷ []) (x ∷ left) (among_here x left)))

module _ (arrow : ℕ → Option ℕ) (start : List Entry) (low : ℕ) (rest : List ℕ) (cyc : Cycle arrow (low ∷ rest)) where
  -- the vertices before here are raised, and there are so many
  pub record Raising (here count : ℕ) (es : List Entry) : Type 0 where
    pub done : List ℕ
    pub left : List ℕ
    pub is : low ∷ rest ≡ done ++ here ∷ left
    pub entries : es ≡ changed higher done start
    pub counted : count ≡ length done

  pub begins : Raising low 0 start
  begins = record { done = []; left = rest; is = refl; entries = sym (changed_nothing higher 0 start); counted = refl }

  module _ (here count : ℕ) (es : List Entry) (r : Raising here count es) where
    pub on : among here (low ∷ rest) ≡ true
    on = subst (λ l. among here l ≡ true) (sym r.is) (among_right here r.done (here ∷ r.left) (among_here here r.left))

    pub few : count < length (low ∷ rest)
    few = let long : length (low ∷ rest) ≡ length r.done + suc (length r.left) = ap length r.is ∙ length-append r.done (here ∷ r.left) in omega (arith, r.counted)

    pub as_long : length es ≡ length start
    as_long = ap length r.entries ∙ length_changed higher r.done start

    off : among here r.done ≡ false
    off = distinct_off r.done r.left here (subst (λ l. Distinct l) r.is (cycle_distinct arrow (low ∷ rest) cyc))

    pub as_before : get_or es here no_entry ≡ get_or start here no_entry
    as_before = ap (λ l. get_or l here no_entry) r.entries ∙ changed_off higher r.done start here off

    onward : Way arrow here r.left low
    onward = way_from arrow low rest low r.done here r.left r.is cyc.0

    pub not_out : arrow here ≡ None → ⊥
    not_out none = by r.left onward
      where
        by : (left : List ℕ) → Way arrow here left low → ⊥
        by [] last = none_some (arrow here) low none last
        by (x ∷ xs) (first, way) = none_some (arrow here) x none first

    -- here is raised too
    one_more : here < length start → (after : List Entry) → after ≡ set es here (higher (get_or es here no_entry)) → after ≡ changed higher (r.done ++ here ∷ []) start
    one_more within after is = is ∙ ap (λ l. set l here (higher (get_or l here no_entry))) r.entries ∙ sym (changed_more higher r.done here start within off)

    module _ (within : here < length start) (after : List Entry) (set_here : after ≡ set es here (higher (get_or es here no_entry))) (next : ℕ) (arrow_is : arrow here ≡ Some next) where
      pushed : length (r.done ++ here ∷ []) ≡ count + 1
      pushed = length-append r.done (here ∷ []) ∙ (let e : length r.done + 1 ≡ count + 1 = omega (arith, r.counted) in e)

      -- back at the lowest
      pub finished : next ≡ low → (after ≡ changed higher (low ∷ rest) start) × (count + 1 ≡ suc (length rest))
      finished same = by r.left r.is onward
        where
          by : (left : List ℕ) → low ∷ rest ≡ r.done ++ here ∷ left → Way arrow here left low → (after ≡ changed higher (low ∷ rest) start) × (count + 1 ≡ suc (length rest))
          by [] is last = (one_more within after set_here ∙ ap (λ l. changed higher l start) (sym is), sym pushed ∙ ap length (sym is))
          by (x ∷ xs) is (first, way) =
              let e : x ≡ low = same_some (arrow here) x next first arrow_is ∙ same in
              let above : low < x = among_all (λ y. low < y) x rest cyc.1 (later_on low rest r.done here x xs is) in
              absurd (omega arith)

      pub goes_on : (next ≡ low → ⊥) → Raising next (count + 1) after
      goes_on other = by r.left r.is onward
        where
          by : (left : List ℕ) → low ∷ rest ≡ r.done ++ here ∷ left → Way arrow here left low → Raising next (count + 1) after
          by [] is last = absurd (other (same_some (arrow here) next low arrow_is last))
          by (x ∷ xs) is (first, way) = record {
            done = r.done ++ here ∷ [];
            left = xs;
            is = is ∙ ap (λ z. r.done ++ here ∷ z ∷ xs) (same_some (arrow here) x next first arrow_is) ∙ sym (append_assoc r.done (here ∷ []) (next ∷ xs));
            entries = one_more within after set_here;
            counted = sym pushed;
          }

-- where the raising of a cycle of visible arrows has come to: there is an entry, it can be raised, and it shows what it showed at the start
pub record Ready (p : Layout) (a : Cells) (start : List Entry) (here count : ℕ) (es : List Entry) : Type 0 where
  pub long : length es ≡ length start
  pub within : here < length start
  pub small : count < length start
  pub under : height_of es here < 4096
  pub shown_now : shown p a es here ≡ shown p a start here

-- so it is raised, whatever cycle of the lowest vertex is meant
abbrev pub Raises : Layout → Cells → List Entry → ℕ → ℕ → ℕ → List Entry → Type 0
Raises p a start low here count es = (rest : List ℕ) (cyc : Cycle (shown p a start) (low ∷ rest)) → Raising (shown p a start) start low rest cyc here count es

pub ready : (p : Layout) (a : Cells) → Sound p → (start : List Entry) → length start ≡ p.size → (low : ℕ) → (rest : List ℕ) × Cycle (shown p a start) (low ∷ rest)
    → (here count : ℕ) (es : List Entry) → Raises p a start low here count es → Ready p a start here count es
ready p a sound start sized low (rest, cyc) here count es raises =
    let f = shown p a start in
    let r = raises rest cyc in
    let on_it = on f start low rest cyc here count es r in
    let same = as_before f start low rest cyc here count es r in
    record {
      long = as_long f start low rest cyc here count es r;
      within = cycle_within p a sound start (low ∷ rest) cyc sized here on_it;
      small = omega (arith, few f start low rest cyc here count es r, cycle_few p a sound start (low ∷ rest) cyc, sized);
      under = subst (λ (e : Entry). e.height < 4096) (sym same) (cycle_under p a sound start (low ∷ rest) cyc here on_it);
      shown_now = same_shown p a es start here same;
    }
