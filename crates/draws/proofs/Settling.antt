-- Settling the vertices of a trail that does not come round, one after the other. Assumes nothing.
use Rattle.std.proofs.Common.{◌≡◌, ℕ, zero, suc, ◌+◌, ◌<◌, ◌≤◌, Bool, true, false, cond, ◌||◌, ◌⊎◌, List, [], ◌∷◌, ◌++◌, length, get_or, set, Some, None, Option, sym, refl, ap, ◌∙◌, subst, ⊎_elim, arith, length-append}
use Rattle.std.specs.List.{AllByRecursion}
use Rattle.std.proofs.ByRecursion.{All-push}
use Rattle.std.proofs.lemmas.Bool.{or_cases, or_parts, both_ways, false≢true}
use Rattle.model.specs.Arrows.{Cells, sight}
use Rattle.model.specs.Distinct.{Distinct}
use Rattle.model.specs.Layouts.{Layout}
use Rattle.model.specs.declared.draw.Entry.{Entry}
use Rattle.model.proofs.Pigeons.{pigeons}
use Rattle.model.proofs.Ways.{none_some}
use Rattle.theory.specs.Calls.{open_count}
use Rattle.theory.specs.Cycles.{among}
use Rattle.theory.specs.Draws.{no_entry, height_of, shown, is_settled, changed, shut, Trail, from_on, trail_on}
use Rattle.theory.specs.Ends.{if_some}
use Rattle.theory.proofs.Entries.{changed_nothing, changed_more, length_changed, settled_marks, settled_heights}
use Rattle.theory.proofs.Trails.{off_fresh, distinct_push, among_push}
use Rattle.theory.proofs.TryLaw.{shut_more}

module _ (arrow : ℕ → Option ℕ) (start : List Entry) (t : Trail) where
  abbrev before : ℕ → Bool
  before = is_settled start

  -- the trail goes on here after what is done, which is settled
  pub record Settling (here count : ℕ) (es : List Entry) : Type 0 where
    pub done : List ℕ
    pub fuel : ℕ
    pub is : trail_on arrow before fuel done here ≡ t
    pub entries : es ≡ changed shut done start
    pub counted : count ≡ length done
    pub enough : length start < length done + fuel
    pub low : here < length start
    pub inside : AllByRecursion (λ x. x < length start) done
    pub distinct : Distinct done
    pub opens : (x : ℕ) → among x done ≡ true → before x ≡ false

  pub begins : (v : ℕ) → v < length start → trail_on arrow before (suc (length start)) [] v ≡ t → Settling v 0 start
  begins v low is = record {
    done = [];
    fuel = suc (length start);
    is = is;
    entries = sym (changed_nothing shut 0 start);
    counted = refl;
    enough = omega arith;
    low = low;
    inside = tt;
    distinct = tt;
    opens = λ x on. absurd (false≢true on);
  }

  module _ (here count : ℕ) (es : List Entry) (s : Settling here count es) where
    few : length s.done ≤ length start
    few = pigeons (length start) s.done s.inside s.distinct

    pub most : count ≤ length start
    most = omega (arith, few, s.counted)

    pub as_long : length es ≡ length start
    as_long = ap length s.entries ∙ length_changed shut s.done start

    mark_here : is_settled es here ≡ (among here s.done || before here)
    mark_here = ap (λ l. is_settled l here) s.entries ∙ settled_marks s.done start s.inside here

    -- one turn of the trail
    abbrev turn : ℕ → Bool → Bool → Option ℕ → Trail
    turn k b on o =
        cond b (record { path = s.done; loop = None })
        (cond on (record { path = s.done; loop = Some (from_on here s.done) })
        (if_some o (record { path = s.done ++ here ∷ []; loop = None }) (λ w. trail_on arrow before k (s.done ++ here ∷ []) w)))

    one_turn : (k : ℕ) × (turn k (before here) (among here s.done) (arrow here) ≡ t) × (length start < length s.done + suc k)
    one_turn = by s.fuel s.is s.enough
      where
        by : (k : ℕ) → trail_on arrow before k s.done here ≡ t → length start < length s.done + k → (k2 : ℕ) × (turn k2 (before here) (among here s.done) (arrow here) ≡ t) × (length start < length s.done + suc k2)
        by zero is enough = absurd (omega (arith, few))
        by (suc k) is enough = (k, is, enough)

    -- the vertices of the trail are settled, and there are so many
    abbrev pub Done : List Entry → ℕ → Type 0
    Done entries n = record { after : entries ≡ changed shut t.path start; count : n ≡ length t.path }

    -- at a settled vertex the trail has ended: it is none of its own
    pub stops : t.loop ≡ None → is_settled es here ≡ true → Done es count
    stops straight shut_here = let (k, turns, enough) = one_turn in by k (before here) refl (among here s.done) refl turns (or_cases (among here s.done) (before here) (sym mark_here ∙ shut_here))
      where
        by : (k : ℕ) (b : Bool) → before here ≡ b → (on : Bool) → among here s.done ≡ on → turn k b on (arrow here) ≡ t → (among here s.done ≡ true) ⊎ (before here ≡ true) → Done es count
        by k true is on there turns which = record { after = s.entries ∙ ap (λ x. changed shut x.path start) turns; count = s.counted ∙ ap (λ x. length x.path) turns }
        by k false is true there turns which = absurd (none_some t.loop (from_on here s.done) straight (ap (λ x. x.loop) (sym turns)))
        by k false is false there turns which = absurd (⊎_elim (both_ways _ there) (both_ways _ is) which)

    module _ (open_here : is_settled es here ≡ false) where
      new : (among here s.done ≡ false) × (before here ≡ false)
      new = or_parts _ _ (sym mark_here ∙ open_here)

      module _ (after : List Entry) (set_here : after ≡ set es here (shut (get_or es here no_entry))) where
        one_more : after ≡ changed shut (s.done ++ here ∷ []) start
        one_more = set_here ∙ ap (λ l. set l here (shut (get_or l here no_entry))) s.entries ∙ sym (changed_more shut s.done here start s.low new.0)

        pub falls : open_count after < open_count es
        falls =
            let one : open_count es ≡ suc (open_count (changed shut (s.done ++ here ∷ []) start)) = ap open_count s.entries ∙ shut_more s.done here start s.low new.0 new.1 in
            omega (arith, one, ap open_count one_more)

        pushed : length (s.done ++ here ∷ []) ≡ count + 1
        pushed = length-append s.done (here ∷ []) ∙ (let e : length s.done + 1 ≡ count + 1 = omega (arith, s.counted) in e)

        turned_to : (k : ℕ) → turn k (before here) (among here s.done) (arrow here) ≡ t → (o : Option ℕ) → arrow here ≡ o → turn k false false o ≡ t
        turned_to k turns o is = by (before here) new.1 (among here s.done) new.0 (arrow here) is turns
          where
            by : (b : Bool) → b ≡ false → (on : Bool) → on ≡ false → (x : Option ℕ) → x ≡ o → turn k b on x ≡ t → turn k false false o ≡ t
            by b is_b on is_on x is_x turned = (λ i. turn k (sym is_b i) (sym is_on i) (sym is_x i)) ∙ turned

        -- behind a dry vertex the trail has ended
        pub ends_dry : arrow here ≡ None → Done after (count + 1)
        ends_dry none =
            let (k, turns, enough) = one_turn in
            let ended : record { path = s.done ++ here ∷ []; loop = None } ≡ t = turned_to k turns None none in
            record { after = one_more ∙ ap (λ x. changed shut x.path start) ended; count = sym pushed ∙ ap (λ x. length x.path) ended }

        pub goes_on : (next : ℕ) → next < length start → arrow here ≡ Some next → Settling next (count + 1) after
        goes_on next inside_next some =
            let (k, turns, enough) = one_turn in
            record {
              done = s.done ++ here ∷ [];
              fuel = k;
              is = turned_to k turns (Some next) some;
              entries = one_more;
              counted = sym pushed;
              enough = omega (arith, pushed, s.counted);
              low = inside_next;
              inside = All-push (λ x. x < length start) s.done here s.inside s.low;
              distinct = distinct_push s.done here s.distinct (off_fresh here s.done new.0);
              opens = λ x there. ⊎_elim (s.opens x) (λ e. subst (λ z. before z ≡ false) (sym e) new.1) (among_push x here s.done there);
            }

-- the arrows are the same all along, since settling moves no height
pub shown_still : (p : Layout) (a : Cells) (start : List Entry) (t : Trail) (here count : ℕ) (es : List Entry) → Settling (shown p a start) start t here count es → shown p a es here ≡ shown p a start here
shown_still p a start t here count es s = ap (sight p a here) (ap (λ l. height_of l here) s.entries ∙ settled_heights s.done start here)
