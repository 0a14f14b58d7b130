-- One walk of the tree check: what holds on the way, and what each of its ends shows. Assumes nothing.
use Rattle.std.proofs.Common.{◌≡◌, ℕ, zero, suc, ◌+◌, ◌<◌, ◌≤◌, Bool, true, false, not, eqb, List, [], ◌∷◌, ◌++◌, length, get_or, set, replicate, Some, None, Ok, Option, sym, refl, ap, ◌∙◌, subst, ⊎_elim, arith, get_or-set_other, get_or-set_same}
use Rattle.std.proofs.lemmas.Bool.{cases_eq, cases_lt, ne_eqb, eqb-true, eqb-false, cond-false, false≢true}
use Rattle.model.specs.Layouts.{Layout, Sound}
use Rattle.model.specs.Ways.{Way}
use Rattle.model.specs.Trees.{follow, Reaches, tree_check}
use Rattle.model.specs.declared.tree.TreeCheck.{TreeCheck}
use Rattle.model.specs.declared.tree.TreeCheck.TheVariants.{Tree, Lost}
use Rattle.std.proofs.lemmas.List.{get_or-replicate, get_or_past, length-replicate}
use Rattle.model.proofs.Ways.{same_some, none_some, lead_on, lead_off, lead_along, no_lead, way_more, no_loop}
use Rattle.model.proofs.Trees.{root_ends, follow_below, tree_law}
use Rattle.trees.specs.Marks.{Marked, Judged, Finds}

-- how many vertices have no mark yet
abbrev pub blanks : List (Option ℕ) → ℕ
blanks [] = 0
blanks (None ∷ ms) = suc (blanks ms)
blanks (Some x ∷ ms) = blanks ms

pub blanks_fall : (ms : List (Option ℕ)) (i s : ℕ) → i < length ms → get_or ms i None ≡ None → blanks (set ms i (Some s)) < blanks ms
blanks_fall [] i s within blank = absurd (omega arith)
blanks_fall (None ∷ ms) zero s within blank = omega arith
blanks_fall (Some x ∷ ms) zero s within blank = absurd (none_some (Some x) x blank refl)
blanks_fall (None ∷ ms) (suc i) s within blank = omega (arith, blanks_fall ms i s (omega arith) blank)
blanks_fall (Some x ∷ ms) (suc i) s within blank = blanks_fall ms i s (omega arith) blank

module _ (p : Layout) (ports : List ℕ) (start : ℕ) where
  pub lost : (ms : List (Option ℕ)) → (Reaches p ports start → ⊥) → Judged p ports start ms false
  lost ms never = record { verdict = never; marked = λ is. absurd (false≢true is) }

  -- the walk has come to here: its own marks lead there, and older ones to the root
  pub record Walking (ms : List (Option ℕ)) (here : ℕ) : Type 0 where
    pub in_plan : here < p.size
    pub newest : (u s : ℕ) → get_or ms u None ≡ Some s → s ≤ start
    pub older : (u s : ℕ) → get_or ms u None ≡ Some s → s < start → Reaches p ports u
    pub own : (u : ℕ) → get_or ms u None ≡ Some start → (xs : List ℕ) × Way (follow p ports) u xs here
    pub onward : Reaches p ports start → Reaches p ports here
    pub back : Reaches p ports here → Reaches p ports start

  pub begins : (ms : List (Option ℕ)) → start < p.size → Marked p ports start ms → Walking ms start
  begins ms within marked = record {
    in_plan = within;
    newest = λ u s is. omega (arith, (marked u s is).0);
    older = λ u s is lt. (marked u s is).1;
    own = λ u is. absurd (omega (arith, (marked u start is).0));
    onward = λ r. r;
    back = λ r. r;
  }

  module _ (sound : Sound p) (ms : List (Option ℕ)) (here : ℕ) (w : Walking ms here) where
    abbrev f : ℕ → Option ℕ
    f = follow p ports

    -- where the walk has come to reaches the root: so does every mark
    marks_reach : Reaches p ports here → Marked p ports (start + 1) ms
    marks_reach reaches u s is = (
      omega (arith, w.newest u s is),
      ⊎_elim
          (λ same. let (xs, way) = w.own u (subst (λ x. get_or ms u None ≡ Some x) same is) in lead_along f u xs here p.root way reaches)
          (λ apart. w.older u s is (let m : s ≤ start = w.newest u s is in omega arith))
          (cases_eq s start),
    )

    pub reached : Reaches p ports here → Judged p ports start ms true
    reached reaches = record { verdict = w.back reaches; marked = λ _. marks_reach reaches }

    -- a mark of an earlier walk
    at_older : (s : ℕ) → get_or ms here None ≡ Some s → (s ≡ start → ⊥) → Reaches p ports here
    at_older s is apart = w.older here s is (let m : s ≤ start = w.newest here s is in omega arith)

    -- its own mark: a loop
    at_own : get_or ms here None ≡ Some start → Reaches p ports start → ⊥
    at_own is reaches = let (xs, loop) = w.own here is in no_loop f p.root (root_ends p sound ports) here xs loop (w.onward reaches)

    -- what a mark where it has come to says
    pub at_mark : (s : ℕ) → get_or ms here None ≡ Some s → Judged p ports start ms (not (eqb s start))
    at_mark s is = by (eqb s start) refl
      where
        by : (b : Bool) → eqb s start ≡ b → Judged p ports start ms (not b)
        by true same = lost ms (at_own (subst (λ x. get_or ms here None ≡ Some x) (eqb-true s start same) is))
        by false apart = reached (at_older s is (eqb-false s start apart))

    module _ (apart : here ≡ p.root → ⊥) where
      pub follows : f here ≡ p.target here (get_or ports here 0)
      follows = cond-false (eqb here p.root) None _ (ne_eqb here p.root apart)

      pub nowhere : p.target here (get_or ports here 0) ≡ None → Reaches p ports start → ⊥
      nowhere none reaches = no_lead f here p.root apart (follows ∙ none) (w.onward reaches)

      -- one vertex further
      pub walks_on : (next : ℕ) → here < length ms → get_or ms here None ≡ None → p.target here (get_or ports here 0) ≡ Some next → Walking (set ms here (Some start)) next
      walks_on next within blank target = record {
        in_plan = follow_below p sound ports here next arrow;
        newest = λ u s is. ⊎_elim (λ same. let e : start ≡ s = at_here u s same is in omega arith) (λ other. w.newest u s (elsewhere u s other is)) (cases_eq u here);
        older = λ u s is lt. ⊎_elim (λ same. let e : start ≡ s = at_here u s same is in absurd (omega arith)) (λ other. w.older u s (elsewhere u s other is) lt) (cases_eq u here);
        own = λ u is. ⊎_elim (λ same. ([], subst (λ x. f x ≡ Some next) (sym same) arrow)) (λ other. let (xs, way) = w.own u (elsewhere u start other is) in (xs ++ here ∷ [], way_more f u xs here next way arrow)) (cases_eq u here);
        onward = λ reaches. lead_off f here next p.root apart arrow (w.onward reaches);
        back = λ reaches. w.back (lead_on f here next p.root arrow reaches);
      }
        where
          arrow : f here ≡ Some next
          arrow = follows ∙ target

          at_here : (u s : ℕ) → u ≡ here → get_or (set ms here (Some start)) u None ≡ Some s → start ≡ s
          at_here u s same is = same_some _ start s (ap (λ x. get_or (set ms here (Some start)) x None) same ∙ get_or-set_same ms here (Some start) None within) is

          elsewhere : (u s : ℕ) → (u ≡ here → ⊥) → get_or (set ms here (Some start)) u None ≡ Some s → get_or ms u None ≡ Some s
          elsewhere u s other is = sym (get_or-set_other ms here u (Some start) None other) ∙ is

pub unmarked : (p : Layout) (ports : List ℕ) (n : ℕ) → Marked p ports 0 (replicate n None)
unmarked p ports n u s is = absurd (none_some _ s (⊎_elim (get_or-replicate n u None None) (λ past. get_or_past marks u None (subst (λ k. k ≤ u) (sym (length-replicate n None)) past)) (cases_lt u n)) is)
  where
    marks : List (Option ℕ)
    marks = replicate n None

-- an answer that is right is the defined one
pub found_is : (p : Layout) (sound : Sound p) (ports : List ℕ) (t : TreeCheck) → Finds p ports t → Ok t ≡ tree_check p ports
found_is p sound ports Tree is = sym ((tree_law p sound ports).only_yes is)
found_is p sound ports (Lost v) is = sym ((tree_law p sound ports).only_named v is)
