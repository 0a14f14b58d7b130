-- Every way of working a draw comes to one end, and no tree is favoured: the proof. Assumes nothing.
use Rattle.std.proofs.Common.{◌≡◌, ℕ, ◌+◌, ◌<◌, ◌≤◌, Bool, true, false, not, eqb, ltb, List, [], ◌∷◌, ◌++◌, map, length, get_or, drop, replicate, Some, None, Ok, Option, Result, sym, refl, ap, ◌∙◌, subst, inl, inr, arith, MatchOption}
use mathlib.Core.Path.{fun_ext}
use Rattle.std.specs.Option.{option_or}
use Rattle.std.proofs.lemmas.List.{length-replicate}
use Rattle.std.proofs.lemmas.List.Sorted.{IsPermutation-trans, IsPermutation-sym}
use Rattle.std.proofs.lemmas.Bool.{eqb-true, eq-eqb, and_parts, and_from, false≢true}
use Rattle.model.specs.Arrows.{Cells, visible, is_dry}
use Rattle.theory.specs.Calls.{Strategy, Call, run, worked, popped_by, start, none_open, first_fault}
use Rattle.theory.specs.Cycles.{Heights, Coloured}
use Rattle.model.specs.Depths.{cells_fault}
use Rattle.model.specs.Distinct.{In}
use Rattle.theory.specs.Draws.{Held, record_of}
use Rattle.theory.specs.Endings.{ports_at, lowest_dry, dry_fault, written}
use Rattle.theory.specs.Fillings.{drained, fillings}
use Rattle.model.specs.Layouts.{Layout, Sound}
use Rattle.theory.specs.OneEnd.{Over, SaysTree, heights_of, AtEnd, OnTheWay, Agree, Reseats, all_show, ends_in, OneEnd, OneEndByCalls}
use Rattle.theory.specs.Outcomes.{end_of, Lawful}
use Rattle.model.specs.Picks.{passes, lowest}
use Rattle.theory.specs.Reseats.{cells_of, reseated, reseats_to, Shows}
use Rattle.model.specs.Trees.{IsTree}
use Rattle.model.specs.declared.draw.Pop.{Pop}
use Rattle.model.specs.declared.fault.DrawFault.{DrawFault}
use Rattle.model.specs.declared.fault.DrawFault.TheVariants as fault
use Rattle.theory.proofs.Counting.{ThereAndBack, count_same}
use Rattle.theory.proofs.Drawing.{Good, is_of_plan, calls_good}
use Rattle.theory.proofs.Fillings.{fillings_all, fillings_only, fillings_once, filling_fills, fills_filling}
use Rattle.theory.proofs.Finishing.{runs_finish}
use Rattle.model.proofs.Lowest.{NoneBelow, IsLowest, lowest_tells}
use Rattle.theory.proofs.Outcomes.{end_law, end_only, end_pops, pops_among, popped_once, ended_at}
use Rattle.theory.proofs.Reseating.{drained_in, in_drained, reseated_filling, reseated_shows, reseated_end, reseated_back, reseats_filling}
use Rattle.theory.proofs.Sums.{lengths_sum}
use Rattle.model.proofs.Trees.{tree_law}

-- ---- once no vertex is open

module _ (p : Layout) (a : Cells) (sound : Sound p) (l : List Pop) (calls : List Call) where
  abbrev w : Held
  w = worked p a calls (start p l)

  abbrev cs : List Coloured
  cs = popped_by p a calls (start p l)

  good : Good p a sound l w cs
  good = calls_good p a sound l calls

  -- the answer for the tree, by what it depends on
  abbrev answer : Bool → Bool → Heights → List ℕ → Result (Unit {0}) DrawFault × List ℕ
  answer of_plan over h ports =
      written (option_or (first_fault ((not of_plan, fault.OtherPlan) ∷ (ltb (length ports) p.size, fault.Short) ∷ [])) (option_or (first_fault ((not over, fault.StillOpen) ∷ [])) (dry_fault (lowest_dry p a h))))
      ports (ports_at p a h ++ drop p.size ports)

  at_end : Over w → AtEnd p a w cs
  at_end over =
      let (shuffled, same) = ended_at p a sound l w cs good over in
      record {
        heights = same;
        cycles = shuffled;
        ports = λ v. ap (visible p a v) (same v);
        dry = λ v. ap (is_dry p a v) (same v);
        tree = λ buffer.
            ap (λ b. answer b (none_open w.draw.entries) (heights_of w) buffer) (is_of_plan p a sound l w cs good)
            ∙ ap (λ b. answer true b (heights_of w) buffer) over
            ∙ ap (λ h. answer true true h buffer) (fun_ext same);
      }

  on_the_way : OnTheWay p a l w cs
  on_the_way = record {
    among_end = let (rs, shuffled, rest) = pops_among p a sound cs (heights_of w) good.popped in (rs, shuffled);
    once = popped_once p a sound l w cs good;
    counted = good.counted;
    listed = good.listed ∙ ap (λ n. map record_of cs ++ drop n l) (sym good.counted);
    sums = lengths_sum p a sound l w cs good;
    finishes = λ s budget lawful enough room. runs_finish p a sound l room w cs good s budget lawful enough;
  }

agree : (p : Layout) (a : Cells) → Sound p → (l m : List Pop) (calls others : List Call) → Over (worked p a calls (start p l)) → Over (worked p a others (start p m))
    → Agree p a (worked p a calls (start p l)) (worked p a others (start p m)) (popped_by p a calls (start p l)) (popped_by p a others (start p m))
agree p a sound l m calls others over over2 =
    let x = at_end p a sound l calls over in
    let y = at_end p a sound m others over2 in
    record {
      heights = λ v. x.heights v ∙ sym (y.heights v);
      cycles = IsPermutation-trans _ _ _ (IsPermutation-sym _ _ x.cycles) y.cycles;
      ports = λ v. x.ports v ∙ sym (y.ports v);
      dry = λ v. x.dry v ∙ sym (y.dry v);
      tree = λ buffer. x.tree buffer ∙ sym (y.tree buffer);
    }

-- ---- there is a draw that ends

-- the strategy that picks the lowest open vertex
abbrev lowest_open : Strategy
lowest_open told marks = lowest (λ v. get_or marks v false) (length marks)

lowest_lawful : Lawful lowest_open
lowest_lawful told marks = by (lowest (λ v. get_or marks v false) (length marks)) (lowest_tells (λ v. get_or marks v false) (length marks))
  where
    by : (o : Option ℕ) → MatchOption o (NoneBelow (λ v. get_or marks v false) (length marks)) (λ v. IsLowest (λ v. get_or marks v false) (length marks) v)
        → MatchOption o ((v : ℕ) → v < length marks → get_or marks v false ≡ false) (λ v. (v < length marks) × (get_or marks v false ≡ true))
    by None none = none
    by (Some v) found = (found.within, found.passes)

some_end : (p : Layout) (a : Cells) → Sound p → (l : List Pop) × (calls : List Call) × Over (worked p a calls (start p l))
some_end p a sound =
    let n = length (end_of p a).cycles in
    let l = replicate n (record_of []) in
    let (k, stopped, over) = runs_finish p a sound l (let e : length l ≡ n = length-replicate n (record_of []) in omega arith) (start p l) [] (calls_good p a sound l []) lowest_open (n + p.size) lowest_lawful (omega arith) in
    (l, run lowest_open (n + p.size) ∷ [], over)

-- ---- ending in a tree

module _ (p : Layout) (a : Cells) (h : Heights) (t : List ℕ) where
  shown_each : (vs : List ℕ) → all_show p a h t vs ≡ true → (v : ℕ) → In v vs → visible p a v (h v) ≡ Some (get_or t v 0)
  shown_each [] all v there = absurd there
  shown_each (x ∷ vs) all v there = either there (shown_each vs (and_parts (passes (visible p a x (h x)) (λ q. eqb q (get_or t x 0))) (all_show p a h t vs) all).1 v)
    where
      here : passes (visible p a x (h x)) (λ q. eqb q (get_or t x 0)) ≡ true
      here = (and_parts _ (all_show p a h t vs) all).0

      look : (o : Option ℕ) → passes o (λ q. eqb q (get_or t x 0)) ≡ true → o ≡ Some (get_or t x 0)
      look None never = absurd (false≢true never)
      look (Some q) same = ap Some (eqb-true q (get_or t x 0) same)

      either : In v (x ∷ vs) → (In v vs → visible p a v (h v) ≡ Some (get_or t v 0)) → visible p a v (h v) ≡ Some (get_or t v 0)
      either (inl e) rest = subst (λ y. visible p a y (h y) ≡ Some (get_or t y 0)) (sym e) (look (visible p a x (h x)) here)
      either (inr later) rest = rest later

  each_shown : (vs : List ℕ) → ((v : ℕ) → In v vs → visible p a v (h v) ≡ Some (get_or t v 0)) → all_show p a h t vs ≡ true
  each_shown [] each = refl
  each_shown (x ∷ vs) each = and_from _ _ (ap (λ o. passes o (λ q. eqb q (get_or t x 0))) (each x (inl refl)) ∙ eq-eqb (get_or t x 0) (get_or t x 0) refl) (each_shown vs (λ v there. each v (inr there)))

  all_shows : all_show p a h t (drained p) ≡ true → Shows p a h t
  all_shows all v low other = shown_each (drained p) all v (drained_in p v low other)

  shows_all : Shows p a h t → all_show p a h t (drained p) ≡ true
  shows_all shows = each_shown (drained p) (λ v there. let (low, other) = in_drained p v there in shows v low other)

in_tree : (p : Layout) (depth : ℕ) (F t : List ℕ) (l : List Pop) (calls : List Call) → Sound p → let a = cells_of p depth F in let w = worked p a calls (start p l) in Over w
    → (ends_in p depth t F ≡ true → Shows p a (heights_of w) t) × (Shows p a (heights_of w) t → ends_in p depth t F ≡ true)
in_tree p depth F t l calls sound over =
    let a = cells_of p depth F in
    let same : heights_of (worked p a calls (start p l)) ≡ (end_of p a).heights = fun_ext (at_end p a sound l calls over).heights in
    (λ ends. subst (λ h. Shows p a h t) (sym same) (all_shows p a (end_of p a).heights t ends), λ shows. shows_all p a (end_of p a).heights t (subst (λ h. Shows p a h t) same shows))

-- ---- no tree is favoured

is_tree : (p : Layout) → Sound p → (u : List ℕ) → SaysTree p u → IsTree p u
is_tree p sound u says = (tree_law p sound u).yes says

reseats : (p : Layout) (depth : ℕ) (F t u : List ℕ) (l : List Pop) (calls : List Call) → Sound p → depth ≤ 4096 → In F (fillings p depth) → SaysTree p u
    → let a = cells_of p depth F in let w = worked p a calls (start p l) in Over w → Shows p a (heights_of w) t → Reseats p depth F t u (heights_of w) (popped_by p a calls (start p l))
reseats p depth F t u l calls sound deep listed says over shows =
    let a = cells_of p depth F in
    let h = heights_of (worked p a calls (start p l)) in
    let filling = fillings_only p depth F listed in
    let tree = is_tree p sound u says in
    let new = cells_of p depth (reseated p depth h u F) in
    let (shuffled, same) = reseated_end p sound depth deep F filling h t u shows tree (popped_by p a calls (start p l)) (calls_good p a sound l calls).popped in
    record {
      filling = fillings_all p depth (reseated p depth h u F) (reseated_filling p sound depth deep F filling h t u shows tree);
      any = λ m others over2.
          let end = at_end p new sound m others over2 in
          let level : h ≡ heights_of (worked p new others (start p m)) = fun_ext (λ v. same v ∙ sym (end.heights v)) in (
            IsPermutation-trans _ _ _ (IsPermutation-sym _ _ shuffled) end.cycles,
            subst (λ g. Shows p new g u) level (reseated_shows p sound depth deep F filling h t u shows tree),
            subst (λ g. reseated p depth g t (reseated p depth h u F) ≡ F) level (reseated_back p sound depth deep F filling h t u shows tree),
          );
      some = some_end p new sound;
    }

-- the heights at which a filling ends
abbrev end_heights : Layout → ℕ → List ℕ → Heights
end_heights p depth F = (end_of p (cells_of p depth F)).heights

there_and_back : (p : Layout) (depth : ℕ) (t u : List ℕ) → Sound p → depth ≤ 4096 → SaysTree p u
    → ThereAndBack (fillings p depth) (ends_in p depth t) (ends_in p depth u) (λ F. reseated p depth (end_heights p depth F) u F) (λ F. reseated p depth (end_heights p depth F) t F)
there_and_back p depth t u sound deep says F listed ends =
    let a = cells_of p depth F in
    let h = end_heights p depth F in
    let filling = fillings_only p depth F listed in
    let tree = is_tree p sound u says in
    let shows = all_shows p a h t ends in
    let G = reseated p depth h u F in
    let new = cells_of p depth G in
    let (shuffled, same) = reseated_end p sound depth deep F filling h t u shows tree (end_of p a).cycles (end_pops p a sound) in
    let level : h ≡ end_heights p depth G = fun_ext same in (
      fillings_all p depth G (reseated_filling p sound depth deep F filling h t u shows tree),
      shows_all p new (end_heights p depth G) u (subst (λ g. Shows p new g u) level (reseated_shows p sound depth deep F filling h t u shows tree)),
      subst (λ g. reseated p depth g t G ≡ F) level (reseated_back p sound depth deep F filling h t u shows tree),
    )

pub one_end : OneEnd
one_end = record {
  end_law = end_law;
  end_only = λ p a cs h sound. end_only p a sound cs h;
  ends = λ p a l calls sound. at_end p a sound l calls;
  on_the_way = λ p a l calls sound. on_the_way p a sound l calls;
  agree = λ p a l m calls others sound. agree p a sound l m calls others;
  reseats = reseats;
  are_fillings = λ p depth F sound. (λ listed. filling_fills p sound depth F (fillings_only p depth F listed), λ fills. fillings_all p depth F (fills_filling p sound depth F fills));
  each_once = fillings_once;
  in_tree = in_tree;
  as_many = λ p depth t u sound deep tree_t tree_u. count_same (fillings p depth) (ends_in p depth t) (ends_in p depth u) (λ F. reseated p depth (end_heights p depth F) u F) (λ F. reseated p depth (end_heights p depth F) t F)
      (fillings_once p depth) (there_and_back p depth t u sound deep tree_u) (there_and_back p depth u t sound deep tree_t);
}

-- ---- the call of reseating

reseat_gives : (p : Layout) (depth : ℕ) (F t u : List ℕ) (l : List Pop) (calls : List Call) → Sound p → depth ≤ 4096 → In F (fillings p depth) → SaysTree p u
    → let a = cells_of p depth F in let w = worked p a calls (start p l) in Over w → Shows p a (heights_of w) t → cells_fault p.size depth ≡ None
    → reseats_to p w.draw depth F u ≡ (Ok tt, reseated p depth (heights_of w) u F)
reseat_gives p depth F t u l calls sound deep listed says over shows limits =
    let a = cells_of p depth F in
    let w = worked p a calls (start p l) in
    let good = is_of_plan p a sound l w (popped_by p a calls (start p l)) (calls_good p a sound l calls) in
    reseats_filling p sound w.draw depth F t u limits (fillings_only p depth F listed) good over shows says (is_tree p sound u says).enough

pub one_end_by_calls : OneEndByCalls
one_end_by_calls = record { one_end = one_end; reseat_gives = reseat_gives }
