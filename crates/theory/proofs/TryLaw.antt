-- The law of a try: it pops exactly if the way along visible arrows closes, and else settles exactly the open vertices of that way. Assumes nothing.
use Rattle.std.proofs.Common.{◌≡◌, ℕ, zero, suc, ◌+◌, ◌<◌, ◌≤◌, Bool, true, false, cond, not, ltb, ◌⊎◌, List, [], ◌∷◌, ◌++◌, length, get_or, set, IfSome, Some, None, Ok, Err, Option, Result, sym, refl, ap, ◌∙◌, subst, inl, inr, ⊎_elim, append_assoc, append-nil, arith, MatchOption}
use Rattle.std.specs.List.{AllByRecursion}
use Rattle.std.proofs.lemmas.Bool.{false≢true, cases_Bool, both_ways, or_cases, or_left, or_right, ltb-true, ltb-false, not-false, eqb-true, and_parts}
use Rattle.model.specs.Arrows.{Cells}
use Rattle.model.specs.Distinct.{Distinct}
use Rattle.model.specs.Layouts.{Layout, Sound}
use Rattle.model.specs.Ways.{Way, Leads}
use Rattle.model.proofs.Ways.{none_some, same_some, lead_on}
use Rattle.model.specs.declared.draw.Entry.{Entry}
use Rattle.model.specs.declared.draw.Pop.{Pop}
use Rattle.model.specs.declared.draw.Tried.{Tried}
use Rattle.model.specs.declared.draw.Tried.TheVariants.{Popped, Settled}
use Rattle.model.specs.declared.fault.DrawFault.{DrawFault}
use Rattle.model.specs.declared.fault.DrawFault.TheVariants as fault
use Rattle.theory.specs.Calls.{first_fault, refused, pops_cycle, settles, by_trail, tries, open_count}
use Rattle.theory.specs.Cycles.{among, coloured}
use Rattle.theory.specs.Draws.{no_entry, height_of, is_settled, changed, shut, Held, is_of, shown, Trail, trail_on, trail, from_on, turned, record_of}
use Rattle.theory.specs.Ends.{if_some}
use Rattle.theory.specs.Laws.{onward, RunsOut, Closes, open_arrows, TryLaw}
use Rattle.theory.proofs.Closing.{lead_more, not_both, closes_rounds}
use Rattle.theory.proofs.Cycles.{among_here, among_all, all_among, cycle_same}
use Rattle.theory.proofs.Drawing.{round_cycle, shown_to}
use Rattle.theory.proofs.Entries.{changed_nothing, length_changed, changed_off, changed_more, raised_heights, settled_marks, raised_marks, settled_heights}
use Rattle.theory.proofs.Finishing.{trail_holds}
use Rattle.theory.proofs.Trails.{Told, Round, Leaves, ClosedUnder, among_push, among_turned, turned_among, distinct_off}

-- ---- the arrows of open vertices

module _ (f : ℕ → Option ℕ) (settled : ℕ → Bool) where
  abbrev g : ℕ → Option ℕ
  g = onward f settled

  pub open_arrow : (x : ℕ) → settled x ≡ false → g x ≡ f x
  open_arrow x is = ap (λ b. cond b None (f x)) is

  pub shut_arrow : (x : ℕ) → settled x ≡ true → g x ≡ None
  shut_arrow x is = ap (λ b. cond b None (f x)) is

  pub arrow_open : (x y : ℕ) → g x ≡ Some y → (settled x ≡ false) × (f x ≡ Some y)
  arrow_open x y is = by (settled x) refl is
    where
      by : (b : Bool) → settled x ≡ b → cond b None (f x) ≡ Some y → (settled x ≡ false) × (f x ≡ Some y)
      by true shut none = absurd (none_some None y refl none)
      by false open_x some = (open_x, some)

  stop_arrow : (y : ℕ) → (f y ≡ None) ⊎ (settled y ≡ true) → g y ≡ None
  stop_arrow y (inr shut) = shut_arrow y shut
  stop_arrow y (inl none) = by (settled y)
    where
      by : (b : Bool) → cond b None (f y) ≡ None
      by true = refl
      by false = none

  -- a way that leaves ends at its first settled vertex, if not before
  ends_on : (x z : ℕ) → f x ≡ Some z → RunsOut g z → RunsOut g x
  ends_on x z arrow (y, leads, none) = ⊎_elim
      (λ shut. (x, inl refl, shut_arrow x shut))
      (λ open_x. (y, lead_on g x z y (open_arrow x open_x ∙ arrow) leads, none))
      (cases_Bool (settled x))

  ends_along : (x : ℕ) (xs : List ℕ) (y : ℕ) → Way f x xs y → g y ≡ None → RunsOut g x
  ends_along x [] y arrow none = ends_on x y arrow (y, inl refl, none)
  ends_along x (z ∷ zs) y (arrow, way) none = ends_on x z arrow (ends_along z zs y way none)

  leaves_ends : (x : ℕ) → Leaves f settled x → RunsOut g x
  leaves_ends x (y, inl e, stop) = (y, inl e, stop_arrow y stop)
  leaves_ends x (y, inr (xs, way), stop) = ends_along x xs y way (stop_arrow y stop)

  -- ---- what is on the trail

  -- v leads to all that is on it
  reached : (v : ℕ) (k : ℕ) (path : List ℕ) (u : ℕ) → ((x : ℕ) → among x path ≡ true → Leads g v x) → Leads g v u → (x : ℕ) → among x (trail_on f settled k path u).path ≡ true → Leads g v x
  reached v zero path u far to_u x on = far x on
  reached v (suc k) path u far to_u x on = by (settled u) refl (among u path) (f u) refl (λ w to_w. reached v k (path ++ u ∷ []) w pushed to_w x) on
    where
      pushed : (y : ℕ) → among y (path ++ u ∷ []) ≡ true → Leads g v y
      pushed y there = ⊎_elim (far y) (λ e. subst (λ z. Leads g v z) (sym e) to_u) (among_push y u path there)

      by : (s : Bool) → settled u ≡ s → (b : Bool) (o : Option ℕ) → f u ≡ o → ((w : ℕ) → Leads g v w → among x (trail_on f settled k (path ++ u ∷ []) w).path ≡ true → Leads g v x)
          → among x (cond s (record { path = path; loop = None }) (cond b (record { path = path; loop = Some (from_on u path) }) (if_some o (record { path = path ++ u ∷ []; loop = None }) (λ w. trail_on f settled k (path ++ u ∷ []) w)))).path ≡ true → Leads g v x
      by true shut b o arrow rest there = far x there
      by false open_u true o arrow rest there = far x there
      by false open_u false None arrow rest there = pushed x there
      by false open_u false (Some w) arrow rest there = rest w (lead_more g v u w to_u (open_arrow u open_u ∙ arrow)) there

  -- a path that is closed under the arrows holds every open vertex to which they lead from it
  stays_on : (path : List ℕ) → ClosedUnder f settled path → (u : ℕ) (xs : List ℕ) (w : ℕ) → among u path ≡ true → Way g u xs w → settled w ≡ false → among w path ≡ true
  stays_on path under u [] w on arrow open_w = ⊎_elim (λ there. there) (λ shut. absurd (both_ways _ open_w shut)) (under u w on (arrow_open u w arrow).1)
  stays_on path under u (x ∷ xs) w on (arrow, way) open_w =
      let open_x : settled x ≡ false = begins xs way in
      stays_on path under x xs w (⊎_elim (λ there. there) (λ shut. absurd (both_ways _ open_x shut)) (under u x on (arrow_open u x arrow).1)) way open_w
    where
      begins : (ys : List ℕ) → Way g x ys w → settled x ≡ false
      begins [] last = (arrow_open x w last).0
      begins (y ∷ ys) (first, rest) = (arrow_open x y first).0

  -- what a trail of v that did not come round tells
  pub record EndedTrail (v : ℕ) (path : List ℕ) : Type 0 where
    pub ends : RunsOut g v
    pub to_all : (x : ℕ) → among x path ≡ true → Leads g v x
    pub holds_all : (x : ℕ) → Leads g v x → settled x ≡ false → among x path ≡ true

  pub follows : (n k v : ℕ) → settled v ≡ false → Told f settled n (trail_on f settled (suc k) [] v) → MatchOption (trail_on f settled (suc k) [] v).loop (EndedTrail v (trail_on f settled (suc k) [] v).path) (λ l. Closes g v (turned l))
  follows n k v open_v told = by t.loop told.ends
    where
      t : Trail
      t = trail_on f settled (suc k) [] v

      on_v : among v t.path ≡ true
      on_v = trail_holds f settled k v open_v

      far : (x : ℕ) → among x t.path ≡ true → Leads g v x
      far = reached v (suc k) [] v (λ x on. absurd (false≢true on)) (inl refl)

      by : (o : Option (List ℕ)) → MatchOption o (((x : ℕ) → among x t.path ≡ true → Leaves f settled x) × ClosedUnder f settled t.path) (λ l. Round f t.path l) → MatchOption o (EndedTrail v t.path) (λ l. Closes g v (turned l))
      by None (leaves, under) = record {
        ends = leaves_ends v (leaves v on_v);
        to_all = far;
        holds_all = λ x leads open_x. holds x open_x leads;
      }
        where
          holds : (x : ℕ) → settled x ≡ false → Leads g v x → among x t.path ≡ true
          holds x open_x (inl e) = subst (λ z. among z t.path ≡ true) e on_v
          holds x open_x (inr (xs, way)) = stays_on t.path under v xs x on_v way open_x
      by (Some l) round =
          let first_on : among round.first l ≡ true = subst (λ r. among round.first r ≡ true) (sym round.is) (among_here round.first round.rest) in (
            cycle_same f g (turned l) (λ y on. open_arrow y (told.all_open y (round.on_path y (turned_among l y on)))) (round_cycle f t.path l round),
            (round.first, among_turned l round.first first_on, far round.first (round.on_path round.first first_on)),
          )

-- ---- how many are settled

shut_one : (es : List Entry) (k : ℕ) → k < length es → is_settled es k ≡ false → open_count es ≡ suc (open_count (set es k (shut (get_or es k no_entry))))
shut_one [] k within open_k = absurd (omega arith)
shut_one (e ∷ es) zero within open_k = ap (λ b. cond b (open_count es) (suc (open_count es))) open_k
shut_one (e ∷ es) (suc k) within open_k = by e.settled (shut_one es k (omega arith) open_k)
  where
    rest : List Entry
    rest = set es k (shut (get_or es k no_entry))

    by : (b : Bool) → open_count es ≡ suc (open_count rest) → cond b (open_count es) (suc (open_count es)) ≡ suc (cond b (open_count rest) (suc (open_count rest)))
    by true less = less
    by false less = ap suc less

-- settling one more open vertex leaves one fewer
pub shut_more : (done : List ℕ) (v : ℕ) (es : List Entry) → v < length es → among v done ≡ false → is_settled es v ≡ false → open_count (changed shut done es) ≡ suc (open_count (changed shut (done ++ v ∷ []) es))
shut_more done v es within off open_v =
    shut_one (changed shut done es) v (subst (λ n. v < n) (sym (length_changed shut done es)) within) (ap (λ e. e.settled) (changed_off shut done es v off) ∙ open_v)
    ∙ ap (λ l. suc (open_count l)) (sym (changed_more shut done v es within off))

shut_all : (es : List Entry) (done rest : List ℕ) → Distinct (done ++ rest) → ((x : ℕ) → among x rest ≡ true → (x < length es) × (is_settled es x ≡ false)) → open_count (changed shut done es) ≡ length rest + open_count (changed shut (done ++ rest) es)
shut_all es done [] distinct opens = ap (λ l. open_count (changed shut l es)) (sym (append-nil done)) ∙ (let z : open_count (changed shut (done ++ []) es) ≡ 0 + open_count (changed shut (done ++ []) es) = omega arith in z)
shut_all es done (x ∷ rest) distinct opens =
    let (within, open_x) = opens x (among_here x rest) in
    let again : (done ++ x ∷ []) ++ rest ≡ done ++ x ∷ rest = append_assoc done (x ∷ []) rest in
    let one = shut_more done x es within (distinct_off done rest x distinct) open_x in
    let more = shut_all es (done ++ x ∷ []) rest (subst (λ l. Distinct l) (sym again) distinct) (λ y on. opens y (or_right _ (among y rest) on)) in
    let end : open_count (changed shut ((done ++ x ∷ []) ++ rest) es) ≡ open_count (changed shut (done ++ x ∷ rest) es) = ap (λ l. open_count (changed shut l es)) again in
    omega (arith, one, more, end)

-- ---- the law

err_ok : {A E : Type 0} (e : E) (x : A) → Err e ≡ Ok x → ⊥
err_ok e x is = let z : ◌≡◌ {A = ℕ} 0 1 = cc in omega arith

ok_err : {A E : Type 0} (x : A) (e : E) → Ok x ≡ Err e → ⊥
ok_err x e is = let z : ◌≡◌ {A = ℕ} 0 1 = cc in omega arith

abbrev Same : Result Tried DrawFault → Result Tried DrawFault → Type 0
Same x y = x ≡ y

popped_settled : (r : Pop) (k : ℕ) → Same (Ok (Popped r)) (Ok (Settled k)) → ⊥
popped_settled r k is = let z : ◌≡◌ {A = ℕ} 0 1 = cc in omega arith

settled_popped : (k : ℕ) (r : Pop) → Same (Ok (Settled k)) (Ok (Popped r)) → ⊥
settled_popped k r is = let z : ◌≡◌ {A = ℕ} 0 1 = cc in omega arith

same_pop : (r q : Pop) → Same (Ok (Popped r)) (Ok (Popped q)) → q ≡ r
same_pop r q is = cc

same_count : (j k : ℕ) → Same (Ok (Settled j)) (Ok (Settled k)) → j ≡ k
same_count j k is = cc

same_err : (d e : DrawFault) → Same (Err d) (Err e) → d ≡ e
same_err d e is = cc

module _ (p : Layout) (a : Cells) (v : ℕ) (h : Held) where
  abbrev es : List Entry
  es = h.draw.entries

  refused_law : (e : DrawFault) → (e ≡ fault.ListFull → ⊥) → TryLaw p a v h h (Err e)
  refused_law e other = record {
    popped = λ r is. absurd (err_ok e _ is);
    settled = λ k is. absurd (err_ok e _ is);
    full = λ is. absurd (other (same_err e _ is));
    unchanged = λ d is. refl;
  }

  full_law : (c : List ℕ) → Closes (open_arrows p a es) v c → length h.list ≤ h.draw.pops → TryLaw p a v h h (Err fault.ListFull)
  full_law c closes full = record {
    popped = λ r is. absurd (err_ok fault.ListFull _ is);
    settled = λ k is. absurd (err_ok fault.ListFull _ is);
    full = λ is. (c, closes, full);
    unchanged = λ d is. refl;
  }

  popped_law : (c : List ℕ) → AllByRecursion (λ x. x < length es) c → Closes (open_arrows p a es) v c → TryLaw p a v h (pops_cycle h c).held (pops_cycle h c).answer
  popped_law c inside closes = record {
    popped = λ r is.
        let same : r ≡ record_of (coloured (height_of es) c) = same_pop _ r is in (
          c,
          closes,
          record {
            heights = raised_heights c es inside;
            marks = raised_marks c es;
            its_record = same;
            listed = ap (set h.list h.draw.pops) (sym same);
            counted = refl;
          },
        );
    settled = λ k is. absurd (popped_settled _ k is);
    full = λ is. absurd (ok_err _ fault.ListFull is);
    unchanged = λ e is. absurd (ok_err _ e is);
  }

  settled_law : (path : List ℕ) → AllByRecursion (λ x. x < length es) path → Distinct path → ((x : ℕ) → among x path ≡ true → is_settled es x ≡ false) → EndedTrail (shown p a es) (is_settled es) v path
      → TryLaw p a v h (settles h path).held (settles h path).answer
  settled_law path inside distinct opens ended = record {
    popped = λ r is. absurd (settled_popped _ r is);
    settled = λ k is. (
      λ c closes. let (m, on, rounds) = closes_rounds (open_arrows p a es) v c closes in not_both (open_arrows p a es) v m rounds ended.ends,
      record {
        heights = settled_heights path es;
        now_settled = λ u open_u leads. settled_marks path es inside u ∙ or_left _ _ (ended.holds_all u leads open_u);
        only_those = λ u open_u shut_u. ⊎_elim (ended.to_all u) (λ old. absurd (both_ways _ open_u old)) (or_cases (among u path) (is_settled es u) (sym (settled_marks path es inside u) ∙ shut_u));
        still_settled = λ u old. settled_marks path es inside u ∙ or_right _ _ old;
        how_many =
            let all : open_count (changed shut [] es) ≡ length path + open_count (changed shut path es) = shut_all es [] path distinct (λ x on. (among_all (λ y. y < length es) x path inside on, opens x on)) in
            let none : open_count (changed shut [] es) ≡ open_count es = ap open_count (changed_nothing shut 0 es) in
            let same : length path ≡ k = same_count (length path) k is in
            omega (arith, all, none, same);
        listed = refl;
        counted = refl;
      },
    );
    full = λ is. absurd (ok_err _ fault.ListFull is);
    unchanged = λ e is. absurd (ok_err _ e is);
  }

  other_plan : fault.OtherPlan ≡ fault.ListFull → ⊥
  other_plan is = let z : ◌≡◌ {A = ℕ} 0 1 = cc in omega arith

  vertex_fault : fault.Vertex v ≡ fault.ListFull → ⊥
  vertex_fault is = let z : ◌≡◌ {A = ℕ} 0 1 = cc in omega arith

  settled_fault : fault.AlreadySettled v ≡ fault.ListFull → ⊥
  settled_fault is = let z : ◌≡◌ {A = ℕ} 0 1 = cc in omega arith

  module _ (sound : Sound p) where
    by_trail_law : length es ≡ p.size → v < p.size → is_settled es v ≡ false → TryLaw p a v h (by_trail h (trail p a es v)).held (by_trail h (trail p a es v)).answer
    by_trail_law sized low open_v = by t.loop refl (follows (shown p a es) (is_settled es) p.size p.size v open_v told)
      where
        t : Trail
        t = trail p a es v

        told : Told (shown p a es) (is_settled es) p.size t
        told = shown_to p a sound es v low

        inside : AllByRecursion (λ x. x < length es) t.path
        inside = subst (λ n. AllByRecursion (λ x. x < n) t.path) (sym sized) told.inside

        on_loop : (o : Option (List ℕ)) → t.loop ≡ o → IfSome o (λ l. AllByRecursion (λ x. x < length es) (turned l))
        on_loop None is = tt
        on_loop (Some l) is = from_round t.loop is told.ends
          where
            from_round : (o : Option (List ℕ)) → o ≡ Some l → MatchOption o (((x : ℕ) → among x t.path ≡ true → Leaves (shown p a es) (is_settled es) x) × ClosedUnder (shown p a es) (is_settled es) t.path) (λ l2. Round (shown p a es) t.path l2) → AllByRecursion (λ x. x < length es) (turned l)
            from_round None none _ = absurd (none_some None l refl none)
            from_round (Some l2) same round =
                let e : l2 ≡ l = same_some (Some l2) l2 l refl same in
                all_among (λ x. x < length es) (turned l) (λ x on. among_all (λ y. y < length es) x t.path inside (round.on_path x (turned_among l2 x (subst (λ r. among x (turned r) ≡ true) (sym e) on))))

        by : (o : Option (List ℕ)) → t.loop ≡ o → MatchOption o (EndedTrail (shown p a es) (is_settled es) v t.path) (λ l. Closes (open_arrows p a es) v (turned l))
            → TryLaw p a v h (if_some o (settles h t.path) (λ l. cond (ltb h.draw.pops (length h.list)) (pops_cycle h (turned l)) (refused h fault.ListFull))).held
            (if_some o (settles h t.path) (λ l. cond (ltb h.draw.pops (length h.list)) (pops_cycle h (turned l)) (refused h fault.ListFull))).answer
        by None is ended = settled_law t.path inside told.distinct told.all_open ended
        by (Some l) is closes = room (ltb h.draw.pops (length h.list)) refl
          where
            room : (b : Bool) → ltb h.draw.pops (length h.list) ≡ b → TryLaw p a v h (cond b (pops_cycle h (turned l)) (refused h fault.ListFull)).held (cond b (pops_cycle h (turned l)) (refused h fault.ListFull)).answer
            room true has = popped_law (turned l) (on_loop (Some l) is) closes
            room false full = full_law (turned l) closes (ltb-false _ _ full)

    pub try_law : TryLaw p a v h (tries p a v h).held (tries p a v h).answer
    try_law = other (not (is_of p h.draw)) refl (not (ltb v p.size)) refl (is_settled es v) refl
      where
        other : (b : Bool) → not (is_of p h.draw) ≡ b → (t : Bool) → not (ltb v p.size) ≡ t → (s : Bool) → is_settled es v ≡ s
            → TryLaw p a v h (if_some (first_fault ((b, fault.OtherPlan) ∷ (t, fault.Vertex v) ∷ (s, fault.AlreadySettled v) ∷ [])) (by_trail h (trail p a es v)) (λ e. refused h e)).held
            (if_some (first_fault ((b, fault.OtherPlan) ∷ (t, fault.Vertex v) ∷ (s, fault.AlreadySettled v) ∷ [])) (by_trail h (trail p a es v)) (λ e. refused h e)).answer
        other true of t is s mark = refused_law fault.OtherPlan other_plan
        other false of true is s mark = refused_law (fault.Vertex v) vertex_fault
        other false of false is true mark = refused_law (fault.AlreadySettled v) settled_fault
        other false of false is false mark = by_trail_law (eqb-true _ _ (and_parts _ _ (not-false _ of)).0) (ltb-true v p.size (not-false _ is)) mark
