-- What the trail of a vertex shows: a cycle that is left to pop, or vertices from which no cycle can be reached. Assumes nothing.
use Rattle.std.proofs.Common.{◌≡◌, ℕ, zero, suc, ◌+◌, ◌<◌, ◌≤◌, min, Bool, true, false, cond, ◌||◌, eqb, ◌⊎◌, List, [], ◌∷◌, ◌++◌, length, Some, None, Option, sym, refl, ap, ◌∙◌, subst, inl, inr, ⊎_elim, append-nil, arith, length-append, MatchOption}
use Rattle.std.specs.List.{AllByRecursion}
use Rattle.std.proofs.ByRecursion.{All-push}
use Rattle.std.proofs.lemmas.Bool.{eqb-true, eqb-false, eq-eqb, ne_eqb, false≢true, cases_Bool, cases_lt, both_ways}
use Rattle.theory.specs.Cycles.{among, Cycle}
use Rattle.model.specs.Distinct.{Fresh, Distinct}
use Rattle.theory.specs.Draws.{Trail, from_on, up_to, trail_on, least, turned}
use Rattle.theory.specs.Ends.{if_some}
use Rattle.model.specs.Ways.{Way, Leads}
use Rattle.theory.proofs.Cycles.{among_here, among_later, among_cases, among_all, all_among, way_rest, way_next}
use Rattle.model.proofs.Pigeons.{pigeons}
use Rattle.model.proofs.Ways.{way_more, way_join, none_some}

-- ---- lists

pub among_push : (v x : ℕ) (xs : List ℕ) → among v (xs ++ x ∷ []) ≡ true → (among v xs ≡ true) ⊎ (v ≡ x)
among_push v x [] on = ⊎_elim inr (λ never. absurd (false≢true never)) (among_cases v x [] on)
among_push v x (y ∷ xs) on = ⊎_elim
    (λ e. inl (subst (λ z. among z (y ∷ xs) ≡ true) (sym e) (among_here y xs)))
    (λ later. ⊎_elim (λ in_xs. inl (among_later v y xs in_xs)) inr (among_push v x xs later))
    (among_cases v y (xs ++ x ∷ []) on)

pub among_left : (v : ℕ) (xs ys : List ℕ) → among v xs ≡ true → among v (xs ++ ys) ≡ true
among_left v [] ys on = absurd (false≢true on)
among_left v (x ∷ xs) ys on = ⊎_elim (λ e. subst (λ z. among z (x ∷ (xs ++ ys)) ≡ true) (sym e) (among_here x (xs ++ ys))) (λ later. among_later v x (xs ++ ys) (among_left v xs ys later)) (among_cases v x xs on)

pub among_right : (v : ℕ) (xs ys : List ℕ) → among v ys ≡ true → among v (xs ++ ys) ≡ true
among_right v [] ys on = on
among_right v (x ∷ xs) ys on = among_later v x (xs ++ ys) (among_right v xs ys on)

pub among_parts : (v : ℕ) (xs ys : List ℕ) → among v (xs ++ ys) ≡ true → (among v xs ≡ true) ⊎ (among v ys ≡ true)
among_parts v [] ys on = inr on
among_parts v (x ∷ xs) ys on = ⊎_elim
    (λ e. inl (subst (λ z. among z (x ∷ xs) ≡ true) (sym e) (among_here x xs)))
    (λ later. ⊎_elim (λ left. inl (among_later v x xs left)) inr (among_parts v xs ys later))
    (among_cases v x (xs ++ ys) on)

-- another vertex at the end changes nothing
pub among_other : (j v : ℕ) (c : List ℕ) → (j ≡ v → ⊥) → among j (c ++ v ∷ []) ≡ among j c
among_other j v [] apart = ap (λ b. b || false) (ne_eqb j v apart)
among_other j v (x ∷ xs) apart = ap (λ b. eqb j x || b) (among_other j v xs apart)

-- what stands behind different vertices is none of them
pub distinct_off : (xs ys : List ℕ) (v : ℕ) → Distinct (xs ++ v ∷ ys) → among v xs ≡ false
distinct_off [] ys v d = refl
distinct_off (x ∷ xs) ys v (fresh, d) =
    let apart : v ≡ x → ⊥ = λ e. among_all (λ y. x ≡ y → ⊥) v (xs ++ v ∷ ys) fresh (among_right v xs (v ∷ ys) (among_here v ys)) (sym e) in
    ap (λ b. b || among v xs) (ne_eqb v x apart) ∙ distinct_off xs ys v d

pub off_fresh : (v : ℕ) (xs : List ℕ) → among v xs ≡ false → Fresh v xs
off_fresh v xs off = all_among (λ y. v ≡ y → ⊥) xs (λ y on e. both_ways _ off (subst (λ z. among z xs ≡ true) (sym e) on))

pub fresh_off : (v : ℕ) (xs : List ℕ) → Fresh v xs → among v xs ≡ false
fresh_off v xs fresh = ⊎_elim (λ on. absurd (among_all (λ y. v ≡ y → ⊥) v xs fresh on refl)) (λ off. off) (cases_Bool (among v xs))

fresh_sym_push : (x v : ℕ) (xs : List ℕ) → Fresh x xs → (x ≡ v → ⊥) → Fresh x (xs ++ v ∷ [])
fresh_sym_push x v xs fresh apart = All-push (λ y. x ≡ y → ⊥) xs v fresh apart

pub distinct_push : (xs : List ℕ) (v : ℕ) → Distinct xs → Fresh v xs → Distinct (xs ++ v ∷ [])
distinct_push [] v d fresh = (tt, tt)
distinct_push (x ∷ xs) v (f, d) (apart, fresh) = (fresh_sym_push x v xs f (λ e. apart (sym e)), distinct_push xs v d fresh)

-- ---- the part from a vertex on, and the part before it

pub parts : (m : ℕ) (xs : List ℕ) → up_to m xs ++ from_on m xs ≡ xs
parts m [] = refl
parts m (x ∷ xs) = by (eqb m x) (parts m xs)
  where
    by : (b : Bool) → up_to m xs ++ from_on m xs ≡ xs → cond b [] (x ∷ up_to m xs) ++ cond b (x ∷ xs) (from_on m xs) ≡ x ∷ xs
    by true rest = refl
    by false rest = ap (λ l. x ∷ l) rest

up_to_off : (m : ℕ) (xs : List ℕ) → Fresh m (up_to m xs)
up_to_off m [] = tt
up_to_off m (x ∷ xs) = by (eqb m x) refl (up_to_off m xs)
  where
    by : (b : Bool) → eqb m x ≡ b → Fresh m (up_to m xs) → Fresh m (cond b [] (x ∷ up_to m xs))
    by true is rest = tt
    by false is rest = (eqb-false m x is, rest)

pub from_fresh : (m : ℕ) (xs : List ℕ) (ys : List ℕ) → Distinct xs → from_on m xs ≡ m ∷ ys → Fresh m ys
from_fresh m [] ys d is = absurd (let e : ◌≡◌ {A = ℕ} 0 1 = cc in omega arith)
from_fresh m (x ∷ xs) ys (fresh, d) is = by (eqb m x) refl (from_fresh m xs ys d) is
  where
    by : (b : Bool) → eqb m x ≡ b → (from_on m xs ≡ m ∷ ys → Fresh m ys) → cond b (x ∷ xs) (from_on m xs) ≡ m ∷ ys → Fresh m ys
    by true same rest e =
        let heads : x ≡ m = cc in
        let tails : xs ≡ ys = cc in
        subst (λ l. Fresh m l) tails (subst (λ z. Fresh z xs) heads fresh)
    by false apart rest e = rest e

module _ (f : ℕ → Option ℕ) where
  -- u and xs lead to z: m is among them, so they are cut before m
  abbrev CutAt : ℕ → ℕ → List ℕ → ℕ → Type 0
  CutAt m u xs z = (ys : List ℕ) × (from_on m (u ∷ xs) ≡ m ∷ ys) × Way f m ys z
      × (((up_to m (u ∷ xs) ≡ []) × (m ≡ u)) ⊎ ((us : List ℕ) × (up_to m (u ∷ xs) ≡ u ∷ us) × Way f u us m))

  cut_here : (m u : ℕ) (xs : List ℕ) (z : ℕ) → m ≡ u → Way f u xs z → CutAt m u xs z
  cut_here m u xs z e way =
      let test : eqb m u ≡ true = eq-eqb m u e in
      (xs, ap (λ b. cond b (u ∷ xs) (from_on m xs)) test ∙ ap (λ t. t ∷ xs) (sym e), subst (λ t. Way f t xs z) (sym e) way, inl (ap (λ b. cond b [] (u ∷ up_to m xs)) test, e))

  cut_later : (m u x : ℕ) (xs : List ℕ) (z : ℕ) → eqb m u ≡ false → f u ≡ Some x → CutAt m x xs z → CutAt m u (x ∷ xs) z
  cut_later m u x xs z apart arrow (ys, is, way, before) = (
    ys,
    ap (λ b. cond b (u ∷ x ∷ xs) (from_on m (x ∷ xs))) apart ∙ is,
    way,
    inr (⊎_elim
        (λ (none, e). ([], whole ∙ ap (λ l. u ∷ l) none, arrow ∙ ap Some (sym e)))
        (λ (us, some, to_m). (x ∷ us, whole ∙ ap (λ l. u ∷ l) some, (arrow, to_m)))
        before),
  )
    where
      whole : up_to m (u ∷ x ∷ xs) ≡ u ∷ up_to m (x ∷ xs)
      whole = ap (λ b. cond b [] (u ∷ up_to m (x ∷ xs))) apart

  pub cut_at : (m u : ℕ) (xs : List ℕ) (z : ℕ) → among m (u ∷ xs) ≡ true → Way f u xs z → CutAt m u xs z
  cut_at m u [] z on way = ⊎_elim (λ e. cut_here m u [] z e way) (λ never. absurd (false≢true never)) (among_cases m u [] on)
  cut_at m u (x ∷ xs) z on (arrow, way) = ⊎_elim
      (λ same. cut_here m u (x ∷ xs) z (eqb-true m u same) (arrow, way))
      (λ apart. cut_later m u x xs z apart arrow (cut_at m x xs z (⊎_elim (λ e. absurd (both_ways _ apart (eq-eqb m u e))) (λ later. later) (among_cases m u (x ∷ xs) on)) way))
      (cases_Bool (eqb m u))

  -- ---- a loop from its lowest vertex on

  turned_way : (m u : ℕ) (xs : List ℕ) → CutAt m u xs u → (rest : List ℕ) × (from_on m (u ∷ xs) ++ up_to m (u ∷ xs) ≡ m ∷ rest) × Way f m rest m × ((x : ℕ) → among x rest ≡ true → (among x (up_to m (u ∷ xs)) ≡ true) ⊎ ((ys : List ℕ) × (from_on m (u ∷ xs) ≡ m ∷ ys) × (among x ys ≡ true)))
  turned_way m u xs (ys, is, way, inl (none, e)) =
      (ys, (λ i. is i ++ none i) ∙ append-nil (m ∷ ys), subst (λ t. Way f m ys t) (sym e) way, λ x on. inr (ys, is, on))
  turned_way m u xs (ys, is, way, inr (us, some, to_m)) = (
    ys ++ u ∷ us,
    (λ i. is i ++ some i),
    way_join f m ys u us m way to_m,
    λ x on. ⊎_elim (λ left. inr (ys, is, left)) (λ right. inl (subst (λ l. among x l ≡ true) (sym some) right)) (among_parts x ys (u ∷ us) on),
  )

least_low : (v : ℕ) (xs : List ℕ) → (least v xs ≤ v) × AllByRecursion (λ y. least v xs ≤ y) xs
least_low v [] = (omega arith, tt)
least_low v (x ∷ xs) =
    let (low, rest) = least_low (min v x) xs in
    (omega (arith, low), (omega (arith, low), rest))

least_on : (v : ℕ) (xs : List ℕ) → among (least v xs) (v ∷ xs) ≡ true
least_on v [] = among_here v []
least_on v (x ∷ xs) = ⊎_elim
    (λ is_min. ⊎_elim
    (λ le. let e : least (min v x) xs ≡ v = omega arith in subst (λ z. among z (v ∷ x ∷ xs) ≡ true) (sym e) (among_here v (x ∷ xs)))
    (λ gt. let e : least (min v x) xs ≡ x = omega arith in subst (λ z. among z (v ∷ x ∷ xs) ≡ true) (sym e) (among_later x v (x ∷ xs) (among_here x xs)))
    (cases_lt v x))
    (λ later. among_later (least (min v x) xs) v (x ∷ xs) (among_later (least (min v x) xs) x xs later))
    (among_cases (least (min v x) xs) (min v x) xs (least_on (min v x) xs))

least_le : (u : ℕ) (xs : List ℕ) (x : ℕ) → among x (u ∷ xs) ≡ true → least u xs ≤ x
least_le u xs x on = let (low, rest) = least_low u xs in among_all (λ y. least u xs ≤ y) x (u ∷ xs) (low, rest) on

-- turning a loop neither adds nor drops a vertex
pub turned_among : (l : List ℕ) (x : ℕ) → among x (turned l) ≡ true → among x l ≡ true
turned_among [] x on = on
turned_among (u ∷ xs) x on =
    let m = least u xs in
    subst (λ l. among x l ≡ true) (parts m (u ∷ xs)) (⊎_elim (among_right x (up_to m (u ∷ xs)) (from_on m (u ∷ xs))) (among_left x (up_to m (u ∷ xs)) (from_on m (u ∷ xs))) (among_parts x (from_on m (u ∷ xs)) (up_to m (u ∷ xs)) on))

pub among_turned : (l : List ℕ) (x : ℕ) → among x l ≡ true → among x (turned l) ≡ true
among_turned [] x on = on
among_turned (u ∷ xs) x on =
    let m = least u xs in
    ⊎_elim (among_right x (from_on m (u ∷ xs)) (up_to m (u ∷ xs))) (among_left x (from_on m (u ∷ xs)) (up_to m (u ∷ xs)))
    (among_parts x (up_to m (u ∷ xs)) (from_on m (u ∷ xs)) (subst (λ l. among x l ≡ true) (sym (parts m (u ∷ xs))) on))

-- a loop that meets no vertex twice, from its lowest vertex on, is a cycle
pub turned_cycle : (f : ℕ → Option ℕ) (u : ℕ) (xs : List ℕ) → Distinct (u ∷ xs) → Way f u xs u → Cycle f (turned (u ∷ xs))
turned_cycle f u xs distinct way =
    let m = least u xs in
    let (rest, is, around, members) = turned_way f m u xs (cut_at f m u xs u (least_on u xs) way) in
    subst (Cycle f) (sym is) (
      around,
      all_among (λ x. m < x) rest (λ x on.
          let other : x ≡ m → ⊥ = λ e. ⊎_elim
          (λ before. among_all (λ y. m ≡ y → ⊥) x (up_to m (u ∷ xs)) (up_to_off m (u ∷ xs)) before (sym e))
          (λ (ys, from, later). among_all (λ y. m ≡ y → ⊥) x ys (from_fresh m (u ∷ xs) ys distinct from) later (sym e))
          (members x on) in
          let low : m ≤ x = least_le u xs x (turned_among (u ∷ xs) x (subst (λ l. among x l ≡ true) (sym is) (among_later x m rest on))) in
          omega arith),
    )

-- ---- the trail

-- following the arrows from x comes to a vertex without one, or to a settled vertex
abbrev pub Leaves : (ℕ → Option ℕ) → (ℕ → Bool) → ℕ → Type 0
Leaves f settled x = (y : ℕ) × Leads f x y × ((f y ≡ None) ⊎ (settled y ≡ true))

-- an arrow from the path leads to it or to a settled vertex
abbrev pub ClosedUnder : (ℕ → Option ℕ) → (ℕ → Bool) → List ℕ → Type 0
ClosedUnder f settled path = (x y : ℕ) → among x path ≡ true → f x ≡ Some y → (among y path ≡ true) ⊎ (settled y ≡ true)

-- the trail came round: the loop is on the path, and leads from its first vertex back to it
pub record Round (f : ℕ → Option ℕ) (path l : List ℕ) : Type 0 where
  pub first : ℕ
  pub rest : List ℕ
  pub is : l ≡ first ∷ rest
  pub way : Way f first rest first
  pub on_path : (x : ℕ) → among x l ≡ true → among x path ≡ true
  pub distinct : Distinct l

-- what a trail tells: its vertices are below n, open and different; it came round, or it leaves
pub record Told (f : ℕ → Option ℕ) (settled : ℕ → Bool) (n : ℕ) (t : Trail) : Type 0 where
  pub inside : AllByRecursion (λ x. x < n) t.path
  pub all_open : (x : ℕ) → among x t.path ≡ true → settled x ≡ false
  pub distinct : Distinct t.path
  pub ends : MatchOption t.loop (((x : ℕ) → among x t.path ≡ true → Leaves f settled x) × ClosedUnder f settled t.path) (λ l. Round f t.path l)

module _ (f : ℕ → Option ℕ) (settled : ℕ → Bool) (n : ℕ) (below : (u w : ℕ) → f u ≡ Some w → u < n) (to : (u w : ℕ) → f u ≡ Some w → w < n) where
  -- the path leads to v
  abbrev Chain : List ℕ → ℕ → Type 0
  Chain [] v = Unit {0}
  Chain (x ∷ xs) v = Way f x xs v

  chain_more : (path : List ℕ) (v w : ℕ) → Chain path v → f v ≡ Some w → Chain (path ++ v ∷ []) w
  chain_more [] v w chain arrow = arrow
  chain_more (x ∷ xs) v w chain arrow = way_more f x xs v w chain arrow

  chain_leads : (path : List ℕ) (v : ℕ) → Chain path v → (x : ℕ) → among x path ≡ true → Leads f x v
  chain_leads [] v chain x on = absurd (false≢true on)
  chain_leads (u ∷ us) v chain x on = inr (way_rest f u us v x chain on)

  chain_next : (path : List ℕ) (v : ℕ) → Chain path v → (x y : ℕ) → among x path ≡ true → f x ≡ Some y → (among y path ≡ true) ⊎ (y ≡ v)
  chain_next [] v chain x y on arrow = absurd (false≢true on)
  chain_next (u ∷ us) v chain x y on arrow = ⊎_elim (λ later. inl (among_later y u us later)) inr (way_next f u us v x y chain on arrow)

  chain_below : (path : List ℕ) (v : ℕ) → Chain path v → AllByRecursion (λ x. x < n) path
  chain_below [] v chain = tt
  chain_below (u ∷ us) v chain = all_among (λ x. x < n) (u ∷ us) (λ x on. from_way x (way_rest f u us v x chain on))
    where
      from_way : (x : ℕ) → (ys : List ℕ) × Way f x ys v → x < n
      from_way x ([], way) = below x v way
      from_way x (y ∷ ys, (arrow, way)) = below x y arrow

  distinct_from : (m : ℕ) (xs : List ℕ) → Distinct xs → Distinct (from_on m xs)
  distinct_from m [] d = tt
  distinct_from m (x ∷ xs) (fresh, d) = by (eqb m x) (distinct_from m xs d)
    where
      by : (b : Bool) → Distinct (from_on m xs) → Distinct (cond b (x ∷ xs) (from_on m xs))
      by true rest = (fresh, d)
      by false rest = rest

  round : (path : List ℕ) (v : ℕ) → Chain path v → Distinct path → among v path ≡ true → Round f path (from_on v path)
  round [] v chain d on = absurd (false≢true on)
  round (u ∷ us) v chain d on =
      let (ys, is, way, before) = cut_at f v u us v on chain in
      record {
        first = v;
        rest = ys;
        is = is;
        way = way;
        on_path = λ x there. subst (λ l. among x l ≡ true) (parts v (u ∷ us)) (among_right x (up_to v (u ∷ us)) (from_on v (u ∷ us)) there);
        distinct = distinct_from v (u ∷ us) d;
      }

  -- where the trail stops at a settled vertex
  stops_settled : (path : List ℕ) (v : ℕ) → Chain path v → Distinct path → ((x : ℕ) → among x path ≡ true → settled x ≡ false) → settled v ≡ true → Told f settled n (record { path = path; loop = None })
  stops_settled path v chain d opens shut = record {
    inside = chain_below path v chain;
    all_open = opens;
    distinct = d;
    ends = (
      λ x on. (v, chain_leads path v chain x on, inr shut),
      λ x y on arrow. ⊎_elim inl (λ e. inr (subst (λ z. settled z ≡ true) (sym e) shut)) (chain_next path v chain x y on arrow),
    );
  }

  open_push : (path : List ℕ) (v : ℕ) → ((x : ℕ) → among x path ≡ true → settled x ≡ false) → settled v ≡ false → (x : ℕ) → among x (path ++ v ∷ []) ≡ true → settled x ≡ false
  open_push path v opens open_v x on = ⊎_elim (opens x) (λ e. subst (λ z. settled z ≡ false) (sym e) open_v) (among_push x v path on)

  -- where it stops behind a vertex without an arrow
  stops_dry : (path : List ℕ) (v : ℕ) → Chain path v → Distinct path → ((x : ℕ) → among x path ≡ true → settled x ≡ false) → settled v ≡ false → among v path ≡ false → v < n → f v ≡ None → Told f settled n (record { path = path ++ v ∷ []; loop = None })
  stops_dry path v chain d opens open_v off low none = record {
    inside = All-push (λ x. x < n) path v (chain_below path v chain) low;
    all_open = open_push path v opens open_v;
    distinct = distinct_push path v d (off_fresh v path off);
    ends = (
      λ x on. (v, ⊎_elim (chain_leads path v chain x) inl (among_push x v path on), inl none),
      λ x y on arrow. ⊎_elim
          (λ there. ⊎_elim (λ next. inl (among_left y path (v ∷ []) next)) (λ e. inl (subst (λ z. among z (path ++ v ∷ []) ≡ true) (sym e) (among_right v path (v ∷ []) (among_here v [])))) (chain_next path v chain x y there arrow))
          (λ e. absurd (none_some (f v) y none (subst (λ z. f z ≡ Some y) e arrow)))
          (among_push x v path on),
    );
  }

  pub told : (k : ℕ) (path : List ℕ) (v : ℕ) → n < length path + k → v < n → Chain path v → Distinct path → ((x : ℕ) → among x path ≡ true → settled x ≡ false) → Told f settled n (trail_on f settled k path v)
  told zero path v room low chain d opens = let few : length path ≤ n = pigeons n path (chain_below path v chain) d in absurd (omega arith)
  told (suc k) path v room low chain d opens = by (settled v) refl (among v path) refl (f v) refl (λ w in_plan c e o. told k (path ++ v ∷ []) w (let long : length (path ++ v ∷ []) ≡ length path + 1 = length-append path (v ∷ []) in omega arith) in_plan c e o)
    where
      by : (s : Bool) → settled v ≡ s → (b : Bool) → among v path ≡ b → (o : Option ℕ) → f v ≡ o
          → ((w : ℕ) → w < n → Chain (path ++ v ∷ []) w → Distinct (path ++ v ∷ []) → ((x : ℕ) → among x (path ++ v ∷ []) ≡ true → settled x ≡ false) → Told f settled n (trail_on f settled k (path ++ v ∷ []) w))
          → Told f settled n (cond s (record { path = path; loop = None }) (cond b (record { path = path; loop = Some (from_on v path) }) (if_some o (record { path = path ++ v ∷ []; loop = None }) (λ w. trail_on f settled k (path ++ v ∷ []) w))))
      by true shut b is o arrow rest = stops_settled path v chain d opens shut
      by false open_v true on o arrow rest = record { inside = chain_below path v chain; all_open = opens; distinct = d; ends = round path v chain d on }
      by false open_v false off None none rest = stops_dry path v chain d opens open_v off low none
      by false open_v false off (Some w) arrow rest = rest w (to v w arrow) (chain_more path v w chain arrow) (distinct_push path v d (off_fresh v path off)) (open_push path v opens open_v)
