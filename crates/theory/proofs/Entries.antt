-- What raising and settling leave of heights and marks. Assumes nothing.
use Rattle.std.proofs.Common.{◌≡◌, ℕ, zero, suc, ◌+◌, ◌<◌, ◌≤◌, Bool, true, false, cond, ◌||◌, List, [], ◌∷◌, ◌++◌, length, get_or, set, sym, refl, ap, ◌∙◌, subst, ⊎_elim, add-zero, arith}
use Rattle.std.specs.List.{AllByRecursion}
use Rattle.std.proofs.lemmas.List.FromFn.{length-map-range_with_len, get_or-map-range_with_len}
use Rattle.std.proofs.lemmas.List.{get_or_past}
use Rattle.std.proofs.lemmas.Bool.{cases_lt, cases_Bool}
use Rattle.theory.specs.Cycles.{among, raise, flat}
use Rattle.theory.specs.Draws.{no_entry, height_of, is_settled, changed_from, changed, higher, shut, fresh_entry, opened}
use Rattle.model.specs.Layouts.{Layout, is_root}
use Rattle.model.specs.declared.draw.Entry.{Entry}
use Rattle.theory.proofs.Cycles.{among_here, among_all, raise_off}
use Rattle.theory.proofs.Trails.{among_right, among_other}

module _ (f : Entry → Entry) (c : List ℕ) where
  changed_long : (i : ℕ) (es : List Entry) → length (changed_from f c i es) ≡ length es
  changed_long i [] = refl
  changed_long i (e ∷ es) = ap suc (changed_long (suc i) es)

  changed_at : (i : ℕ) (es : List Entry) (k : ℕ) → k < length es → get_or (changed_from f c i es) k no_entry ≡ cond (among (i + k) c) (f (get_or es k no_entry)) (get_or es k no_entry)
  changed_at i [] k within = absurd (omega arith)
  changed_at i (e ∷ es) zero within = ap (λ j. cond (among j c) (f e) e) (sym (add-zero i))
  changed_at i (e ∷ es) (suc k) within =
      changed_at (suc i) es k (omega arith) ∙ ap (λ j. cond (among j c) (f (get_or es k no_entry)) (get_or es k no_entry)) (let e2 : suc i + k ≡ i + suc k = omega arith in e2)

  pub length_changed : (es : List Entry) → length (changed f c es) ≡ length es
  length_changed es = changed_long 0 es

  pub get_or_changed : (es : List Entry) (v : ℕ) → v < length es → get_or (changed f c es) v no_entry ≡ cond (among v c) (f (get_or es v no_entry)) (get_or es v no_entry)
  get_or_changed es v within = changed_at 0 es v within ∙ ap (λ j. cond (among j c) (f (get_or es v no_entry)) (get_or es v no_entry)) (let e : 0 + v ≡ v = omega arith in e)

  -- past the last entry nothing is changed
  pub changed_past : (es : List Entry) (v : ℕ) → length es ≤ v → get_or (changed f c es) v no_entry ≡ get_or es v no_entry
  changed_past es v past =
      get_or_past (changed f c es) v no_entry (let e : length (changed f c es) ≡ length es = length_changed es in omega arith) ∙ sym (get_or_past es v no_entry past)

pub changed_nothing : (f : Entry → Entry) (i : ℕ) (es : List Entry) → changed_from f [] i es ≡ es
changed_nothing f i [] = refl
changed_nothing f i (e ∷ es) = ap (λ l. e ∷ l) (changed_nothing f (suc i) es)

-- what is not among the vertices is as it was
pub changed_off : (f : Entry → Entry) (c : List ℕ) (es : List Entry) (v : ℕ) → among v c ≡ false → get_or (changed f c es) v no_entry ≡ get_or es v no_entry
changed_off f c es v off = ⊎_elim
    (λ within. get_or_changed f c es v within ∙ ap (λ b. cond b (f (get_or es v no_entry)) (get_or es v no_entry)) off)
    (changed_past f c es v)
    (cases_lt v (length es))

-- vertices as entries are changed one after the other
module _ (f : Entry → Entry) where
  -- only which vertices are among them matters
  changed_agree : (c d : List ℕ) (i : ℕ) (es : List Entry) → ((j : ℕ) → i ≤ j → among j c ≡ among j d) → changed_from f c i es ≡ changed_from f d i es
  changed_agree c d i [] same = refl
  changed_agree c d i (e ∷ es) same = rest (same i (omega arith)) (changed_agree c d (suc i) es (λ j le. same j (omega arith)))
    where
      rest : among i c ≡ among i d → changed_from f c (suc i) es ≡ changed_from f d (suc i) es → cond (among i c) (f e) e ∷ changed_from f c (suc i) es ≡ cond (among i d) (f e) e ∷ changed_from f d (suc i) es
      rest here later = cc

  more_from : (c : List ℕ) (v i : ℕ) (es : List Entry) (k : ℕ) → i + k ≡ v → k < length es → among v c ≡ false → changed_from f (c ++ v ∷ []) i es ≡ set (changed_from f c i es) k (f (get_or es k no_entry))
  more_from c v i [] k at within off = absurd (omega arith)
  more_from c v i (e ∷ es) zero at within off =
      let here : i ≡ v = omega arith in
      rest (subst (λ j. among j (c ++ v ∷ []) ≡ true) (sym here) (among_right v c (v ∷ []) (among_here v []))) (changed_agree (c ++ v ∷ []) c (suc i) es (λ j le. among_other j v c (omega arith)))
    where
      rest : among i (c ++ v ∷ []) ≡ true → changed_from f (c ++ v ∷ []) (suc i) es ≡ changed_from f c (suc i) es → cond (among i (c ++ v ∷ [])) (f e) e ∷ changed_from f (c ++ v ∷ []) (suc i) es ≡ f e ∷ changed_from f c (suc i) es
      rest here later = ap (λ b. cond b (f e) e ∷ changed_from f (c ++ v ∷ []) (suc i) es) here ∙ ap (λ l. f e ∷ l) later
  more_from c v i (e ∷ es) (suc k) at within off =
      ap (λ b. cond b (f e) e ∷ changed_from f (c ++ v ∷ []) (suc i) es) (among_other i v c (omega arith)) ∙ ap (λ l. cond (among i c) (f e) e ∷ l) (more_from c v (suc i) es k (omega arith) (omega arith) off)

  -- one vertex more that was not among them: its entry alone is changed
  pub changed_more : (c : List ℕ) (v : ℕ) (es : List Entry) → v < length es → among v c ≡ false → changed f (c ++ v ∷ []) es ≡ set (changed f c es) v (f (get_or (changed f c es) v no_entry))
  changed_more c v es within off =
      more_from c v 0 es v (omega arith) within off ∙ ap (λ e. set (changed f c es) v (f e)) (sym (changed_off f c es v off))

-- c lies among the entries
module _ (c : List ℕ) (es : List Entry) (inside : AllByRecursion (λ v. v < length es) c) where
  outside : (v : ℕ) → length es ≤ v → among v c ≡ false
  outside v past = ⊎_elim (λ on. absurd (let lt : v < length es = among_all (λ x. x < length es) v c inside on in omega arith)) (λ off. off) (cases_Bool (among v c))

  pub raised_heights : (v : ℕ) → height_of (changed higher c es) v ≡ raise c (height_of es) v
  raised_heights v = ⊎_elim
      (λ within. ap (λ e. e.height) (get_or_changed higher c es v within) ∙ by (among v c))
      (λ past. ap (λ e. e.height) (changed_past higher c es v past) ∙ sym (raise_off c (height_of es) v (outside v past)))
      (cases_lt v (length es))
    where
      by : (b : Bool) → (cond b (higher (get_or es v no_entry)) (get_or es v no_entry)).height ≡ cond b (suc (height_of es v)) (height_of es v)
      by true = refl
      by false = refl

  pub settled_marks : (v : ℕ) → is_settled (changed shut c es) v ≡ (among v c || is_settled es v)
  settled_marks v = ⊎_elim
      (λ within. ap (λ e. e.settled) (get_or_changed shut c es v within) ∙ by (among v c))
      (λ past. ap (λ e. e.settled) (changed_past shut c es v past) ∙ ap (λ b. b || is_settled es v) (sym (outside v past)))
      (cases_lt v (length es))
    where
      by : (b : Bool) → (cond b (shut (get_or es v no_entry)) (get_or es v no_entry)).settled ≡ (b || is_settled es v)
      by true = refl
      by false = refl

-- raising moves no mark, and settling no height
pub raised_marks : (c : List ℕ) (es : List Entry) (v : ℕ) → is_settled (changed higher c es) v ≡ is_settled es v
raised_marks c es v = ⊎_elim
    (λ within. ap (λ e. e.settled) (get_or_changed higher c es v within) ∙ by (among v c))
    (λ past. ap (λ e. e.settled) (changed_past higher c es v past))
    (cases_lt v (length es))
  where
    by : (b : Bool) → (cond b (higher (get_or es v no_entry)) (get_or es v no_entry)).settled ≡ is_settled es v
    by true = refl
    by false = refl

pub settled_heights : (c : List ℕ) (es : List Entry) (v : ℕ) → height_of (changed shut c es) v ≡ height_of es v
settled_heights c es v = ⊎_elim
    (λ within. ap (λ e. e.height) (get_or_changed shut c es v within) ∙ by (among v c))
    (λ past. ap (λ e. e.height) (changed_past shut c es v past))
    (cases_lt v (length es))
  where
    by : (b : Bool) → (cond b (shut (get_or es v no_entry)) (get_or es v no_entry)).height ≡ height_of es v
    by true = refl
    by false = refl

-- ---- a fresh draw

module _ (p : Layout) where
  pub opened_long : length (opened p).entries ≡ p.size
  opened_long = length-map-range_with_len (fresh_entry p) 0 p.size

  pub opened_heights : (v : ℕ) → height_of (opened p).entries v ≡ flat v
  opened_heights v = ⊎_elim
      (λ within. ap (λ e. e.height) (get_or-map-range_with_len (fresh_entry p) 0 p.size v v no_entry within (omega arith)))
      (λ past. ap (λ e. e.height) (get_or_past (opened p).entries v no_entry (let e : length (opened p).entries ≡ p.size = opened_long in omega arith)))
      (cases_lt v p.size)

  pub opened_marks : (v : ℕ) → v < p.size → is_settled (opened p).entries v ≡ is_root p v
  opened_marks v within = ap (λ e. e.settled) (get_or-map-range_with_len (fresh_entry p) 0 p.size v v no_entry within (omega arith))

  pub opened_past : (v : ℕ) → p.size ≤ v → is_settled (opened p).entries v ≡ false
  opened_past v past = ap (λ e. e.settled) (get_or_past (opened p).entries v no_entry (let e : length (opened p).entries ≡ p.size = opened_long in omega arith))
