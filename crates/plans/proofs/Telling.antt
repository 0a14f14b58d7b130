-- One more link: what a table keeps of its links and spans. Assumes nothing.
use Rattle.std.proofs.Common.{◌≡◌, ℕ, ◌+◌, ◌-◌, ◌<◌, ◌≤◌, Bool, true, false, cond, eqb, List, [], ◌∷◌, ◌++◌, map, length, get_or, take, drop, set, Ok, Result, vec_items, filter, sym, refl, ap, ◌∙◌, subst, ⊎_elim, arith}
use Rattle.model.specs.Answers.{answered}
use Rattle.plans.proofs.Spanning.{leads_count}
use Rattle.plans.specs.Cablings.{Cabling, end_of, last_start, leads_from, link_fault, no_link, starts_at}
use Rattle.plans.specs.Spans.{BareAbove, Ended, EndsLast, Leads, Lies, Narrow, RisingStarts, grown, span_at, no_span}
use Rattle.plans.specs.Tables.{cabling_of}
use Rattle.plans.specs.declared.table.Link.{Link}
use Rattle.plans.specs.declared.table.Span.{Span}
use Rattle.plans.specs.declared.table.Table.{Table}
use Rattle.model.specs.declared.fault.DrawFault.{DrawFault}
use Rattle.std.proofs.lemmas.List.Elements.{filter-append}
use Rattle.std.proofs.lemmas.List.{append-nil, drop-append-le, get_or_append_left, get_or_push, get_or-set_other, get_or-set_same, length-drop, length_push, map-append, map_push, take_all, take-append-le}
use Rattle.std.proofs.lemmas.Bool.{cases_eq, cases_lt, cond-false, cond-true, eq-eqb, ne_eqb}
use Rattle.std.proofs.lemmas.Bool.Decides.{nat_tests}

-- what it means that a link is not refused
pub record Taken (c : Cabling) (u w : ℕ) : Type 0 where
  pub room : length c.links < 4096
  pub start_in : u < c.size
  pub end_in : w < c.size
  pub rises : last_start c.links ≤ u
  pub free : length (leads_from c.links u) < 1023

pub taken : (c : Cabling) (u w : ℕ) → ◌≡◌ {A = Result (Unit {0}) DrawFault} (Ok tt) (answered (link_fault c u w) tt) → Taken c u w
taken c u w fine = record {
  room = grind (arith, nat_tests);
  start_in = grind (arith, nat_tests);
  end_in = grind (arith, nat_tests);
  rises = grind (arith, nat_tests);
  free = grind (arith, nat_tests);
}

-- what the spans of a table keep, of the vertex v
pub record Placed (links : List Link) (v : ℕ) (s : Span) : Type 0 where
  pub lies : Lies links v s
  pub narrow : Narrow v s
  pub leads : Leads links v s
  pub bare : BareAbove links v s
  pub last : EndsLast links v s

module _ (links : List Link) (u w : ℕ) where
  abbrev new : Link
  new = record { from = u; to = w }

  abbrev pub more : List Link
  more = links ++ (new ∷ [])

  last_more : last_start more ≡ u
  last_more = ap (λ (l : Link). l.from) (get_or_push links new no_link (length more - 1) (omega (arith, length_push links new)))

  kept_new : (b : Bool) → map end_of (cond b (new ∷ []) []) ≡ cond b (w ∷ []) []
  kept_new true = refl
  kept_new false = refl

  leads_more : (v : ℕ) → leads_from more v ≡ leads_from links v ++ cond (eqb u v) (w ∷ []) []
  leads_more v =
      let kept = filter (starts_at v) links in
      ap (map end_of) (filter-append (starts_at v) links (new ∷ []))
      ∙ map-append end_of kept (cond (eqb u v) (new ∷ []) []) ∙ ap (λ ws. leads_from links v ++ ws) (kept_new (eqb u v))

  leads_other : (v : ℕ) → (v ≡ u → ⊥) → leads_from more v ≡ leads_from links v
  leads_other v apart =
      leads_more v ∙ ap (λ ws. leads_from links v ++ ws) (cond-false (eqb u v) (w ∷ []) [] (ne_eqb u v (λ e. apart (sym e)))) ∙ append-nil (leads_from links v)

  leads_same : leads_from more u ≡ leads_from links u ++ (w ∷ [])
  leads_same = leads_more u ∙ ap (λ ws. leads_from links u ++ ws) (cond-true (eqb u u) (w ∷ []) [] (eq-eqb u u refl))

  -- a span that lies within the old links holds the same links
  held_same : (f d : ℕ) → f + d ≤ length links → take d (drop f more) ≡ take d (drop f links)
  held_same f d lies =
      ap (take d) (drop-append-le f links (new ∷ []) (omega arith)) ∙ take-append-le d (drop f links) (new ∷ []) (omega (arith, length-drop f links))

  -- a span that ends with the old links holds the new one too
  held_more : (f d : ℕ) → f + d ≡ length links → take (d + 1) (drop f more) ≡ take d (drop f links) ++ (new ∷ [])
  held_more f d ends =
      let longer : length (drop f links ++ (new ∷ [])) ≤ d + 1 = omega (arith, length_push (drop f links) new, length-drop f links) in
      let whole : take d (drop f links) ≡ drop f links = take_all d (drop f links) (omega (arith, length-drop f links)) in
      ap (take (d + 1)) (drop-append-le f links (new ∷ []) (omega arith)) ∙ take_all (d + 1) (drop f links ++ (new ∷ [])) longer
      ∙ ap (λ ls. ls ++ (new ∷ [])) (sym whole)

  placed_other : (v : ℕ) (s : Span) → (v ≡ u → ⊥) → last_start links ≤ u → Placed links v s → Placed more v s
  placed_other v s apart rises p = record {
    lies = omega (arith, length_push links new, p.lies);
    narrow = p.narrow;
    leads = leads_other v apart ∙ p.leads ∙ ap (map end_of) (sym (held_same s.first s.degree p.lies));
    bare = λ above. p.bare (omega (arith, last_more));
    last = λ here. absurd (apart (sym here.0 ∙ last_more));
  }

  module _ (s : Span) (rises : last_start links ≤ u) (p : Placed links u s) where
    start_none : s.degree ≡ 0 → (grown s (length links)).first ≡ length links
    start_none none = cond-true (eqb s.degree 0) (length links) s.first (eq-eqb s.degree 0 none)

    start_some : (s.degree ≡ 0 → ⊥) → (grown s (length links)).first ≡ s.first
    start_some some = cond-false (eqb s.degree 0) (length links) s.first (ne_eqb s.degree 0 some)

    at_last : (s.degree ≡ 0 → ⊥) → last_start links ≡ u
    at_last some = ⊎_elim (λ above. absurd (some (p.bare above))) (λ not_above. omega arith) (cases_lt (last_start links) u)

    -- with the start that it has now, the span ends with the old links
    ends_now : (grown s (length links)).first + s.degree ≡ length links
    ends_now =
        ⊎_elim
        (λ none. omega (arith, start_none none))
        (λ some. let pos : 0 < s.degree = omega (arith, some) in omega (arith, start_some some, p.last (at_last some, pos)))
        (cases_eq s.degree 0)

    leads_now : leads_from links u ≡ map end_of (take s.degree (drop (grown s (length links)).first links))
    leads_now =
        let held : ℕ → ℕ → List ℕ = λ f d. map end_of (take d (drop f links)) in
        let f = (grown s (length links)).first in
        ⊎_elim
        (λ none. p.leads ∙ ap (held s.first) none ∙ sym (ap (held f) none))
        (λ some. p.leads ∙ ap (λ k. held k s.degree) (sym (start_some some)))
        (cases_eq s.degree 0)

    placed_same : s.degree < 1023 → Placed more u (grown s (length links))
    placed_same free =
        let f = (grown s (length links)).first in
        record {
          lies = omega (arith, length_push links new, ends_now);
          narrow = omega arith;
          leads = leads_same ∙ ap (λ ws. ws ++ (w ∷ [])) leads_now ∙ sym (map_push end_of (take s.degree (drop f links)) new) ∙ ap (map end_of) (sym (held_more f s.degree ends_now));
          bare = λ above. absurd (omega (arith, last_more));
          last = λ here. omega (arith, length_push links new, ends_now);
        }

  -- the spans after the span of u has grown
  pub placed_more : (n : ℕ) (spans : List Span) → length spans ≡ n → u < n → last_start links ≤ u → (span_at spans u).degree < 1023 → ((v : ℕ) → v < n → Placed links v (span_at spans v)) → (v : ℕ) → v < n → Placed more v (span_at (set spans u (grown (span_at spans u) (length links))) v)
  placed_more n spans long within rises free old v there =
      let s = grown (span_at spans u) (length links) in
      ⊎_elim
      (λ e.
      let here : span_at (set spans u s) v ≡ s = ap (span_at (set spans u s)) e ∙ get_or-set_same spans u s no_span (omega arith) in
      let grew : Placed more v s = subst (λ (x : ℕ). Placed more x s) (sym e) (placed_same (span_at spans u) rises (old u within) free) in
      subst (λ (x : Span). Placed more v x) (sym here) grew)
      (λ apart. subst (λ (x : Span). Placed more v x) (sym (get_or-set_other spans u v s no_span apart)) (placed_other v (span_at spans v) apart rises (old v there)))
      (cases_eq v u)

  pub ended_more : (n : ℕ) → u < n → w < n → Ended n links → Ended n more
  ended_more n start_in end_in ended k there =
      let P : Link → Type 0 = λ l. (l.from < n) × (l.to < n) in
      ⊎_elim
      (λ old. subst P (sym (get_or_append_left links (new ∷ []) no_link k old)) (ended k old))
      (λ late. subst P (sym (get_or_push links new no_link k (omega (arith, length_push links new)))) (start_in, end_in))
      (cases_lt k (length links))

  pub rising_more : last_start links ≤ u → RisingStarts links → RisingStarts more
  rising_more rises rising k there =
      let short : k < length links = omega (arith, length_push links new) in
      let before : get_or more k no_link ≡ get_or links k no_link = get_or_append_left links (new ∷ []) no_link k short in
      ⊎_elim
      (λ old. subst (λ (l : Link). l.from ≤ (get_or more (k + 1) no_link).from) (sym before) (subst (λ (l : Link). (get_or links k no_link).from ≤ l.from) (sym (get_or_append_left links (new ∷ []) no_link (k + 1) old)) (rising k old)))
      (λ late.
      let newest : length links ≡ k + 1 = omega arith in
      let last : length links - 1 ≡ k = omega arith in
      let low : (get_or links k no_link).from ≤ u = subst (λ (j : ℕ). (get_or links j no_link).from ≤ u) last rises in
      subst (λ (l : Link). l.from ≤ (get_or more (k + 1) no_link).from) (sym before) (subst (λ (l : Link). (get_or links k no_link).from ≤ l.from) (sym (get_or_push links new no_link (k + 1) newest)) low))
      (cases_lt (k + 1) (length links))

-- what a table keeps of its links and spans
pub record Kept (n : ℕ) (links : List Link) (spans : List Span) : Type 0 where
  pub ended : Ended n links
  pub rising : RisingStarts links
  pub placed : (v : ℕ) → v < n → Placed links v (span_at spans v)

module _ (t : Table) (u w : ℕ) (ok : Taken (cabling_of t) u w) where
  -- fewer than 1,023 links in the span of u
  pub span_free : (s : Span) → s ≡ span_at (vec_items t.spans) u → s.degree < 1023
  span_free s its = omega (arith, leads_count t u s its, ok.free)

  placed_now : (v : ℕ) → v < t.size → Placed (vec_items t.links) v (span_at (vec_items t.spans) v)
  placed_now v there = record {
    lies = t.lie v there;
    narrow = t.narrow v there;
    leads = t.lead v there;
    bare = t.bare v there;
    last = t.newest v there;
  }

  kept_more : Kept t.size (more (vec_items t.links) u w) (set (vec_items t.spans) u (grown (span_at (vec_items t.spans) u) (length (vec_items t.links))))
  kept_more =
      let links = vec_items t.links in
      let spans = vec_items t.spans in
      record {
        ended = ended_more links u w t.size ok.start_in ok.end_in t.ended;
        rising = rising_more links u w ok.rises t.rising;
        placed = placed_more links u w t.size spans (omega (arith, t.rows, t.spans.ok.0)) ok.start_in ok.rises (span_free (span_at spans u) refl) placed_now;
      }

  -- with the links and the span that the code has made
  pub kept_told : (links : List Link) (s : Span) → links ≡ more (vec_items t.links) u w → s ≡ grown (span_at (vec_items t.spans) u) (length (vec_items t.links)) → Kept t.size links (set (vec_items t.spans) u s)
  kept_told links s links_are s_is =
      let spans = vec_items t.spans in
      subst (λ (x : Span). Kept t.size links (set spans u x)) (sym s_is)
      (subst (λ (ls : List Link). Kept t.size ls (set spans u (grown (span_at spans u) (length (vec_items t.links))))) (sym links_are) kept_more)
