-- What the span of a vertex tells of the links from it. Assumes nothing.
use Rattle.std.proofs.Common.{◌≡◌, ℕ, ◌≤◌, List, length, take, drop, vec_items, sym, ap, ◌∙◌, subst, ⊎_elim, arith}
use Rattle.plans.specs.Cablings.{end_of, leads_from}
use Rattle.plans.specs.Leading.{leads_none}
use Rattle.plans.specs.Spans.{Lies, Leads, no_span, span_at}
use Rattle.plans.specs.declared.table.Link.{Link}
use Rattle.plans.specs.declared.table.Span.{Span}
use Rattle.plans.specs.declared.table.Table.{Table}
use Rattle.std.proofs.lemmas.List.{get_or_past, length-drop, length-map, length-take-le}
use Rattle.std.proofs.lemmas.Bool.{cases_lt}

-- the span of what is no vertex is empty
pub span_past : (t : Table) (v : ℕ) → t.size ≤ v → span_at (vec_items t.spans) v ≡ no_span
span_past t v past = get_or_past (vec_items t.spans) v no_span (omega (arith, t.rows, t.spans.ok.0))

pub lies_of : (t : Table) (v : ℕ) (s : Span) → s ≡ span_at (vec_items t.spans) v → Lies (vec_items t.links) v s
lies_of t v s its =
    let links = vec_items t.links in
    let at : Lies links v (span_at (vec_items t.spans) v) =
    ⊎_elim (t.lie v) (λ past. subst (λ (x : Span). Lies links v x) (sym (span_past t v past)) (omega arith)) (cases_lt v t.size) in
    subst (λ (x : Span). Lies links v x) (sym its) at

pub leads_of : (t : Table) (v : ℕ) (s : Span) → s ≡ span_at (vec_items t.spans) v → Leads (vec_items t.links) v s
leads_of t v s its =
    let links = vec_items t.links in
    let at : Leads links v (span_at (vec_items t.spans) v) =
    ⊎_elim (t.lead v) (λ past. subst (λ (x : Span). Leads links v x) (sym (span_past t v past)) (leads_none t.size links t.ended v past)) (cases_lt v t.size) in
    subst (λ (x : Span). Leads links v x) (sym its) at

module _ (t : Table) (v : ℕ) (s : Span) (its : s ≡ span_at (vec_items t.spans) v) where
  abbrev links : List Link
  links = vec_items t.links

  lies : Lies links v s
  lies = lies_of t v s its

  leads : Leads links v s
  leads = leads_of t v s its

  held_count : length (take s.degree (drop s.first links)) ≡ s.degree
  held_count = length-take-le s.degree (drop s.first links) (omega (arith, lies, length-drop s.first links))

  pub leads_count : length (leads_from links v) ≡ s.degree
  leads_count = ap length leads ∙ length-map (take s.degree (drop s.first links)) end_of ∙ held_count
