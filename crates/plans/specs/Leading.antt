-- Where the links of a table lead: to vertices, and from vertices alone. Assumes nothing.
use Rattle.std.specs.Prelude.{◌≡◌, ℕ, ◌<◌, ◌≤◌, List, [], ◌∷◌, map, length, take, drop, filter, ◌==◌, refl}
use Rattle.std.proofs.Common.{ap, ◌∙◌, arith}
use Rattle.plans.specs.Cablings.{end_of, leads_from, no_link, starts_at}
use Rattle.plans.specs.Spans.{Ended, Leads}
use Rattle.plans.specs.declared.table.Link.{Link}
use Rattle.plans.specs.declared.table.Span.{Span}
use Rattle.std.proofs.ByRecursion.{All-from_get_or, all_kept_by, All-map}
use Rattle.std.proofs.lemmas.List.{length-map, length-take}
use Rattle.std.proofs.lemmas.Bool.{cond-false, ne_eqb}
use Rattle.std.specs.List.{AllByRecursion}

-- every target is a vertex
pub leads_below : (n : ℕ) (links : List Link) → Ended n links → (v : ℕ) → AllByRecursion (λ w. w < n) (leads_from links v)
leads_below n links ended v =
    All-map (λ w. w < n) end_of (filter (starts_at v) links)
    (all_kept_by (starts_at v) (λ l. l.to < n) links (All-from_get_or (λ l. l.to < n) links no_link (λ k there. (ended k there).1)))

none_kept : (n v : ℕ) (links : List Link) → n ≤ v → AllByRecursion (λ l. l.from < n) links → filter (starts_at v) links ≡ []
none_kept n v [] past low = refl
none_kept n v (l ∷ links) past (here, low) =
    cond-false (l.from == v) (l ∷ filter (starts_at v) links) (filter (starts_at v) links) (ne_eqb l.from v (λ e. omega arith))
    ∙ none_kept n v links past low

-- no link starts at what is no vertex
pub leads_none : (n : ℕ) (links : List Link) → Ended n links → (v : ℕ) → n ≤ v → leads_from links v ≡ []
leads_none n links ended v past =
    ap (map end_of) (none_kept n v links past (All-from_get_or (λ l. l.from < n) links no_link (λ k there. (ended k there).0)))

-- a span of v holds at least the links from v
pub leads_few : (links : List Link) (v : ℕ) (s : Span) → Leads links v s → length (leads_from links v) ≤ s.degree
leads_few links v s leads =
    let held = take s.degree (drop s.first links) in
    omega (arith, ap length leads, length-map held end_of, length-take s.degree (drop s.first links))
