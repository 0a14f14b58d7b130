-- How a table keeps the links of each vertex together: a span of a vertex is the index of its first link and how many it has. Assumes nothing.
use Rattle.std.specs.Prelude.{◌≡◌, ℕ, ◌+◌, ◌<◌, ◌≤◌, cond, List, map, length, get_or, take, drop, ◌==◌, slice_index_or}
use Rattle.plans.specs.Cablings.{end_of, last_start, leads_from, no_link}
use Rattle.plans.specs.declared.table.Link.{Link}
use Rattle.plans.specs.declared.table.Span.{Span}

-- the span of a vertex without links
abbrev pub no_span : Span
no_span = record { first = 0; degree = 0 }

-- the span of v
abbrev pub span_at : List Span → ℕ → Span
span_at spans v = slice_index_or spans v no_span

-- P of each vertex below n and its span
abbrev pub EachSpan : ℕ → List Span → (ℕ → Span → Type 0) → Type 0
EachSpan n spans P = (v : ℕ) → v < n → P v (span_at spans v)

-- both ends of every link are below n
abbrev pub Ended : ℕ → List Link → Type 0
Ended n links = (k : ℕ) → k < length links → ((get_or links k no_link).from < n) × ((get_or links k no_link).to < n)

-- no link starts lower than the one before it
abbrev pub RisingStarts : List Link → Type 0
RisingStarts links = (k : ℕ) → k + 1 < length links → (get_or links k no_link).from ≤ (get_or links (k + 1) no_link).from

-- the span lies within the links
abbrev pub Lies : List Link → ℕ → Span → Type 0
Lies links v s = s.first + s.degree ≤ length links

-- at most 1,023 links in the span
abbrev pub Narrow : ℕ → Span → Type 0
Narrow v s = s.degree ≤ 1023

-- the links in the span are those from v
abbrev pub Leads : List Link → ℕ → Span → Type 0
Leads links v s = leads_from links v ≡ map end_of (take s.degree (drop s.first links))

-- no link starts above the last start
abbrev pub BareAbove : List Link → ℕ → Span → Type 0
BareAbove links v s = last_start links < v → s.degree ≡ 0

-- the links of the last start are the last
abbrev pub EndsLast : List Link → ℕ → Span → Type 0
EndsLast links v s = (last_start links ≡ v) × (0 < s.degree) → s.first + s.degree ≡ length links

-- the span with one more link, which stands at index k
abbrev pub grown : Span → ℕ → Span
grown s k = record { first = cond (s.degree == 0) k s.first; degree = s.degree + 1 }
