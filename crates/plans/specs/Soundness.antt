-- Every plan of the crate keeps the limits of plans. Assumes nothing.
use Rattle.std.proofs.Common.{ap, ⊎_elim, arith}
use Rattle.std.specs.Prelude.{ℕ, ◌<◌, ◌≤◌, length, vec_items}
use Rattle.model.proofs.Sounds.{sound_from_ports}
use Rattle.model.specs.Layouts.{Sound}
use Rattle.plans.specs.Cablings.{cabled, leads_from}
use Rattle.plans.specs.Completes.{complete, others}
use Rattle.plans.specs.Leading.{leads_below, leads_few, leads_none}
use Rattle.plans.specs.Others.{others_few, others_none, others_below}
use Rattle.plans.specs.Spans.{span_at}
use Rattle.plans.specs.Tables.{cabling_of}
use Rattle.plans.specs.declared.table.Table.{Table}
use Rattle.std.proofs.lemmas.Bool.{cases_lt}

-- the complete plan within the limits of size and root
pub complete_sound : (n r : ℕ) → 1 ≤ n → n ≤ 1024 → r < n → Sound (complete n r)
complete_sound n r least most root = sound_from_ports n r (others n) least most root (others_few n most) (others_none n) (others_below n)

few_ports : (t : Table) (v : ℕ) → length (leads_from (vec_items t.links) v) ≤ 1023
few_ports t v =
    ⊎_elim
    (λ within. omega (arith, leads_few (vec_items t.links) v (span_at (vec_items t.spans) v) (t.lead v within), t.narrow v within))
    (λ past. omega (arith, ap length (leads_none t.size (vec_items t.links) t.ended v past)))
    (cases_lt v t.size)

-- every table
pub table_sound : (t : Table) → Sound (cabled (cabling_of t))
table_sound t =
    let links = vec_items t.links in
    sound_from_ports t.size t.root (leads_from links) t.least t.most t.rooted (few_ports t) (leads_none t.size links t.ended) (leads_below t.size links t.ended)
