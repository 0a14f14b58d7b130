use Rattle.std.proofs.Common.{◌≡◌, ℕ, ◌+◌, ◌-◌, List, map, take, drop, sym, ap, ◌∙◌, arith}
use Rattle.plans.proofs.Spanning.{leads_of}
use Rattle.plans.proofs.table.Table.links_from.Goals as goal
use Rattle.plans.specs.Cablings.{end_of}
use Rattle.plans.specs.declared.table.Link.{Link}

pub returns : goal.returns
returns c =
    let s = c.span-span.result in
    let long : s.first + s.degree - s.first ≡ s.degree = omega arith in
    ap (λ (n : ℕ). map end_of (take n (drop s.first c.deref.result.now))) long
    ∙ ap (λ (links : List Link). map end_of (take s.degree (drop s.first links))) c.deref.ensures.value ∙ sym (leads_of c.args.self.now c.args.v s c.span-span.ensures)
