use Rattle.std.proofs.Common.{◌≡◌, length, vec_items, ap, ◌∙◌, arith}
use Rattle.plans.proofs.Telling.{Taken, kept_told, taken}
use Rattle.plans.proofs.table.Table.link.Goals as goal
use Rattle.plans.specs.Spans.{grown, span_at}
use Rattle.plans.specs.Tables.{cabling_of}
use Rattle.plans.specs.declared.table.Span.{Span}

pub invariant_of-self : goal.invariant_of-self
invariant_of-self c =
    let t = c.args.self.now in
    let u = c.args.from in
    let ok : Taken (cabling_of t) u c.args.to = taken (cabling_of t) u c.args.to c.in_ok-check_link.ensures in
    let end : c.len-end.result ≡ length (vec_items t.links) = c.len-end.ensures ∙ t.links.ok.0 in
    let span : c.grown-span.result ≡ grown (span_at (vec_items t.spans) u) (length (vec_items t.links)) =
    c.grown-span.ensures ∙ ap (λ (s : Span). grown s c.len-end.result) c.span.ensures ∙ ap (grown (span_at (vec_items t.spans) u)) end in
    let pushed = c.push_reserved.ensures in
    let k = kept_told t u c.args.to ok (vec_items c.push_reserved.new.self) c.grown-span.result pushed.items span in record {
      least = t.least;
      most = t.most;
      rooted = t.rooted;
      roomy = omega (arith, pushed.capacity, t.roomy);
      few = omega (arith, ok.room, pushed.len, t.links.ok.0);
      rows = t.rows;
      ended = k.ended;
      rising = k.rising;
      lie = λ v h. (k.placed v h).lies;
      narrow = λ v h. (k.placed v h).narrow;
      lead = λ v h. (k.placed v h).leads;
      bare = λ v h. (k.placed v h).bare;
      newest = λ v h. (k.placed v h).last;
    }
