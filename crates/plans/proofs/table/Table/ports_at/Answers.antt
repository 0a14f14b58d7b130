use Rattle.std.proofs.Common.{sym}
use Rattle.plans.proofs.Spanning.{leads_count}
use Rattle.plans.proofs.table.Table.ports_at.Goals as goal

pub returns : goal.returns
returns c = sym (leads_count c.args.self.now c.args.v c.span.result c.span.ensures)
