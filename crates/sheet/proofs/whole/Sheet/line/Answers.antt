use Rattle.session.specs.Desks.{desk_of}
use Rattle.sheet.proofs.Scopes.{line_within}
use Rattle.sheet.proofs.whole.Sheet.line.Goals as goal

pub invariant_of-self : goal.invariant_of-self
invariant_of-self c = record {
  within = line_within c.args.self.now.scope (desk_of c.args.self.now.session) (desk_of c.do_line.new.session) c.saturating_add-number.result c.args.line.now c.do_line.result c.do_line.ensures c.args.self.now.within;
}

pub invariant_of-self-2 : goal.invariant_of-self-2
invariant_of-self-2 c = record {
  within = line_within c.args.self.now.scope (desk_of c.args.self.now.session) (desk_of c.do_line.new.session) c.saturating_add-number.result c.args.line.now c.do_line.result c.do_line.ensures c.args.self.now.within;
}
