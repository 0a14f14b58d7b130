use Rattle.std.proofs.Common.{ap, ◌∙◌}
use Rattle.session.specs.Desks.{desk_of}
use Rattle.sheet.specs.Scopes.{within}
use Rattle.sheet.proofs.Scopes.{closes_within}
use Rattle.sheet.proofs.whole.Sheet.end.Goals as goal

pub invariant_of-self : goal.invariant_of-self
invariant_of-self c = record {
  within = ap (λ x. within c.args.self.now.scope x.1) c.close-due.ensures ∙ closes_within c.args.self.now.scope (desk_of c.args.self.now.session) c.args.self.now.within;
}
