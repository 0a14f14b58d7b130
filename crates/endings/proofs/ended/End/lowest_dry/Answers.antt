use Rattle.std.proofs.Common.{ℕ, Bool, rules, tests, sym, ◌∙◌, arith}
use Rattle.std.proofs.lemmas.Iterator.{YieldsList-from_range}
use Rattle.std.proofs.lemmas.Iterator.Adapters.{option_map_id}
use Rattle.std.proofs.lemmas.Iterator.Search.{find_from_yields_List}
use Rattle.model.specs.Arrows.{is_dry}
use Rattle.theory.specs.Draws.{height_of}
use Rattle.draws.specs.States.{state_of}
use Rattle.endings.proofs.Writing.{lowest_finds}
use Rattle.endings.proofs.ended.End.lowest_dry.Goals as goal

pub returns : goal.returns
returns g c =
    let p = g.P.Plan.layout c.args.self.now.plan.now in
    let test : ℕ → Bool = λ v. is_dry p (g.S.ArrowSource.cells c.args.self.now.arrows.now) v (height_of (state_of c.args.self.now.draw.now).entries v) in
    sym (option_map_id c.find.result)
    ∙ find_from_yields_List test _ _ c.find.result c.find.ensures.ran (YieldsList-from_range 0 c.size.result p.size (cc) (omega (arith, c.size.ensures))) (λ x b q k. search (rules, tests))
    ∙ lowest_finds test p.size
