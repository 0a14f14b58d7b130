use Rattle.std.proofs.Common.{rules, tests, sym, ◌∙◌}
use Rattle.std.proofs.lemmas.Iterator.{YieldsList-from_slice}
use Rattle.std.proofs.lemmas.Iterator.Search.{all_from_yields_List}
use Rattle.model.specs.declared.draw.Entry.{Entry}
use Rattle.endings.proofs.Writing.{none_open_is}
use Rattle.endings.proofs.ended.none_open.Goals as goal

pub returns : goal.returns
returns c = all_from_yields_List (λ (e : Entry). e.settled) _ _ _ c.all.ensures.ran (YieldsList-from_slice c.args.entries.now cc) (λ x b q k. search (rules, tests)) ∙ sym (none_open_is c.args.entries.now)
