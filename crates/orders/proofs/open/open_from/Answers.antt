use Rattle.std.proofs.Common.{◌≡◌, true, false, vec_items, sym, ◌∙◌, rules}
use Rattle.model.specs.Orders.{open_marks}
use Rattle.model.specs.Walks.{is_open}
use Rattle.orders.proofs.Opening.{found_first}
use Rattle.orders.proofs.open.open_from.Goals as goal
use Rattle.std.proofs.lemmas.Iterator.{first_from_Range}
use Rattle.std.proofs.lemmas.List.{length-map}

pub returns : goal.returns
returns c =
    let list = c.args.entries.now.list in
    let marks = open_marks (vec_items list) in
    found_first marks _ (c.len.ensures ∙ list.ok.0 ∙ sym (length-map (vec_items list) _)) c.args.start c.find.result
    (first_from_Range _ _ _ _ (λ u. is_open marks u ≡ true) (λ u. is_open marks u ≡ false) c.find.ensures.ran (λ u q called. search rules) (λ u q called. (search rules, search rules)))
