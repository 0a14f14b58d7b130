use Rattle.std.proofs.Common.{ℕ, eqb, take, ap, ◌∙◌, rules}
use Rattle.std.proofs.lemmas.Iterator.{YieldsList-from_slice}
use Rattle.std.proofs.lemmas.Iterator.Search.{position_from_yields_List}
use Rattle.std.proofs.lemmas.List.Sums.{prefix_len-le-length}
use Rattle.tokens.proofs.Cuts.{uncommented_is, place_or_end}
use Rattle.tokens.proofs.words.before_comment.Goals as goal
use borrow.Author.Tests.{tests}

pub returns : goal.returns
returns c =
    let place = position_from_yields_List (λ b. eqb b 35) _ _ c.position.result c.position.ensures.ran (YieldsList-from_slice c.args.line.now cc) (λ x b q k. search (rules, tests)) in
    ap (λ (n : ℕ). take n c.args.line.now) (c.unwrap_or-end.ensures ∙ place_or_end _ _ _ (prefix_len-le-length _ _) place) ∙ uncommented_is c.args.line.now
