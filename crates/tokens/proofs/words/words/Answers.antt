use Rattle.std.proofs.Common.{◌≡◌, [], IfOk, vec_items, sym, ap, ◌∙◌, subst, rules}
use Rattle.std.proofs.lemmas.Iterator.Consumers.{map_from_collect, YieldsList-from_filter}
use Rattle.std.proofs.lemmas.Iterator.Splits.{YieldsList-from_slice_split}
use Rattle.std.proofs.lemmas.Result.{IfOk-weaker}
use Rattle.std.specs.List.{AllByRecursion}
use Rattle.tokens.proofs.Cuts.{some, parts_are}
use Rattle.tokens.proofs.Laws.{all_proper, come_back}
use Rattle.tokens.proofs.words.words.Goals as goal
use Rattle.tokens.specs.Words.{blank, words_after, words_of, bytes, Proper}
use borrow.Author.Tests.{tests}

-- what the chain gives
cut : (c : goal.After-collect) → IfOk c.collect.result (λ v. bytes (vec_items v) ≡ words_of c.args.line.now)
cut c =
    IfOk-weaker c.collect.result _ _
    (λ v is. is ∙ parts_are c.before_comment.result.now ∙ ap (words_after []) c.before_comment.ensures)
    (map_from_collect c.collect.result c.collect.ensures.ran
    (YieldsList-from_filter _ some
    (YieldsList-from_slice_split _ blank c.before_comment.result.now (cc) (cc) (cc) (λ x b q k. search rules))
    (cc) (λ x b q k. search (rules, tests))))

pub returns : goal.returns
returns c = record {
  are = cut c;
  proper = IfOk-weaker c.collect.result _ _ (λ v is. subst (AllByRecursion Proper) (sym is) (all_proper c.args.line.now)) (cut c);
  back = IfOk-weaker c.collect.result _ _ (λ v is ws proper spaced. is ∙ come_back c.args.line.now ws proper spaced) (cut c);
}
