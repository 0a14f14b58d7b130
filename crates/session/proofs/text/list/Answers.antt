use Rattle.std.proofs.Common.{[], ◌++◌, codes, get_or, take, refl}
use Rattle.std.proofs.Output.{has_written_append, has_written_of_eq}
use Rattle.std.proofs.lemmas.List.{flat_map_more, take_all, take_more}
use Rattle.session.proofs.text.list.Goals as goal

pub loop-x-preserved : goal.loop-x-preserved
loop-x-preserved g c text is plain =
    let xs = c.args.numbers.now in
    let i = c.loop-x.x-index in
    let out = is _ _ c.shown.ensures in
    let so_far = c.loop-x.invariant text is plain in
    let one = rw out at c.in_ok-write.ensures.writes in
    has_written_of_eq _ _ _ _ _
    (rw (take_more xs i 0 c.loop-x-test.true) (flat_map_more (λ x. codes " " ++ text x) [] (take i xs) (get_or xs i 0)))
    (has_written_append _ _ _ _ _ _ so_far (one so_far.plain refl))

pub returns : goal.returns
returns g c text is plain ok =
    let word = c.in_ok-write_str.ensures.writes plain refl in
    let so_far = c.loop-x.invariant text is word.plain in
    let end = c.write_str-2.ensures.writes so_far.plain ok in
    let whole = has_written_append _ _ _ _ _ _ word (has_written_append _ _ _ _ _ _ so_far end) in
    has_written_of_eq _ _ _ _ _ (rw (take_all c.loop-x.x-index c.args.numbers.now c.loop-x-test.false) refl) whole
