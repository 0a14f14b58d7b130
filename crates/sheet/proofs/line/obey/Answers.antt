use Rattle.std.proofs.Common.{◌≡◌, ℕ, IfOk, Ok, Err, Option, Result, ap, subst, MatchResult}
use Rattle.commands.specs.Answers.{asked}
use Rattle.commands.specs.Commands.{Asked}
use Rattle.session.specs.Desks.{Desk, desk_of, before, Takes}
use Rattle.session.specs.Said.{Said}
use Rattle.session.specs.declared.answer.Due.{Due}
use Rattle.session.specs.declared.answer.Refusal.{Refusal}
use Rattle.sheet.specs.Lines.{shown, reply_of, Obeyed}
use Rattle.sheet.proofs.line.obey.Goals as goal

-- what holds of the reply holds of some reply where it could not be worded
worded_or_not : {X Y Z : Type 0} (r : Result X Y) (view : X → Z) (x : Z) (P : Z → Type 0) → IfOk r (λ a. view a ≡ x) → P x → MatchResult r (λ a. P (view a)) (λ _. (z : Z) × P z)
worded_or_not (Ok a) view x P is holds = rw is holds
worded_or_not (Err e) view x P is holds = (x, holds)

-- first what is due, then the command
obeyed : (d d1 after : Desk) (i : ℕ) (c : Asked) (due : Option Due) (r : Result Said Refusal) → (due, d1) ≡ before c d → Takes d1 i c r after → Obeyed d i c (reply_of i due r) after
obeyed d d1 after i c due r first takes = record {
  result = r;
  takes = subst (λ x. Takes x i c r after) (ap (λ x. x.1) first) takes;
  replies = ap (λ x. reply_of i x.0 r) first;
}

pub returns : goal.returns
returns c =
    worded_or_not c.worded.result shown _
    (λ reply. Obeyed (desk_of c.args.session.now) c.args.number (asked c.args.command) reply (desk_of c.take-answer.new.self))
    c.worded.ensures
    (obeyed _ _ _ _ _ _ _ c.before-due.ensures c.take-answer.ensures)
