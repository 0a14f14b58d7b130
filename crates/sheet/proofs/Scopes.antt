-- A sheet of halls never has more than a hall in hand. Assumes nothing.
use Rattle.std.proofs.Common.{◌≡◌, ℕ, true, List, [], ◌∷◌, Ok, Err, Result, refl, ap, ◌∙◌, inl, inr, MatchResult}
use Rattle.commands.proofs.Halls.{halls_ask}
use Rattle.commands.specs.Commands.{Asked, asks_halls}
use Rattle.commands.specs.declared.command.Mistake.{Mistake}
use Rattle.commands.specs.declared.scope.Scope.{Scope}
use Rattle.commands.specs.declared.scope.Scope.TheVariants.{Halls, Draws}
use Rattle.session.proofs.Halls.{closes_alone, before_alone, takes_alone}
use Rattle.session.specs.Desks.{Desk, has_hall_alone, closes, before}
use Rattle.sheet.specs.Lines.{shown, Answered, ByWords, Replied, Untold}
use Rattle.sheet.specs.Scopes.{within}
use Rattle.sheet.specs.declared.line.Outcome.{Outcome}
use Rattle.sheet.specs.declared.line.Reply.{Reply}
use Rattle.tokens.specs.Words.{words_of}

answered_alone : (r : Result Asked Mistake) (d after : Desk) (i : ℕ) (reply : List ℕ × Outcome) → asks_halls r ≡ true → has_hall_alone d ≡ true → Answered d i r reply after → has_hall_alone after ≡ true
answered_alone (Ok c) d after i reply on alone obeyed = takes_alone c (before c d).1 after i obeyed.result on (before_alone c d alone) obeyed.takes
answered_alone (Err m) d after i reply on alone (is, same) = ap has_hall_alone same ∙ alone

words_alone : (ws : List (List ℕ)) (d after : Desk) (i : ℕ) (reply : List ℕ × Outcome) → has_hall_alone d ≡ true → ByWords Halls d i ws reply after → has_hall_alone after ≡ true
words_alone [] d after i reply alone (is, same) = ap has_hall_alone same ∙ alone
words_alone (w ∷ ws) d after i reply alone answered = answered_alone _ d after i reply (halls_ask (w ∷ ws)) alone answered

replied_within : (scope : Scope) (d after : Desk) (i : ℕ) (line : List ℕ) (reply : List ℕ × Outcome) → within scope d ≡ true → Replied scope d i line reply after → within scope after ≡ true
replied_within Halls d after i line reply is replied = words_alone (words_of line) d after i reply is replied
replied_within Draws d after i line reply is replied = refl

untold_within : (scope : Scope) (d after : Desk) (i : ℕ) (line : List ℕ) → within scope d ≡ true → Untold scope d i line after → within scope after ≡ true
untold_within scope d after i line is (inl same) = ap (within scope) same ∙ is
untold_within scope d after i line is (inr (reply, replied)) = replied_within scope d after i line reply is replied

-- whether its reply could be worded or not
pub line_within : {E : Type 0} (scope : Scope) (d after : Desk) (i : ℕ) (line : List ℕ) (r : Result Reply E) → MatchResult r (λ a. Replied scope d i line (shown a) after) (λ _. Untold scope d i line after) → within scope d ≡ true → within scope after ≡ true
line_within scope d after i line (Ok a) replied is = replied_within scope d after i line (shown a) is replied
line_within scope d after i line (Err e) untold is = untold_within scope d after i line is untold

pub closes_within : (scope : Scope) (d : Desk) → within scope d ≡ true → within scope (closes d).1 ≡ true
closes_within Halls d is = closes_alone d is
closes_within Draws d is = refl
