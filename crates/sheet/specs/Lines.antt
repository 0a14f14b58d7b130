-- What a line of a sheet does and writes. Assumes nothing.
use Rattle.std.specs.Prelude.{◌≡◌, ℕ, ◌⊎◌, List, [], ◌∷◌, ◌++◌, Some, None, Ok, Err, codes, string_bytes, Option, Result}
use Rattle.tokens.specs.Words.{words_of}
use Rattle.commands.specs.Commands.{Asked, command_of}
use Rattle.commands.specs.Told.{told}
use Rattle.commands.specs.declared.command.Mistake.{Mistake}
use Rattle.commands.specs.declared.scope.Scope.{Scope}
use Rattle.model.specs.Words.{fault_words}
use Rattle.model.specs.declared.fault.DrawFault.{DrawFault}
use Rattle.session.specs.Desks.{Desk, before, Takes}
use Rattle.session.specs.Said.{Said}
use Rattle.session.specs.declared.answer.Due.{Due}
use Rattle.session.specs.declared.answer.Due.TheVariants.{Table, FewCells}
use Rattle.session.specs.declared.answer.Refusal.{Refusal}
use Rattle.session.specs.declared.answer.Refusal.TheVariants.{Misplaced, Fault}
use Rattle.session.specs.Texts.{answer_text, line_text, misplaced_word, due_text}
use Rattle.sheet.specs.declared.line.Outcome.{Outcome}
use Rattle.sheet.specs.declared.line.Outcome.TheVariants.{Fine, Refused, Bad}
use Rattle.sheet.specs.declared.line.Reply.{Reply}

-- the text of a reply, and how the line went
abbrev pub shown : Reply → List ℕ × Outcome
shown a = (string_bytes a.text, a.outcome)

-- of two outcomes the worse: a bad line is worse than a refusal
abbrev pub worse : Outcome → Outcome → Outcome
worse Fine o = o
worse Refused Fine = Refused
worse Refused Refused = Refused
worse Refused Bad = Bad
worse Bad o = Bad

-- what is due, if something is
abbrev pub due_lines : Option Due → List ℕ
due_lines None = []
due_lines (Some due) = due_text due

-- how that went: filed arrows that lack cells are bad
abbrev pub due_outcome : Option Due → Outcome
due_outcome None = Fine
due_outcome (Some (Table n r l)) = Fine
due_outcome (Some (FewCells i)) = Bad

-- a refusal by the library, by its fault
abbrev pub refused_text : DrawFault → List ℕ
refused_text e = codes "refused " ++ (fault_words e ++ codes "\n")

-- what the command at line i is answered with
abbrev pub answered_text : ℕ → Result Said Refusal → List ℕ
answered_text i (Ok a) = answer_text a
answered_text i (Err (Misplaced m)) = line_text i (misplaced_word m)
answered_text i (Err (Fault e)) = refused_text e

-- how it went, by its answer
abbrev pub answer_outcome : Result Said Refusal → Outcome
answer_outcome (Ok a) = Fine
answer_outcome (Err (Misplaced m)) = Bad
answer_outcome (Err (Fault e)) = Refused

-- what line i writes, and how it went: first what is due, then the answer
abbrev pub reply_of : ℕ → Option Due → Result Said Refusal → List ℕ × Outcome
reply_of i due result = (due_lines due ++ answered_text i result, worse (due_outcome due) (answer_outcome result))

-- the command c at line i is done: first what is due, then what it does
pub record Obeyed (d : Desk) (i : ℕ) (c : Asked) (reply : List ℕ × Outcome) (after : Desk) : Type 0 where
  pub result : Result Said Refusal
  pub takes : Takes (before c d).1 i c result after
  pub replies : reply ≡ reply_of i (before c d).0 result

-- the command is done, whether its reply could be worded or not
abbrev pub SomeObeyed : Desk → ℕ → Asked → Desk → Type 0
SomeObeyed d i c after = (reply : List ℕ × Outcome) × Obeyed d i c reply after

-- the words ask for a command, which is done, or hold a mistake, which is told and changes nothing
abbrev pub Answered : Desk → ℕ → Result Asked Mistake → List ℕ × Outcome → Desk → Type 0
Answered d i (Ok c) reply after = Obeyed d i c reply after
Answered d i (Err m) reply after = (reply ≡ (line_text i (told m), Bad)) × (after ≡ d)

-- a line without words is passed over; the commands are those of the sheet's scope
abbrev pub ByWords : Scope → Desk → ℕ → List (List ℕ) → List ℕ × Outcome → Desk → Type 0
ByWords scope d i [] reply after = (reply ≡ ([], Fine)) × (after ≡ d)
ByWords scope d i (w ∷ ws) reply after = Answered d i (command_of scope (w ∷ ws)) reply after

-- what line i, of these bytes, does and writes
abbrev pub Replied : Scope → Desk → ℕ → List ℕ → List ℕ × Outcome → Desk → Type 0
Replied scope d i line reply after = ByWords scope d i (words_of line) reply after

-- there was no memory for the reply: the line was not done, or it was
abbrev pub Untold : Scope → Desk → ℕ → List ℕ → Desk → Type 0
Untold scope d i line after = (after ≡ d) ⊎ ((reply : List ℕ × Outcome) × Replied scope d i line reply after)
