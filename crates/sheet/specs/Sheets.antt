-- A sheet under way, line by line. Assumes nothing.
use Rattle.std.specs.Prelude.{◌≡◌, ℕ, ◌+◌, ◌-◌, ◌^◌, min, Bool, true, false, not, List}
use Rattle.commands.specs.declared.scope.Scope.{Scope}
use Rattle.session.specs.Desks.{Desk, bare, desk_of, closes}
use Rattle.sheet.specs.Lines.{worse, due_lines, due_outcome, Replied, Untold}
use Rattle.sheet.specs.declared.line.Outcome.{Outcome}
use Rattle.sheet.specs.declared.line.Outcome.TheVariants.{Fine, Refused, Bad}
use Rattle.sheet.specs.declared.whole.Sheet.{Sheet}

-- the scope of the sheet, the desk, how many lines there were, and how the worst of them went
pub record Progress : Type 0 where
  pub scope : Scope
  pub desk : Desk
  pub lines : ℕ
  pub worst : Outcome

abbrev pub sheet_of : Sheet → Progress
sheet_of s = record { scope = s.scope; desk = desk_of s.session; lines = s.lines; worst = s.worst }

abbrev pub fresh : Scope → Progress
fresh scope = record { scope = scope; desk = bare; lines = 0; worst = Fine }

-- the number of the next line: lines are counted from 1, up to the largest number that there is
abbrev pub next_number : Progress → ℕ
next_number x = min (x.lines + 1) (2 ^ 64 - 1)

-- the next line is done under its number, with this text; it is counted, and the worst outcome is kept
pub record Took (x : Progress) (line text : List ℕ) (y : Progress) : Type 0 where
  pub outcome : Outcome
  pub replied : Replied x.scope x.desk (next_number x) line (text, outcome) y.desk
  pub counted : y.lines ≡ next_number x
  pub kept : y.worst ≡ worse x.worst outcome
  pub same_scope : y.scope ≡ x.scope

-- there was no memory for the next line's text
pub record Lost (x : Progress) (line : List ℕ) (y : Progress) : Type 0 where
  pub untold : Untold x.scope x.desk (next_number x) line y.desk
  pub counted : y.lines ≡ next_number x
  pub same : y.worst ≡ x.worst
  pub same_scope : y.scope ≡ x.scope

-- what is due when there are no more lines, and what is left then; the worst outcome is kept
abbrev pub last_text : Progress → List ℕ
last_text x = due_lines (closes x.desk).0

abbrev pub closed : Progress → Progress
closed x = record { scope = x.scope; desk = (closes x.desk).1; lines = x.lines; worst = worse x.worst (due_outcome (closes x.desk).0) }

-- whether an outcome is good: a bad line never is, and a refusal is unless we are strict
abbrev pub is_good : Bool → Outcome → Bool
is_good strict Fine = true
is_good strict Refused = not strict
is_good strict Bad = false

-- whether every line went well
abbrev pub went_well : Bool → Progress → Bool
went_well strict x = is_good strict x.worst
