-- What an answer says. Assumes nothing.
use Rattle.std.specs.Prelude.{ℕ, List, Ok, Err, vec_items, Result}
use Rattle.commands.specs.declared.scope.Scope.{Scope}
use Rattle.model.specs.declared.draw.Pop.{Pop}
use Rattle.model.specs.declared.draw.Stop.{Stop}
use Rattle.model.specs.declared.draw.Tried.{Tried}
use Rattle.model.specs.declared.tree.TreeCheck.{TreeCheck}
use Rattle.session.specs.declared.answer.Answer.{Answer}
use Rattle.session.specs.declared.answer.Answer.TheVariants as answer
use Rattle.session.specs.declared.answer.Refusal.{Refusal}

-- the answers, with their lists as lists
pub data Said : Type 0 where
  silent : Said
  complete : (size root : ℕ) → Said
  checked : TreeCheck → Said
  filed : (depth : ℕ) → Said
  seeded : (seed depth : ℕ) → Said
  begun : (size root : ℕ) → Said
  tried : Tried → Said
  ran : (tries : ℕ) (stop : Stop) → Said
  heights : List ℕ → Said
  open_vertices : List ℕ → Said
  records : List Pop → Said
  tree : List ℕ → Said
  cells : List ℕ → Said
  commands : (scope : Scope) → Said

abbrev pub said : Answer → Said
said answer.Silent = silent
said (answer.Complete n r) = complete n r
said (answer.Checked t) = checked t
said (answer.Filed d) = filed d
said (answer.Seeded s d) = seeded s d
said (answer.Opened n r) = begun n r
said (answer.Tried t) = tried t
said (answer.Ran k why) = ran k why
said (answer.Heights v) = heights (vec_items v)
said (answer.Open v) = open_vertices (vec_items v)
said (answer.Records v) = records (vec_items v)
said (answer.Tree v) = tree (vec_items v)
said (answer.Cells v) = cells (vec_items v)
said (answer.Commands scope) = commands scope

-- the same of an answer or a refusal
abbrev pub said_so : Result Answer Refusal → Result Said Refusal
said_so (Ok a) = Ok (said a)
said_so (Err e) = Err e
