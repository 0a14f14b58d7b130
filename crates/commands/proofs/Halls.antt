-- A sheet of halls holds no command but those on halls. Assumes nothing.
use Rattle.std.proofs.Common.{◌≡◌, Bool, true, false, cond, List, [], ◌∷◌, ℕ, None, Some, Ok, Err, codes, Option, Result, refl}
use Rattle.std.specs.Str.{bytes_eq}
use Rattle.commands.specs.Args.{and_then, pair_of, two_of, list_of, port_of}
use Rattle.commands.specs.Commands.{Asked, complete, table, link, check, help, asks_halls, hall_keyword, sized_of, link_of, alone_of, further_of, command_of}
use Rattle.commands.specs.declared.command.Mistake.{Mistake}
use Rattle.commands.specs.declared.keyword.Keyword.{Keyword}
use Rattle.commands.specs.declared.keyword.Keyword.TheVariants as keyword
use Rattle.commands.specs.declared.scope.Scope.{Scope}
use Rattle.commands.specs.declared.scope.Scope.TheVariants.{Halls}

-- a mistake on the way stays one
then_halls : {A : Type 0} (r : Result A Mistake) (f : A → Result Asked Mistake) → ((x : A) → asks_halls (f x) ≡ true) → asks_halls (and_then r f) ≡ true
then_halls (Ok x) f all = all x
then_halls (Err m) f all = refl

link_halls : (ws : List (List ℕ)) → asks_halls (link_of ws) ≡ true
link_halls ws =
    then_halls (two_of ws) (λ words. and_then (pair_of words.0 words.1) (λ ends. Ok (link ends.0 ends.1)))
    (λ words. then_halls (pair_of words.0 words.1) (λ ends. Ok (link ends.0 ends.1)) (λ ends. refl))

help_halls : (scope : Scope) (ws : List (List ℕ)) → asks_halls (alone_of (help scope) ws) ≡ true
help_halls scope [] = refl
help_halls scope (w ∷ ws) = refl

-- by the first word: it is this name, or one of the rest
named : (t : Bool) (k : Keyword) (rest : Option Keyword) (ws : List (List ℕ)) → asks_halls (further_of Halls (Some k) ws) ≡ true → asks_halls (further_of Halls rest ws) ≡ true
    → asks_halls (further_of Halls (cond t (Some k) rest) ws) ≡ true
named true k rest ws here there = here
named false k rest ws here there = there

module _ (w : List ℕ) where
  abbrev help_or : Option Keyword
  help_or = cond (bytes_eq w (codes "help")) (Some keyword.Help) None

  abbrev check_or : Option Keyword
  check_or = cond (bytes_eq w (codes "check")) (Some keyword.Check) help_or

  abbrev link_or : Option Keyword
  link_or = cond (bytes_eq w (codes "link")) (Some keyword.Link) check_or

  abbrev table_or : Option Keyword
  table_or = cond (bytes_eq w (codes "table")) (Some keyword.Table) link_or

  by_name : (ws : List (List ℕ)) → asks_halls (further_of Halls (hall_keyword w) ws) ≡ true
  by_name ws =
      named (bytes_eq w (codes "complete")) keyword.Complete table_or ws (then_halls (sized_of ws) (λ plan. Ok (complete plan.0 plan.1)) (λ plan. refl))
      (named (bytes_eq w (codes "table")) keyword.Table link_or ws (then_halls (sized_of ws) (λ plan. Ok (table plan.0 plan.1)) (λ plan. refl))
      (named (bytes_eq w (codes "link")) keyword.Link check_or ws (link_halls ws)
      (named (bytes_eq w (codes "check")) keyword.Check help_or ws (then_halls (list_of port_of ws) (λ ports. Ok (check ports)) (λ ports. refl))
      (named (bytes_eq w (codes "help")) keyword.Help None ws (help_halls Halls ws) refl))))

pub halls_ask : (ws : List (List ℕ)) → asks_halls (command_of Halls ws) ≡ true
halls_ask [] = refl
halls_ask (w ∷ ws) = by_name w ws
