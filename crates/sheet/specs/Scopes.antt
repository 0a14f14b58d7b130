-- What a sheet of each scope may have in hand. Assumes nothing.
use Rattle.std.specs.Prelude.{Bool, true}
use Rattle.commands.specs.declared.scope.Scope.{Scope}
use Rattle.commands.specs.declared.scope.Scope.TheVariants.{Halls, Draws}
use Rattle.session.specs.Desks.{Desk, has_hall_alone}

-- a sheet of halls has a hall alone, and one of draws anything
abbrev pub within : Scope → Desk → Bool
within Halls d = has_hall_alone d
within Draws d = true
