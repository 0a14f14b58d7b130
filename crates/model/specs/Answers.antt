-- What a call that may be refused answers. Assumes nothing.
use Rattle.std.specs.Prelude.{Some, None, Ok, Err, Option, Result}

-- the value, unless there is a fault
abbrev pub answered : {A E : Type 0} → Option E → A → Result A E
answered None x = Ok x
answered (Some e) x = Err e
