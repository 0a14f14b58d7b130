-- What making a plan answers. Assumes nothing.
use Rattle.std.specs.Prelude.{◌≡◌, ◌⊎◌, None, Err, Option, Result}
use Rattle.model.specs.Answers.{answered}
use Rattle.model.specs.declared.fault.DrawFault.{DrawFault}
use Rattle.model.specs.declared.fault.DrawFault.TheVariants.{NoMemory}
use Rattle.std.specs.Result.{result_map_both}

-- the answer with the value that was made seen as f shows it
abbrev pub made_as : {A B E : Type 0} → (A → B) → Result A E → Result B E
made_as f r = result_map_both f (λ e. e) r

-- the value unless there is a fault; or, where there is none, that memory could not be had
abbrev pub MadeOrNoMemory : {A : Type 0} → Option DrawFault → A → Result A DrawFault → Type 0
MadeOrNoMemory fault x r = (r ≡ answered fault x) ⊎ ((fault ≡ None) × (r ≡ Err NoMemory))
