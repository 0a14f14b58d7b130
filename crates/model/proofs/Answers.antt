-- What is not refused has no fault. Assumes nothing.
use Rattle.std.proofs.Common.{◌≡◌, Some, None, Ok, Option, Result, refl}
use Rattle.model.specs.Answers.{answered}

pub no_fault : {A E : Type 0} (fault : Option E) (x y : A) → ◌≡◌ {A = Result A E} (Ok y) (answered fault x) → fault ≡ None
no_fault None x y is = refl
no_fault (Some e) x y is = absurd (cc)
