-- A plan of either kind. Assumes nothing.
use Rattle.model.specs.Layouts.{Layout, Sound}
use Rattle.plans.specs.Cablings.{cabled}
use Rattle.plans.specs.Completes.{complete}
use Rattle.plans.specs.Soundness.{complete_sound, table_sound}
use Rattle.plans.specs.Tables.{cabling_of}
use Rattle.plans.specs.declared.any.AnyPlan.{AnyPlan}
use Rattle.plans.specs.declared.any.AnyPlan.TheVariants.{Complete, Table}

-- the layout of the plan that it is
abbrev pub any_layout : AnyPlan → Layout
any_layout (Complete p) = complete p.size p.root
any_layout (Table t) = cabled (cabling_of t)

-- a plan of either kind keeps the limits of plans
pub any_sound : (p : AnyPlan) → Sound (any_layout p)
any_sound (Complete p) = complete_sound p.size p.root p.least p.most p.rooted
any_sound (Table t) = table_sound t
