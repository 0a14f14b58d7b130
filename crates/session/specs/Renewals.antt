-- What reseating prepares before anything is changed. Assumes nothing.
use Rattle.std.specs.Prelude.{◌≡◌, ℕ, ◌⊎◌, List, Ok, Err, vec_items, Vec, Result}
use Rattle.std.specs.Global.{Global}
use Rattle.model.specs.Layouts.{Layout}
use Rattle.model.specs.declared.fault.DrawFault.TheVariants.{NoMemory}
use Rattle.theory.specs.Reseats.{reseats_to}
use Rattle.sources.specs.declared.filed.Filed.{Filed}
use Rattle.desk.specs.Drawings.{Drawing, drawing_of, begun}
use Rattle.session.specs.Desks.{Desk, filed, new_arrows, new_drawing, reseats}
use Rattle.session.specs.Said as said
use Rattle.session.specs.declared.answer.Refusal.{Refusal}
use Rattle.session.specs.declared.answer.Refusal.TheVariants.{Fault}
use Rattle.session.specs.declared.session.drawing.Renewal.{Renewal}

-- the filed arrows with the cells that reseating gives, these once more, and a fresh draw
pub record Renewed (p : Layout) (old : Filed (Vec ℕ Global)) (x : Drawing) (room : ℕ) (ports : List ℕ) (new : Renewal) : Type 0 where
  pub cells : reseats_to p x.held.draw old.listing.depth (vec_items old.ports) ports ≡ (Ok tt, vec_items new.filed.ports)
  pub same_listing : new.filed.listing ≡ old.listing
  pub shown : vec_items new.shown ≡ vec_items new.filed.ports
  pub fresh : drawing_of new.running ≡ begun p room

-- with what is prepared the desk is as it is after reseating; a refusal is what reseating answers, but that memory may lack
abbrev pub Renews : Desk → List ℕ → Result Renewal Refusal → Type 0
Renews d ports (Err e) = ((Err e, d) ≡ reseats d ports) ⊎ (e ≡ Fault NoMemory)
Renews d ports (Ok x) =
    (Ok (said.cells (vec_items x.shown)), new_drawing (new_arrows d (filed x.filed.listing.size x.filed.listing.root x.filed.listing.depth (vec_items x.filed.ports))) (drawing_of x.running)) ≡ reseats d ports
