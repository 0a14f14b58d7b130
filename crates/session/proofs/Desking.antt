-- What commands do where what they need is there. Assumes nothing.
use Rattle.std.proofs.Common.{◌≡◌, ℕ, ◌⊎◌, List, Some, Ok, Err, vec_items, Vec, Result, sym, refl, ap, ◌∙◌, subst, inl, inr}
use Rattle.std.specs.Option.{option_map}
use Rattle.std.specs.declared.alloc.Global.{Global}
use Rattle.model.specs.Layouts.{Layout}
use Rattle.model.specs.declared.fault.DrawFault.{DrawFault}
use Rattle.model.specs.declared.fault.DrawFault.TheVariants.{NoMemory}
use Rattle.theory.specs.Ends.{if_some}
use Rattle.theory.specs.Reseats.{reseats_to}
use Rattle.plans.specs.Anys.{any_layout}
use Rattle.plans.specs.declared.any.AnyPlan.{AnyPlan}
use Rattle.plans.specs.declared.any.AnyPlan.TheVariants as any
use Rattle.sources.specs.Anys.{any_cells}
use Rattle.sources.specs.declared.any.AnyArrows.{AnyArrows}
use Rattle.sources.specs.declared.any.AnyArrows.TheVariants as source
use Rattle.sources.specs.declared.filed.Filed.{Filed}
use Rattle.desk.specs.Drawings.{Drawing, drawing_of, begun, tree_shown}
use Rattle.desk.specs.declared.running.Running.{Running}
use Rattle.session.specs.Desks.{Planned, planned_of, place_of, Arrowed, arrowed_of, filed, desk_of, layout_of, cells_at, Done, misplaced_at, told, plan_at, with_draw, new_arrows, new_drawing, shows_tree, DoesOrNoMemory, reseated_desk, reseats_arrows, reseats}
use Rattle.session.specs.Renewals.{Renewed, Renews}
use Rattle.session.specs.Said as said
use Rattle.session.specs.Said.{Said}
use Rattle.session.specs.declared.answer.Misplaced.TheVariants as misplaced
use Rattle.session.specs.declared.answer.Refusal.{Refusal}
use Rattle.session.specs.declared.answer.Refusal.TheVariants as refusal
use Rattle.session.specs.declared.session.Session.{Session}
use Rattle.session.specs.declared.session.drawing.Renewal.{Renewal}

-- ---- what the code has is what the desk has

pub same_layout : (q : AnyPlan) → any_layout q ≡ layout_of (planned_of q)
same_layout (any.Complete p) = refl
same_layout (any.Table t) = refl

pub same_cells : (b : AnyArrows) → any_cells b ≡ cells_at (arrowed_of b)
same_cells (source.Filed f) = refl
same_cells (source.Seeded c) = refl

-- ---- with a session

module _ (s : Session) (q : AnyPlan) (b : AnyArrows) (x : Running) (is_q : plan_at (place_of s.hall) ≡ Some (planned_of q)) (is_b : s.arrows ≡ Some b) (is_x : s.running ≡ Some x) where
  drawn : (f : Planned → Arrowed → Drawing → Done) → with_draw (desk_of s) f ≡ f (planned_of q) (arrowed_of b) (drawing_of x)
  drawn f = λ i.
      let no = misplaced_at misplaced.NoDraw (desk_of s) in
      if_some (is_q i) no (λ p. if_some (option_map arrowed_of (is_b i)) no (λ a. if_some (option_map drawing_of (is_x i)) no (f p a)))

  pub tree_told : (r : Result (List ℕ) DrawFault) → tree_shown (any_layout q) (any_cells b) (drawing_of x) ≡ r → (told said.tree r, desk_of s) ≡ shows_tree (desk_of s)
  tree_told r is =
      ap (λ y. (told said.tree y, desk_of s)) (sym is)
      ∙ (λ i. (told said.tree (tree_shown (same_layout q i) (same_cells b i) (drawing_of x)), desk_of s))
      ∙ sym (drawn (λ p a y. (told said.tree (tree_shown (layout_of p) (cells_at a) y), desk_of s)))

  pub no_tree_told : (e : DrawFault) → (tree_shown (any_layout q) (any_cells b) (drawing_of x) ≡ Err e) ⊎ (e ≡ NoMemory) → (r : Result Said Refusal) → r ≡ Err (refusal.Fault e)
      → DoesOrNoMemory (desk_of s) (shows_tree (desk_of s)) r (desk_of s)
  no_tree_told e (inl is) r refused = inl (ap (λ y. (y, desk_of s)) refused ∙ tree_told (Err e) is)
  no_tree_told e (inr none) r refused = inr (refused ∙ ap (λ y. Err (refusal.Fault y)) none, refl)

  -- ---- reseating

  module _ (f : Filed (Vec ℕ Global)) (is_f : b ≡ source.Filed f) (ports : List ℕ) where
    abbrev pub given : Result (Unit {0}) DrawFault × List ℕ
    given = reseats_to (any_layout q) (drawing_of x).held.draw f.listing.depth (vec_items f.ports) ports

    as_given : reseated_desk (desk_of s) (planned_of q) f.listing.size f.listing.root f.listing.depth given ≡ reseats (desk_of s) ports
    as_given =
        ap (λ (l : Layout). reseated_desk (desk_of s) (planned_of q) f.listing.size f.listing.root f.listing.depth (reseats_to l (drawing_of x).held.draw f.listing.depth (vec_items f.ports) ports)) (same_layout q)
        ∙ ap (λ y. reseats_arrows (desk_of s) (planned_of q) (arrowed_of y) (drawing_of x) ports) (sym is_f)
        ∙ sym (drawn (λ p a y. reseats_arrows (desk_of s) p a y ports))

    pub renews : (new : Renewal) → Renewed (any_layout q) f (drawing_of x) s.room ports new → Renews (desk_of s) ports (Ok new)
    renews new ren =
        (λ i. (Ok (said.cells (ren.shown i)), new_drawing (new_arrows (desk_of s) (filed (ren.same_listing i).size (ren.same_listing i).root (ren.same_listing i).depth (vec_items new.filed.ports))) (fresh i)))
        ∙ ap (reseated_desk (desk_of s) (planned_of q) f.listing.size f.listing.root f.listing.depth) (sym ren.cells) ∙ as_given
      where
        fresh : drawing_of new.running ≡ begun (layout_of (planned_of q)) s.room
        fresh = ren.fresh ∙ ap (λ (l : Layout). begun l s.room) (same_layout q)

    at_fault : (e : DrawFault) → (given.0 ≡ Err e) ⊎ (e ≡ NoMemory) → Renews (desk_of s) ports (Err (refusal.Fault e))
    at_fault e (inl is) = inl (by given is ∙ as_given)
      where
        by : (x2 : Result (Unit {0}) DrawFault × List ℕ) → x2.0 ≡ Err e → (Err (refusal.Fault e), desk_of s) ≡ reseated_desk (desk_of s) (planned_of q) f.listing.size f.listing.root f.listing.depth x2
        by (Ok u, cells) never = cc
        by (Err e2, cells) same = let h : e ≡ e2 = cc in ap (λ (y : DrawFault). (Err (refusal.Fault y), desk_of s)) h
    at_fault e (inr none) = inr (ap (λ y. refusal.Fault y) none)

    pub renews_not : (e : DrawFault) → (given.0 ≡ Err e) ⊎ (e ≡ NoMemory) → (r : Result Renewal Refusal) → r ≡ Err (refusal.Fault e) → Renews (desk_of s) ports r
    renews_not e why r refused = subst (Renews (desk_of s) ports) (sym refused) (at_fault e why)
