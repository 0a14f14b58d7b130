-- The law of the tree check: each answer comes exactly where it is right. Assumes nothing.
use Rattle.std.proofs.Common.{◌≡◌, ℕ, ◌<◌, ◌≤◌, Bool, true, false, cond, not, eqb, ltb, List, length, get_or, Some, None, Ok, Err, Option, refl, subst, ⊎_elim, arith, MatchOption}
use Rattle.std.proofs.lemmas.Bool.{eq-eqb, ltb-true, ltb-false, not-true, not-false, both_ways, cond-true, cases_lt, cases_order}
use Rattle.model.specs.Layouts.{Layout, Sound, is_root}
use Rattle.model.specs.Trees.{follow, comes_to, lowest_lost, verdict, tree_check, Reaches, IsTree, IsLost, TreeLaw}
use Rattle.model.specs.declared.fault.DrawFault.TheVariants.{Short}
use Rattle.model.specs.declared.tree.TreeCheck.TheVariants.{Tree, Lost}
use Rattle.model.proofs.Lowest.{IsLowest, NoneBelow, lowest_tells}
use Rattle.model.proofs.Reaching.{leads, comes}
use Rattle.model.proofs.Ways.{none_some, same_some}

pub target_below : (p : Layout) → Sound p → (v i w : ℕ) → p.target v i ≡ Some w → w < p.size
target_below p sound v i w is = ⊎_elim
    (λ lt. let (x, some, below) = sound.target_some v i lt in subst (λ y. y < p.size) (same_some (p.target v i) x w some is) below)
    (λ ge. absurd (none_some (p.target v i) w (sound.target_none v i ge) is))
    (cases_lt i (p.degree v))

module _ (p : Layout) (sound : Sound p) (ports : List ℕ) where
  -- the root's entry leads nowhere
  pub root_ends : follow p ports p.root ≡ None
  root_ends = cond-true (eqb p.root p.root) None _ (eq-eqb p.root p.root refl)

  pub follow_below : (v w : ℕ) → follow p ports v ≡ Some w → w < p.size
  follow_below v w is = by (eqb v p.root) is
    where
      by : (b : Bool) → cond b None (p.target v (get_or ports v 0)) ≡ Some w → w < p.size
      by true some = absurd (none_some None w refl some)
      by false some = target_below p sound v (get_or ports v 0) w some

  -- only vertices of the plan lead on
  pub follow_from : (v w : ℕ) → follow p ports v ≡ Some w → v < p.size
  follow_from v w is = by (is_root p v) is
    where
      by : (b : Bool) → cond b None (p.target v (get_or ports v 0)) ≡ Some w → v < p.size
      by true some = absurd (none_some None w refl some)
      by false some = ⊎_elim (λ lt. lt) (λ ge. absurd (none_some _ w (sound.target_none v (get_or ports v 0) (let none : p.degree v ≡ 0 = sound.degree_none v ge in omega arith)) some)) (cases_lt v p.size)

  abbrev lost : ℕ → Bool
  lost v = not (comes_to (follow p ports) p.root p.size v)

  not_lost : (v : ℕ) → lost v ≡ false → Reaches p ports v
  not_lost v passed = leads (follow p ports) p.root p.size v (not-false _ passed)

  is_lost : (v : ℕ) → v < p.size → lost v ≡ true → Reaches p ports v → ⊥
  is_lost v within failed reaches = both_ways _ (not-true _ failed) (comes (follow p ports) p.root p.size follow_below root_ends v within reaches)

  one_lost : (u v : ℕ) → IsLost p ports u → IsLost p ports v → u ≡ v
  one_lost u v a b = ⊎_elim (λ same. same) (λ apart. absurd (⊎_elim (λ lt. a.no_way (b.lower_reach u lt)) (λ gt. b.no_way (a.lower_reach v gt)) apart)) (cases_order u v)

  law_short : length ports < p.size → TreeLaw p ports (Err Short)
  law_short few = record {
    yes = λ e. absurd (cc);
    only_yes = λ t. absurd (omega (arith, t.enough));
    named = λ v e. absurd (cc);
    only_named = λ v l. absurd (omega (arith, l.enough));
    short = λ e is. (few, cc);
    only_short = λ _. refl;
  }

  law_tree : IsTree p ports → TreeLaw p ports (Ok Tree)
  law_tree t = record {
    yes = λ _. t;
    only_yes = λ _. refl;
    named = λ v e. absurd (cc);
    only_named = λ v l. absurd (l.no_way (t.all_reach v l.within));
    short = λ e is. absurd (cc);
    only_short = λ few. absurd (omega (arith, t.enough));
  }

  law_lost : (v : ℕ) → IsLost p ports v → TreeLaw p ports (Ok (Lost v))
  law_lost v l = record {
    yes = λ e. absurd (cc);
    only_yes = λ t. absurd (l.no_way (t.all_reach v l.within));
    named = λ u e. subst (IsLost p ports) {x = v} {y = u} (cc) l;
    only_named = λ u m. let e : v ≡ u = one_lost v u l m in cc;
    short = λ e is. absurd (cc);
    only_short = λ few. absurd (omega (arith, l.enough));
  }

  law_verdict : p.size ≤ length ports → (o : Option ℕ) → MatchOption o (NoneBelow lost p.size) (λ v. IsLowest lost p.size v) → TreeLaw p ports (Ok (verdict o))
  law_verdict enough None none = law_tree (record { enough = enough; all_reach = λ v within. not_lost v (none v within) })
  law_verdict enough (Some v) found = law_lost v (record {
    enough = enough;
    within = found.within;
    no_way = is_lost v found.within found.passes;
    lower_reach = λ u lower. not_lost u (found.lower u lower);
  })

  pub tree_law : TreeLaw p ports (tree_check p ports)
  tree_law = by (ltb (length ports) p.size) refl
    where
      by : (b : Bool) → ltb (length ports) p.size ≡ b → TreeLaw p ports (cond b (Err Short) (Ok (verdict (lowest_lost p ports))))
      by true few = law_short (ltb-true _ _ few)
      by false enough = law_verdict (ltb-false _ _ enough) (lowest_lost p ports) (lowest_tells lost p.size)
