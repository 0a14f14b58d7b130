-- What `first` and `lowest` find. Assumes nothing.
use Rattle.std.proofs.Common.{◌≡◌, ℕ, zero, suc, ◌<◌, Bool, true, false, cond, Some, None, Option, sym, refl, ap, subst, ⊎_elim, arith, MatchOption}
use Rattle.std.specs.Option.{option_or}
use Rattle.std.proofs.lemmas.Option.{cond_some}
use Rattle.std.proofs.lemmas.Bool.{both_ways, cases_lt, cases_order}
use Rattle.model.specs.Picks.{first, lowest}
use Rattle.model.proofs.Ways.{none_some}

module _ {A : Type 0} (g : ℕ → Option A) where
  abbrev pub NoAnswer : ℕ → Type 0
  NoAnswer n = (u : ℕ) → u < n → g u ≡ None

  -- x is the answer at v, which is below n, and nothing lower has one
  pub record IsFirst (n : ℕ) (x : A) : Type 0 where
    pub at : ℕ
    pub within : at < n
    pub answer : g at ≡ Some x
    pub lower : NoAnswer at

  abbrev Told : ℕ → Option A → Type 0
  Told n o = MatchOption o (NoAnswer n) (λ x. IsFirst n x)

  told_more : (n : ℕ) (o : Option A) → Told n o → Told (suc n) (option_or o (g n))
  told_more n None none = last (g n) refl
    where
      last : (o : Option A) → g n ≡ o → Told (suc n) o
      last (Some x) is = record { at = n; within = omega arith; answer = is; lower = none }
      last None is = λ u below. ⊎_elim (none u) (λ above. let same : n ≡ u = omega arith in subst (λ x. g x ≡ None) same is) (cases_lt u n)
  told_more n (Some x) found = record { at = found.at; within = omega (arith, found.within); answer = found.answer; lower = found.lower }

  -- the first answer, or the fact that there is none
  pub first_tells : (n : ℕ) → MatchOption (first g n) (NoAnswer n) (λ x. IsFirst n x)
  first_tells zero = λ u below. absurd (omega arith)
  first_tells (suc n) = told_more n (first g n) (first_tells n)

module _ (test : ℕ → Bool) where
  abbrev pub NoneBelow : ℕ → Type 0
  NoneBelow n = (u : ℕ) → u < n → test u ≡ false

  -- v is below n and passes, and nothing lower does
  pub record IsLowest (n v : ℕ) : Type 0 where
    pub within : v < n
    pub passes : test v ≡ true
    pub lower : NoneBelow v

  abbrev answer : ℕ → Option ℕ
  answer v = cond (test v) (Some v) None

  fails : (u : ℕ) → answer u ≡ None → test u ≡ false
  fails u = by (test u)
    where
      by : (b : Bool) → cond b (Some u) None ≡ None → b ≡ false
      by true is = absurd (none_some (Some u) u is refl)
      by false is = refl

  -- the lowest number that passes, or the fact that none does
  pub lowest_tells : (n : ℕ) → MatchOption (lowest test n) (NoneBelow n) (λ v. IsLowest n v)
  lowest_tells n = by (lowest test n) (first_tells answer n)
    where
      by : (o : Option ℕ) → MatchOption o (NoAnswer answer n) (λ x. IsFirst answer n x) → MatchOption o (NoneBelow n) (λ v. IsLowest n v)
      by None none = λ u below. fails u (none u below)
      by (Some v) found =
          let (passed, same) = cond_some (test found.at) found.at v found.answer in
          record {
            within = subst (λ x. x < n) same found.within;
            passes = subst (λ x. test x ≡ true) same passed;
            lower = λ u below. fails u (found.lower u (subst (λ x. u < x) (sym same) below));
          }

  -- only the lowest number that passes is found
  pub lowest_is : (n v : ℕ) → IsLowest n v → lowest test n ≡ Some v
  lowest_is n v low = by (lowest test n) (lowest_tells n)
    where
      by : (o : Option ℕ) → MatchOption o (NoneBelow n) (λ w. IsLowest n w) → o ≡ Some v
      by None none = absurd (both_ways (test v) (none v low.within) low.passes)
      by (Some w) found =
          ⊎_elim
          (λ same. ap Some same)
          (⊎_elim (λ under. absurd (both_ways (test w) (low.lower w under) found.passes)) (λ over. absurd (both_ways (test v) (found.lower v over) low.passes)))
          (cases_order w v)

  -- where none passes, none is found
  pub lowest_none : (n : ℕ) → NoneBelow n → lowest test n ≡ None
  lowest_none n none = by (lowest test n) (lowest_tells n)
    where
      by : (o : Option ℕ) → MatchOption o (NoneBelow n) (λ w. IsLowest n w) → o ≡ None
      by None _ = refl
      by (Some w) found = absurd (both_ways (test w) (none w found.within) found.passes)
