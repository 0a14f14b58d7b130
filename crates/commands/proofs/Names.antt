-- Bytes that are no text name no command. Assumes nothing.
use Rattle.std.proofs.Common.{◌≡◌, ℕ, zero, suc, Bool, true, false, cond, ltb, List, [], ◌∷◌, arith, None, Some, Option, sym, refl, ap, ◌∙◌, subst}
use Rattle.std.proofs.lemmas.Slice.Eq.{bytes_eq-Decides}
use Rattle.std.specs.Option.{option_or}
use Rattle.std.proofs.lemmas.Bool.{and_parts, ltb-true}
use Rattle.std.proofs.lemmas.Str.{IsUtf8-from_ascii}
use Rattle.std.specs.List.{list_all}
use Rattle.std.specs.Str.{bytes_eq, IsUtf8, IsAscii}
use Rattle.commands.specs.Commands.{hall_keyword, draw_keyword, keyword_of}
use Rattle.commands.specs.declared.keyword.Keyword.{Keyword}
use Rattle.commands.specs.declared.scope.Scope.{Scope}
use Rattle.commands.specs.declared.scope.Scope.TheVariants.{Halls, Draws}

ascii : (text : List ℕ) → list_all (λ b. ltb b 128) text ≡ true → IsAscii text
ascii [] all i = omega arith
ascii (b ∷ text) all zero = ltb-true b 128 (and_parts (ltb b 128) (list_all (λ c. ltb c 128) text) all).0
ascii (b ∷ text) all (suc i) = ascii text (and_parts (ltb b 128) (list_all (λ c. ltb c 128) text) all).1 i

module _ (word : List ℕ) (bare : IsUtf8 word → ⊥) where
  other : (text : List ℕ) → IsUtf8 text → bytes_eq word text ≡ false
  other text utf8 = by (bytes_eq word text) refl
    where
      by : (t : Bool) → bytes_eq word text ≡ t → t ≡ false
      by true is = absurd (bare (subst IsUtf8 (sym ((bytes_eq-Decides word text).0 is)) utf8))
      by false is = refl

  -- they are not this text either
  nor : (text : List ℕ) (k : Keyword) (rest : Option Keyword) → list_all (λ b. ltb b 128) text ≡ true → None ≡ rest → None ≡ cond (bytes_eq word text) (Some k) rest
  nor text k rest all none = none ∙ ap (λ (t : Bool). cond t (Some k) rest) (sym (other text (IsUtf8-from_ascii text (ascii text all))))

  no_hall : None ≡ hall_keyword word
  no_hall = nor _ _ _ refl (nor _ _ _ refl (nor _ _ _ refl (nor _ _ _ refl (nor _ _ _ refl refl))))

  no_draw : None ≡ draw_keyword word
  no_draw =
      nor _ _ _ refl (nor _ _ _ refl (nor _ _ _ refl (nor _ _ _ refl (nor _ _ _ refl (nor _ _ _ refl (nor _ _ _ refl
      (nor _ _ _ refl (nor _ _ _ refl (nor _ _ _ refl (nor _ _ _ refl (nor _ _ _ refl (nor _ _ _ refl (nor _ _ _ refl refl)))))))))))))

  pub no_keyword : (scope : Scope) → None ≡ keyword_of scope word
  no_keyword Halls = no_hall
  no_keyword Draws = no_draw ∙ ap (λ (k : Option Keyword). option_or k (draw_keyword word)) no_hall
