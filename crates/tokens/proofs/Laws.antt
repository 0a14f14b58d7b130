-- The words of a line are proper, and proper words come back from their line. Assumes nothing.
use Rattle.std.proofs.Common.{◌≡◌, ℕ, Bool, true, false, cond, eqb, List, [], ◌∷◌, ◌++◌, length, sym, refl, ap, ◌∙◌, append_assoc, append-nil, arith}
use Rattle.std.proofs.ByRecursion.{All-append, All-push}
use Rattle.std.proofs.lemmas.Bool.{eqb-false, ne_eqb}
use Rattle.std.specs.List.{AllByRecursion}
use Rattle.tokens.specs.Words.{blank, uncommented, whole, words_after, words_of, Plain, Proper, spaced}

abbrev Unmarked : ℕ → Type 0
Unmarked b = b ≡ 35 → ⊥

proper_whole : (w : List ℕ) → AllByRecursion Plain w → AllByRecursion Proper (whole w)
proper_whole [] plain = tt
proper_whole (b ∷ bs) plain = ((omega arith, plain), tt)

by_blank : (t : Bool) (xs ys : List (List ℕ)) → (t ≡ true → AllByRecursion Proper xs) → (t ≡ false → AllByRecursion Proper ys) → AllByRecursion Proper (cond t xs ys)
by_blank true xs ys is not = is refl
by_blank false xs ys is not = not refl

proper_after : (begun bs : List ℕ) → AllByRecursion Plain begun → AllByRecursion Unmarked bs → AllByRecursion Proper (words_after begun bs)
proper_after begun [] plain clear = proper_whole begun plain
proper_after begun (b ∷ bs) plain (here, clear) =
    by_blank (blank b) _ _
    (λ is. All-append Proper (whole begun) (words_after [] bs) (proper_whole begun plain) (proper_after [] bs tt clear))
    (λ not. proper_after (begun ++ b ∷ []) bs (All-push Plain begun b plain (not, here)) clear)

by_mark : (t : Bool) (b : ℕ) (bs : List ℕ) → eqb b 35 ≡ t → AllByRecursion Unmarked bs → AllByRecursion Unmarked (cond t [] (b ∷ bs))
by_mark true b bs e clear = tt
by_mark false b bs e clear = (eqb-false b 35 e, clear)

unmarked : (line : List ℕ) → AllByRecursion Unmarked (uncommented line)
unmarked [] = tt
unmarked (b ∷ bs) = by_mark (eqb b 35) b (uncommented bs) refl (unmarked bs)

pub all_proper : (line : List ℕ) → AllByRecursion Proper (words_of line)
all_proper line = proper_after [] (uncommented line) tt (unmarked line)

uncommented_plain : (w rest : List ℕ) → AllByRecursion Plain w → uncommented (w ++ rest) ≡ w ++ uncommented rest
uncommented_plain [] rest plain = refl
uncommented_plain (b ∷ w) rest (here, plain) =
    ap (λ (t : Bool). cond t [] (b ∷ uncommented (w ++ rest))) (ne_eqb b 35 here.1) ∙ ap (λ (l : List ℕ). b ∷ l) (uncommented_plain w rest plain)

uncommented_spaced : (ws : List (List ℕ)) → AllByRecursion Proper ws → uncommented (spaced ws) ≡ spaced ws
uncommented_spaced [] proper = refl
uncommented_spaced (w ∷ ws) (here, proper) =
    uncommented_plain w (32 ∷ spaced ws) here.1 ∙ ap (λ (l : List ℕ). w ++ 32 ∷ l) (uncommented_spaced ws proper)

-- bytes that can stand in a word go on with the word begun
one_word : (begun w rest : List ℕ) → AllByRecursion Plain w → words_after begun (w ++ rest) ≡ words_after (begun ++ w) rest
one_word begun [] rest plain = ap (λ (l : List ℕ). words_after l rest) (sym (append-nil begun))
one_word begun (b ∷ w) rest (here, plain) =
    ap (λ (t : Bool). cond t (whole begun ++ words_after [] (w ++ rest)) (words_after (begun ++ b ∷ []) (w ++ rest))) here.0
    ∙ one_word (begun ++ b ∷ []) w rest plain
    ∙ ap (λ (l : List ℕ). words_after l rest) (append_assoc begun (b ∷ []) w)

whole_some : (w : List ℕ) → (length w ≡ 0 → ⊥) → whole w ≡ w ∷ []
whole_some [] some = absurd (some refl)
whole_some (b ∷ bs) some = refl

words_spaced : (ws : List (List ℕ)) → AllByRecursion Proper ws → words_after [] (spaced ws) ≡ ws
words_spaced [] proper = refl
words_spaced (w ∷ ws) (here, proper) =
    one_word [] w (32 ∷ spaced ws) here.1
    ∙ ap (λ (l : List (List ℕ)). l ++ words_after [] (spaced ws)) (whole_some w (λ (e : length w ≡ 0). omega (arith, here.0)))
    ∙ ap (λ (l : List (List ℕ)). w ∷ l) (words_spaced ws proper)

-- proper words, each followed by a space, are the words of that line
pub come_back : (line : List ℕ) (ws : List (List ℕ)) → AllByRecursion Proper ws → line ≡ spaced ws → words_of line ≡ ws
come_back line ws proper is =
    ap words_of is ∙ ap (words_after []) (uncommented_spaced ws proper) ∙ words_spaced ws proper
