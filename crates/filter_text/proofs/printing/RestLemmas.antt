-- What a text behind an asterisk says is parts that are printed and read again.
use Rattle.std.proofs.Common.{◌≡◌, ℕ, true, List, [], ◌∷◌, ◌++◌, Option, Some, refl, sym, ap, subst, ◌∙◌, append_assoc, inl, inr, arith}
use Rattle.std.specs.List.{AllByRecursion, concat}
use Rattle.std.proofs.lemmas.Bool.Decides.{nat_tests}
use Rattle.regular_text.specs.Grammar.{Matches}
use Rattle.regular_text.specs.Grammar.Grammar.{Nothing, One, Either, Then}
use Rattle.filter_text.specs.Classes.{class_of, is_asterisk}
use Rattle.filter_text.specs.ItemGrammar.{value, part, after_star}
use Rattle.filter_text.specs.Items.{value_of, any_of, final_of, parts_of}
use Rattle.filter_text.proofs.items.PartLemmas.{any_of-more, final_of-more}
use Rattle.filter_text.proofs.printing.StarLemmas.{parts_of-value, parts_of-more, IsPart, MayBePart, print_value-cons, part-value, part-says, part-good, part_of-some, print_rest, rest-more}

-- the parts are printed, and as nothing only where the text is empty
abbrev SaysParts : List (List ℕ) → Option (List ℕ) → List ℕ → Type 0
SaysParts any final text = AllByRecursion IsPart any × MayBePart final × (print_rest any final ≡ [] → text ≡ [])

abbrev pub SaysRest : List ℕ → Type 0
SaysRest text = SaysParts (any_of (parts_of text)) (final_of (parts_of text)) text

pub asterisk-is : (x : ℕ) → is_asterisk (class_of x) ≡ true → x ≡ 42
unfolding class_of
asterisk-is x h = grind (arith, nat_tests)

says-none : SaysRest []
unfolding parts_of
says-none = (tt, tt, λ e. refl)

last-parts : (octets : List ℕ) (text : List ℕ) → IsPart octets → SaysParts [] (Some octets) text
last-parts octets text good = (tt, good, λ e. (let (first, rest, is) = print_value-cons octets good in let bad : first ∷ rest ≡ [] = sym is ∙ e in absurd cc))

says-last : (text : List ℕ) → Matches class_of part text → SaysRest text
says-last text m =
    let one = parts_of-value text (part-value text m) in
    subst (λ (l : List (List ℕ)). SaysParts (any_of l) (final_of l) text) (sym one)
    (subst (λ (o : Option (List ℕ)). SaysParts [] o text) (sym (part_of-some text (part-says text m))) (last-parts (value_of text) text (part-good text m)))

more-parts : (octets : List ℕ) (any : List (List ℕ)) (final : Option (List ℕ)) (early text : List ℕ) → IsPart octets → SaysParts any final early → SaysParts (octets ∷ any) final text
more-parts octets any final early text good (all, last, blank) = (
  (good, all),
  last,
  λ e. (let (first, rest, is) = print_value-cons octets good in
      let bad : first ∷ (rest ++ 42 ∷ print_rest any final) ≡ [] = ap (λ (s : List ℕ). s ++ 42 ∷ print_rest any final) (sym is) ∙ sym (rest-more octets any final) ∙ e in absurd cc),
)

says-more : (front rest : List ℕ) → Matches class_of part front → SaysRest rest → SaysRest (front ++ 42 ∷ rest)
says-more front rest m says =
    let cut = parts_of-more front rest (part-value front m) in
    let good = more-parts (value_of front) (any_of (parts_of rest)) (final_of (parts_of rest)) rest (front ++ 42 ∷ rest) (part-good front m) says in
    subst (λ (l : List (List ℕ)). SaysParts (any_of l) (final_of l) (front ++ 42 ∷ rest)) (sym cut)
    (subst (λ (o : Option (List ℕ)). SaysParts (any_of (front ∷ parts_of rest)) o (front ++ 42 ∷ rest)) (sym (final_of-more front rest))
    (subst (λ (l : List (List ℕ)). SaysParts l (final_of (parts_of rest)) (front ++ 42 ∷ rest)) (sym (any_of-more front rest)) good))

says-texts : (texts : List (List ℕ)) (end : List ℕ) → AllByRecursion (Matches class_of (Then part (One is_asterisk))) texts → Matches class_of (Either Nothing part) end → SaysRest (concat texts ++ end)
says-texts [] end all (inl e) = subst SaysRest (sym e) says-none
says-texts [] end all (inr m) = says-last end m
says-texts (text ∷ texts) end ((front, star, is, m, (x, is_x, mark)), all) last =
    let back = concat texts ++ end in
    let whole : (text ++ concat texts) ++ end ≡ front ++ 42 ∷ back =
    append_assoc text (concat texts) end
    ∙ ap (λ (s : List ℕ). s ++ back) (is ∙ ap (λ (s : List ℕ). front ++ s) (is_x ∙ ap (λ (n : ℕ). n ∷ []) (asterisk-is x mark)))
    ∙ append_assoc front (42 ∷ []) back in
    subst SaysRest (sym whole) (says-more front back m (says-texts texts end all last))

pub after_star-says : (text : List ℕ) → Matches class_of after_star text → SaysRest text
after_star-says text (front, end, is, (texts, is_front, all), last) =
    subst SaysRest (sym (is ∙ ap (λ (s : List ℕ). s ++ end) is_front)) (says-texts texts end all last)

-- a value's text that isn't empty is a part's
pub value-part : (x : ℕ) (xs : List ℕ) → Matches class_of value (x ∷ xs) → IsPart (value_of (x ∷ xs))
value-part x xs ([], is, all) = absurd cc
value-part x xs (text ∷ texts, is, (m, all)) = part-good (x ∷ xs) (text, concat texts, is, m, (texts, refl, all))
