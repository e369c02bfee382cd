-- What stands behind an asterisk is printed as parts, and is read as them again.
use Rattle.std.proofs.Common.{◌≡◌, ℕ, Bool, true, false, List, [], ◌∷◌, ◌++◌, Option, Some, None, refl, sym, ap, subst, ◌∙◌, append_assoc, inl, inr, ◌+◌, ◌*◌, ◌%◌}
use Rattle.std.specs.Prelude.{◌==◌, if◌then◌else◌}
use Rattle.std.specs.List.{AllByRecursion, slice_split, onto_first}
use Rattle.std.proofs.lemmas.Bool.{eqb-true, false_from_ne_true, false≢true}
use Rattle.std.proofs.lemmas.List.Splits.{slice_split-cons_yes, slice_split-cons_no}
use Rattle.regular_text.specs.Grammar.{Matches}
use Rattle.regular_text.specs.Grammar.Grammar.{Nothing, One, Either, Then, Many}
use Rattle.regular_text.proofs.Theorems.{Matches-AllByRecursion}
use Rattle.filter_text.specs.declared.classes.Class.{Class}
use Rattle.filter_text.specs.declared.classes.Class.TheVariants.{Asterisk}
use Rattle.filter_text.specs.declared.octets.Reading.TheVariants.{Plain, Escaped}
use Rattle.filter_text.specs.Classes.{class_of, is_plain, is_hex, is_backslash, is_asterisk}
use Rattle.filter_text.specs.ItemGrammar.{piece, value, part, after_star}
use Rattle.filter_text.specs.Items.{hex_value, octets_from, value_of, part_of, any_of, final_of, parts_of}
use Rattle.filter_text.specs.Printing.{print_octet, print_value, print_part, print_any}
use Rattle.filter_text.proofs.items.PartLemmas.{any_of-more, final_of-more}
use Rattle.filter_text.proofs.printing.OctetLemmas.{AreOctets, print_octet-cons, print_octet-piece, print_value-matches, print_value-reads, value_of-octets}

-- ---- texts between asterisks

abbrev is_star : ℕ → Bool
is_star octet = octet == 42

abbrev not_asterisk : Class → Bool
not_asterisk Asterisk = false
not_asterisk class = true

plain-no_star : (class : Class) → is_plain class ≡ true → not_asterisk class ≡ true
plain-no_star Asterisk h = absurd cc
plain-no_star class h = refl

hex-no_star : (class : Class) → is_hex class ≡ true → not_asterisk class ≡ true
hex-no_star Asterisk h = absurd cc
hex-no_star class h = refl

backslash-no_star : (class : Class) → is_backslash class ≡ true → not_asterisk class ≡ true
backslash-no_star Asterisk h = absurd cc
backslash-no_star class h = refl

octet-no_star : (x : ℕ) → not_asterisk (class_of x) ≡ true → is_star x ≡ false
unfolding class_of
octet-no_star x h = false_from_ne_true (x == 42) (λ e. false≢true (subst (λ (y : ℕ). not_asterisk (class_of y) ≡ true) (eqb-true x 42 e) h))

-- no octet is an asterisk
abbrev HasNoStar : List ℕ → Type 0
HasNoStar text = AllByRecursion (λ x. is_star x ≡ false) text

all-no_star : (text : List ℕ) → AllByRecursion (λ x. not_asterisk (class_of x) ≡ true) text → HasNoStar text
all-no_star [] all = tt
all-no_star (x ∷ xs) (h, all) = (octet-no_star x h, all-no_star xs all)

-- a value's text has no asterisk
value-no_star : (text : List ℕ) → Matches class_of value text → HasNoStar text
value-no_star text m = all-no_star text (Matches-AllByRecursion class_of not_asterisk value text (plain-no_star, (backslash-no_star, (hex-no_star, hex-no_star))) m)

split-one : (text : List ℕ) → HasNoStar text → slice_split is_star text ≡ text ∷ []
split-one [] all = refl
split-one (x ∷ xs) (h, all) = slice_split-cons_no is_star x xs h ∙ ap (onto_first x) (split-one xs all)

split-first : (front rest : List ℕ) → HasNoStar front → slice_split is_star (front ++ 42 ∷ rest) ≡ front ∷ slice_split is_star rest
split-first [] rest all = slice_split-cons_yes is_star 42 rest refl
split-first (x ∷ xs) rest (h, all) = slice_split-cons_no is_star x (xs ++ 42 ∷ rest) h ∙ ap (onto_first x) (split-first xs rest all)

-- a value's text is one, and stands before the first asterisk
pub parts_of-value : (text : List ℕ) → Matches class_of value text → parts_of text ≡ text ∷ []
unfolding parts_of
parts_of-value text m = split-one text (value-no_star text m)

pub parts_of-more : (front rest : List ℕ) → Matches class_of value front → parts_of (front ++ 42 ∷ rest) ≡ front ∷ parts_of rest
unfolding parts_of
parts_of-more front rest m = split-first front rest (value-no_star front m)

-- ---- parts

-- octets that a part may have: there is one
abbrev pub IsPart : List ℕ → Type 0
IsPart octets = AreOctets octets × (first : ℕ) × (rest : List ℕ) × (octets ≡ first ∷ rest)

abbrev pub MayBePart : Option (List ℕ) → Type 0
MayBePart None = Unit {0}
MayBePart (Some octets) = IsPart octets

pub print_value-cons : (octets : List ℕ) → IsPart octets → (first : ℕ) × (rest : List ℕ) × (print_value octets ≡ first ∷ rest)
unfolding print_value
print_value-cons [] (all, first, rest, is) = absurd cc
print_value-cons (x ∷ xs) good = (let (first, rest, is) = print_octet-cons x in (first, rest ++ print_value xs, ap (λ (s : List ℕ). s ++ print_value xs) is))

part-matches : (octets : List ℕ) → IsPart octets → Matches class_of part (print_value octets)
unfolding print_value
part-matches [] (all, first, rest, is) = absurd cc
part-matches (x ∷ xs) ((less, all), first, rest, is) = (print_octet x, print_value xs, refl, print_octet-piece x less, print_value-matches xs all)

no_escape : (x : ℕ) → is_plain (class_of x) ≡ true → (x == 92) ≡ false
unfolding class_of
no_escape x h = false_from_ne_true (x == 92) (λ e. false≢true (subst (λ (y : ℕ). is_plain (class_of y) ≡ true) (eqb-true x 92 e) h))

-- a piece and what follows stand for some octet
abbrev pub SaysOctet : List ℕ → Type 0
SaysOctet text = (first : ℕ) × (rest : List ℕ) × (octets_from Plain text ≡ first ∷ rest)

escape-says : (x y z : ℕ) (more : List ℕ) → SaysOctet (x ∷ y ∷ z ∷ more)
escape-says x y z more =
    elim (x == 92) as (λ b. (first : ℕ) × (rest : List ℕ) × ((if b then octets_from Escaped (y ∷ z ∷ more) else x ∷ octets_from Plain (y ∷ z ∷ more)) ≡ first ∷ rest)) [
      | true ↦ ((16 * hex_value y + hex_value z) % 256, octets_from Plain more, refl)
      | false ↦ (x, octets_from Plain (y ∷ z ∷ more), refl)
    ]

piece-says : (text more : List ℕ) → Matches class_of piece text → SaysOctet (text ++ more)
piece-says text more (inl (x, is, plain)) =
    subst (λ (s : List ℕ). SaysOctet (s ++ more)) (sym is)
    (x, octets_from Plain more, ap (λ b. if b then octets_from Escaped more else x ∷ octets_from Plain more) (no_escape x plain))
piece-says text more (inr (front, back, is, (x, is_x, slash), (high, low, is_back, (y, is_y, hex_y), (z, is_z, hex_z)))) =
    let whole : text ≡ x ∷ y ∷ z ∷ [] = is ∙ ap (λ (s : List ℕ). s ++ back) is_x ∙ ap (λ (s : List ℕ). x ∷ s) (is_back ∙ ap (λ (s : List ℕ). s ++ low) is_y ∙ ap (λ (s : List ℕ). y ∷ s) is_z) in
    subst (λ (s : List ℕ). SaysOctet (s ++ more)) (sym whole) (escape-says x y z more)

-- a part's text is a value's
pub part-value : (text : List ℕ) → Matches class_of part text → Matches class_of value text
part-value text (front, rest, is, m, (pieces, is_rest, all)) = (front ∷ pieces, is ∙ ap (λ (s : List ℕ). front ++ s) is_rest, (m, all))

pub part-says : (text : List ℕ) → Matches class_of part text → SaysOctet text
part-says text (front, rest, is, m, later) = subst SaysOctet (sym is) (piece-says front rest m)

pub part-good : (text : List ℕ) → Matches class_of part text → IsPart (value_of text)
unfolding value_of
part-good text m = (let (first, rest, is) = part-says text m in (value_of-octets text (part-value text m), first, rest, is))

-- a text that stands for an octet is a part
pub part_of-some : (text : List ℕ) → SaysOctet text → part_of text ≡ Some (value_of text)
part_of-some [] (first, rest, is) = absurd cc
part_of-some (x ∷ xs) says = refl

pub part_of-print : (octets : List ℕ) → IsPart octets → part_of (print_value octets) ≡ Some octets
part_of-print octets good =
    part_of-some (print_value octets) (part-says (print_value octets) (part-matches octets good))
    ∙ ap (λ (s : List ℕ). Some s) (print_value-reads octets good.0)

-- ---- what is printed behind an asterisk

abbrev pub print_rest : List (List ℕ) → Option (List ℕ) → List ℕ
print_rest any final = print_any any ++ print_part final

asterisk-class : is_asterisk (class_of 42) ≡ true
unfolding class_of
asterisk-class = refl

any-matches : (any : List (List ℕ)) → AllByRecursion IsPart any → Matches class_of (Many (Then part (One is_asterisk))) (print_any any)
any-matches [] all = ([], refl, tt)
any-matches (octets ∷ any) (good, all) =
    let (texts, is, ms) = any-matches any all in
    let one = print_value octets ++ 42 ∷ [] in
    (one ∷ texts, ap (λ (s : List ℕ). one ++ s) is, ((print_value octets, 42 ∷ [], refl, part-matches octets good, (42, refl, asterisk-class)), ms))

final-matches : (final : Option (List ℕ)) → MayBePart final → Matches class_of (Either Nothing part) (print_part final)
final-matches None good = inl refl
final-matches (Some octets) good = inr (part-matches octets good)

pub rest-matches : (any : List (List ℕ)) (final : Option (List ℕ)) → AllByRecursion IsPart any → MayBePart final → Matches class_of after_star (print_rest any final)
rest-matches any final all good = (print_any any, print_part final, refl, any-matches any all, final-matches final good)

-- one part, and what is behind it
pub rest-more : (octets : List ℕ) (any : List (List ℕ)) (final : Option (List ℕ)) → print_rest (octets ∷ any) final ≡ print_value octets ++ 42 ∷ print_rest any final
rest-more octets any final =
    append_assoc (print_value octets ++ 42 ∷ []) (print_any any) (print_part final)
    ∙ append_assoc (print_value octets) (42 ∷ []) (print_rest any final)

split-rest-more : (octets : List ℕ) (any : List (List ℕ)) (final : Option (List ℕ)) → AreOctets octets → parts_of (print_rest (octets ∷ any) final) ≡ print_value octets ∷ parts_of (print_rest any final)
split-rest-more octets any final all = ap parts_of (rest-more octets any final) ∙ parts_of-more (print_value octets) (print_rest any final) (print_value-matches octets all)

final-any : (final : Option (List ℕ)) → MayBePart final → any_of (parts_of (print_part final)) ≡ []
unfolding parts_of
final-any None good = refl
final-any (Some octets) good = ap any_of (split-one (print_value octets) (value-no_star (print_value octets) (print_value-matches octets good.0)))

final-final : (final : Option (List ℕ)) → MayBePart final → final_of (parts_of (print_part final)) ≡ final
unfolding parts_of
final-final None good = refl
final-final (Some octets) good = ap final_of (split-one (print_value octets) (value-no_star (print_value octets) (print_value-matches octets good.0))) ∙ part_of-print octets good

pub rest-any : (any : List (List ℕ)) (final : Option (List ℕ)) → AllByRecursion IsPart any → MayBePart final → any_of (parts_of (print_rest any final)) ≡ any
rest-any [] final all good = final-any final good
rest-any (octets ∷ any) final (one, all) good =
    ap any_of (split-rest-more octets any final one.0) ∙ any_of-more (print_value octets) (print_rest any final)
    ∙ ap (λ (s : List ℕ). s ∷ any_of (parts_of (print_rest any final))) (print_value-reads octets one.0)
    ∙ ap (λ (l : List (List ℕ)). octets ∷ l) (rest-any any final all good)

pub rest-final : (any : List (List ℕ)) (final : Option (List ℕ)) → AllByRecursion IsPart any → MayBePart final → final_of (parts_of (print_rest any final)) ≡ final
rest-final [] final all good = final-final final good
rest-final (octets ∷ any) final (one, all) good =
    ap final_of (split-rest-more octets any final one.0) ∙ final_of-more (print_value octets) (print_rest any final) ∙ rest-final any final all good
