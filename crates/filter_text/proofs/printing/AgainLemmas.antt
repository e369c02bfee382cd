-- The printed form of a filter that has a text is a text of it.
use Rattle.std.proofs.Common.{◌≡◌, ℕ, true, false, List, [], ◌∷◌, ◌++◌, Option, Some, None, refl, sym, ap, subst, ◌∙◌, append_assoc, append-nil, inl, inr, arith}
use Rattle.std.specs.Prelude.{◌==◌, if◌then◌else◌}
use Rattle.std.specs.List.{AllByRecursion}
use Rattle.std.proofs.lemmas.Bool.{eqb-true, false_from_ne_true, false≢true}
use Rattle.std.proofs.lemmas.Bool.Decides.{nat_tests}
use Rattle.regular_text.specs.Grammar.{Matches}
use Rattle.ldap_filter.specs.filter.Filters.{Filter, filters_of}
use Rattle.ldap_filter.specs.filter.Filters.Filter.{Equal, Parts, AtLeast, AtMost, Present, Approx}
use Rattle.filter_text.specs.Classes.{class_of, is_equals, is_sign, is_asterisk}
use Rattle.filter_text.specs.ItemGrammar.{kind, value, matched, after_star, IsItemText}
use Rattle.filter_text.specs.Items.{value_of, part_of, any_of, final_of, matched_by, matched_of, parts_of, asserted, signed, is_operator, item_of}
use Rattle.filter_text.specs.FilterText.{IsText, AreTexts}
use Rattle.filter_text.specs.FilterText.IsText.{ItemText, AndText, OrText, NotText}
use Rattle.filter_text.specs.FilterText.AreTexts.{NoTexts, MoreTexts}
use Rattle.filter_text.specs.Printing.{print_value, print_part, print_item, print_filter, print_filters}
use Rattle.filter_text.proofs.items.PartLemmas.{matched_by-alone, matched_by-parts}
use Rattle.filter_text.proofs.printing.OctetLemmas.{AreOctets, print_value-matches, print_value-reads, value_of-octets}
use Rattle.filter_text.proofs.printing.StarLemmas.{parts_of-value, parts_of-more, IsPart, MayBePart, print_value-cons, part_of-print, print_rest, rest-matches, rest-any, rest-final}
use Rattle.filter_text.proofs.printing.RestLemmas.{after_star-says, value-part, asterisk-is}
use Rattle.filter_text.proofs.printing.TypeLemmas.{item_of-cut}

-- ---- printed items

-- a filter whose printed form is its text
abbrev IsPrinted : Filter → Type 0
IsPrinted filter = IsText filter (print_filter filter)

equals-class : is_equals (class_of 61) ≡ true
unfolding class_of
equals-class = refl

asterisk-class : is_asterisk (class_of 42) ≡ true
unfolding class_of
asterisk-class = refl

item-form : (front operator text : List ℕ) → front ++ (operator ++ (text ++ 41 ∷ [])) ≡ ((front ++ operator) ++ text) ++ 41 ∷ []
item-form front operator text = sym (append_assoc (front ++ operator) text (41 ∷ []) ∙ append_assoc front operator (text ++ 41 ∷ []))

-- = and what stands behind it
matched-text : (front text : List ℕ) (filter : Filter) → Matches class_of kind front → Matches class_of matched text → matched_of front text ≡ filter → IsText filter (print_item front (61 ∷ []) text)
unfolding IsItemText
matched-text front text filter m reads says =
    let raw = front ++ 61 ∷ text in
    let whole : IsItemText raw = (front, 61 ∷ text, refl, m, inl (61 ∷ [], text, refl, (61, refl, equals-class), reads)) in
    subst (λ (f : Filter). IsText f (print_item front (61 ∷ []) text)) (item_of-cut front text 61 m refl ∙ says)
    (subst (λ (s : List ℕ). IsText (item_of raw) (40 ∷ s)) (append_assoc front (61 ∷ text) (41 ∷ []) ∙ item-form front (61 ∷ []) text) (ItemText raw whole))

-- another operator and a value
signed-text : (front text : List ℕ) (sign : ℕ) → Matches class_of kind front → is_sign (class_of sign) ≡ true → is_operator sign ≡ true → Matches class_of value text → IsText (asserted front (sign ∷ 61 ∷ text)) (print_item front (sign ∷ 61 ∷ []) text)
unfolding IsItemText
signed-text front text sign m mark operator reads =
    let raw = front ++ sign ∷ 61 ∷ text in
    let whole : IsItemText raw = (front, sign ∷ 61 ∷ text, refl, m, inr (sign ∷ [], 61 ∷ text, refl, (sign, refl, mark), (61 ∷ [], text, refl, (61, refl, equals-class), reads))) in
    subst (λ (f : Filter). IsText f (print_item front (sign ∷ 61 ∷ []) text)) (item_of-cut front (61 ∷ text) sign m operator)
    (subst (λ (s : List ℕ). IsText (item_of raw) (40 ∷ s)) (append_assoc front (sign ∷ 61 ∷ text) (41 ∷ []) ∙ item-form front (sign ∷ 61 ∷ []) text) (ItemText raw whole))

printed-least : (front octets : List ℕ) → Matches class_of kind front → AreOctets octets → IsPrinted (AtLeast front octets)
unfolding class_of
printed-least front octets m all =
    subst (λ (s : List ℕ). IsText (AtLeast front s) (print_filter (AtLeast front octets))) (print_value-reads octets all)
    (signed-text front (print_value octets) 62 m refl refl (print_value-matches octets all))

printed-most : (front octets : List ℕ) → Matches class_of kind front → AreOctets octets → IsPrinted (AtMost front octets)
unfolding class_of
printed-most front octets m all =
    subst (λ (s : List ℕ). IsText (AtMost front s) (print_filter (AtMost front octets))) (print_value-reads octets all)
    (signed-text front (print_value octets) 60 m refl refl (print_value-matches octets all))

printed-approx : (front octets : List ℕ) → Matches class_of kind front → AreOctets octets → IsPrinted (Approx front octets)
unfolding class_of
printed-approx front octets m all =
    subst (λ (s : List ℕ). IsText (Approx front s) (print_filter (Approx front octets))) (print_value-reads octets all)
    (signed-text front (print_value octets) 126 m refl refl (print_value-matches octets all))

printed-equal : (front octets : List ℕ) → Matches class_of kind front → AreOctets octets → IsPrinted (Equal front octets)
printed-equal front octets m all =
    let reads = print_value-matches octets all in
    matched-text front (print_value octets) (Equal front octets) m (print_value octets, [], sym (append-nil (print_value octets)), reads, inl refl)
    (ap (matched_by front) (parts_of-value (print_value octets) reads) ∙ ap (λ (s : List ℕ). Equal front s) (print_value-reads octets all))

printed-present : (front : List ℕ) → Matches class_of kind front → IsPrinted (Present front)
unfolding parts_of
printed-present front m =
    matched-text front (42 ∷ []) (Present front) m ([], 42 ∷ [], refl, ([], refl, tt), inr (42 ∷ [], [], refl, (42, refl, asterisk-class), rest-matches [] None tt tt)) refl

may-value : (initial : Option (List ℕ)) → MayBePart initial → Matches class_of value (print_part initial)
may-value None good = ([], refl, tt)
may-value (Some octets) good = print_value-matches octets good.0

part_of-part : (initial : Option (List ℕ)) → MayBePart initial → part_of (print_part initial) ≡ initial
part_of-part None good = refl
part_of-part (Some octets) good = part_of-print octets good

printed-parts : (front : List ℕ) (initial : Option (List ℕ)) (any : List (List ℕ)) (final : Option (List ℕ)) → Matches class_of kind front → MayBePart initial → AllByRecursion IsPart any → MayBePart final
    → (print_part initial ≡ [] → print_rest any final ≡ [] → ⊥) → IsPrinted (Parts front initial any final)
printed-parts front initial any final m first all last not_alone =
    let rest = print_rest any final in
    let reads = may-value initial first in
    matched-text front (print_part initial ++ 42 ∷ rest) (Parts front initial any final) m
    (print_part initial, 42 ∷ rest, refl, reads, inr (42 ∷ [], rest, refl, (42, refl, asterisk-class), rest-matches any final all last))
    (ap (matched_by front) (parts_of-more (print_part initial) rest reads)
    ∙ matched_by-parts front (print_part initial) rest not_alone
    ∙ ap (λ (o : Option (List ℕ)). Parts front o (any_of (parts_of rest)) (final_of (parts_of rest))) (part_of-part initial first)
    ∙ ap (λ (l : List (List ℕ)). Parts front initial l (final_of (parts_of rest))) (rest-any any final all last)
    ∙ ap (λ (o : Option (List ℕ)). Parts front initial any o) (rest-final any final all last))

-- ---- any item

printed-signed : (front octets : List ℕ) (sign : ℕ) → Matches class_of kind front → AreOctets octets → IsPrinted (signed sign front octets)
printed-signed front octets sign m all =
    elim (sign == 62) as (λ b. IsPrinted (if b then AtLeast front octets else if sign == 60 then AtMost front octets else Approx front octets)) [
      | true ↦ printed-least front octets m all
      | false ↦ elim (sign == 60) as (λ b. IsPrinted (if b then AtMost front octets else Approx front octets)) [
        | true ↦ printed-most front octets m all
        | false ↦ printed-approx front octets m all
      ]
    ]

-- an operator's first octet
sign-operator : (x : ℕ) → is_sign (class_of x) ≡ true → (is_operator x ≡ true) × ((x == 61) ≡ false)
unfolding class_of
sign-operator x h = (grind (arith, nat_tests), false_from_ne_true (x == 61) (λ e. false≢true (subst (λ (y : ℕ). is_sign (class_of y) ≡ true) (eqb-true x 61 e) h)))

equals-is : (x : ℕ) → is_equals (class_of x) ≡ true → x ≡ 61
unfolding class_of
equals-is x h = grind (arith, nat_tests)

-- the parts around the first asterisk
printed-starred : (front first rest : List ℕ) → Matches class_of kind front → Matches class_of value first → Matches class_of after_star rest → IsPrinted (matched_by front (first ∷ parts_of rest))
printed-starred front [] [] m v star = subst IsPrinted (matched_by-alone front [] [] refl refl) (printed-present front m)
printed-starred front [] (y ∷ ys) m v star =
    let (all, last, blank) = after_star-says (y ∷ ys) star in
    subst IsPrinted (sym (matched_by-parts front [] (y ∷ ys) (λ _ e. absurd cc)))
    (printed-parts front None (any_of (parts_of (y ∷ ys))) (final_of (parts_of (y ∷ ys))) m tt all last (λ _ e. (let bad = blank e in absurd cc)))
printed-starred front (x ∷ xs) rest m v star =
    let (all, last, blank) = after_star-says rest star in
    let good = value-part x xs v in
    subst IsPrinted (sym (matched_by-parts front (x ∷ xs) rest (λ e _. absurd cc)))
    (printed-parts front (Some (value_of (x ∷ xs))) (any_of (parts_of rest)) (final_of (parts_of rest)) m good all last
    (λ e _. (let (one, more, is) = print_value-cons (value_of (x ∷ xs)) good in let bad : one ∷ more ≡ [] = sym is ∙ e in absurd cc)))

printed-matched : (front text : List ℕ) → Matches class_of kind front → Matches class_of matched text → IsPrinted (matched_of front text)
printed-matched front text m (first, rest, is, v, inl e) =
    let whole : text ≡ first = is ∙ ap (λ (s : List ℕ). first ++ s) e ∙ append-nil first in
    subst (λ (s : List ℕ). IsPrinted (matched_of front s)) (sym whole)
    (subst (λ (l : List (List ℕ)). IsPrinted (matched_by front l)) (sym (parts_of-value first v)) (printed-equal front (value_of first) m (value_of-octets first v)))
printed-matched front text m (first, rest, is, v, inr (star, back, is_rest, (x, is_x, mark), after)) =
    let whole : text ≡ first ++ 42 ∷ back = is ∙ ap (λ (s : List ℕ). first ++ s) (is_rest ∙ ap (λ (s : List ℕ). s ++ back) (is_x ∙ ap (λ (n : ℕ). n ∷ []) (asterisk-is x mark))) in
    subst (λ (s : List ℕ). IsPrinted (matched_of front s)) (sym whole)
    (subst (λ (l : List (List ℕ)). IsPrinted (matched_by front l)) (sym (parts_of-more first back v)) (printed-starred front first back m v after))

printed-item : (raw : List ℕ) → IsItemText raw → IsPrinted (item_of raw)
unfolding IsItemText
printed-item raw (front, rest, is, m, inl (mark, text, is_rest, (x, is_x, equals), reads)) =
    let whole : raw ≡ front ++ 61 ∷ text = is ∙ ap (λ (s : List ℕ). front ++ s) (is_rest ∙ ap (λ (s : List ℕ). s ++ text) (is_x ∙ ap (λ (n : ℕ). n ∷ []) (equals-is x equals))) in
    subst IsPrinted (sym (ap item_of whole ∙ item_of-cut front text 61 m refl)) (printed-matched front text m reads)
printed-item raw (front, rest, is, m, inr (mark, later, is_rest, (x, is_x, sign), (equal, text, is_later, (y, is_y, equals), reads))) =
    let whole : raw ≡ front ++ x ∷ y ∷ text =
    is ∙ ap (λ (s : List ℕ). front ++ s) (is_rest ∙ ap (λ (s : List ℕ). s ++ later) is_x ∙ ap (λ (s : List ℕ). x ∷ s) (is_later ∙ ap (λ (s : List ℕ). s ++ text) is_y)) in
    let (operator, other) = sign-operator x sign in
    let says : asserted front (x ∷ y ∷ text) ≡ signed x front (value_of text) = ap (λ b. if b then matched_of front (y ∷ text) else signed x front (value_of text)) other in
    subst IsPrinted (sym (ap item_of whole ∙ item_of-cut front (y ∷ text) x m operator ∙ says))
    (printed-signed front (value_of text) x m (value_of-octets text reads))

mutual
  -- the printed form of a filter that has a text is a text of it
  pub printed : (filter : Filter) (text : List ℕ) → IsText filter text → IsText filter (print_filter filter)
  printed filter text (ItemText raw m) = printed-item raw m
  printed filter text (AndText {members = members} {inner = inner} all) = AndText (all-printed members inner all)
  printed filter text (OrText {members = members} {inner = inner} all) = OrText (all-printed members inner all)
  printed filter text (NotText {member = member} {inner = inner} t) = NotText (printed member inner t)

  all-printed : (members : List Filter) (text : List ℕ) → AreTexts members text → AreTexts members (print_filters (filters_of members))
  all-printed [] text NoTexts = NoTexts
  all-printed (first ∷ rest) text (MoreTexts {front = front} {back = back} t ts) = MoreTexts (printed first front t) (all-printed rest back ts)
