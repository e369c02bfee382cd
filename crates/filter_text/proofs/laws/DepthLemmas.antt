-- A filter's text is read to its end, or leads to too many frames, by how deep the filter is.
use Rattle.std.proofs.Common.{◌≡◌, ℕ, ◌+◌, ◌<◌, ◌≤◌, suc, Bool, true, false, List, [], ◌∷◌, ◌++◌, length, take, drop, Some, None, refl, sym, ap, subst, append_assoc, append-nil, arith}
use Rattle.std.specs.Prelude.{nat_lt, ◌==◌, if◌then◌else◌}
use Rattle.std.proofs.lemmas.Bool.{ltb-true, ltb-false}
use Rattle.ldap_filter.specs.filter.Filters.{Filter, depth, depths, filters_of}
use Rattle.ldap_filter.specs.filter.Filters.Filter.{And, Or, Not, Equal, Parts, AtLeast, AtMost, Present, Approx, Extensible}
use Rattle.ldap_filter.specs.reading.FilterLayouts.{most_deep}
use Rattle.filter_text.specs.declared.frame.Frame.{Frame}
use Rattle.filter_text.specs.declared.frame.Frame.TheVariants.{Opened, All, Any, No, Negated, Item}
use Rattle.filter_text.specs.Items.{value_of, matched_by, parts_of, signed, asserted, kind_size, item_of}
use Rattle.filter_text.specs.FilterText.{IsText, AreTexts}
use Rattle.filter_text.specs.FilterText.IsText.{ItemText, AndText, OrText, NotText}
use Rattle.filter_text.specs.FilterText.AreTexts.{NoTexts, MoreTexts}
use Rattle.filter_text.specs.Reading.{may_open, with_filter, read_from}
use Rattle.filter_text.proofs.laws.PassLemmas.{stacked, Passes, Deepens, passes-step, deepens-step, passes-append, passes-deepens, deepens-more, opening, closing, begins-all, begins-any, begins-no, IsItemText-passes}

-- a filter is at least 1 deep, and an item 1
some_depth : (filter : Filter) → 1 ≤ depth filter
some_depth (And members) = omega arith
some_depth (Or members) = omega arith
some_depth (Not member) = omega arith
some_depth (Equal kind value) = omega arith
some_depth (Parts kind initial any final) = omega arith
some_depth (AtLeast kind value) = omega arith
some_depth (AtMost kind value) = omega arith
some_depth (Present kind) = omega arith
some_depth (Approx kind value) = omega arith
some_depth (Extensible content) = omega arith

matched_by-depth : (kind : List ℕ) (parts : List (List ℕ)) → depth (matched_by kind parts) ≡ 1
matched_by-depth kind [] = refl
matched_by-depth kind (only ∷ []) = refl
matched_by-depth kind ([] ∷ [] ∷ []) = refl
matched_by-depth kind (first ∷ next ∷ parts) = refl

signed-depth : (sign : ℕ) (kind value : List ℕ) → depth (signed sign kind value) ≡ 1
signed-depth sign kind value =
    elim (sign == 62) as (λ b. depth (if b then AtLeast kind value else if sign == 60 then AtMost kind value else Approx kind value) ≡ 1) [
      | true ↦ refl
      | false ↦ elim (sign == 60) as (λ b. depth (if b then AtMost kind value else Approx kind value) ≡ 1) [ true ↦ refl | false ↦ refl ]
    ]

asserted-depth : (kind text : List ℕ) → depth (asserted kind text) ≡ 1
asserted-depth kind [] = refl
asserted-depth kind (sign ∷ rest) =
    elim (sign == 61) as (λ b. depth (if b then matched_by kind (parts_of rest) else signed sign kind (value_of (drop 1 rest))) ≡ 1) [
      | true ↦ matched_by-depth kind (parts_of rest)
      | false ↦ signed-depth sign kind (value_of (drop 1 rest))
    ]

item_of-depth : (raw : List ℕ) → depth (item_of raw) ≡ 1
unfolding item_of
item_of-depth raw = asserted-depth (take (kind_size raw) raw) (drop (kind_size raw) raw)

-- ---- filters that aren't too deep

-- a frame of filters, to which others come
abbrev TakesMore : (List Filter → Frame) → Type 0
TakesMore make = (members : List Filter) → (may_open (make members) ≡ true) × ((filter : Filter) → with_filter filter (make members) ≡ Some (make (members ++ filter ∷ [])))

all-more : TakesMore (λ members. All members)
all-more members = (refl, λ filter. refl)

any-more : TakesMore (λ members. Any members)
any-more members = (refl, λ filter. refl)

mutual
  pub text-passes : (filter : Filter) (text : List ℕ) (top next : Frame) (below : List Frame) → IsText filter text → may_open top ≡ true → with_filter filter top ≡ Some next → length below + depth filter ≤ most_deep → Passes text (stacked top below) (stacked next below)
  text-passes filter text top next below (ItemText raw m) opens ends low =
      let deep = some_depth (item_of raw) in
      let (last, stops, p) = IsItemText-passes raw (top ∷ below) (omega (arith, deep, low)) m in
      passes-append (40 ∷ []) (raw ++ 41 ∷ []) (stacked top below) (stacked Opened (top ∷ below)) (stacked next below)
      (passes-step 40 (stacked top below) (stacked Opened (top ∷ below)) (opening top below opens) (omega (arith, deep, low)))
      (passes-append raw (41 ∷ []) (stacked Opened (top ∷ below)) (stacked (Item raw last) (top ∷ below)) (stacked next below) p
      (passes-step 41 (stacked (Item raw last) (top ∷ below)) (stacked next below)
      (closing (Item raw last) top next below (item_of raw) (ap (λ (b : Bool). if b then Some (item_of raw) else None) stops) ends) (omega (arith, low))))
  text-passes filter text top next below (AndText {members = members} {inner = inner} all) opens ends low =
      passes-append (40 ∷ []) (38 ∷ (inner ++ 41 ∷ [])) (stacked top below) (stacked Opened (top ∷ below)) (stacked next below)
      (passes-step 40 (stacked top below) (stacked Opened (top ∷ below)) (opening top below opens) (omega (arith, low)))
      (passes-append (38 ∷ []) (inner ++ 41 ∷ []) (stacked Opened (top ∷ below)) (stacked (All []) (top ∷ below)) (stacked next below)
      (passes-step 38 (stacked Opened (top ∷ below)) (stacked (All []) (top ∷ below)) (begins-all (top ∷ below)) (omega (arith, low)))
      (passes-append inner (41 ∷ []) (stacked (All []) (top ∷ below)) (stacked (All members) (top ∷ below)) (stacked next below)
      (texts-pass (λ ms. All ms) all-more [] members inner (top ∷ below) all (omega (arith, low)))
      (passes-step 41 (stacked (All members) (top ∷ below)) (stacked next below) (closing (All members) top next below (And (filters_of members)) refl ends) (omega (arith, low)))))
  text-passes filter text top next below (OrText {members = members} {inner = inner} all) opens ends low =
      passes-append (40 ∷ []) (124 ∷ (inner ++ 41 ∷ [])) (stacked top below) (stacked Opened (top ∷ below)) (stacked next below)
      (passes-step 40 (stacked top below) (stacked Opened (top ∷ below)) (opening top below opens) (omega (arith, low)))
      (passes-append (124 ∷ []) (inner ++ 41 ∷ []) (stacked Opened (top ∷ below)) (stacked (Any []) (top ∷ below)) (stacked next below)
      (passes-step 124 (stacked Opened (top ∷ below)) (stacked (Any []) (top ∷ below)) (begins-any (top ∷ below)) (omega (arith, low)))
      (passes-append inner (41 ∷ []) (stacked (Any []) (top ∷ below)) (stacked (Any members) (top ∷ below)) (stacked next below)
      (texts-pass (λ ms. Any ms) any-more [] members inner (top ∷ below) all (omega (arith, low)))
      (passes-step 41 (stacked (Any members) (top ∷ below)) (stacked next below) (closing (Any members) top next below (Or (filters_of members)) refl ends) (omega (arith, low)))))
  text-passes filter text top next below (NotText {member = member} {inner = inner} t) opens ends low =
      passes-append (40 ∷ []) (33 ∷ (inner ++ 41 ∷ [])) (stacked top below) (stacked Opened (top ∷ below)) (stacked next below)
      (passes-step 40 (stacked top below) (stacked Opened (top ∷ below)) (opening top below opens) (omega (arith, low)))
      (passes-append (33 ∷ []) (inner ++ 41 ∷ []) (stacked Opened (top ∷ below)) (stacked No (top ∷ below)) (stacked next below)
      (passes-step 33 (stacked Opened (top ∷ below)) (stacked No (top ∷ below)) (begins-no (top ∷ below)) (omega (arith, low)))
      (passes-append inner (41 ∷ []) (stacked No (top ∷ below)) (stacked (Negated member) (top ∷ below)) (stacked next below)
      (text-passes member inner No (Negated member) (top ∷ below) t refl refl (omega (arith, low)))
      (passes-step 41 (stacked (Negated member) (top ∷ below)) (stacked next below) (closing (Negated member) top next below (Not member) refl ends) (omega (arith, low)))))

  texts-pass : (make : List Filter → Frame) → TakesMore make → (early members : List Filter) (text : List ℕ) (below : List Frame) → AreTexts members text → length below + depths (filters_of members) ≤ most_deep → Passes text (stacked (make early) below) (stacked (make (early ++ members)) below)
  texts-pass make more early members text below NoTexts low =
      subst (λ (ms : List Filter). Passes [] (stacked (make early) below) (stacked (make ms) below)) (sym (append-nil early))
      (λ place rest. ap (λ (n : ℕ). read_from n rest (stacked (make early) below)) (omega arith))
  texts-pass make more early members text below (MoreTexts {first = first} {rest = rest} {front = front} {back = back} t ts) low =
      subst (λ (ms : List Filter). Passes (front ++ back) (stacked (make early) below) (stacked (make ms) below)) (append_assoc early (first ∷ []) rest)
      (passes-append front back (stacked (make early) below) (stacked (make (early ++ first ∷ [])) below) (stacked (make ((early ++ first ∷ []) ++ rest)) below)
      (text-passes first front (make early) (make (early ++ first ∷ [])) below t (more early).0 ((more early).1 first) (omega (arith, low)))
      (texts-pass make more (early ++ first ∷ []) rest back below ts (omega (arith, low))))

-- ---- filters that are too deep

-- an opening parenthesis where as many filters are open as may be
last-opening : (top : Frame) (below : List Frame) (more : List ℕ) → may_open top ≡ true → most_deep < suc (length below) → Deepens (40 ∷ more) (stacked top below)
last-opening top below more opens high =
    deepens-more (40 ∷ []) more (stacked top below) (deepens-step 40 (stacked top below) (stacked Opened (top ∷ below)) (opening top below opens) high)

-- an opening parenthesis and what follows it
opening-deepens : (top : Frame) (below : List Frame) (more : List ℕ) → may_open top ≡ true → length below ≤ most_deep → (length below < most_deep → Deepens more (stacked Opened (top ∷ below))) → Deepens (40 ∷ more) (stacked top below)
opening-deepens top below more opens low later =
    elim (nat_lt (length below) most_deep) as (λ b. nat_lt (length below) most_deep ≡ b → Deepens (40 ∷ more) (stacked top below)) [
      | true ↦ λ e. (let less = ltb-true (length below) most_deep e in
          passes-deepens (40 ∷ []) more (stacked top below) (stacked Opened (top ∷ below))
          (passes-step 40 (stacked top below) (stacked Opened (top ∷ below)) (opening top below opens) (omega (arith, less))) (later less))
      | false ↦ λ e. (let full = ltb-false (length below) most_deep e in last-opening top below more opens (omega (arith, full)))
    ] refl

mutual
  pub text-deepens : (filter : Filter) (text : List ℕ) (top : Frame) (below : List Frame) → IsText filter text → may_open top ≡ true → length below ≤ most_deep → most_deep < length below + depth filter → Deepens text (stacked top below)
  text-deepens filter text top below (ItemText raw m) opens low high =
      let deep = item_of-depth raw in
      last-opening top below (raw ++ 41 ∷ []) opens (omega (arith, deep, high))
  text-deepens filter text top below (AndText {members = members} {inner = inner} all) opens low high =
      opening-deepens top below (38 ∷ (inner ++ 41 ∷ [])) opens low (λ less.
      passes-deepens (38 ∷ []) (inner ++ 41 ∷ []) (stacked Opened (top ∷ below)) (stacked (All []) (top ∷ below))
      (passes-step 38 (stacked Opened (top ∷ below)) (stacked (All []) (top ∷ below)) (begins-all (top ∷ below)) (omega (arith, less)))
      (deepens-more inner (41 ∷ []) (stacked (All []) (top ∷ below)) (texts-deepen (λ ms. All ms) all-more [] members inner (top ∷ below) all (omega (arith, less)) (omega (arith, high)))))
  text-deepens filter text top below (OrText {members = members} {inner = inner} all) opens low high =
      opening-deepens top below (124 ∷ (inner ++ 41 ∷ [])) opens low (λ less.
      passes-deepens (124 ∷ []) (inner ++ 41 ∷ []) (stacked Opened (top ∷ below)) (stacked (Any []) (top ∷ below))
      (passes-step 124 (stacked Opened (top ∷ below)) (stacked (Any []) (top ∷ below)) (begins-any (top ∷ below)) (omega (arith, less)))
      (deepens-more inner (41 ∷ []) (stacked (Any []) (top ∷ below)) (texts-deepen (λ ms. Any ms) any-more [] members inner (top ∷ below) all (omega (arith, less)) (omega (arith, high)))))
  text-deepens filter text top below (NotText {member = member} {inner = inner} t) opens low high =
      opening-deepens top below (33 ∷ (inner ++ 41 ∷ [])) opens low (λ less.
      passes-deepens (33 ∷ []) (inner ++ 41 ∷ []) (stacked Opened (top ∷ below)) (stacked No (top ∷ below))
      (passes-step 33 (stacked Opened (top ∷ below)) (stacked No (top ∷ below)) (begins-no (top ∷ below)) (omega (arith, less)))
      (deepens-more inner (41 ∷ []) (stacked No (top ∷ below)) (text-deepens member inner No (top ∷ below) t refl (omega (arith, less)) (omega (arith, high)))))

  texts-deepen : (make : List Filter → Frame) → TakesMore make → (early members : List Filter) (text : List ℕ) (below : List Frame) → AreTexts members text → length below ≤ most_deep → most_deep < length below + depths (filters_of members) → Deepens text (stacked (make early) below)
  texts-deepen make more early members text below NoTexts low high = absurd (omega (arith, low, high))
  texts-deepen make more early members text below (MoreTexts {first = first} {rest = rest} {front = front} {back = back} t ts) low high =
      elim (nat_lt most_deep (length below + depth first)) as (λ b. nat_lt most_deep (length below + depth first) ≡ b → Deepens (front ++ back) (stacked (make early) below)) [
        | true ↦ λ e. (let deep = ltb-true most_deep (length below + depth first) e in
            deepens-more front back (stacked (make early) below) (text-deepens first front (make early) below t (more early).0 low deep))
        | false ↦ λ e. (let not_deep = ltb-false most_deep (length below + depth first) e in
            passes-deepens front back (stacked (make early) below) (stacked (make (early ++ first ∷ [])) below)
            (text-passes first front (make early) (make (early ++ first ∷ [])) below t (more early).0 ((more early).1 first) not_deep)
            (texts-deepen make more (early ++ first ∷ []) rest back below ts low (omega (arith, high, not_deep))))
      ] refl
