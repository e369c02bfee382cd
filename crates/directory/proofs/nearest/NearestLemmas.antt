-- The nearest entry above a name is the first that is found front by front.
use Rattle.std.proofs.Common.{◌≡◌, ℕ, suc, ◌-◌, ◌<◌, ◌≤◌, Bool, true, false, ◌&&◌, List, [], ◌∷◌, length, take, reverse, find, Option, Some, None, refl, sym, ap, subst, ◌∙◌, arith, ◌⊎◌, inl, inr}
use Rattle.std.specs.Prelude.{nat_lt, if◌then◌else◌}
use Rattle.std.specs.List.{AllByRecursion}
use Rattle.std.specs.Option.{option_map, option_or, option_and_then}
use Rattle.std.specs.declared.cmp.Ordering.TheVariants.{Less}
use Rattle.std.proofs.lemmas.Bool.{cases_Bool, cases_eq, and_parts, le-leb, lt-ltb}
use Rattle.std.proofs.lemmas.Option.{same_Some}
use Rattle.std.proofs.lemmas.List.{reverse-append}
use Rattle.std.proofs.lemmas.List.Folds.{find-append}
use Rattle.dir_tree.proofs.base_laws_proofs.Theorems.{all_map}
use Rattle.dir_tree.specs.dn_names.name.Names.{RdnSequence}
use Rattle.dir_tree.specs.dn_names.NameOrder.{name_cmp, is_prefix_of}
use Rattle.dir_tree.specs.Entry.{EntryInformation}
use Rattle.dir_tree.specs.tree.Numbered.{Numbered, entries_of, entry_of, find_name, find_front, AreDistinct, IsNumberedTree}
use Rattle.dir_tree.proofs.TreeTheorems.{entry_of-found}
use Rattle.dir_tree.specs.tree.Trees.{is_named, named_in, is_below, IsInOrder}
use Rattle.dir_tree.specs.declared.number.EntryNo.{EntryNo}
use Rattle.acdf_filters.proofs.admin_scope_proofs.Theorems.{longer_front, length-named, front-named, named-front}
use Rattle.acdf_filters.specs.declared.asking.Requester.{Requester}
use Rattle.acdf_filters.specs.Granted.{is_disclosed, matched}
use Rattle.directory.specs.Fronts.{where_passes, NonePasses}

-- the last that passes
abbrev last_passing : {A : Type 0} → (A → Bool) → List A → Option A
last_passing test xs = find test (reverse xs)

last_passing-later : {A : Type 0} (test : A → Bool) (x : A) (xs : List A) → last_passing test (x ∷ xs) ≡ option_or (last_passing test xs) (find test (x ∷ []))
last_passing-later test x xs = ap (find test) (reverse-append (x ∷ []) xs) ∙ find-append test (reverse xs) (x ∷ [])

last_passing-none : {A : Type 0} (test : A → Bool) (xs : List A) → AllByRecursion (λ x. test x ≡ false) xs → last_passing test xs ≡ None
last_passing-none test [] h = refl
last_passing-none test (x ∷ xs) h =
    last_passing-later test x xs
    ∙ ap (λ o. option_or o (find test (x ∷ []))) (last_passing-none test xs h.1)
    ∙ rw h.0 refl

-- the entry stands above the name, and passes
abbrev passes_above : (EntryInformation → Bool) → RdnSequence → EntryInformation → Bool
passes_above test name entry = is_below entry.name name && test entry

-- a name below is a longer one
below_parts : (x name : RdnSequence) → is_below x name ≡ true → (is_prefix_of x name ≡ true) × (nat_lt (length x) (length name) ≡ true)
below_parts x name below = and_parts (is_prefix_of x name) (nat_lt (length x) (length name)) below

-- at the end none is left
none_above : (test : EntryInformation → Bool) (name : RdnSequence) (y : EntryInformation) → (is_below y.name name ≡ true → test y ≡ false) → passes_above test name y ≡ false
none_above test name y h = elim (cases_Bool (is_below y.name name)) [
  | inl e ↦ (let out = h e in rw (e, out) refl)
  | inr e ↦ rw e refl
]

none-ended : (test : EntryInformation → Bool) (name : RdnSequence) (entries : List EntryInformation) → NonePasses test 0 name entries → last_passing (passes_above test name) entries ≡ None
none-ended test name entries h =
    last_passing-none (passes_above test name) entries
    (all_map (λ y. is_below y.name name ≡ true → 0 ≤ length y.name → test y ≡ false) (λ y. passes_above test name y ≡ false)
    (λ y hidden. none_above test name y (λ below. hidden below (omega arith))) entries h)

-- an entry of so many RDNs at least, or of one more
one_shorter : (test : EntryInformation → Bool) (k : ℕ) (name : RdnSequence) (y : EntryInformation) → (is_below y.name name ≡ true → suc k ≤ length y.name → test y ≡ false)
    → (is_below y.name name ≡ true → length y.name ≡ k → test y ≡ false) → is_below y.name name ≡ true → k ≤ length y.name → test y ≡ false
one_shorter test k name y longer there below h = by (cases_eq (length y.name) k)
  where
    by : ((length y.name ≡ k) ⊎ (length y.name ≡ k → ⊥)) → test y ≡ false
    by (inl e) = there below e
    by (inr other) = longer below (omega arith)

-- those after the front of so many RDNs have more
later_longer : (k : ℕ) (name : RdnSequence) (x y : EntryInformation) → k ≤ length name → is_named (take k name) x ≡ true → name_cmp x.name y.name ≡ Less → is_below y.name name ≡ true → k < length y.name
later_longer k name x y h named less below =
    let longer = longer_front x.name y.name name (front-named k name x.name h named) (below_parts y.name name below).0 less in
    let exact = length-named k name x.name h named in
    omega arith

-- where the front of so many RDNs passes not, the next is shorter
none-next : (test : EntryInformation → Bool) (k : ℕ) (name : RdnSequence) (entries : List EntryInformation) → k ≤ length name → IsInOrder entries
    → where_passes test (named_in (take k name) entries) ≡ None → NonePasses test (suc k) name entries → NonePasses test k name entries
none-next test k name [] h order none hidden = tt
none-next test k name (x ∷ xs) h order none hidden = by (cases_Bool (is_named (take k name) x)) (none-next test k name xs h order.1)
  where
    Later : Type 0
    Later = where_passes test (named_in (take k name) xs) ≡ None → NonePasses test (suc k) name xs → NonePasses test k name xs

    out : is_named (take k name) x ≡ true → where_passes test (named_in (take k name) (x ∷ xs)) ≡ None → test x ≡ false
    out named e = from (test x) refl (sym (ap (where_passes test) (first named)) ∙ e)
      where
        first : is_named (take k name) x ≡ true → named_in (take k name) (x ∷ xs) ≡ Some x
        first f = rw f refl

        from : (b : Bool) → test x ≡ b → where_passes test (Some x) ≡ None → test x ≡ false
        from false f none = f
        from true f none = (let clash : Some x ≡ None = sym (rw f refl) ∙ none in absurd cc)

    each : is_named (take k name) x ≡ true → (y : EntryInformation) → name_cmp x.name y.name ≡ Less → (is_below y.name name ≡ true → suc k ≤ length y.name → test y ≡ false)
        → is_below y.name name ≡ true → k ≤ length y.name → test y ≡ false
    each named y less longer below long = longer below (omega (arith, later_longer k name x y h named less below))

    by : ((is_named (take k name) x ≡ true) ⊎ (is_named (take k name) x ≡ false)) → Later → NonePasses test k name (x ∷ xs)
    by (inl named) later = (λ below long. out named none, both xs order.0 hidden.1)
      where
        both : (ys : List EntryInformation) → AllByRecursion (λ y. name_cmp x.name y.name ≡ Less) ys → NonePasses test (suc k) name ys → NonePasses test k name ys
        both [] less longer = tt
        both (y ∷ ys) less longer = (each named y less.0 longer.0, both ys less.1 longer.1)
    by (inr other) later = (
      one_shorter test k name x hidden.0 (λ below exact. (let named = named-front k name x.name (below_parts x.name name below).0 exact in absurd cc)),
      later (sym (ap (where_passes test) past) ∙ none) hidden.1,
    )
      where
        past : named_in (take k name) (x ∷ xs) ≡ named_in (take k name) xs
        past = rw other refl

-- a front that passes is the last that does, where no longer one does
last-found : (test : EntryInformation → Bool) (k : ℕ) (name : RdnSequence) (entry : EntryInformation) (entries : List EntryInformation) → k < length name → IsInOrder entries
    → named_in (take k name) entries ≡ Some entry → test entry ≡ true → NonePasses test (suc k) name entries → last_passing (passes_above test name) entries ≡ Some entry
last-found test k name entry [] h order found passes hidden = absurd cc
last-found test k name entry (x ∷ xs) h order found passes hidden = by (cases_Bool (is_named (take k name) x)) (last-found test k name entry xs h order.1)
  where
    Goal : Type 0
    Goal = last_passing (passes_above test name) (x ∷ xs) ≡ Some entry

    Later : Type 0
    Later = named_in (take k name) xs ≡ Some entry → test entry ≡ true → NonePasses test (suc k) name xs → last_passing (passes_above test name) xs ≡ Some entry

    none_later : is_named (take k name) x ≡ true → (ys : List EntryInformation) → AllByRecursion (λ y. name_cmp x.name y.name ≡ Less) ys → NonePasses test (suc k) name ys
        → AllByRecursion (λ y. passes_above test name y ≡ false) ys
    none_later named [] less longer = tt
    none_later named (y ∷ ys) less longer = (
      none_above test name y (λ below. longer.0 below (omega (arith, later_longer k name x y (omega arith) named less.0 below))),
      none_later named ys less.1 longer.1,
    )

    by : ((is_named (take k name) x ≡ true) ⊎ (is_named (take k name) x ≡ false)) → Later → Goal
    by (inl named) later =
        let same : x ≡ entry = some_same x entry (sym first ∙ found) in
        let exact = length-named k name x.name (omega arith) named in
        let front = front-named k name x.name (omega arith) named in
        let shorter = lt-ltb (length x.name) (length name) (omega arith) in
        let passing : test x ≡ true = ap test same ∙ passes in
        let here : passes_above test name x ≡ true = rw (front, shorter, passing) refl in
        let only : find (passes_above test name) (x ∷ []) ≡ Some x = rw here refl in
        last_passing-later (passes_above test name) x xs
        ∙ ap (λ o. option_or o (find (passes_above test name) (x ∷ []))) (last_passing-none (passes_above test name) xs (none_later named xs order.0 hidden.1))
        ∙ only ∙ ap Some same
      where
        first : named_in (take k name) (x ∷ xs) ≡ Some x
        first = rw named refl

        some_same : (a b : EntryInformation) → Some a ≡ Some b → a ≡ b
        some_same a b e = cc
    by (inr other) later =
        last_passing-later (passes_above test name) x xs
        ∙ ap (λ o. option_or o (find (passes_above test name) (x ∷ []))) (later (sym past ∙ found) passes hidden.1)
      where
        past : named_in (take k name) (x ∷ xs) ≡ named_in (take k name) xs
        past = rw other refl

-- what is found and passes
passing_parts : (test : EntryInformation → Bool) (found : Option EntryInformation) (entry : EntryInformation) → Some entry ≡ where_passes test found → (found ≡ Some entry) × (test entry ≡ true)
passing_parts test None entry is = absurd cc
passing_parts test (Some x) entry is = by (test x) refl is
  where
    by : (b : Bool) → test x ≡ b → Some entry ≡ (if b then Some x else None) → (Some x ≡ Some entry) × (test entry ≡ true)
    by true f is = (sym is, ap test (same_Some entry x is) ∙ f)
    by false f is = absurd cc

-- the entry that is matched: that of the front that is one shorter, where it is found and passes
pub matched-found : (who : Requester) (len : ℕ) (name : RdnSequence) (rows : List Numbered) (entry : EntryInformation) → IsNumberedTree rows → 0 < len → len ≤ length name
    → Some entry ≡ where_passes (is_disclosed (entries_of rows) who) (named_in (take (len - 1) name) (entries_of rows))
    → NonePasses (is_disclosed (entries_of rows) who) len name (entries_of rows)
    → Some entry ≡ matched (entries_of rows) who name
unfolding matched
matched-found who len name rows entry tree some h is hidden =
    let more : len ≡ suc (len - 1) = omega arith in
    let parts = passing_parts (is_disclosed (entries_of rows) who) (named_in (take (len - 1) name) (entries_of rows)) entry is in
    sym (last-found (is_disclosed (entries_of rows) who) (len - 1) name entry (entries_of rows) (omega arith) tree.tree.sorted parts.0 parts.1
    (subst (λ n. NonePasses (is_disclosed (entries_of rows) who) n name (entries_of rows)) more hidden))

-- where none is, no entry passes that has as many RDNs
pub hidden-next : (test : EntryInformation → Bool) (len : ℕ) (name : RdnSequence) (rows : List Numbered) → IsNumberedTree rows → 0 < len → len ≤ length name
    → None ≡ where_passes test (named_in (take (len - 1) name) (entries_of rows)) → NonePasses test len name (entries_of rows) → NonePasses test (len - 1) name (entries_of rows)
hidden-next test len name rows tree some h is hidden =
    let more : len ≡ suc (len - 1) = omega arith in
    none-next test (len - 1) name (entries_of rows) (omega arith) tree.tree.sorted (sym is) (subst (λ n. NonePasses test n name (entries_of rows)) more hidden)

-- and where no front is left, none is matched
pub matched-none : (who : Requester) (len : ℕ) (name : RdnSequence) (rows : List Numbered) → len ≡ 0 → NonePasses (is_disclosed (entries_of rows) who) len name (entries_of rows)
    → None ≡ matched (entries_of rows) who name
unfolding matched
matched-none who len name rows e hidden =
    let ended = subst (λ n. NonePasses (is_disclosed (entries_of rows) who) n name (entries_of rows)) e hidden in
    sym (none-ended (is_disclosed (entries_of rows) who) name (entries_of rows) ended)

-- the number of a front is that of the entry that has its name
entry_of-front : (rows : List Numbered) (len : ℕ) (name : RdnSequence) → AreDistinct rows → len ≤ length name
    → option_and_then (λ id. entry_of id rows) (find_front len name rows) ≡ named_in (take len name) (entries_of rows)
entry_of-front rows len name distinct h =
    let in_name = le-leb len (length name) h in
    let front : find_front len name rows ≡ find_name (take len name) rows = rw in_name refl in
    ap (option_and_then (λ id. entry_of id rows)) front ∙ entry_of-found (take len name) rows distinct

-- so what is found of the number is found of the name
pub front-at : (rows tree : List Numbered) (len : ℕ) (name : RdnSequence) (found : Option EntryNo) → tree ≡ rows → IsNumberedTree tree → len < length name
    → option_map (λ no. no.0) found ≡ find_front len name tree → option_and_then (λ no. entry_of no.0 rows) found ≡ named_in (take len name) (entries_of rows)
front-at rows tree len name found same good h e =
    let distinct : AreDistinct rows = subst AreDistinct same good.distinct in
    let front : option_map (λ no. no.0) found ≡ find_front len name rows = subst (λ t. option_map (λ no. no.0) found ≡ find_front len name t) same e in
    by found ∙ ap (option_and_then (λ id. entry_of id rows)) front ∙ entry_of-front rows len name distinct (omega arith)
  where
    by : (found : Option EntryNo) → option_and_then (λ no. entry_of no.0 rows) found ≡ option_and_then (λ id. entry_of id rows) (option_map (λ (no : EntryNo). no.0) found)
    by None = refl
    by (Some number) = refl
