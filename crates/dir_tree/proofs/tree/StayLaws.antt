-- Laws of trees over their entries: all stand at or below the suffix, and a change that is not refused leaves a tree.
use Rattle.std.proofs.Common.{◌≡◌, ◌≢◌, inl, inr, ℕ, ◌-◌, ◌<◌, ◌≤◌, zero, suc, Bool, true, false, ◌||◌, List, [], ◌∷◌, length, take, Some, refl, sym, ap, ◌∙◌, arith, length-take}
use Rattle.std.specs.List.{AllByRecursion}
use Rattle.std.proofs.lemmas.Bool.{cond_both, or_left, or_cases, true≢false}
use Rattle.std.proofs.lemmas.List.{take_all, take-take, length-take-le}
use Rattle.dn_names.specs.name.Names.{RdnSequence}
use Rattle.dn_names.specs.NameOrder.{is_same, is_prefix_of}
use Rattle.dir_tree.specs.Entry.{EntryInformation}
use Rattle.dir_tree.specs.tree.Trees.{is_named, is_before, has_name, named_in, superior_name, lacks_superior, has_below, put_in, taken_out, IsTree}
use Rattle.dir_tree.specs.Scope.{is_within}
use Rattle.dir_tree.specs.slots.Slots.{HasSuperiors, IsOrderedTree}
use Rattle.dir_tree.proofs.tree.NameLemmas.{same_itself, same-superior, length-same}
use Rattle.dir_tree.proofs.tree.OrderLemmas.{put_in-taken_out}
use Rattle.dir_tree.proofs.tree.RootLemmas.{has_name_like, named_filled, none_before_first}
use Rattle.dir_tree.proofs.tree.NamedLemmas.{none_or_under}
use Rattle.dir_tree.proofs.replace.OrderedLemmas.{ordered_put, ordered_without, ordered_same}
use Rattle.dir_tree.proofs.tree.TreeLemmas.{IsRooted-ordered}

-- what holds of some entry of a name
pub named_by : (P : EntryInformation → Type 0) (R : Type 0) (name : RdnSequence) → ((entry : EntryInformation) → P entry → is_same name entry.name ≡ true → R) → (entries : List EntryInformation) → AllByRecursion P entries → has_name name entries ≡ true → R
named_by P R name f [] h e = absurd cc
named_by P R name f (x ∷ entries) h e = elim (or_cases (is_named name x) (has_name name entries) e) [
  | inl g ↦ f x h.0 g
  | inr g ↦ named_by P R name f entries h.1 g
]

-- the superior of each name but the first is there
pub later_superior : (first : EntryInformation) (rest : List EntryInformation) → AllByRecursion (λ later. has_name (superior_name later.name) (first ∷ rest) ≡ true) rest → (name : RdnSequence) → has_name name rest ≡ true → has_name (superior_name name) (first ∷ rest) ≡ true
later_superior first rest rooted name e = named_by (λ entry. has_name (superior_name entry.name) (first ∷ rest) ≡ true) (has_name (superior_name name) (first ∷ rest) ≡ true) name
    (λ entry under same. has_name_like (superior_name name) (superior_name entry.name) (first ∷ rest) (same-superior name entry.name same) ∙ under) rest rooted e

prefix_longer : (base name : RdnSequence) → is_prefix_of base (superior_name name) ≡ true → is_prefix_of base name ≡ true
unfolding is_prefix_of
prefix_longer base name e =
    let long : length (superior_name name) ≡ length name - 1 = length-take-le (length name - 1) name (omega arith) in
    let same : length (take (length base) (superior_name name)) ≡ length base = length-same (take (length base) (superior_name name)) base e in
    let less : length base ≤ length name - 1 = omega (arith, same, long, length-take (length base) (superior_name name)) in
    let front : take (length base) (superior_name name) ≡ take (length base) name = take-take (length base) (length name - 1) name less in
    rw front at e

-- all entries are at or below the suffix
module _ (first : EntryInformation) (rest : List EntryInformation) (tree : IsTree (first ∷ rest)) where
  under_suffix : (most : ℕ) (name : RdnSequence) → length name ≤ most → has_name name (first ∷ rest) ≡ true → is_prefix_of first.name name ≡ true
  unfolding is_prefix_of
  under_suffix zero name h e = absurd (named_filled name (first ∷ rest) tree.named e (nothing name h))
    where
      nothing : (other : RdnSequence) → length other ≤ 0 → other ≡ []
      nothing [] k = refl
      nothing (r ∷ rs) k = absurd (omega arith)
  under_suffix (suc most) name h e = elim (or_cases (is_named name first) (has_name name rest) e) [
    | inl g ↦ (
        let long = length-same name first.name g in
        let whole : take (length first.name) name ≡ name = take_all (length first.name) name (omega arith) in
        rw whole g)
    | inr g ↦ prefix_longer first.name name (under_suffix most (superior_name name) (shorter name h) (later_superior first rest tree.rooted name g))
  ]
    where
      shorter : (other : RdnSequence) → length other ≤ suc most → length (superior_name other) ≤ most
      shorter other k = rw (length-take-le (length other - 1) other (omega arith)) (omega arith)

  all_here : (part : List EntryInformation) → ((entry : EntryInformation) → has_name entry.name part ≡ true → has_name entry.name (first ∷ rest) ≡ true) → AllByRecursion (λ entry. is_within first.name entry ≡ true) part
  all_here [] is = tt
  all_here (entry ∷ part) is = (
    under_suffix (length entry.name) entry.name (omega arith) (is entry (or_left (is_named entry.name entry) (has_name entry.name part) (same_itself entry.name))),
    all_here part (λ other h. is other (later (is_named other.name entry) (has_name other.name part) h)),
  )
    where
      later : (b c : Bool) → c ≡ true → (b || c) ≡ true
      later true c k = refl
      later false c k = k

  pub all_under_suffix : AllByRecursion (λ entry. is_within first.name entry ≡ true) (first ∷ rest)
  all_under_suffix = all_here (first ∷ rest) (λ entry h. h)

-- a tree's entries have their superiors, and entries that have them are a tree's
pub ordered-from_tree : (entries : List EntryInformation) → IsTree entries → IsOrderedTree entries
ordered-from_tree entries tree = record { sorted = tree.sorted; named = tree.named; rooted = superiors entries tree }
  where
    superiors : (all : List EntryInformation) → IsTree all → HasSuperiors all
    superiors [] t name here before = absurd cc
    superiors (first ∷ rest) t name here before = elim (or_cases (is_named name first) (has_name name rest) here) [
      | inl e ↦ (
          let none = none_before_first name first rest e t.sorted in
          absurd (true≢false (sym before ∙ none)))
      | inr e ↦ later_superior first rest t.rooted name e
    ]

pub tree-from_ordered : (entries : List EntryInformation) → IsOrderedTree entries → length entries ≤ 200000 → IsTree entries
tree-from_ordered entries ordered fits = record { sorted = ordered.sorted; rooted = IsRooted-ordered entries ordered; named = ordered.named; fits = fits }

-- how many there are with one put in
pub length-put_in : (entry : EntryInformation) (entries : List EntryInformation) → length (put_in entry entries) ≡ suc (length entries)
length-put_in entry [] = refl
length-put_in entry (x ∷ entries) =
    cond_both (is_before x.name entry.name) (x ∷ put_in entry entries) (entry ∷ x ∷ entries) (λ (xs : List EntryInformation). length xs ≡ suc (suc (length entries))) (λ _. ap suc (length-put_in entry entries)) (λ _. refl)

-- an entry put in
pub tree-put_in : (entry : EntryInformation) (entries : List EntryInformation) → IsTree entries → entry.name ≢ [] → has_name entry.name entries ≡ false → lacks_superior entry.name entries ≡ false → length entries < 200000 → IsTree (put_in entry entries)
tree-put_in entry entries tree named absent has room =
    tree-from_ordered (put_in entry entries) (ordered_put entry entries named (ordered-from_tree entries tree) absent (none_or_under entry.name entries has)) (omega (arith, length-put_in entry entries))

-- an entry taken out that has none below, and one in its place
module _ (old : EntryInformation) (entries : List EntryInformation) (tree : IsTree entries) (known : named_in old.name entries ≡ Some old) where
  back : put_in old (taken_out old.name entries) ≡ entries
  back = put_in-taken_out old entries tree.sorted known

  whole : IsOrderedTree (put_in old (taken_out old.name entries))
  whole = rw back (ordered-from_tree entries tree)

  fewer : suc (length (taken_out old.name entries)) ≤ 200000
  fewer = omega (arith, tree.fits, sym (length-put_in old (taken_out old.name entries)) ∙ ap length back)

  pub tree-taken_out : has_below old.name entries ≡ false → IsTree (taken_out old.name entries)
  tree-taken_out none =
      tree-from_ordered (taken_out old.name entries) (ordered_without old (taken_out old.name entries) whole (rw back none)) (omega (arith, fewer))

  pub tree-same_name : (new : EntryInformation) → is_same new.name old.name ≡ true → new.name ≢ [] → IsTree (put_in new (taken_out old.name entries))
  tree-same_name new e filled =
      tree-from_ordered (put_in new (taken_out old.name entries)) (ordered_same old (taken_out old.name entries) whole new e filled) (omega (arith, fewer, length-put_in new (taken_out old.name entries)))

  pub tree-moved : (new : EntryInformation) → has_below old.name entries ≡ false → new.name ≢ [] → has_name new.name (taken_out old.name entries) ≡ false → lacks_superior new.name (taken_out old.name entries) ≡ false → IsTree (put_in new (taken_out old.name entries))
  tree-moved new none filled absent has =
      tree-put_in new (taken_out old.name entries) (tree-taken_out none) filled absent has (omega (arith, fewer))
