-- Entries in the order of their names, each but the first with its superior: what this says at a place of the list.
use Rattle.std.proofs.Common.{◌≡◌, ◌≢◌, true, false, ◌||◌, List, [], ◌∷◌, ◌++◌, refl, sym, ap, ◌∙◌, inl, inr}
use Rattle.std.specs.List.{AllByRecursion}
use Rattle.std.specs.Ordering.{is_lt}
use Rattle.std.specs.declared.cmp.Ordering.TheVariants.{Less}
use Rattle.std.proofs.lemmas.Bool.{or_cases, or_from, not_from_true, true≢false}
use Rattle.std.proofs.lemmas.List.Folds.{list_any-append}
use Rattle.dir_tree.specs.dn_names.name.Names.{RdnSequence}
use Rattle.dir_tree.specs.dn_names.NameOrder.{name_cmp, is_same}
use Rattle.dir_tree.proofs.dn_names_proofs.Theorems.{name_cmp_total}
use Rattle.dir_tree.specs.Entry.{EntryInformation}
use Rattle.dir_tree.specs.tree.Trees.{is_before, has_name, lacks_superior, superior_name, put_in, IsInOrder, IsRooted}
use Rattle.dir_tree.proofs.TreeTheorems.{not_same as same-before, not_same_back, Less-from_before, superior_before}
use Rattle.ldif_load.proofs.schema_rules_proofs.Theorems.{all_at}

-- the entries before a place, and those after it
pub before_place :
    (front back : List EntryInformation) (entry : EntryInformation) → IsInOrder (front ++ entry ∷ back)
    → AllByRecursion (λ (other : EntryInformation). name_cmp other.name entry.name ≡ Less) front
before_place [] back entry sorted = tt
before_place (first ∷ front) back entry sorted = (
  all_at (λ (later : EntryInformation). name_cmp first.name later.name ≡ Less) front back entry sorted.0,
  before_place front back entry sorted.1,
)

pub after_place :
    (front back : List EntryInformation) (entry : EntryInformation) → IsInOrder (front ++ entry ∷ back)
    → AllByRecursion (λ (later : EntryInformation). name_cmp entry.name later.name ≡ Less) back
after_place [] back entry sorted = sorted.0
after_place (first ∷ front) back entry sorted = after_place front back entry sorted.1

-- an entry that comes after all is put last
pub put_in-last :
    (entry : EntryInformation) (front : List EntryInformation)
    → AllByRecursion (λ (other : EntryInformation). name_cmp other.name entry.name ≡ Less) front
    → put_in entry front ≡ front ++ entry ∷ []
put_in-last entry [] before = refl
put_in-last entry (first ∷ front) before =
    let test : is_before first.name entry.name ≡ true = ap is_lt before.0 in
    rw test (ap (λ later. first ∷ later) (put_in-last entry front before.1))

-- a name that comes after all is none of theirs
pub has_name-after :
    (name : RdnSequence) (front : List EntryInformation)
    → AllByRecursion (λ (other : EntryInformation). name_cmp other.name name ≡ Less) front → has_name name front ≡ false
has_name-after name [] before = refl
has_name-after name (first ∷ front) before =
    or_from (is_same name first.name) (has_name name front) (not_same_back first.name name before.0) (has_name-after name front before.1)

-- a name that comes before that of an entry before them is none of theirs
pub apart-before :
    (name next : RdnSequence) (back : List EntryInformation) → name_cmp name next ≡ Less
    → AllByRecursion (λ (later : EntryInformation). name_cmp next later.name ≡ Less) back
    → AllByRecursion (λ (later : EntryInformation). is_same name later.name ≡ false) back
apart-before name next [] before after = tt
apart-before name next (first ∷ back) before after =
    (same-before name first.name (name_cmp_total.trans name next first.name before after.0), apart-before name next back before after.1)

has_name-apart :
    (name : RdnSequence) (back : List EntryInformation)
    → AllByRecursion (λ (later : EntryInformation). is_same name later.name ≡ false) back → has_name name back ≡ false
has_name-apart name [] apart = refl
has_name-apart name (first ∷ back) apart =
    or_from (is_same name first.name) (has_name name back) apart.0 (has_name-apart name back apart.1)

-- the superior stands before the entry, where another does
pub lacks_superior-front :
    (front back : List EntryInformation) (entry : EntryInformation) → IsInOrder (front ++ entry ∷ back)
    → IsRooted (front ++ entry ∷ back) → entry.name ≢ [] → lacks_superior entry.name front ≡ false
lacks_superior-front [] back entry sorted rooted filled = refl
lacks_superior-front (first ∷ front) back entry sorted rooted filled =
    let name = superior_name entry.name in
    let there : has_name name ((first ∷ front) ++ entry ∷ back) ≡ true =
    all_at (λ (later : EntryInformation). has_name (superior_name later.name) ((first ∷ front) ++ entry ∷ back) ≡ true)
    front back entry rooted in
    let before = Less-from_before (superior_name entry.name) entry.name (superior_before entry.name filled) in
    let apart = apart-before name entry.name back before (after_place (first ∷ front) back entry sorted) in
    let later : has_name name (entry ∷ back) ≡ false =
    or_from (is_same name entry.name) (has_name name back) (same-before name entry.name before) (has_name-apart name back apart) in
    not_from_true (has_name name (first ∷ front))
    (elim (or_cases (has_name name (first ∷ front)) (has_name name (entry ∷ back))
    (sym (list_any-append (λ (other : EntryInformation). is_same name other.name) (first ∷ front) (entry ∷ back)) ∙ there)) [
      | inl here ↦ here
      | inr elsewhere ↦ absurd (true≢false (sym elsewhere ∙ later))
    ])
