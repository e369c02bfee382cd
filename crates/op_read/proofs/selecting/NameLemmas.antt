-- Entries by their names: an entry of a name is the only one, and names that are the same begin the same names.
use Rattle.std.proofs.Common.{◌≡◌, inl, inr, Bool, true, ◌&&◌, List, [], ◌∷◌, refl, ap, map, filter}
use Rattle.std.specs.List.{AllByRecursion}
use Rattle.std.specs.declared.cmp.Ordering.TheVariants.{Less}
use Rattle.std.proofs.lemmas.Bool.{cases_Bool}
use Rattle.dir_tree.specs.dn_names.name.Names.{RdnSequence}
use Rattle.dir_tree.specs.dn_names.NameOrder.{name_cmp, is_same}
use Rattle.dir_tree.specs.Entry.{EntryInformation}
use Rattle.dir_tree.specs.tree.Trees.{is_named, named_in, IsInOrder}
use Rattle.dir_tree.specs.Scope.{is_within}
use Rattle.dir_tree.proofs.TreeTheorems.{prefix_same as prefix-like, later-other}
use Rattle.page_core.specs.read_model.Views as views
use Rattle.page_core.specs.read_model.Views.{Row}
use Rattle.op_read.specs.Seeing.{one_or_none}

-- what comes later than an entry of the name has another
none-later : (view : EntryInformation → Row) (P : Row → Bool) (name : RdnSequence) → ((entry : EntryInformation) → views.has_name name (view entry) ≡ is_named name entry) → (first : EntryInformation) → is_named name first ≡ true → (rest : List EntryInformation) → AllByRecursion (λ later. name_cmp first.name later.name ≡ Less) rest → filter (λ row. views.has_name name row && P row) (map view rest) ≡ []
none-later view P name same first e [] h = refl
none-later view P name same first e (x ∷ rest) h =
    rw (same x, later-other name first x e h.0) (none-later view P name same first e rest h.1)

-- the rows of a name that pass a test: there is one row of the name, or none
pub only-named : (view : EntryInformation → Row) (P : Row → Bool) (name : RdnSequence) → ((entry : EntryInformation) → views.has_name name (view entry) ≡ is_named name entry) → (entries : List EntryInformation) → IsInOrder entries → filter (λ row. views.has_name name row && P row) (map view entries) ≡ filter P (one_or_none view (named_in name entries))
only-named view P name same [] h = refl
only-named view P name same (x ∷ xs) h = elim (cases_Bool (is_named name x)) [
  | inl e ↦ elim (cases_Bool (P (view x))) [
    | inl g ↦ rw (same x, e, g) (ap (λ rows. view x ∷ rows) (none-later view P name same x e xs h.0))
    | inr g ↦ rw (same x, e, g) (none-later view P name same x e xs h.0)
  ]
  | inr e ↦ rw (same x, e) (only-named view P name same xs h.1)
]

-- the entries of a name
none-named : (name : RdnSequence) (first : EntryInformation) → is_named name first ≡ true → (rest : List EntryInformation) → AllByRecursion (λ later. name_cmp first.name later.name ≡ Less) rest → filter (is_named name) rest ≡ []
none-named name first e [] h = refl
none-named name first e (x ∷ rest) h = rw (later-other name first x e h.0) (none-named name first e rest h.1)

pub named-entries : (name : RdnSequence) (entries : List EntryInformation) → IsInOrder entries → filter (is_named name) entries ≡ one_or_none (λ entry. entry) (named_in name entries)
named-entries name [] h = refl
named-entries name (x ∷ xs) h = elim (cases_Bool (is_named name x)) [
  | inl e ↦ rw e (ap (λ rest. x ∷ rest) (none-named name x e xs h.0))
  | inr e ↦ rw e (named-entries name xs h.1)
]

-- names that are the same begin the same names, and are as long
pub within-like : (one other : RdnSequence) → is_same one other ≡ true → (entry : EntryInformation) → is_within one entry ≡ is_within other entry
within-like one other e entry = prefix-like one other entry.name e
