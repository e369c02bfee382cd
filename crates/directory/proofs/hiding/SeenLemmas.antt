-- What is seen of a numbered tree, by the names of its entries.
use Rattle.std.proofs.Common.{◌≡◌, inl, inr, ℕ, Bool, true, false, ◌&&◌, List, [], ◌∷◌, Option, Some, None, refl, sym, ap, ◌∙◌, map, find}
use Rattle.std.specs.Prelude.{reverse, if◌then◌else◌}
use Rattle.std.specs.List.{AllByRecursion, list_any}
use Rattle.std.specs.Option.{option_map, option_map_or}
use Rattle.std.specs.declared.cmp.Ordering.TheVariants.{Less}
use Rattle.std.proofs.lemmas.Bool.{cases_Bool}
use Rattle.std.proofs.Math.Bool.{or-false}
use mathlib.Core.List.{reverse_aux}
use Rattle.dir_tree.proofs.base_laws_proofs.Theorems.{find-map, list_any-map}
use Rattle.dir_tree.specs.dn_names.name.Names.{RdnSequence}
use Rattle.dir_tree.specs.dn_names.NameOrder.{name_cmp}
use Rattle.dir_tree.specs.dn_names.Printing.{print_name, print_by}
use Rattle.dir_tree.specs.Entry.{EntryInformation}
use Rattle.dir_tree.specs.tree.Trees.{is_named, is_below, named_in, IsInOrder}
use Rattle.dir_tree.specs.tree.Numbered.{Numbered, IsNumberedTree, entries_of}
use Rattle.dir_tree.proofs.TreeTheorems.{later-other}
use Rattle.acdf_filters.specs.aci_item.declared.permission.Permission.TheVariants.{DiscloseOnError}
use Rattle.acdf_filters.specs.declared.asking.Requester.{Requester}
use Rattle.acdf_filters.specs.Asking.{Entry}
use Rattle.acdf_filters.specs.Granted as decision
use Rattle.acdf_filters.specs.Granted.{granted}
use Rattle.ldap_msg.specs.declared.operations.ResultCode.TheVariants as code
use Rattle.read_model.specs.Views.{Row, View, row_of, view_of, matched_name, discloses, is_disclosed, hidden, no_such_object, result_of, result_with}
use Rattle.directory.specs.Asking.{view_in}

-- ---- lists of what is seen of other lists

reverse_aux-map : {A B : Type 0} (f : A → B) (xs ys : List A) → reverse_aux (map f xs) (map f ys) ≡ map f (reverse_aux xs ys)
reverse_aux-map f [] ys = refl
reverse_aux-map f (x ∷ xs) ys = reverse_aux-map f xs (x ∷ ys)

reverse-map : {A B : Type 0} (f : A → B) (xs : List A) → reverse (map f xs) ≡ map f (reverse xs)
reverse-map f xs = reverse_aux-map f xs []

-- ---- the one entry of a name

-- what comes later than an entry of the name has another
none-later : (test : EntryInformation → Bool) (name : RdnSequence) (first : EntryInformation) → is_named name first ≡ true → (rest : List EntryInformation) → AllByRecursion (λ later. name_cmp first.name later.name ≡ Less) rest → list_any (λ entry. is_named name entry && test entry) rest ≡ false
none-later test name first e [] h = refl
none-later test name first e (x ∷ rest) h = rw (later-other name first x e h.0) (none-later test name first e rest h.1)

-- whether an entry of the name passes a test: the one that is found
any-named : (test : EntryInformation → Bool) (name : RdnSequence) (entries : List EntryInformation) → IsInOrder entries → list_any (λ entry. is_named name entry && test entry) entries ≡ option_map_or test (named_in name entries) false
any-named test name [] h = refl
any-named test name (x ∷ xs) h = elim (cases_Bool (is_named name x)) [
  | inl e ↦ rw (e, none-later test name x e xs h.0) (or-false (test x))
  | inr e ↦ rw e (any-named test name xs h.1)
]

-- ---- what may be known of

pub discloses-named : (rows : List Numbered) (who : Requester) (name : RdnSequence) → IsInOrder (entries_of rows)
    → discloses (view_in rows who) name ≡ option_map_or (λ entry. granted (entries_of rows) who entry Entry DiscloseOnError) (named_in name (entries_of rows)) false
discloses-named rows who name h =
    list_any-map (row_of (entries_of rows) who) (λ row. is_named name row.entry && is_disclosed row) (entries_of rows)
    ∙ any-named (λ entry. granted (entries_of rows) who entry Entry DiscloseOnError) name (entries_of rows) h

-- what is told of the entry of the name, and of a name that no entry has
pub hidden-named : (rows : List Numbered) (who : Requester) (name : RdnSequence) (entry : EntryInformation) (known : Bool) → IsNumberedTree rows → named_in name (entries_of rows) ≡ Some entry
    → known ≡ granted (entries_of rows) who entry Entry DiscloseOnError
    → (if known then result_of code.InsufficientAccessRights else no_such_object (view_in rows who) name) ≡ hidden (view_in rows who) name
unfolding hidden
hidden-named rows who name entry known tree named is =
    ap (λ known. if known then result_of code.InsufficientAccessRights else no_such_object (view_in rows who) name)
    (is ∙ sym (discloses-named rows who name tree.tree.sorted ∙ ap (λ (found : Option EntryInformation). option_map_or (λ entry. granted (entries_of rows) who entry Entry DiscloseOnError) found false) named))

pub hidden-none : (rows : List Numbered) (who : Requester) (name : RdnSequence) → IsNumberedTree rows → named_in name (entries_of rows) ≡ None
    → no_such_object (view_in rows who) name ≡ hidden (view_in rows who) name
unfolding hidden
hidden-none rows who name tree none =
    ap (λ known. if known then result_of code.InsufficientAccessRights else no_such_object (view_in rows who) name)
    (sym (discloses-named rows who name tree.tree.sorted ∙ ap (λ (found : Option EntryInformation). option_map_or (λ entry. granted (entries_of rows) who entry Entry DiscloseOnError) found false) none))

-- ---- the nearest entry above

matched_name-of : (entries : List EntryInformation) (who : Requester) (name : RdnSequence) → matched_name (view_of entries who) name ≡ option_map_or (λ entry. entry.name) (decision.matched entries who name) []
unfolding matched_name decision.matched
matched_name-of entries who name =
    ap (λ (view : View). option_map_or (λ row. row.entry.name) (find (λ row. is_below row.entry.name name && is_disclosed row) view) []) (reverse-map (row_of entries who) entries)
    ∙ ap (λ (found : Option Row). option_map_or (λ row. row.entry.name) found []) (find-map (row_of entries who) (λ row. is_below row.entry.name name && is_disclosed row) (reverse entries))
    ∙ inner (find (λ entry. is_below entry.name name && granted entries who entry Entry DiscloseOnError) (reverse entries))
  where
    inner : (found : Option EntryInformation) → option_map_or (λ (row : Row). row.entry.name) (option_map (row_of entries who) found) [] ≡ option_map_or (λ (entry : EntryInformation). entry.name) found []
    inner None = refl
    inner (Some entry) = refl

-- the name of the root is printed as nothing
print-root : print_name [] ≡ []
unfolding print_name print_by
print-root = refl

result-root : result_of code.NoSuchObject ≡ result_with code.NoSuchObject []
result-root = ap (λ (text : List ℕ). record { code = code.NoSuchObject; matched = text }) (sym print-root)

-- noSuchObject, by the entry that is matched
pub no_such_object-found : (rows : List Numbered) (who : Requester) (name : RdnSequence) (entry : EntryInformation) → Some entry ≡ decision.matched (entries_of rows) who name
    → result_with code.NoSuchObject entry.name ≡ no_such_object (view_in rows who) name
no_such_object-found rows who name entry is =
    ap (result_with code.NoSuchObject)
    (ap (λ (found : Option EntryInformation). option_map_or (λ entry. entry.name) found []) is ∙ sym (matched_name-of (entries_of rows) who name))

pub no_such_object-none : (rows : List Numbered) (who : Requester) (name : RdnSequence) → None ≡ decision.matched (entries_of rows) who name
    → result_of code.NoSuchObject ≡ no_such_object (view_in rows who) name
no_such_object-none rows who name is =
    result-root
    ∙ ap (result_with code.NoSuchObject)
    (ap (λ (found : Option EntryInformation). option_map_or (λ entry. entry.name) found []) is ∙ sym (matched_name-of (entries_of rows) who name))
