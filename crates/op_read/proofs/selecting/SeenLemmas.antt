-- What is seen of a numbered tree, by the numbers of its entries.
use Rattle.std.proofs.Common.{◌≡◌, ℕ, true, false, List, [], ◌∷◌, Option, Some, None, refl, sym, ap, ◌∙◌, filter}
use Rattle.std.specs.Option.{option_map_or}
use Rattle.dir_tree.specs.dn_names.name.Names.{RdnSequence}
use Rattle.dir_tree.specs.Entry.{EntryInformation}
use Rattle.dir_tree.specs.tree.Trees.{named_in}
use Rattle.dir_tree.specs.tree.Numbered.{Numbered, IsNumberedTree, entries_of, entry_of, find_name}
use Rattle.dir_tree.proofs.TreeTheorems.{named-found}
use Rattle.acdf_filters.specs.aci_item.declared.permission.Permission.TheVariants.{Read, DiscloseOnError}
use Rattle.acdf_filters.specs.declared.asking.Requester.{Requester}
use Rattle.acdf_filters.specs.Asking.{Entry}
use Rattle.acdf_filters.specs.Granted.{granted}
use Rattle.page_core.specs.read_model.Views.{discloses}
use Rattle.page_core.specs.read_model.CompareReplies.{readable}
use Rattle.directory.specs.Asking.{view_in}
use Rattle.directory.proofs.Theorems.{discloses-named}
use Rattle.op_read.specs.Seeing.{row_in, one_or_none}
use Rattle.op_read.proofs.selecting.ListLemmas.{kept-one, dropped-one}
use Rattle.op_read.proofs.selecting.NameLemmas.{only-named}

-- ---- what may be read

readable-named : (rows : List Numbered) (who : Requester) → IsNumberedTree rows → (name : RdnSequence) → filter (readable name) (view_in rows who) ≡ filter (λ row. row.allows Entry Read) (one_or_none (row_in rows who) (named_in name (entries_of rows)))
readable-named rows who tree name = only-named (row_in rows who) (λ row. row.allows Entry Read) name (λ entry. refl) (entries_of rows) tree.tree.sorted

-- no entry has the name
pub readable-none : (rows : List Numbered) (who : Requester) (name : RdnSequence) → IsNumberedTree rows → named_in name (entries_of rows) ≡ None → filter (readable name) (view_in rows who) ≡ []
readable-none rows who name tree none =
    readable-named rows who tree name
    ∙ ap (λ (found : Option EntryInformation). filter (λ row. row.allows Entry Read) (one_or_none (row_in rows who) found)) none

readable-found : (rows : List Numbered) (who : Requester) (name : RdnSequence) (entry : EntryInformation) → IsNumberedTree rows → named_in name (entries_of rows) ≡ Some entry
    → filter (readable name) (view_in rows who) ≡ filter (λ row. row.allows Entry Read) (one_or_none (row_in rows who) (Some entry))
readable-found rows who name entry tree named =
    readable-named rows who tree name
    ∙ ap (λ (found : Option EntryInformation). filter (λ row. row.allows Entry Read) (one_or_none (row_in rows who) found)) named

-- the entry of the name may be read, or not
pub readable-yes : (rows : List Numbered) (who : Requester) (name : RdnSequence) (entry : EntryInformation) → IsNumberedTree rows → named_in name (entries_of rows) ≡ Some entry
    → granted (entries_of rows) who entry Entry Read ≡ true
    → filter (readable name) (view_in rows who) ≡ row_in rows who entry ∷ []
readable-yes rows who name entry tree named may =
    readable-found rows who name entry tree named ∙ kept-one (λ row. row.allows Entry Read) (row_in rows who) (Some entry) may

pub readable-no : (rows : List Numbered) (who : Requester) (name : RdnSequence) (entry : EntryInformation) → IsNumberedTree rows → named_in name (entries_of rows) ≡ Some entry
    → granted (entries_of rows) who entry Entry Read ≡ false
    → filter (readable name) (view_in rows who) ≡ []
readable-no rows who name entry tree named may =
    readable-found rows who name entry tree named ∙ dropped-one (λ row. row.allows Entry Read) (row_in rows who) (Some entry) may

-- ---- what may be known of

-- an entry of the name may be known of: the one of the number that is found
pub disclosed-target : (rows : List Numbered) (who : Requester) (name : RdnSequence) (id : ℕ) (entry : EntryInformation) → IsNumberedTree rows → find_name name rows ≡ Some id → entry_of id rows ≡ Some entry
    → granted (entries_of rows) who entry Entry DiscloseOnError ≡ discloses (view_in rows who) name
disclosed-target rows who name id entry tree found known =
    sym (discloses-named rows who name tree.tree.sorted
    ∙ ap (λ (found : Option EntryInformation). option_map_or (λ entry. granted (entries_of rows) who entry Entry DiscloseOnError) found false) (named-found name rows tree.distinct id found ∙ known))
