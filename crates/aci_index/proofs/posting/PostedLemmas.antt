-- The index stays that of the tree: where an entry is put in, where one is taken out, and where one takes another's place.
use Rattle.std.proofs.Common.{◌≡◌, ℕ, List, None, Some, sym, subst, ◌∙◌}
use Rattle.dir_tree.specs.Entry.{EntryInformation}
use Rattle.dir_tree.specs.tree.Numbered.{Numbered, entry_of, put_entry, without}
use Rattle.value_index.specs.declared.index.Posting.{Posting}
use Rattle.value_index.specs.Hashes.{hashes_of}
use Rattle.value_index.specs.Postings.{AllStay, OthersStay, IsAdded, IsDropped, IsIndexed, IsPosted}
use Rattle.value_index.proofs.Theorems.{indexed-put_entry, indexed-replaced, indexed-same, IsAdded-posted, IsAdded-stay, IsDropped-others, IsDropped-kept}

-- an entry was put in, and its number posted
pub put-indexed : (id : ℕ) (entry : EntryInformation) (rows : List Numbered) (hashes : List ℕ) (old new : List Posting)
    → hashes ≡ hashes_of entry → IsIndexed old rows → IsAdded id hashes old new → IsIndexed new (put_entry id entry rows)
put-indexed id entry rows hashes old new same is added =
    indexed-put_entry old new id entry rows is (IsAdded-stay id hashes old new added)
    (subst (λ known. IsPosted id known new) same (IsAdded-posted id hashes old new added))

-- a number in no use was posted under some hashes, and is no more
pub unused-indexed : (id : ℕ) (rows : List Numbered) (hashes kept : List ℕ) (old some new : List Posting)
    → entry_of id rows ≡ None → IsIndexed old rows → OthersStay id old some → IsDropped id hashes kept some new → IsIndexed new rows
unused-indexed id rows hashes kept old some new free is others dropped =
    let left : IsIndexed some rows = indexed-same old some id rows is others (λ entry there. let clash : Some entry ≡ None = sym there ∙ free in absurd cc) in
    indexed-same some new id rows left (IsDropped-others id hashes kept some new dropped) (λ entry there. let clash : Some entry ≡ None = sym there ∙ free in absurd cc)

-- the entry that a number has stays posted where more was posted
pub more-indexed : (id : ℕ) (rows : List Numbered) (old new : List Posting)
    → IsIndexed old rows → AllStay old new → OthersStay id old new → IsIndexed new rows
more-indexed id rows old new is stay others =
    indexed-same old new id rows is others (λ entry there hash has. stay hash id (is id entry there hash has))

-- the number is posted under what is kept alone of what was posted beside it
pub back-indexed : (id : ℕ) (rows : List Numbered) (before after : List ℕ) (some new : List Posting)
    → ((entry : EntryInformation) → entry_of id rows ≡ Some entry → before ≡ hashes_of entry)
    → IsIndexed some rows → IsDropped id after before some new → IsIndexed new rows
back-indexed id rows before after some new known is dropped =
    indexed-same some new id rows is (IsDropped-others id after before some new dropped)
    (λ entry there.
    let same = known entry there in
    subst (λ hashes. IsPosted id hashes new) same
    (IsDropped-kept id after before some new dropped (subst (λ hashes. IsPosted id hashes some) (sym same) (is id entry there))))

-- another entry has the number, and is posted alone
pub replaced-indexed : (id : ℕ) (entry : EntryInformation) (rows : List Numbered) (before after : List ℕ) (old some new : List Posting)
    → after ≡ hashes_of entry → IsIndexed some rows → IsAdded id after old some → IsDropped id before after some new
    → IsIndexed new (put_entry id entry (without id rows))
replaced-indexed id entry rows before after old some new same is added dropped =
    indexed-replaced some new id entry rows is (IsDropped-others id before after some new dropped)
    (subst (λ hashes. IsPosted id hashes new) same
    (IsDropped-kept id before after some new dropped (IsAdded-posted id after old some added)))
