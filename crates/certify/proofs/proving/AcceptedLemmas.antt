-- What a program appends or gives back is accepted.
use Rattle.std.proofs.Common.{◌≡◌, ℕ, ◌==◌, ◌∙◌, sym, ap, subst, inl, inr, true, List, [], ◌∷◌, ◌++◌, length, drop, Some, Result, Ok, Err, is_ok}
use Rattle.std.specs.Prelude.{if◌then◌else◌, OnOk}
use Rattle.std.specs.declared.cmp.Ordering.TheVariants.{Less}
use Rattle.std.proofs.Math.Seq.{drop-append_seam}
use Rattle.std.proofs.lemmas.Bool.{cases_Bool, cond-true, cond-false}
use Rattle.std.proofs.lemmas.Option.{same_Some}
use Rattle.dir_tree.specs.dn_names.NameOrder.{name_cmp, is_same}
use Rattle.dir_tree.specs.Entry.{EntryInformation}
use Rattle.dir_tree.specs.tree.Trees.{is_named, named_in, IsInOrder}
use Rattle.dir_tree.specs.tree.Numbered.{Numbered, entry_of, entries_of, IsNumberedTree}
use Rattle.dir_tree.proofs.TreeTheorems.{found_row, found_later, all_known_entry, same_itself, not_same_back}
use Rattle.acdf_filters.specs.aci_item.declared.permission.Permission.{Permission}
use Rattle.acdf_filters.specs.declared.asking.Requester.{Requester}
use Rattle.acdf_filters.specs.Asking.{Protected, asked_on}
use Rattle.acdf_filters.specs.Granted.{granted}
use Rattle.explanation.specs.Questions.{Question}
use Rattle.certify.specs.Certificate.{certificate_text, text_proved}
use Rattle.certify.specs.Verifying.{verified}
use Rattle.certify.specs.Readable.{AreSaid, HaveGoodNames}
use Rattle.certify.proofs.laws.AcceptedLaw.{verified-certificate, verified-proved}

-- the entry of a number is found by its name
named_in-own : (id : ℕ) (entry : EntryInformation) (rows : List Numbered) → IsInOrder (entries_of rows) → entry_of id rows ≡ Some entry
    → named_in entry.name (entries_of rows) ≡ Some entry
named_in-own id entry [] ordered known = absurd cc
named_in-own id entry (row ∷ rows) ordered known = elim (cases_Bool (row.id == id)) [
  | inl e ↦ (
      let same : row.entry ≡ entry = ap (λ (row : Numbered). row.entry) (found_row id entry row rows e known) in
      cond-true (is_named entry.name row.entry) (Some row.entry) (named_in entry.name (entries_of rows))
      (subst (λ (first : EntryInformation). is_same entry.name first.name ≡ true) (sym same) (same_itself entry.name))
      ∙ ap (λ entry. Some entry) same)
  | inr e ↦ (
      let later = found_later id entry row rows e known in
      let less = all_known_entry (λ later. name_cmp row.entry.name later.name ≡ Less) id entry rows ordered.0 later in
      cond-false (is_named entry.name row.entry) (Some row.entry) (named_in entry.name (entries_of rows)) (not_same_back row.entry.name entry.name less)
      ∙ named_in-own id entry rows ordered.1 later)
]

-- the certificate of a decision on it, behind what was there
pub appended-accepted : (rows : List Numbered) (id : ℕ) (old new : List ℕ) (who : Requester) (entry : EntryInformation) (item : Protected) (permission : Permission)
    → IsNumberedTree rows → entry_of id rows ≡ Some entry → HaveGoodNames (entries_of rows) → AreSaid who item permission
    → new ≡ old ++ certificate_text (entries_of rows) (asked_on who entry item permission) entry
    → verified (entries_of rows) (drop (length old) new) ≡ Ok (granted (entries_of rows) who entry item permission)
appended-accepted rows id old new who entry item permission tree known good said appended =
    let text = certificate_text (entries_of rows) (asked_on who entry item permission) entry in
    ap (λ new. verified (entries_of rows) (drop (length old) new)) appended
    ∙ ap (verified (entries_of rows)) (drop-append_seam old text)
    ∙ verified-certificate (entries_of rows) who entry item permission good said (named_in-own id entry rows tree.tree.sorted known)

-- the text for an entry that has the name
pub proved-accepted : (entries : List EntryInformation) (question : Question) (entry : EntryInformation) (text : List ℕ)
    → named_in question.target entries ≡ Some entry → HaveGoodNames entries → AreSaid question.who question.item question.permission
    → text ≡ text_proved entries question → verified entries text ≡ Ok (granted entries question.who entry question.item question.permission)
proved-accepted entries question entry text known good said is = ap (verified entries) is ∙ verified-proved entries question entry good said known

-- what is appended where memory isn't wanted, for an entry that is found by its number
pub append-accepted : {T E : Type 0} (result : Result T E) (tree rows : List Numbered) (id : ℕ) (old text new : List ℕ) (who : Requester) (found entry : EntryInformation) (item : Protected) (permission : Permission)
    → tree ≡ rows → IsNumberedTree tree → Some found ≡ entry_of id tree
    → text ≡ certificate_text (entries_of rows) (asked_on who found item permission) found → new ≡ (if is_ok result then old ++ text else old)
    → entry_of id rows ≡ Some entry → HaveGoodNames (entries_of rows) → AreSaid who item permission
    → OnOk result (verified (entries_of rows) (drop (length old) new) ≡ Ok (granted (entries_of rows) who entry item permission))
append-accepted (Ok done) tree rows id old text new who found entry item permission is numbered there made appended known good said =
    let same = same_Some found entry (there ∙ ap (entry_of id) is ∙ known) in
    appended-accepted rows id old new who entry item permission (subst IsNumberedTree is numbered) known good said
    (appended ∙ ap (λ text. old ++ text) (made ∙ ap (λ (entry : EntryInformation). certificate_text (entries_of rows) (asked_on who entry item permission) entry) same))
append-accepted (Err fault) tree rows id old text new who found entry item permission is numbered there made appended known good said = tt
