-- The four lines of a question are read as it, and words that ask a question say it.
use Rattle.std.proofs.Common.{◌≡◌, ℕ, ◌∙◌, sym, ap, subst, refl, Bool, true, false, not, inl, inr, List, [], ◌∷◌, ◌++◌, map, find, Option, Some, Result, Ok}
use Rattle.std.specs.Prelude.{codes, option_and_then}
use Rattle.std.specs.List.{list_all}
use Rattle.std.specs.Str.{bytes_eq, is_utf8}
use Rattle.std.proofs.lemmas.Bool.{cases_Bool, and_parts, not-true}
use Rattle.std.proofs.lemmas.List.{append-nil}
use Rattle.std.proofs.lemmas.Option.{option_and_then_some}
use Rattle.std.proofs.lemmas.Slice.Eq.{bytes_eq-Decides}
use Rattle.dir_tree.specs.plain_values.Options.{◌>>=◌}
use Rattle.dir_tree.specs.dn_names.name.Names.{RdnSequence}
use Rattle.dir_tree.specs.dn_names.name.GoodNames.{IsGoodName}
use Rattle.dir_tree.specs.dn_names.value.Values.{of_text}
use Rattle.dir_tree.specs.Entry.{EntryInformation}
use Rattle.dir_tree.proofs.base_laws_proofs.Theorems.{find-passes}
use Rattle.acdf_filters.specs.aci_item.ItemPrinted.{permission_name}
use Rattle.acdf_filters.specs.aci_item.declared.permission.Permission.{Permission}
use Rattle.acdf_filters.specs.declared.asking.Requester.{Requester}
use Rattle.acdf_filters.specs.Asking.{Protected, asked_on}
use Rattle.line_text.specs.Escapes.{escaped}
use Rattle.line_text.proofs.Theorems.{read_back-escaped}
use Rattle.explanation.specs.NameWords.{name_in, who_of, target_of}
use Rattle.explanation.specs.ItemWords.{item_of}
use Rattle.explanation.specs.PermissionWords.{asked_permissions, permission_of}
use Rattle.explanation.specs.Questions.{Question}
use Rattle.explanation.specs.Reading.{question_of}
use Rattle.certify.specs.declared.fault.CertFault.{CertFault}
use Rattle.certify.specs.declared.form_lines.Part.TheVariants.{Scopes}
use Rattle.certify.specs.Lines.{whole, before}
use Rattle.certify.specs.Certificate.{who_line, item_word, question_lines}
use Rattle.certify.specs.FormLines.{behind, item_in}
use Rattle.certify.specs.Form.{or_form, stated, from_target, from_item, from_permission, body_from}
use Rattle.certify.specs.Readable.{AreSaid}
use Rattle.certify.proofs.laws.EndLemmas.{has_end}
use Rattle.certify.proofs.laws.LineLemmas.{shown}
use Rattle.certify.proofs.laws.WordLemmas.{after-front}
use Rattle.certify.proofs.laws.ItemLemmas.{of_text-known, item_of-item_word}
use Rattle.certify.proofs.laws.WhoLemmas.{behind-name, who_of-line}

-- what each of a list passes, what is found passes
find-each : {A : Type 0} (p q : A → Bool) (xs : List A) (y : A) → list_all q xs ≡ true → find p xs ≡ Some y → q y ≡ true
find-each p q [] y all found = absurd cc
find-each p q (x ∷ xs) y all found =
    let both = and_parts (q x) (list_all q xs) all in
    elim (cases_Bool (p x)) [
      | inl e ↦ (let is : Some x ≡ Some y = rw e at found in let same : x ≡ y = cc in ap q (sym same) ∙ both.0)
      | inr e ↦ find-each p q xs y both.1 (rw e at found)
    ]

-- the name of a permission that a word says has no LF, and says it
permissions_kept : list_all (λ permission. not (has_end (permission_name permission))) asked_permissions ≡ true
permissions_kept = refl

pub permission-kept : (word : List ℕ) (permission : Permission) → permission_of word ≡ Some permission → has_end (permission_name permission) ≡ false
permission-kept word permission said =
    not-true (has_end (permission_name permission))
    (find-each (λ permission. bytes_eq word (permission_name permission)) (λ permission. not (has_end (permission_name permission))) asked_permissions permission permissions_kept said)

permission-named : (word : List ℕ) (permission : Permission) → permission_of word ≡ Some permission → permission_of (permission_name permission) ≡ Some permission
permission-named word permission said =
    let is = find-passes (λ permission. bytes_eq word (permission_name permission)) asked_permissions permission said in
    ap permission_of (sym ((bytes_eq-Decides word (permission_name permission)).0 is)) ∙ said

permission-line : (word : List ℕ) (permission : Permission) → permission_of word ≡ Some permission
    → behind (codes "permission ") permission_of (shown (whole (codes "permission " ++ permission_name permission))) ≡ Some permission
permission-line word permission said =
    ap (behind (codes "permission ") permission_of) (append-nil (codes "permission " ++ permission_name permission))
    ∙ ap (option_and_then permission_of) (after-front (codes "permission ") (permission_name permission))
    ∙ permission-named word permission said

-- the line of the item
item-line : (word : List ℕ) (item : Protected) → of_text item_of word ≡ Some item
    → behind (codes "item ") item_in (shown (whole (codes "item " ++ escaped (item_word item)))) ≡ Some item
item-line word item said =
    ap (behind (codes "item ") item_in) (append-nil (codes "item " ++ escaped (item_word item)))
    ∙ ap (option_and_then item_in) (after-front (codes "item ") (escaped (item_word item)))
    ∙ ap (option_and_then (of_text item_of)) (read_back-escaped (item_word item))
    ∙ item_of-item_word word item said

-- a line that is read
stated-read : {A B : Type 0} (number : ℕ) (read : List ℕ → Option A) (line : List ℕ) (lines : List (List ℕ)) (go : A → List (List ℕ) → Result B CertFault) (found : A)
    → read line ≡ Some found → stated number read (line ∷ lines) go ≡ go found lines
stated-read number read line lines go found is = ap (λ read. or_form number read (λ found. go found lines)) is

-- the question on an entry, by its own name
abbrev pub question_on : Requester → EntryInformation → Protected → Permission → Question
question_on who entry item permission = record { who = who; target = entry.name; item = item; permission = permission }

-- the four lines, and a body behind them
pub question-read : (rest : List ℕ) (entry : EntryInformation) (who : Requester) (item : Protected) (permission : Permission) (body : List (List ℕ))
    → IsGoodName entry.name → AreSaid who item permission
    → body_from 5 Scopes rest (question_on who entry item permission) body ≡ Ok (question_on who entry item permission)
    → stated 1 (behind (codes "who ") who_of) (map shown (question_lines entry (asked_on who entry item permission)) ++ body) (λ who lines. from_target who rest lines)
    ≡ Ok (question_on who entry item permission)
question-read rest entry who item permission body good said formed =
    let target = before (codes "target ") entry.name in
    let asked_item = whole (codes "item " ++ escaped (item_word item)) in
    let asked_permission = whole (codes "permission " ++ permission_name permission) in
    stated-read 1 (behind (codes "who ") who_of) (shown (who_line who.name)) (shown target ∷ shown asked_item ∷ shown asked_permission ∷ body)
    (λ who lines. from_target who rest lines) who (who_of-line said.says_who.0 who said.says_who.1)
    ∙ stated-read 2 (behind (codes "target ") name_in) (shown target) (shown asked_item ∷ shown asked_permission ∷ body)
    (λ target lines. from_item who target rest lines) entry.name (behind-name (codes "target ") entry.name good)
    ∙ stated-read 3 (behind (codes "item ") item_in) (shown asked_item) (shown asked_permission ∷ body)
    (λ item lines. from_permission who entry.name item rest lines) item (item-line said.says_item.0 item said.says_item.1)
    ∙ stated-read 4 (behind (codes "permission ") permission_of) (shown asked_permission) body
    (λ permission lines. body_from 5 Scopes rest (question_on who entry item permission) lines) permission
    (permission-line said.says_permission.0 permission said.says_permission.1)
    ∙ formed

-- words that ask a question say it
pub AreSaid-question_of : (who target item permission : List ℕ) (question : Question) → is_utf8 item ≡ true → question_of who target item permission ≡ Some question
    → AreSaid question.who question.item question.permission
unfolding question_of
AreSaid-question_of who target item permission question is_text asked =
    option_and_then_some
    (λ requester. target_of target >>= λ name. item_of item >>= λ protected. permission_of permission >>= λ asked. Some (record { who = requester; target = name; item = protected; permission = asked }))
    (who_of who) question asked
    (λ requester by_who rest. option_and_then_some
    (λ name. item_of item >>= λ protected. permission_of permission >>= λ asked. Some (record { who = requester; target = name; item = protected; permission = asked }))
    (target_of target) question rest
    (λ name by_target rest. option_and_then_some
    (λ protected. permission_of permission >>= λ asked. Some (record { who = requester; target = name; item = protected; permission = asked }))
    (item_of item) question rest
    (λ protected by_item rest. option_and_then_some
    (λ asked. Some (record { who = requester; target = name; item = protected; permission = asked }))
    (permission_of permission) question rest
    (λ asked by_permission same. are_said requester name protected asked by_who by_item by_permission same))))
  where
    are_said : (requester : Requester) (name : RdnSequence) (protected : Protected) (asked : Permission)
        → who_of who ≡ Some requester → item_of item ≡ Some protected → permission_of permission ≡ Some asked
        → Some (record { who = requester; target = name; item = protected; permission = asked }) ≡ Some question
        → AreSaid question.who question.item question.permission
    are_said requester name protected asked by_who by_item by_permission same =
        let is : record { who = requester; target = name; item = protected; permission = asked } ≡ question = cc in
        subst (λ (question : Question). AreSaid question.who question.item question.permission) is (record {
          says_who = (who, by_who);
          says_item = (item, of_text-known item_of item is_text ∙ by_item);
          says_permission = (permission, by_permission);
        })
