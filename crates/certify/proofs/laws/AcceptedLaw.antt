-- What is proved is accepted.
use Rattle.std.proofs.Common.{◌≡◌, ℕ, ◌∙◌, ap, refl, List, [], ◌∷◌, ◌++◌, map, Some, Ok}
use Rattle.std.specs.Prelude.{codes, flat_map}
use Rattle.std.specs.List.{AllByRecursion}
use Rattle.std.specs.Option.{option_map_or}
use Rattle.std.proofs.lemmas.List.{map-append}
use Rattle.dir_tree.specs.plain_values.Results.{◌>>=◌}
use Rattle.dir_tree.specs.dn_names.name.GoodNames.{IsGoodName}
use Rattle.dir_tree.specs.Entry.{EntryInformation}
use Rattle.dir_tree.specs.tree.Trees.{named_in}
use Rattle.dir_tree.proofs.base_laws_proofs.Theorems.{all_map, all_append, all_push}
use Rattle.dir_tree.proofs.TreeTheorems.{all_named, found_by_own_name}
use Rattle.acdf_filters.specs.aci_item.declared.permission.Permission.{Permission}
use Rattle.acdf_filters.specs.declared.asking.Requester.{Requester}
use Rattle.acdf_filters.specs.Asking.{Protected, Asked, asked_on}
use Rattle.acdf_filters.specs.Filters.{decided}
use Rattle.acdf_filters.specs.Granted.{placed_of, granted}
use Rattle.line_text.specs.Lines.{lines_of, rest_of}
use Rattle.explanation.specs.NameWords.{who_of}
use Rattle.explanation.specs.Questions.{Question}
use Rattle.certify.specs.declared.form_lines.Part.{Part}
use Rattle.certify.specs.declared.form_lines.Part.TheVariants.{Scopes, Tuples, Outcome}
use Rattle.certify.specs.Lines.{Line, whole, line_text}
use Rattle.certify.specs.Certificate.{question_lines, scope_lines, tuple_line, outcome_word, certificate, certificate_text, proved_text, text_proved}
use Rattle.certify.specs.FormLines.{behind}
use Rattle.certify.specs.Form.{stated, from_target, form_of}
use Rattle.certify.specs.Comparing.{compared}
use Rattle.certify.specs.Verifying.{asked_lines, checked, verified}
use Rattle.certify.specs.Readable.{AreSaid, HaveGoodNames}
use Rattle.certify.proofs.laws.LineLemmas.{IsPrinted, shown, lines_of-text, rest_of-text}
use Rattle.certify.proofs.laws.WhoLemmas.{who_of-good}
use Rattle.certify.proofs.laws.AgreementLemmas.{compared-shown}
use Rattle.certify.proofs.laws.PartLemmas.{IsIn, from-scopes}
use Rattle.certify.proofs.laws.PrintedLemmas.{IsFormed, scopes-formed, tuples-formed, outcome-formed, question-printed}
use Rattle.certify.proofs.laws.QuestionLemmas.{permission-kept, question_on, question-read}

-- lines of a part are printed, and stand in it
all-printed : (part : Part) (lines : List Line) → AllByRecursion (IsFormed part) lines → AllByRecursion IsPrinted lines
all-printed part lines formed = all_map (IsFormed part) IsPrinted (λ line is. is.printed) lines formed

all-placed : (part : Part) (lines : List Line) → AllByRecursion (IsFormed part) lines → AllByRecursion (IsIn part) lines
all-placed part lines formed = all_map (IsFormed part) (IsIn part) (λ line is. is.placed) lines formed

-- three kinds of lines behind the question's
abbrev joined : List Line → List Line → List Line → Line → List Line
joined asks scopes tuples outcome = asks ++ (scopes ++ (tuples ++ outcome ∷ []))

-- all are printed
joined-printed : (asks scopes tuples : List Line) (outcome : Line) → AllByRecursion IsPrinted asks → AllByRecursion (IsFormed Scopes) scopes
    → AllByRecursion (IsFormed Tuples) tuples → IsFormed Outcome outcome → AllByRecursion IsPrinted (joined asks scopes tuples outcome)
joined-printed asks scopes tuples outcome first second third last =
    all_append IsPrinted asks (scopes ++ (tuples ++ outcome ∷ [])) first
    (all_append IsPrinted scopes (tuples ++ outcome ∷ []) (all-printed Scopes scopes second)
    (all_push IsPrinted tuples outcome (all-printed Tuples tuples third) last.printed))

-- and their octets stand one behind the other
joined-shown : (asks scopes tuples : List Line) (outcome : Line)
    → map shown (joined asks scopes tuples outcome) ≡ map shown asks ++ (map shown scopes ++ (map shown tuples ++ shown outcome ∷ []))
joined-shown asks scopes tuples outcome =
    map-append shown asks (scopes ++ (tuples ++ outcome ∷ []))
    ∙ ap (λ rest. map shown asks ++ rest)
    (map-append shown scopes (tuples ++ outcome ∷ []) ∙ ap (λ rest. map shown scopes ++ rest) (map-append shown tuples (outcome ∷ [])))

-- the form of a text, by its lines
form-by : (text : List ℕ) (lines : List (List ℕ)) (question : Question) → rest_of text ≡ [] → lines_of text ≡ lines
    → stated 1 (behind (codes "who ") who_of) lines (λ who lines. from_target who [] lines) ≡ Ok question → form_of text ≡ Ok question
unfolding form_of
form-by text lines question rest are formed =
    ap (λ rest. stated 1 (behind (codes "who ") who_of) (lines_of text) (λ who lines. from_target who rest lines)) rest
    ∙ ap (λ lines. stated 1 (behind (codes "who ") who_of) lines (λ who lines. from_target who [] lines)) are
    ∙ formed

-- a text that is in the form of a question, by the lines of its certificate
verified-by : (entries : List EntryInformation) (text : List ℕ) (lines : List (List ℕ)) (question : Question) (entry : EntryInformation)
    → form_of text ≡ Ok question → lines_of text ≡ lines → named_in question.target entries ≡ Some entry
    → compared 1 lines (asked_lines entries question entry) ≡ Ok tt
    → verified entries text ≡ Ok (granted entries question.who entry question.item question.permission)
unfolding verified
verified-by entries text lines question entry formed are known same =
    ap (λ result. result >>= λ question. checked entries (lines_of text) question (named_in question.target entries)) formed
    ∙ ap (checked entries (lines_of text) question) known
    ∙ ap (λ lines. compared 1 lines (asked_lines entries question entry) >>= λ same. Ok (granted entries question.who entry question.item question.permission)) are
    ∙ ap (λ result. result >>= λ same. Ok (granted entries question.who entry question.item question.permission)) same

-- the lines of a certificate
abbrev tuples_for : List EntryInformation → Asked → EntryInformation → List Line
tuples_for entries asked entry = map (tuple_line asked (placed_of entries asked.who entry)) (placed_of entries asked.who entry)

abbrev outcome_for : List EntryInformation → Asked → EntryInformation → Line
outcome_for entries asked entry = whole (outcome_word (decided asked (placed_of entries asked.who entry)))

certificate-joined : (entries : List EntryInformation) (asked : Asked) (entry : EntryInformation)
    → certificate entries asked entry ≡ joined (question_lines entry asked) (scope_lines entries entry) (tuples_for entries asked entry) (outcome_for entries asked entry)
unfolding certificate
certificate-joined entries asked entry = refl

certificate-printed : (entries : List EntryInformation) (who : Requester) (entry : EntryInformation) (item : Protected) (permission : Permission)
    → HaveGoodNames entries → IsGoodName entry.name → AreSaid who item permission
    → AllByRecursion IsPrinted (certificate entries (asked_on who entry item permission) entry)
unfolding certificate
certificate-printed entries who entry item permission good named said =
    let asked = asked_on who entry item permission in
    joined-printed (question_lines entry asked) (scope_lines entries entry) (tuples_for entries asked entry) (outcome_for entries asked entry)
    (question-printed entry asked named (who_of-good said.says_who.0 who said.says_who.1) (permission-kept said.says_permission.0 permission said.says_permission.1))
    (scopes-formed entries entry good)
    (tuples-formed asked (placed_of entries who entry))
    (outcome-formed (decided asked (placed_of entries who entry)))

-- its text is in the form of the question
certificate-form : (entries : List EntryInformation) (who : Requester) (entry : EntryInformation) (item : Protected) (permission : Permission)
    → HaveGoodNames entries → IsGoodName entry.name → AreSaid who item permission
    → form_of (certificate_text entries (asked_on who entry item permission) entry) ≡ Ok (question_on who entry item permission)
certificate-form entries who entry item permission good named said =
    let asked = asked_on who entry item permission in
    let lines = certificate entries asked entry in
    let scopes = scope_lines entries entry in
    let tuples = tuples_for entries asked entry in
    let outcome = outcome_for entries asked entry in
    let body = map shown scopes ++ (map shown tuples ++ shown outcome ∷ []) in
    let printed = certificate-printed entries who entry item permission good named said in
    let question = question_on who entry item permission in
    form-by (flat_map line_text lines) (map shown (question_lines entry asked) ++ body) question
    (rest_of-text lines printed)
    (lines_of-text lines printed ∙ ap (map shown) (certificate-joined entries asked entry) ∙ joined-shown (question_lines entry asked) scopes tuples outcome)
    (question-read [] entry who item permission body named said
    (from-scopes 5 question scopes tuples outcome
    (all-placed Scopes scopes (scopes-formed entries entry good)) (all-placed Tuples tuples (tuples-formed asked (placed_of entries who entry)))
    (outcome-formed (decided asked (placed_of entries who entry))).placed))

-- so the certificate of a decision on an entry is accepted
pub verified-certificate : (entries : List EntryInformation) (who : Requester) (entry : EntryInformation) (item : Protected) (permission : Permission)
    → HaveGoodNames entries → AreSaid who item permission → named_in entry.name entries ≡ Some entry
    → verified entries (certificate_text entries (asked_on who entry item permission) entry) ≡ Ok (granted entries who entry item permission)
verified-certificate entries who entry item permission good said known =
    let lines = certificate entries (asked_on who entry item permission) entry in
    let named = all_named (λ entry. IsGoodName entry.name) entry.name entry entries good known in
    let printed = certificate-printed entries who entry item permission good named said in
    verified-by entries (flat_map line_text lines) (map shown lines) (question_on who entry item permission) entry
    (certificate-form entries who entry item permission good named said)
    (lines_of-text lines printed) known (compared-shown 1 lines printed)

-- and so is what is proved for a question
pub verified-proved : (entries : List EntryInformation) (question : Question) (entry : EntryInformation)
    → HaveGoodNames entries → AreSaid question.who question.item question.permission → named_in question.target entries ≡ Some entry
    → verified entries (text_proved entries question) ≡ Ok (granted entries question.who entry question.item question.permission)
unfolding proved_text
verified-proved entries question entry good said known =
    ap (λ found. verified entries (option_map_or (λ entry. certificate_text entries (asked_on question.who entry question.item question.permission) entry) found (codes "absent\n"))) known
    ∙ verified-certificate entries question.who entry question.item question.permission good said (found_by_own_name question.target entry entries known)
