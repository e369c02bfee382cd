-- Accepted changes one after the other: what they leave, that they are accepted, and the file that has their records.
use Rattle.std.proofs.Common.{◌≡◌, ℕ, List, [], ◌∷◌, ◌++◌, refl, sym, ap, ◌∙◌}
use Rattle.std.proofs.lemmas.List.{append_assoc, append-nil, map-append}
use Rattle.std.proofs.lemmas.Grind.{flat_map-append}
use Rattle.std.specs.List.{flat_map}
use Rattle.change_replay.specs.change_records.Written.{record_text}
use Rattle.change_replay.specs.change_records.Files.{head_text, file_text}
use Rattle.change_replay.specs.Accepted.{AcceptedChange, after, requests_of, left_after, AreAccepted}
use Rattle.session_hub.specs.Parties.{DirectoryEntries}

-- what the first and then the others leave
pub left-both : (entries : DirectoryEntries) (done more : List AcceptedChange) → left_after entries (done ++ more) ≡ left_after (left_after entries done) more
unfolding left_after
left-both entries [] more = refl
left-both entries (change ∷ done) more = left-both (after entries change) done more

-- the first are accepted, and the others over what those leave
pub accepted_both : (entries : DirectoryEntries) (done more : List AcceptedChange) → AreAccepted entries done → AreAccepted (left_after entries done) more
    → AreAccepted entries (done ++ more)
unfolding left_after
accepted_both entries [] more are others = others
accepted_both entries (change ∷ done) more are others = (are.0, accepted_both (after entries change) done more are.1 others)

pub accepted_front : (entries : DirectoryEntries) (done more : List AcceptedChange) → AreAccepted entries (done ++ more) → AreAccepted entries done
accepted_front entries [] more are = tt
accepted_front entries (change ∷ done) more are = (are.0, accepted_front (after entries change) done more are.1)

-- the requests of both
pub requests-both : (done more : List AcceptedChange) → requests_of (done ++ more) ≡ requests_of done ++ requests_of more
requests-both done more = map-append (λ (change : AcceptedChange). change.request) done more

-- a file of no changes is the head
pub file-none : (digest : List ℕ) → head_text digest ≡ file_text digest []
unfolding file_text
file-none digest = sym (append-nil (head_text digest))

-- a file with the records of others is a file of both
pub file-both : (digest : List ℕ) (done more : List AcceptedChange)
    → file_text digest (requests_of done) ++ flat_map record_text (requests_of more) ≡ file_text digest (requests_of (done ++ more))
unfolding file_text
file-both digest done more =
    append_assoc (head_text digest) (flat_map record_text (requests_of done)) (flat_map record_text (requests_of more))
    ∙ ap (λ records. head_text digest ++ records)
    (sym (flat_map-append record_text (requests_of done) (requests_of more)) ∙ ap (λ asked. flat_map record_text asked) (sym (requests-both done more)))
