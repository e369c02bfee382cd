-- Files of changes as a server writes them (RFC 2849, ldif-changes), and what is read of them again.
use Rattle.std.specs.Prelude.{◌≡◌, ℕ, List, [], Ok}
use Rattle.whole_blocks.specs.Blocks.{whole_part}
use Rattle.change_replay.specs.change_records.Files.{head_text, file_text}
use Rattle.change_replay.specs.change_records.Laws.{recorded, Says}
use Rattle.change_replay.specs.change_records.Writable.{IsDigest}
use Rattle.change_replay.specs.Accepted.{AcceptedChange, AreAccepted, requests_of, left_after}
use Rattle.change_replay.specs.Laws.{AreOfOctets}
use Rattle.change_replay.specs.Replayed.{replayed}
use Rattle.session_hub.specs.Parties.{DirectoryEntries}

-- a file of changes as a server writes it: the head of a data file, and the records of changes that were accepted, each over
-- what those before it left of the data file's entries
pub record IsWrittenFile (first : DirectoryEntries) (digest : List ℕ) (done : List AcceptedChange) (text : List ℕ) : Type 0 where
  pub digest_is : IsDigest digest
  pub accepted : AreAccepted first done
  pub octets : AreOfOctets done
  pub text_is : text ≡ file_text digest (requests_of done)

-- the changes are recorded: the text is a file of them, and the entries are those that they left
pub record AreRecorded (first : DirectoryEntries) (digest : List ℕ) (done : List AcceptedChange) (text : List ℕ) (entries : DirectoryEntries) : Type 0 where
  pub written : IsWrittenFile first digest done text
  pub left : entries ≡ left_after first done

-- the text is whole, it says these changes, and replayed over the first entries they leave what they left when they were
-- accepted
pub record IsReadAgain (first : DirectoryEntries) (digest : List ℕ) (done : List AcceptedChange) (text : List ℕ) : Type 0 where
  pub whole : whole_part text ≡ text
  pub says : Says digest (requests_of done) text
  pub left : replayed first (recorded 4 (requests_of done)) ≡ Ok (left_after first done)

-- the head alone is such a file
abbrev pub BeginsWithItsHead : Type 0
BeginsWithItsHead = (first : DirectoryEntries) (digest : List ℕ) → IsDigest digest → IsWrittenFile first digest [] (head_text digest)

-- such a file is read again
abbrev pub IsReadAsWritten : Type 0
IsReadAsWritten =
    (first : DirectoryEntries) (digest : List ℕ) (done : List AcceptedChange) (text : List ℕ)
    → IsWrittenFile first digest done text → IsReadAgain first digest done text
