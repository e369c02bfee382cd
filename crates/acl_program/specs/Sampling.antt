-- The sample: its data file is loaded, its one connection is served, and a summary is put.
use Rattle.std.specs.Prelude.{◌≡◌, ◌≤◌, ℕ, List, ◌++◌, length, codes, decimal, Ok, Err}
use Rattle.command_words.specs.command.Command.{CommandView, Serve, Replay, Check, Why, Dump, Explain, Sample, Ask, Prove, Verify, Rights, Help, Version, IsCommand}
use Rattle.command_files.specs.dir_tree.Entry.{EntryInformation}
use Rattle.command_files.specs.ldif_load.load.DataFile.{FileCause, loads}
use Rattle.sample_input.specs.SampleFile.{sample_file}
use Rattle.sample_input.specs.SampleEvents.{sample_events}
use Rattle.sample_input.specs.Counting.{found_in, hidden_in}
use Rattle.session_hub.specs.Parties.{DirectoryEntries}
use Rattle.acl_program.specs.Lines.{sent_over}

-- all that is sent to the connection of a sample of so many persons, over these entries
abbrev pub sample_replies : DirectoryEntries → ℕ → List ℕ
sample_replies entries count = sent_over entries (sample_events count)

-- a summary: how many entries there are, how many were sent, and how many replies say that there is no such object
unfoldable pub summary : ℕ → List ℕ → List ℕ
summary entries replies =
    codes "entries " ++ (decimal entries ++ (codes "\nfound " ++ (decimal (found_in replies) ++ (codes "\nhidden " ++ (decimal (hidden_in replies) ++ codes "\n")))))

-- the text of a sample: its summary
abbrev pub sample_text : DirectoryEntries → ℕ → List ℕ
sample_text entries count = summary (length entries) (sample_replies entries count)

-- the words ask for a sample, whose data file loads as these entries, and this is its text
pub record Samples (words : List (List ℕ)) (text : List ℕ) : Type 0 where
  pub count : ℕ
  pub entries : List EntryInformation
  pub asked : IsCommand words (Sample count)
  pub loaded : loads (sample_file count) ≡ Ok entries
  pub is : text ≡ sample_text entries count

-- the words ask for a sample, whose data file isn't accepted, for this cause at this line
pub record RefusesSample (words : List (List ℕ)) (line : ℕ) (cause : FileCause) : Type 0 where
  pub count : ℕ
  pub asked : IsCommand words (Sample count)
  pub bad : loads (sample_file count) ≡ Err (record { line = line; cause = cause })

-- a sample has no more persons than words may ask for
abbrev pub IsFew : CommandView → Type 0
IsFew (Serve serving) = Unit {0}
IsFew (Replay data_file script turns dump) = Unit {0}
IsFew (Check data_file changes) = Unit {0}
IsFew (Why data_file) = Unit {0}
IsFew (Dump data_file changes) = Unit {0}
IsFew (Explain data_file who target item permission) = Unit {0}
IsFew (Sample count) = count ≤ 20000
IsFew (Ask data_file requests script) = Unit {0}
IsFew (Prove data_file who target item permission) = Unit {0}
IsFew (Verify data_file certificate) = Unit {0}
IsFew (Rights data_file who target) = Unit {0}
IsFew Help = Unit {0}
IsFew Version = Unit {0}
