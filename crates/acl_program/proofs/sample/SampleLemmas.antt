-- Lemmas on samples: which outcome their command comes to.
use Rattle.std.proofs.Common.{◌≡◌, ℕ, List, length, Ok, Err, refl, sym, ap, ◌∙◌, inr}
use Rattle.std.proofs.lemmas.List.{length-map}
use Rattle.command_words.specs.declared.table.CommandName.{CommandName}
use Rattle.command_words.specs.declared.table.CommandName.TheVariants as commands
use Rattle.command_words.specs.command.Line.{Line}
use Rattle.command_words.specs.command.Command.{CommandView, Serve, Replay, Check, Why, Dump, Explain, Sample, Ask, Prove, Verify, Rights, Help, Version, IsCommand, Says}
use Rattle.command_files.specs.dir_tree.Entry.{EntryInformation}
use Rattle.command_files.specs.dir_tree.tree.Numbered.{Numbered, entries_of}
use Rattle.command_files.specs.ldif_load.load.DataFile.{FileCause, loads}
use Rattle.sample_input.specs.SampleFile.{sample_file}
use Rattle.acl_program.specs.declared.status.Status.{Status}
use Rattle.acl_program.specs.program.Causes.{Comes, Links}
use Rattle.acl_program.specs.Outcomes.{Sampled, BadDataLine}
use Rattle.acl_program.specs.program.Outside.{Outside}
use Rattle.acl_program.specs.program.Playing.{Ends, Performs}
use Rattle.acl_program.specs.Sampling.{IsFew, sample_replies, summary, sample_text}
use Rattle.acl_program.proofs.program.PerformLemmas.{line_alone}

-- words ask for no more persons than a sample may have
says_few : (name : CommandName) (line : Line) (asked : CommandView) → Says name line asked → IsFew asked
says_few name line (Serve serving) says = tt
says_few name line (Replay data_file script turns dump) says = tt
says_few name line (Check data_file changes) says = tt
says_few name line (Why data_file) says = tt
says_few name line (Dump data_file changes) says = tt
says_few name line (Explain data_file who target item permission) says = tt
says_few name line (Ask data_file requests script) says = tt
says_few name line (Prove data_file who target item permission) says = tt
says_few name line (Verify data_file certificate) says = tt
says_few name line (Rights data_file who target) says = tt
says_few name line Help says = tt
says_few name line Version says = tt
says_few commands.Sample line (Sample count) says = says.2.stays_below
says_few name line (Sample count) says = absurd says

pub few_of : (words : List (List ℕ)) (asked : CommandView) → IsCommand words asked → IsFew asked
few_of words asked is = says_few is.name is.line asked is.says

-- a sample was loaded and served, and its summary was to be put
pub Performs-sampled :
    (count : ℕ) (entries : List EntryInformation) (before after : Outside) (status : Status)
    → loads (sample_file count) ≡ Ok entries → Ends (Sampled (sample_text entries count)) before.out status after.out
    → after.shelf.faults ≡ before.shelf.faults → after.link ≡ before.link → Performs (Sample count) before status after
unfolding Performs Comes Links
Performs-sampled count entries before after status loaded ends stays same = (
  Sampled (sample_text entries count),
  (λ words is. (record { count = count; entries = entries; asked = is; loaded = loaded; is = refl }, stays)),
  ends,
  λ words is. same,
)

-- the sample's file isn't accepted
pub Performs-unsampled :
    (count line : ℕ) (cause : FileCause) (before after : Outside) (status : Status)
    → loads (sample_file count) ≡ Err (record { line = line; cause = cause }) → Ends (BadDataLine line cause) before.out status after.out
    → after.shelf.faults ≡ before.shelf.faults → after.link ≡ before.link → Performs (Sample count) before status after
unfolding Performs Comes Links
Performs-unsampled count line cause before after status bad ends stays same = (
  BadDataLine line cause,
  (λ words is. (inr (record { count = count; asked = is; bad = bad }), line_alone words before.shelf.files line cause (Sample count) refl is, stays)),
  ends,
  λ words is. same,
)

-- the summary of what was sent over the entries of a tree
pub summary_is : (entries : ℕ) (sent : List ℕ) (rows : List Numbered) (count : ℕ) → entries ≡ length rows → sent ≡ sample_replies (entries_of rows) count
    → summary entries sent ≡ sample_text (entries_of rows) count
summary_is entries sent rows count as_many is =
    ap (λ number. summary number sent) (as_many ∙ sym (length-map rows (λ row. row.entry))) ∙ ap (summary (length (entries_of rows))) is
