-- Lemmas on what is told of a data file of which was asked why.
use Rattle.std.proofs.Common.{◌≡◌, ℕ, ◌≤◌, List, length, Option, Some, Ok, Err, refl, sym, ap, subst, inl, inr}
use Rattle.std.specs.Prelude.{Vec}
use Rattle.std.specs.Global.{Global}
use Rattle.command_words.specs.command.Command.{Why, IsCommand}
use Rattle.command_words.proofs.Theorems.{IsCommand-unique}
use Rattle.command_files.proofs.Theorems.{FailsIn-weaker, HoldsIn-weaker}
use Rattle.command_files.proofs.wire_io_proofs.Theorems.{appended-none}
use Rattle.command_files.specs.Outside.{Written}
use Rattle.command_files.specs.data_file.Files.{cause_of, fault_of}
use Rattle.command_files.specs.data_file.declared.fault.DataCause.{DataCause}
use Rattle.command_files.specs.data_file.declared.fault.DataFault.TheVariants.{Bad}
use Rattle.command_files.specs.declared.loading.Trouble.{Trouble}
use Rattle.command_files.specs.declared.loading.Trouble.TheVariants as trouble
use Rattle.command_files.specs.dir_tree.Entry.{EntryInformation}
use Rattle.command_files.specs.ldif_load.declared.fault.LoadCause.TheVariants as load
use Rattle.command_files.specs.ldif_load.load.DataFile.{OfRecord, loads}
use Rattle.command_files.specs.loading.Accepting.{FailsIn, HoldsIn, IsBadData, IsFaultyData, IsGoodData, IsLongData, most_data}
use Rattle.command_files.specs.loading.Loading.{LoadsContent}
use Rattle.command_files.specs.plain_values.Answers.{IsFaultOf}
use Rattle.command_files.specs.wire_io.Files.{Files}
use Rattle.acl_program.specs.Answering.{why_text}
use Rattle.acl_program.specs.Deciding.{EndsWhy, IsWhy}
use Rattle.acl_program.specs.Outcomes.{Outcome, Answered, Explained, OutOfMemory}
use Rattle.acl_program.specs.declared.status.Status.{Status}
use Rattle.acl_program.specs.declared.status.Status.TheVariants.{NoMemory}
use Rattle.acl_program.specs.Troubles.{outcome_of}
use Rattle.acl_program.specs.program.Causes.{AsksData, Comes, Links, data_of}
use Rattle.acl_program.specs.program.Outside.{Linked, Outside}
use Rattle.acl_program.specs.program.Playing.{Ends, ComesFor, Performs}
use Rattle.acl_program.proofs.program.PerformLemmas.{links_refused}
use Rattle.acl_program.proofs.troubles.EndsLemmas.{Ends-no_memory}

-- the octets that were read are not too many
pub LoadsContent-short : (files : Option Files) (name lent : List ℕ) (before after : ℕ) (octets : Vec ℕ Global) → lent ≡ octets.items → LoadsContent files name before after (Ok octets) → length lent ≤ most_data
unfolding LoadsContent
LoadsContent-short files name lent before after octets same loads = subst (λ all. length all ≤ most_data) (sym same) loads.1

-- the file wasn't read, or is too long
content_refused : (name : List ℕ) (files : Option Files) (before after : ℕ) (why : Trouble) → LoadsContent files name before after (Err why) → ComesFor (Why name) files before after (outcome_of why)
unfolding LoadsContent Comes AsksData IsBadData
content_refused name files before after trouble.NoFile loads =
    λ words is. inl (record { data_file = name; asked = (Why name, is, refl); unread = loads })
content_refused name files before after (trouble.BadData line cause) loads =
    let limit : cause_of cause ≡ OfRecord load.Limit = ap cause_of loads.1 in
    let same_file : (words : List (List ℕ)) (other : List ℕ) → IsCommand words (Why name) → IsCommand words (Why other) → name ≡ other =
    (λ words other is is_other. let same : Some name ≡ Some other = ap data_of (IsCommand-unique words (Why name) (Why other) is is_other) in cc (same)) in
    λ words is. (
      inl (record { data_file = name; asked = (Why name, is, refl); bad = FailsIn-weaker files name (IsLongData line) (IsBadData line (cause_of cause)) (λ content long. inr (long, limit)) loads.0 }),
      (λ other is_other. (subst (λ file. FailsIn files file (IsLongData line)) (same_file words other is is_other) loads.0, limit)),
      loads.2,
    )
content_refused name files before after (trouble.BadLine file line) loads = absurd loads
content_refused name files before after (trouble.BadChanges line cause) loads = absurd loads
content_refused name files before after trouble.NoMemory loads = λ words is. loads

pub Performs-unexplained :
    (name : List ℕ) (before after : Outside) (status : Status) (why : Trouble)
    → LoadsContent before.shelf.files name before.shelf.faults after.shelf.faults (Err why) → Ends (outcome_of why) before.out status after.out
    → after.link ≡ before.link → Performs (Why name) before status after
unfolding Performs
Performs-unexplained name before after status why loads ends stays = (
  outcome_of why,
  content_refused name before.shelf.files before.shelf.faults after.shelf.faults why loads,
  ends,
  links_refused (Why name) why before.link after.link stays (λ line cause is. stays),
)

-- the outcome comes with every words that ask why, where the file has the content
comes_why :
    (words : List (List ℕ)) (files : Option Files) (name content : List ℕ) (before after : ℕ) (outcome : Outcome)
    → IsCommand words (Why name) → HoldsIn files name (λ own. own ≡ content) → length content ≤ most_data → after ≡ before → IsWhy content outcome → Comes words files before after outcome
unfolding Comes IsWhy
comes_why words files name content before after (Answered text) is holds short stays why =
    let good : IsGoodData why.0 content = record { short = short; loaded = why.1 } in (
      record {
        command = Why name;
        asked = is;
        tells = record {
          entries = why.0;
          good = HoldsIn-weaker files name (λ own. own ≡ content) (IsGoodData why.0) (λ own same. subst (IsGoodData why.0) (sym same) good) holds;
          is = why.2;
        };
      },
      stays,
    )
comes_why words files name content before after (Explained line cause own) is holds short stays why =
    let bad : IsFaultyData line cause content = (short, why.1) in (
      record {
        data_file = name;
        asked = is;
        is = subst (λ all. HoldsIn files name (λ found. found ≡ all)) (sym why.0) holds;
        bad = subst (IsFaultyData line cause) (sym why.0) bad;
      },
      stays,
    )
comes_why words files name content before after OutOfMemory is holds short stays why = stays
comes_why words files name content before after outcome is holds short stays why = absurd why

-- and leaves the link as it is
links_why : (words : List (List ℕ)) (content : List ℕ) (outcome : Outcome) (old new : Linked) → IsWhy content outcome → new ≡ old → Links words outcome old new
unfolding Links IsWhy
links_why words content (Answered text) old new why stays = stays
links_why words content (Explained line cause own) old new why stays = stays
links_why words content OutOfMemory old new why stays = inl stays
links_why words content outcome old new why stays = absurd why

-- the file was read, and what is told of its content was to be put
pub Performs-why :
    (name lent : List ℕ) (before after : Outside) (status : Status) (octets : Vec ℕ Global)
    → lent ≡ octets.items → LoadsContent before.shelf.files name before.shelf.faults after.shelf.faults (Ok octets) → EndsWhy lent before.out status after.out
    → after.link ≡ before.link → Performs (Why name) before status after
unfolding Performs LoadsContent EndsWhy
Performs-why name lent before after status octets same loads ends stays =
    let why : IsWhy octets.items ends.0 = subst (λ all. IsWhy all ends.0) same ends.1 in (
      ends.0,
      (λ words is. comes_why words before.shelf.files name octets.items before.shelf.faults after.shelf.faults ends.0 is loads.0 loads.1 loads.2 why),
      ends.2,
      λ words is. links_why words octets.items ends.0 before.link after.link why stays,
    )

-- the content is a data file
pub EndsWhy-good :
    (content : List ℕ) (entries : List EntryInformation) (before after : Written) (status : Status)
    → loads content ≡ Ok entries → Ends (Answered (why_text entries)) before status after → EndsWhy content before status after
unfolding EndsWhy IsWhy
EndsWhy-good content entries before after status loaded ends = (Answered (why_text entries), (entries, loaded, refl), ends)

-- it is refused
pub EndsWhy-bad :
    (content : List ℕ) (line : ℕ) (cause : DataCause) (before after : Written) (status : Status)
    → IsFaultOf (fault_of (Bad line cause)) (loads content) → Ends (Explained line (cause_of cause) content) before status after → EndsWhy content before status after
unfolding EndsWhy IsWhy
EndsWhy-bad content line cause before after status bad ends = (Explained line (cause_of cause) content, (refl, bad), ends)

-- there was no memory to load it
pub EndsWhy-no_memory : (content : List ℕ) (before : Written) → EndsWhy content before NoMemory before
unfolding EndsWhy IsWhy
EndsWhy-no_memory content before = (OutOfMemory, tt, Ends-no_memory OutOfMemory before before 0 (appended-none before.put) refl)
