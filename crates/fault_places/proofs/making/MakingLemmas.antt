-- The entry that a record makes, line by line.
use Rattle.std.proofs.Common.{◌≡◌, ℕ, Bool, List, [], ◌∷◌, Option, Some, None, Result, Ok, Err, refl, ap, sym, ◌∙◌}
use Rattle.std.specs.Prelude.{option_map}
use Rattle.std.specs.Option.{option_and_then}
use Rattle.std.specs.Result.{result_ok}
use Rattle.dir_tree.specs.dn_names.name.Names.{RdnSequence}
use Rattle.dir_tree.specs.dn_names.parsing.NameText.{read_name}
use Rattle.dir_tree.specs.Entry.{EntryInformation}
use Rattle.ldif_records.specs.declared.types.Record.{Record}
use Rattle.ldif_records.specs.declared.types.RecordLine.{RecordLine}
use Rattle.ldif_load.specs.load.Loading.{◌>>=◌, RecordFault, named, with_line, with_lines, with_own_values, entry_of_record}
use Rattle.fault_places.specs.Making.{with_all, taken}

-- a line that was added, or was not
pub all_by : (entry more : EntryInformation) (line : RecordLine) (rest : List RecordLine) (added : Bool) → taken added more ≡ result_ok (with_line entry line)
    → with_all entry (line ∷ rest) ≡ option_and_then (λ next. with_all next rest) (taken added more)
unfolding with_all
all_by entry more line rest added is = ap (option_and_then (λ next. with_all next rest)) (sym is)

pub all_end : (entry : EntryInformation) → with_all entry [] ≡ Some entry
unfolding with_all
all_end entry = refl

-- what follows a step that may be refused
then_ok : {A B : Type 0} (found : Result A RecordFault) (next : A → Result B RecordFault) → result_ok (found >>= next) ≡ option_and_then (λ value. result_ok (next value)) (result_ok found)
then_ok (Ok value) next = refl
then_ok (Err fault) next = refl

-- all lines as the file's definition has them
lines_each : (lines : List RecordLine) (found : Result EntryInformation RecordFault) → ((more : EntryInformation) → result_ok (with_lines more lines) ≡ with_all more lines)
    → option_and_then (λ more. result_ok (with_lines more lines)) (result_ok found) ≡ option_and_then (λ more. with_all more lines) (result_ok found)
lines_each lines (Ok more) same = same more
lines_each lines (Err fault) same = refl

pub lines_as : (entry : EntryInformation) (lines : List RecordLine) → result_ok (with_lines entry lines) ≡ with_all entry lines
unfolding with_lines with_all
lines_as entry [] = refl
lines_as entry (line ∷ lines) =
    then_ok (with_line entry line) (λ more. with_lines more lines) ∙ lines_each lines (with_line entry line) (λ more. lines_as more lines)

own_as : (found : Result EntryInformation RecordFault) → result_ok (found >>= λ entry. Ok (with_own_values entry)) ≡ option_map with_own_values (result_ok found)
own_as (Ok entry) = refl
own_as (Err fault) = refl

-- the entry of a record by its name
pub made_by : (given : Record) (octets : List ℕ) (name : Option RdnSequence) → octets ≡ given.name → ((line : ℕ) → name ≡ result_ok (named line (read_name octets)))
    → result_ok (entry_of_record given)
    ≡ option_and_then (λ name. option_map with_own_values (with_all (record { name = name; attributes = [] }) given.lines)) name
unfolding entry_of_record
made_by given octets name same is =
    then_ok (named given.line (read_name given.name)) (λ name. with_lines (record { name = name; attributes = [] }) given.lines >>= λ entry. Ok (with_own_values entry))
    ∙ ap (option_and_then (λ name. result_ok (with_lines (record { name = name; attributes = [] }) given.lines >>= λ entry. Ok (with_own_values entry))))
    (ap (λ found. result_ok (named given.line (read_name found))) (sym same) ∙ sym (is given.line))
    ∙ each name
  where
    each : (found : Option RdnSequence)
        → option_and_then (λ name. result_ok (with_lines (record { name = name; attributes = [] }) given.lines >>= λ entry. Ok (with_own_values entry))) found
        ≡ option_and_then (λ name. option_map with_own_values (with_all (record { name = name; attributes = [] }) given.lines)) found
    each None = refl
    each (Some name) = own_as (with_lines (record { name = name; attributes = [] }) given.lines)
        ∙ ap (option_map with_own_values) (lines_as (record { name = name; attributes = [] }) given.lines)
