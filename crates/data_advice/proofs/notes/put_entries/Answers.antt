-- All entries are those from the suffix on.
use Rattle.std.proofs.Common.{◌++◌, List, ◌∙◌, sym, ap}
use Rattle.std.specs.Prelude.{flat_map, string_bytes}
use Rattle.std.proofs.lemmas.List.{append-nil}
use Rattle.dir_tree.specs.Entry.{EntryInformation}
use Rattle.dir_tree.specs.tree.Numbered.{entries_of}
use Rattle.data_advice.specs.EntryNotes.{entry_note}
use Rattle.data_advice.proofs.notes.WalkLemmas.{texts_below, none_below}
use Rattle.data_advice.proofs.notes.put_entries.Goals as goal

pub returns-in-Some-clause-ok : goal.returns-in-Some-clause-ok
returns-in-Some-clause-ok c =
    rw (texts_below (entry_note (entries_of c.args.tree.now)) c.args.tree.now c.in-Some.suffix.0 c.entries_form_a_tree.ensures.exact (sym c.in-Some.ensures.exact))
    at c.put_from.ensures.ok

pub returns-in-None-clause-ok : goal.returns-in-None-clause-ok
returns-in-None-clause-ok c =
    sym (append-nil (string_bytes c.args.out.now))
    ∙ ap (λ (entries : List EntryInformation). string_bytes c.args.out.now ++ flat_map (entry_note (entries_of c.args.tree.now)) entries)
    (sym (none_below c.args.tree.now (sym c.in-None.ensures.exact)))
