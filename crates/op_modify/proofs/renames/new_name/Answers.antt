-- The name of the superior is the front of the new one.
use Rattle.std.proofs.Common.{◌∙◌, ◌++◌, ap, Option}
use Rattle.std.specs.Option.{option_map_or}
use Rattle.std.proofs.lemmas.Result.{IfOk-weaker}
use Rattle.dir_tree.specs.Entry.{EntryInformation}
use Rattle.op_modify.specs.ReadRenames.{above}
use Rattle.op_modify.proofs.renames.new_name.Goals as goal

pub returns-in-Some : goal.returns-in-Some
returns-in-Some c = record {
  ok = IfOk-weaker c.joined.result _ _
      (λ name is.
      is
      ∙ ap (λ front. front ++ c.args.renaming.now.rdn)
      (c.name.ensures.exact ∙ ap (λ (found : Option EntryInformation). option_map_or (λ entry. entry.name) found (above c.args.renaming.now)) c.in-Some.ensures.exact))
      c.joined.ensures.ok;
}
