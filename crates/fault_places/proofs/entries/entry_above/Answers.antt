-- The entry of the number that is found for the superior's name is that of the name.
use Rattle.std.proofs.Common.{◌≡◌, ℕ, ◌-◌, Option, Some, None, ap, ◌∙◌}
use Rattle.std.specs.Option.{option_and_then}
use Rattle.dir_tree.specs.dn_names.name.Names.{RdnSequence}
use Rattle.dir_tree.specs.tree.Trees.{named_in, superior_name}
use Rattle.dir_tree.specs.tree.Numbered.{entry_of, entries_of, find_name}
use Rattle.dir_tree.proofs.TreeTheorems.{entry_of-found, front_of_superior}
use Rattle.fault_places.proofs.entries.entry_above.Goals as goal

pub returns-in-Some : goal.returns-in-Some
returns-in-Some c =
    let rows = c.args.tree.now in
    let name = c.name-name.result.now in
    let above : Some c.in-Some.number.0 ≡ find_name (superior_name name) rows =
    c.in-Some.ensures.exact ∙ front_of_superior _ _ _ (c.saturating_sub.ensures ∙ ap (λ (len : ℕ). len - 1) c.len.ensures.exact) in
    record {
      exact = c.at.ensures.exact ∙ ap (λ (found : Option ℕ). option_and_then (λ id. entry_of id rows) found) above
          ∙ entry_of-found (superior_name name) rows c.entries_form_a_tree.ensures.exact.distinct
          ∙ ap (λ (n : RdnSequence). named_in (superior_name n) (entries_of rows)) c.name-name.ensures.exact;
    }

pub returns-in-None : goal.returns-in-None
returns-in-None c =
    let rows = c.args.tree.now in
    let name = c.name-name.result.now in
    let above : None ≡ find_name (superior_name name) rows =
    c.in-None.ensures.exact ∙ front_of_superior _ _ _ (c.saturating_sub.ensures ∙ ap (λ (len : ℕ). len - 1) c.len.ensures.exact) in
    record {
      exact = ap (λ (found : Option ℕ). option_and_then (λ id. entry_of id rows) found) above
          ∙ entry_of-found (superior_name name) rows c.entries_form_a_tree.ensures.exact.distinct
          ∙ ap (λ (n : RdnSequence). named_in (superior_name n) (entries_of rows)) c.name-name.ensures.exact;
    }
