-- The number goes to the place of the name.
use Rattle.std.proofs.Common.{◌≡◌, sym, ap, ◌∙◌, ℕ, insert}
use Rattle.std.proofs.lemmas.Bool.{cond-true}
use Rattle.dir_tree.specs.slots.Slots.{numbers_in, place_among}
use Rattle.dir_tree.proofs.subentries.AccessLemmas.{numbers_in-insert}
use Rattle.dir_tree.proofs.subentries.list_number.Goals as goal

pub returns-then-is_access_subentry : goal.returns-then-is_access_subentry
returns-then-is_access_subentry c =
    let is = sym c.is_access_subentry.ensures.exact ∙ c.if-is_access_subentry.true in
    let name = c.name.ensures.exact in
    let slice = c.as_slice.ensures.value in
    let place : c.place_among-place.result ≡ place_among c.args.entry.now.name c.args.slots.now (numbers_in c.args.numbers.now.items) =
    rw (← name, ← slice) c.place_among-place.ensures.exact in
    record {
      exact =
          ap numbers_in c.put_at.ensures.exact
          ∙ numbers_in-insert c.args.numbers.now.items c.place_among-place.result c.args.no
          ∙ ap (λ (n : ℕ). insert (numbers_in c.args.numbers.now.items) n c.args.no.0) place
          ∙ sym (cond-true _ _ _ is);
    }
