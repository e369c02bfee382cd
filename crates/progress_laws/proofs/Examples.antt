-- The definitions, computed on small journals.
use Rattle.std.proofs.Common.{◌≡◌, List, [], ◌∷◌, refl}
use Rattle.session_model.specs.wire_io.declared.journal.Event.TheVariants as event
use Rattle.session_model.specs.wire_io.declared.journal.Item.{Item}
use Rattle.session_model.specs.wire_io.declared.journal.Item.TheVariants as item
use Rattle.session_model.specs.wire_io.Journal.{was_opened, opens}
use Rattle.progress_laws.specs.Taking.{WasLost, refusals}

-- the refusals of one connection, for now and for good, and none of another
abbrev pub journal : List Item
journal = item.Heard (event.Opened 1) ∷ item.Later 1 ∷ item.Taken 2 [] ∷ item.Gone 1 ∷ item.HungUp 1 ∷ []

refused : refusals 1 journal ≡ item.Later 1 ∷ item.Gone 1 ∷ []
refused = refl

not_refused : refusals 2 journal ≡ []
not_refused = refl

-- one that was found lost is, until it is opened anew
lost : WasLost 1 journal
unfolding was_opened opens
lost = record {
  before = item.Heard (event.Opened 1) ∷ item.Later 1 ∷ item.Taken 2 [] ∷ [];
  since = item.HungUp 1 ∷ [];
  is = refl;
  same_opening = refl;
}
