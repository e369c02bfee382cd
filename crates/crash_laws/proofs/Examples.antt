-- That the premises of the laws can be met, and what a crash may leave, on small cases.
use Rattle.std.proofs.Common.{◌≡◌, ◌≤◌, ℕ, zero, suc, true, List, [], ◌∷◌, ◌++◌, take, None, refl, lit<, lit≤, arith}
use Rattle.change_replay.specs.change_records.Files.{head_text}
use Rattle.change_replay.specs.change_records.Writable.{IsDigest}
use Rattle.session_model.specs.wire_io.declared.journal.Event.TheVariants as event
use Rattle.session_model.specs.wire_io.declared.journal.Item.{Item}
use Rattle.session_model.specs.wire_io.declared.journal.Item.TheVariants as item
use Rattle.session_model.specs.Run.{Step, Opened, Bytes}
use Rattle.session_model.specs.Journaled.{steps_of}
use Rattle.session_hub.specs.Parties.{DirectoryEntries}
use Rattle.session_hub.specs.declared.bounds.Terms.{Terms}
use Rattle.crash_laws.specs.Going.{KeepsChanges}
use Rattle.crash_laws.specs.Crashes.{MayBeLeft, IsTaking}
use Rattle.crash_laws.proofs.laws.GoingLemmas.{head_written}

-- terms by which changes are kept
abbrev keeping : Terms
keeping = record { limit = 0; keeps = true }

-- two octets come over the first connection
abbrev steps : List Step
steps = Opened 1 ∷ Bytes 1 (0x30 ∷ 0 ∷ []) None ∷ []

-- a server begins with the head
begins : (first : DirectoryEntries) (digest : List ℕ) → IsDigest digest → KeepsChanges keeping first digest [] (head_text digest) steps
begins first digest is =
    record { keeps = refl; written = head_written first digest is; octets = (tt, ((lit< tt, (lit< tt, tt)), tt)) }

-- an octet is taken behind both steps
abbrev before : List Item
before = item.Heard (event.Opened 1) ∷ item.Heard (event.Bytes 1 (0x30 ∷ 0 ∷ [])) ∷ []

taking : IsTaking steps (item.Heard (event.Opened 1) ∷ item.Heard (event.Bytes 1 (0x30 ∷ 0 ∷ [])) ∷ item.Taken 1 (7 ∷ []) ∷ []) steps before
unfolding steps_of
taking = record { late = []; back = []; number = 1; octets = 7 ∷ []; steps_are = refl; journal_is = refl; are = refl }

-- of four octets, of which two are on the disk, three may be left, also with a zero behind them, and one alone may not
three_left : MayBeLeft (1 ∷ 2 ∷ []) (1 ∷ 2 ∷ 3 ∷ 4 ∷ []) (1 ∷ 2 ∷ 3 ∷ [])
three_left = record { count = 3; tail = []; reaches = lit≤ tt; ends_no_line = refl; text_is = refl }

zero_behind : MayBeLeft (1 ∷ 2 ∷ []) (1 ∷ 2 ∷ 3 ∷ 4 ∷ []) (1 ∷ 2 ∷ 3 ∷ 0 ∷ [])
zero_behind = record { count = 3; tail = 0 ∷ []; reaches = lit≤ tt; ends_no_line = refl; text_is = refl }

too_few : (count : ℕ) (tail : List ℕ) → 2 ≤ count → ◌≡◌ {A = List ℕ} (1 ∷ []) (take count (1 ∷ 2 ∷ 3 ∷ 4 ∷ []) ++ tail) → ⊥
too_few zero tail reaches is = omega arith
too_few (suc zero) tail reaches is = omega arith
too_few (suc (suc count)) tail reaches is = absurd cc

one_left : MayBeLeft (1 ∷ 2 ∷ []) (1 ∷ 2 ∷ 3 ∷ 4 ∷ []) (1 ∷ []) → ⊥
one_left left = too_few left.count left.tail left.reaches left.text_is
