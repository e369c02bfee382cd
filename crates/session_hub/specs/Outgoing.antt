-- Octets that go out: replies to a connection, and records of changes to the store.
use Rattle.std.specs.Prelude.{ℕ, List}
use Rattle.session_hub.specs.declared.outgoing.Outgoing.{Outgoing}

-- the octets put so far, of replies and of changes
pub record Put : Type 0 where
  pub replies : List ℕ
  pub changes : List ℕ

-- those that go out
abbrev pub put_in : Outgoing → Put
put_in outgoing = record { replies = outgoing.replies.items; changes = outgoing.changes.items }
