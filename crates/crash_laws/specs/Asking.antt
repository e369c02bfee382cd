-- What messages of octets ask with (RFC 4511 4.1.1, 5.1).
use Rattle.std.specs.Prelude.{◌≡◌, ℕ, List, Some}
use Rattle.session_model.specs.ber_elements.Laws.{AreOctets}
use Rattle.session_model.specs.ldap_msg.declared.kinds.Message.{Message}
use Rattle.session_model.specs.ldap_msg.reading.Messages.{message_of}
use Rattle.change_replay.specs.Laws.{IsOfOctets}

-- a request that is read of octets has names and values of octets
abbrev pub AsksWithOctets : Type 0
AsksWithOctets = (octets : List ℕ) (message : Message) → AreOctets octets → message_of octets ≡ Some message → IsOfOctets message.request
