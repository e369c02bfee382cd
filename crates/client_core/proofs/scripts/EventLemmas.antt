-- The events of requests open one number, and their octets are none of them empty.
use Rattle.std.proofs.Common.{◌≡◌, ◌<◌, List, [], ◌∷◌, length, map, refl, sym, ap, subst, arith}
use Rattle.std.specs.Prelude.{nat_eq}
use Rattle.std.specs.List.{IsDistinct, AllByRecursion}
use Rattle.ldap_msg.specs.ber_layout.Spellings.{element_octets}
use Rattle.ldap_msg.specs.declared.kinds.Message.{Message}
use Rattle.ldap_msg.specs.reading.Messages.{request_octets}
use Rattle.script_text.specs.script.Script.{OpensOnce, AreFilled, IsFilled, opened_by, ended_by}
use Rattle.client_core.specs.declared.types.Asked.{Asked}
use Rattle.client_core.specs.Scripts.{sent, ask_events}

-- a request has octets
pub request_some : (message : Message) → 0 < length (request_octets message)
unfolding request_octets element_octets
request_some message = omega arith

-- messages open nothing, and end nothing
pub opened_by-sent : (asked : List Asked) → opened_by (map sent asked) ≡ []
opened_by-sent [] = refl
opened_by-sent (ask ∷ asked) = opened_by-sent asked

pub ended_by-sent : (asked : List Asked) → ended_by (map sent asked) ≡ []
ended_by-sent [] = refl
ended_by-sent (ask ∷ asked) = ended_by-sent asked

filled_sent : (asked : List Asked) → AllByRecursion IsFilled (map sent asked)
filled_sent [] = tt
filled_sent (ask ∷ asked) = (request_some ask.message, filled_sent asked)

-- one connection is opened
pub events_once : (asked : List Asked) → OpensOnce (ask_events asked)
unfolding ask_events IsDistinct
events_once asked = subst (IsDistinct nat_eq) (sym (ap (λ opened. 1 ∷ opened) (opened_by-sent asked))) (tt, tt)

pub events_filled : (asked : List Asked) → AreFilled (ask_events asked)
unfolding ask_events
events_filled asked = (tt, filled_sent asked)
