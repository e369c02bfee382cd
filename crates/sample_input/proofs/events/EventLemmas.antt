-- A sample's events open one number, and their octets are none of them empty.
use Rattle.std.proofs.Common.{◌≡◌, ℕ, zero, suc, ◌<◌, [], ◌∷◌, length, refl, sym, ◌∙◌, subst, arith, append-nil}
use Rattle.std.specs.Prelude.{nat_eq}
use Rattle.std.specs.List.{IsDistinct}
use Rattle.std.proofs.lemmas.List.Elements.{filter_map-append}
use Rattle.base_laws.proofs.Theorems.{all_push}
use Rattle.ldap_msg.specs.ber_layout.Spellings.{element_octets}
use Rattle.script_text.specs.declared.event.ScriptEvent.TheVariants.{Bytes}
use Rattle.script_text.specs.script.Script.{OpensOnce, AreFilled, IsFilled, opened_by, opens}
use Rattle.ldap_msg.specs.declared.kinds.Message.{Message}
use Rattle.ldap_msg.specs.reading.Messages.{request_octets}
use Rattle.sample_input.specs.SampleEvents.{sample_bind, sample_search, sample_events}

-- a request has octets
request_some : (message : Message) → 0 < length (request_octets message)
unfolding request_octets element_octets
request_some message = omega arith

-- one connection is opened
opened-sample : (count : ℕ) → opened_by (sample_events count) ≡ 1 ∷ []
unfolding sample_events
opened-sample zero = refl
opened-sample (suc count) =
    filter_map-append opens (sample_events count) (Bytes 1 (request_octets (sample_search (suc count))) ∷ []) ∙ append-nil (opened_by (sample_events count)) ∙ opened-sample count

pub sample_once : (count : ℕ) → OpensOnce (sample_events count)
unfolding IsDistinct
sample_once count = subst (IsDistinct nat_eq) (sym (opened-sample count)) (tt, tt)

pub sample_filled : (count : ℕ) → AreFilled (sample_events count)
unfolding sample_events
sample_filled zero = (tt, (request_some sample_bind, tt))
sample_filled (suc count) =
    all_push IsFilled (sample_events count) (Bytes 1 (request_octets (sample_search (suc count)))) (sample_filled count) (request_some (sample_search (suc count)))
