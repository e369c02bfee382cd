-- How a page ends: a search done with the code success, and with the control of pages (RFC 2696 2 and 3).
use Rattle.std.specs.Prelude.{ℕ, false, List, [], ◌∷◌, Some}
use Rattle.ber_layout.specs.Layouts.{Value, IsShort, writes}
use Rattle.ber_layout.specs.Spellings.{element_octets}
use Rattle.ldap_msg.specs.declared.kinds.Control.{Control}
use Rattle.ldap_msg.specs.declared.kinds.Reply.{Reply}
use Rattle.ldap_msg.specs.declared.kinds.Reply.TheVariants as reply
use Rattle.ldap_msg.specs.declared.operations.Ending.TheVariants as ending
use Rattle.ldap_msg.specs.declared.operations.ResultCode.TheVariants as code
use Rattle.ldap_msg.specs.operations.Operations.{response_tag}
use Rattle.ldap_msg.specs.Controls.{controls_parts}
use Rattle.ldap_msg.specs.Replies.{response_for, reply_layout, reply_content}
use Rattle.read_model.specs.Views.{result_of}
use Rattle.page_core.specs.Values.{page_kind, page_octets}

-- the search is done
abbrev pub done : Reply
done = reply.Ended ending.Done (result_of code.Success)

-- the control at the end of a page: not critical, with the size 0, which says nothing of how many entries there are
abbrev pub end_control : List ℕ → Control
end_control cookie = record { kind = page_kind; critical = false; value = Some (page_octets (record { size = 0; cookie = cookie })) }

-- the parts of the message that ends a page: those of the reply, with the control
abbrev pub end_parts : ℕ → List ℕ → Value reply_layout
end_parts id cookie = (id, ((response_tag (response_for done), reply_content done), (controls_parts (end_control cookie ∷ []), tt)))

-- its written content
abbrev pub end_content : ℕ → List ℕ → List ℕ
end_content id cookie = writes reply_layout (end_parts id cookie)

-- its written octets
unfoldable pub page_end : ℕ → List ℕ → List ℕ
page_end id cookie = element_octets 0x30 (end_content id cookie)

-- its content has a length that can be written
abbrev pub IsShortEnd : ℕ → List ℕ → Type 0
IsShortEnd id cookie = IsShort (end_content id cookie)
