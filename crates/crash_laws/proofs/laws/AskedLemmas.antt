-- A request that octets say asks with names and values of octets.
use Rattle.std.proofs.Common.{◌≡◌, ℕ, List, [], ◌∷◌, map, Option, Some, None, sym, subst}
use Rattle.std.specs.List.{AllByRecursion}
use Rattle.base64.specs.GeneralPurpose.{IsBytes}
use Rattle.session_model.specs.ber_elements.Laws.{AreOctets}
use Rattle.session_model.specs.ber_layout.Layouts.{Value}
use Rattle.session_model.specs.ldap_msg.declared.kinds.Message.{Message}
use Rattle.session_model.specs.ldap_msg.declared.kinds.ModifyRequest.{ModifyRequest}
use Rattle.session_model.specs.ldap_msg.declared.kinds.AddRequest.{AddRequest}
use Rattle.session_model.specs.ldap_msg.declared.kinds.Request.{Request}
use Rattle.session_model.specs.ldap_msg.declared.kinds.Request.TheVariants as request
use Rattle.session_model.specs.ldap_msg.declared.kinds.Update.{Update}
use Rattle.session_model.specs.ldap_msg.declared.kinds.Update.TheVariants as update
use Rattle.session_model.specs.ldap_msg.Attributes.{attribute_layout, attribute_from, change_layout, change_from}
use Rattle.session_model.specs.ldap_msg.Kinds.{modify_layout, add_layout, rename_layout, rename_parts}
use Rattle.session_model.specs.ldap_msg.reading.Contents.{SaysUpdate, SaysContent}
use Rattle.session_model.specs.ldap_msg.reading.Messages.{message_layout, SaysIn, message_of}
use Rattle.session_model.proofs.ldap_msg_proofs.Theorems.{message_sound}
use Rattle.change_replay.specs.change_records.Writable.{AreBytes}
use Rattle.change_replay.specs.Laws.{HasOctets, ChangesOctets, IsOfOctets}
use Rattle.crash_laws.proofs.laws.PartLemmas.{MayHold, IsMadeOfOctets, bytes-octets, follows_octets, said_octets}

all_bytes : (values : List (List ℕ)) → AllByRecursion AreOctets values → AllByRecursion IsBytes values
all_bytes [] are = tt
all_bytes (value ∷ values) are = (bytes-octets value are.0, all_bytes values are.1)

may_bytes : (found : Option (List ℕ)) → MayHold AreOctets found → AreBytes found
may_bytes None are = tt
may_bytes (Some octets) are = bytes-octets octets are

-- the attributes of an add, and the changes of a modify
attributes-octets : (parts : List (Value attribute_layout)) → AllByRecursion (IsMadeOfOctets attribute_layout) parts
    → AllByRecursion HasOctets (map attribute_from parts)
attributes-octets [] are = tt
attributes-octets (part ∷ parts) are = (all_bytes part.1.0.0 are.0.1.0.0, attributes-octets parts are.1)

changes-octets : (parts : List (Value change_layout)) → AllByRecursion (IsMadeOfOctets change_layout) parts
    → AllByRecursion ChangesOctets (map change_from parts)
changes-octets [] are = tt
changes-octets (part ∷ parts) are = (all_bytes part.1.0.1.0.0 are.0.1.0.1.0.0, changes-octets parts are.1)

-- a content that is octets says a change of octets
update-octets : (asked : Update) (content : List ℕ) → AreOctets content → SaysUpdate asked content → IsOfOctets (request.Update asked)
update-octets (update.Modify modify) content octets says =
    let parts = says.parts in
    let are = said_octets modify_layout parts content octets says.says in
    let Claim : ModifyRequest → Type 0 = λ given. IsOfOctets (request.Update (update.Modify given)) in
    subst Claim says.is (bytes-octets parts.0 are.0, changes-octets parts.1.0.0 are.1.0.0)
update-octets (update.Add add) content octets says =
    let parts = says.parts in
    let are = said_octets add_layout parts content octets says.says in
    let Claim : AddRequest → Type 0 = λ given. IsOfOctets (request.Update (update.Add given)) in
    subst Claim says.is (bytes-octets parts.0 are.0, attributes-octets parts.1.0.0 are.1.0.0)
update-octets (update.Delete delete) content octets says = bytes-octets delete.name (subst AreOctets (sym says) octets)
update-octets (update.Rename rename) content octets says =
    let are = said_octets rename_layout (rename_parts rename) content octets says in
    (bytes-octets rename.name are.0, bytes-octets rename.new_rdn are.1.0, may_bytes rename.superior are.1.1.1.0)

-- a content that is octets says a request of octets
content-octets : (asked : Request) (content : List ℕ) → AreOctets content → SaysContent asked content → IsOfOctets asked
content-octets (request.Bind bind) content octets says = tt
content-octets request.Unbind content octets says = tt
content-octets (request.Search search) content octets says = tt
content-octets (request.Update update) content octets says = update-octets update content octets says
content-octets (request.Compare compare) content octets says = tt
content-octets (request.Abandon id) content octets says = tt
content-octets (request.Extended name value) content octets says = tt

-- a message of octets
pub message-octets : (bytes : List ℕ) (message : Message) → AreOctets bytes → message_of bytes ≡ Some message → IsOfOctets message.request
message-octets bytes message octets read =
    let says = message_sound bytes message read in
    let inside = follows_octets 0x30 (SaysIn message) (λ rest. rest ≡ []) bytes says octets in
    let parts = said_octets message_layout says.inner.parts says.content inside.0 says.inner.says in
    content-octets message.request says.inner.parts.1.0.1 parts.1.0 says.inner.request
