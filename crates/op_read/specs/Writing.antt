-- What of an entry is written, part by part (RFC 4511 4.5.2).
use Rattle.std.specs.Prelude.{ℕ, List, flat_map}
use Rattle.dir_tree.specs.dn_names.name.Names.{Keyed}
use Rattle.dir_tree.specs.dn_names.Printing.{print_name}
use Rattle.ldap_msg.specs.ber_layout.Layouts.{writes}
use Rattle.ldap_msg.specs.ber_layout.Spellings.{element_octets}
use Rattle.ldap_msg.specs.declared.kinds.KindValues.{KindValues}
use Rattle.ldap_msg.specs.declared.kinds.SearchRequest.{SearchRequest}
use Rattle.ldap_msg.specs.declared.kinds.Reply.{Reply}
use Rattle.ldap_msg.specs.declared.kinds.Reply.TheVariants as reply
use Rattle.ldap_msg.specs.Attributes.{attribute_layout, attribute_parts}
use Rattle.page_core.specs.read_model.Views.{Row}
use Rattle.page_core.specs.read_model.Choosing.{sent_attributes}

-- an element for each value
abbrev pub values_octets : List Keyed → List ℕ
values_octets values = flat_map (λ value. element_octets 0x04 value.octets) values

-- an element for each attribute
abbrev pub attributes_octets : List KindValues → List ℕ
attributes_octets attributes = flat_map (λ sent. element_octets 0x30 (writes attribute_layout (attribute_parts sent))) attributes

-- an entry as it is sent, by its parts
abbrev pub entry_of : SearchRequest → Row → Reply
entry_of request row = reply.Entry (print_name row.entry.name) (sent_attributes request.selection request.kinds_only row)
