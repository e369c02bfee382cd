-- The other requests (RFC 4511 4.3 to 4.12): each has a layout, its parts, and the request of such parts.
use Rattle.std.specs.Prelude.{map}
use Rattle.ber_layout.specs.Layouts.{Layout, Value}
use Rattle.ber_layout.specs.Layouts.Layout.{AnyOctets, Number, Flag, End, Further, FurtherBut, Then, Maybe, Each}
use Rattle.ldap_msg.specs.Attributes.{attribute_layout, attribute_parts, attribute_from, change_layout, change_parts, change_from}
use Rattle.ldap_msg.specs.declared.kinds.ModifyRequest.{ModifyRequest}
use Rattle.ldap_msg.specs.declared.kinds.AddRequest.{AddRequest}
use Rattle.ldap_msg.specs.declared.kinds.RenameRequest.{RenameRequest}
use Rattle.ldap_msg.specs.declared.kinds.CompareRequest.{CompareRequest}

-- ModifyRequest ::= [APPLICATION 6] SEQUENCE { object LDAPDN, changes SEQUENCE OF change, ... }
abbrev pub modify_layout : Layout
modify_layout = Then 0x04 AnyOctets (Then 0x30 (Each 0x30 change_layout End) Further)

abbrev pub modify_parts : ModifyRequest → Value modify_layout
modify_parts request = (request.name, ((map change_parts request.changes, tt), tt))

abbrev pub modify_from : Value modify_layout → ModifyRequest
modify_from (name, ((changes, _), _)) = record { name = name; changes = map change_from changes }

-- AddRequest ::= [APPLICATION 8] SEQUENCE { entry LDAPDN, attributes SEQUENCE OF attribute, ... }
abbrev pub add_layout : Layout
add_layout = Then 0x04 AnyOctets (Then 0x30 (Each 0x30 attribute_layout End) Further)

abbrev pub add_parts : AddRequest → Value add_layout
add_parts request = (request.name, ((map attribute_parts request.attributes, tt), tt))

abbrev pub add_from : Value add_layout → AddRequest
add_from (name, ((attributes, _), _)) = record { name = name; attributes = map attribute_from attributes }

-- ModifyDNRequest ::= [APPLICATION 12] SEQUENCE { entry LDAPDN, newrdn RelativeLDAPDN, deleteoldrdn BOOLEAN,
-- newSuperior [0] LDAPDN OPTIONAL, ... }
abbrev pub rename_layout : Layout
rename_layout = Then 0x04 AnyOctets (Then 0x04 AnyOctets (Then 0x01 Flag (Maybe 0x80 AnyOctets (FurtherBut 0x80))))

abbrev pub rename_parts : RenameRequest → Value rename_layout
rename_parts request = (request.name, (request.new_rdn, (request.delete_old, (request.superior, tt))))

abbrev pub rename_from : Value rename_layout → RenameRequest
rename_from (name, (new_rdn, (delete_old, (superior, _)))) = record { name = name; new_rdn = new_rdn; delete_old = delete_old; superior = superior }

-- CompareRequest ::= [APPLICATION 14] SEQUENCE { entry LDAPDN, ava SEQUENCE { attributeDesc, assertionValue }, ... }
abbrev pub compare_layout : Layout
compare_layout = Then 0x04 AnyOctets (Then 0x30 (Then 0x04 AnyOctets (Then 0x04 AnyOctets End)) Further)

abbrev pub compare_parts : CompareRequest → Value compare_layout
compare_parts request = (request.name, ((request.kind, (request.value, tt)), tt))

abbrev pub compare_from : Value compare_layout → CompareRequest
compare_from (name, ((kind, (value, _)), _)) = record { name = name; kind = kind; value = value }

-- ExtendedRequest ::= [APPLICATION 23] SEQUENCE { requestName [0] LDAPOID, requestValue [1] OCTET STRING OPTIONAL, ... }
abbrev pub extended_layout : Layout
extended_layout = Then 0x80 AnyOctets (Maybe 0x81 AnyOctets (FurtherBut 0x81))

-- AbandonRequest ::= [APPLICATION 16] MessageID
abbrev pub abandon_layout : Layout
abandon_layout = Number 0 2147483647
