-- What responses hold: results, entries, and what an extended operation answers (RFC 4511 4.1.9, 4.5.2, 4.12).
use Rattle.std.specs.Prelude.{ℕ, List, map, Option}
use Rattle.ber_layout.specs.Layouts.{Layout, Value}
use Rattle.ber_layout.specs.Layouts.Layout.{AnyOctets, Ignored, Number, End, Then, Maybe, Each}
use Rattle.ldap_msg.specs.declared.kinds.KindValues.{KindValues}
use Rattle.ldap_msg.specs.declared.kinds.LdapResult.{LdapResult}
use Rattle.ldap_msg.specs.operations.ResultCodes.{code_number, code_from}
use Rattle.ldap_msg.specs.Attributes.{attribute_layout, attribute_parts}

-- LDAPResult ::= SEQUENCE { resultCode ENUMERATED, matchedDN LDAPDN, diagnosticMessage LDAPString, ... }, with what
-- follows it in a response
abbrev pub result_before : Layout → Layout
result_before next = Then 0x0a (Number 0 127) (Then 0x04 AnyOctets (Then 0x04 Ignored next))

abbrev pub result_layout : Layout
result_layout = result_before End

abbrev pub result_parts : LdapResult → Value result_layout
result_parts result = (code_number result.code, (result.matched, (tt, tt)))

abbrev pub result_from : Value result_layout → LdapResult
result_from (code, (matched, _)) = record { code = code_from code; matched = matched }

-- SearchResultEntry ::= [APPLICATION 4] SEQUENCE { objectName LDAPDN, attributes PartialAttributeList }
abbrev pub entry_layout : Layout
entry_layout = Then 0x04 AnyOctets (Then 0x30 (Each 0x30 attribute_layout End) End)

abbrev pub entry_parts : List ℕ → List KindValues → Value entry_layout
entry_parts name attributes = (name, ((map attribute_parts attributes, tt), tt))

-- the name and the value that may stand behind an extended operation's result
abbrev pub names_layout : Layout
names_layout = Maybe 0x8a AnyOctets (Maybe 0x8b AnyOctets End)

-- ExtendedResponse ::= [APPLICATION 24] SEQUENCE { COMPONENTS OF LDAPResult, responseName [10] LDAPOID OPTIONAL,
-- responseValue [11] OCTET STRING OPTIONAL }
abbrev pub answered_layout : Layout
answered_layout = result_before names_layout

abbrev pub answered_parts : LdapResult → Option (List ℕ) → Option (List ℕ) → Value answered_layout
answered_parts result name value = (code_number result.code, (result.matched, (tt, (name, (value, tt)))))
