-- How replies are printed (RFC 4511 4.1.9, 4.5.2, 4.12; RFC 2849 for entries).
use Rattle.std.specs.Prelude.{ℕ, ◌==◌, List, [], ◌∷◌, ◌++◌, length, codes, decimal, Option, Some, None, if◌then◌else◌}
use Rattle.std.specs.List.{flat_map}
use Rattle.std.specs.Option.{option_map_or}
use Rattle.ldap_msg.specs.declared.kinds.KindValues.{KindValues}
use Rattle.ldap_msg.specs.declared.kinds.LdapResult.{LdapResult}
use Rattle.ldap_msg.specs.declared.kinds.Reply.{Reply}
use Rattle.ldap_msg.specs.declared.kinds.Reply.TheVariants as reply
use Rattle.ldap_msg.specs.declared.operations.ResultCode.{ResultCode}
use Rattle.ldap_msg.specs.operations.ResultCodes.{code_number}
use Rattle.ldap_msg.specs.Replies.{reply_of}
use Rattle.ldap_msg.specs.Streams.{whole}
use Rattle.ldif_records.specs.writing.Written.{written_line}

-- an octet within a line: LF and CR would end it
abbrev pub within_line : ℕ → List ℕ
within_line octet = if octet == 10 then codes "\\0a" else if octet == 13 then codes "\\0d" else octet ∷ []

-- octets within a line
unfoldable pub one_line : List ℕ → List ℕ
one_line octets = flat_map within_line octets

-- the lines of an attribute's values
abbrev pub value_lines : List ℕ → List (List ℕ) → List ℕ
value_lines kind values = flat_map (λ value. written_line kind value) values

-- the line of a type without values
abbrev pub kind_line : List ℕ → List ℕ
kind_line kind = codes "# " ++ (one_line kind ++ 10 ∷ [])

-- the lines of an attribute
abbrev pub attribute_lines : KindValues → List ℕ
attribute_lines attribute =
    if length attribute.values == 0 then kind_line attribute.kind
    else value_lines (one_line attribute.kind) attribute.values

-- an entry: an empty line, the name, and the attributes
unfoldable pub entry_text : List ℕ → List KindValues → List ℕ
entry_text name attributes = 10 ∷ (written_line (codes "dn") name ++ flat_map attribute_lines attributes)

-- the matched name, where it isn't empty
abbrev pub matched_text : List ℕ → List ℕ
matched_text name = if length name == 0 then [] else 32 ∷ one_line name

-- the value, where there is one
abbrev pub value_text : Option (List ℕ) → List ℕ
value_text None = []
value_text (Some value) = codes " value=" ++ one_line value

-- the messageID and the code of a result
abbrev pub heading : ℕ → ResultCode → List ℕ
heading id code = codes "# " ++ (decimal id ++ (codes " " ++ decimal (code_number code)))

-- a result: its heading, the matched name and a value
unfoldable pub result_text : ℕ → LdapResult → Option (List ℕ) → List ℕ
result_text id result value = heading id result.code ++ (matched_text result.matched ++ (value_text value ++ 10 ∷ []))

-- a reply with its messageID
unfoldable pub reply_text : ℕ → Reply → List ℕ
reply_text id (reply.Entry name attributes) = entry_text name attributes
reply_text id (reply.Ended ending result) = result_text id result None
reply_text id (reply.Extended result name value) = result_text id result value

-- the reply that a message is
abbrev pub message_text : List ℕ → List ℕ
message_text message = option_map_or (λ answer. reply_text answer.0 answer.1) (reply_of message) []

-- the replies that are the whole messages of a stream, in order
unfoldable pub replies_text : List ℕ → List ℕ
replies_text octets = flat_map message_text (whole octets)
