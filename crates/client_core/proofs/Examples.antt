-- The definitions on known texts: requests of each word, the first line at fault, replies and a script.
use Rattle.std.proofs.Common.{◌≡◌, ℕ, true, false, List, [], ◌∷◌, ◌++◌, Some, None, Result, Ok, Err, refl}
use Rattle.std.specs.Prelude.{codes}
use Rattle.std.specs.List.{flat_map}
use Rattle.hex.specs.Hex.{decode_of}
use Rattle.hex.proofs.OnLiterals.{hex_on_literals}
use Rattle.filter_text.specs.Reading.{filter_in}
use Rattle.ldap_msg.specs.ldap_filter.filter.Filters.{Filter}
use Rattle.ldap_msg.specs.ldap_filter.filter.Filters.Filter.{Equal}
use Rattle.ldap_msg.specs.ber_elements.Integer.{int_octets}
use Rattle.ldap_msg.specs.ber_elements.write.Spelling.{length_octets}
use Rattle.ldap_msg.specs.ber_layout.Spellings.{element_octets}
use Rattle.ldap_msg.specs.declared.kinds.Auth.TheVariants.{Simple}
use Rattle.ldap_msg.specs.declared.kinds.Message.{Message}
use Rattle.ldap_msg.specs.declared.kinds.Request.{Request}
use Rattle.ldap_msg.specs.declared.kinds.Request.TheVariants as request
use Rattle.ldap_msg.specs.declared.kinds.Update.TheVariants as update
use Rattle.ldap_msg.specs.declared.kinds.SearchScope.TheVariants.{SingleLevel, WholeSubtree}
use Rattle.ldap_msg.specs.declared.kinds.ModifyOperation.TheVariants.{Add, Delete, Replace}
use Rattle.ldap_msg.specs.declared.kinds.Reply.TheVariants as reply
use Rattle.ldap_msg.specs.reading.Messages.{request_octets}
use Rattle.ldif_records.proofs.laws.OnLiterals.{ldif_on_literals}
use Rattle.client_core.specs.declared.types.Asked.{Asked}
use Rattle.client_core.specs.Words.{word_of}
use Rattle.client_core.specs.Values.{limit_in}
use Rattle.client_core.specs.Faults.{taken_by, first_bad, bad_line}
use Rattle.client_core.specs.Picks.{at_last, attributes_of, changes_of, presence}
use Rattle.client_core.specs.Asks.{asks_in, asks_of}
use Rattle.client_core.specs.ReplyTexts.{one_line, entry_text, reply_text}
use Rattle.client_core.specs.Scripts.{ask_script}

-- lines that end in LF, as a text
abbrev ended : List (List ℕ) → List ℕ
ended lines = flat_map (λ line. line ++ 10 ∷ []) lines

-- what the text of a record asks for, with the name `o=a`
abbrev asked_in : List (List ℕ) → Result (List Asked) ℕ
asked_in lines = asks_of (ended (codes "dn: o=a" ∷ lines))

-- the request of one record
abbrev one : Request → Result (List Asked) ℕ
one asks = Ok (record { line = 1; message = record { id = 1; request = asks; controls = [] } } ∷ [])

-- a search and the question who asks
abbrev mail_is_bob : Filter
mail_is_bob = Equal (codes "mail") (codes "BOB@example.com")

abbrev search : Message
search = record {
  id = 1;
  request = request.Search (record { base = codes "ou=people,dc=example"; scope = SingleLevel; size = 0; kinds_only = false; filter = mail_is_bob; selection = codes "cn" ∷ [] });
  controls = [];
}

abbrev who : Message
who = record { id = 2; request = request.Extended (codes "1.3.6.1.4.1.4203.1.11.3") None; controls = [] }

two_requests : filter_in (codes "(mail=BOB@example.com)") ≡ Ok mail_is_bob
    → asks_of (ended (codes "dn: ou=people,dc=example" ∷ codes "do: search" ∷ codes "scope: one" ∷ codes "filter: (mail=BOB@example.com)" ∷ codes "select: cn" ∷ [] ∷ codes "dn:" ∷ codes "do: whoami" ∷ []))
    ≡ Ok (record { line = 1; message = search } ∷ record { line = 7; message = who } ∷ [])
unfolding asks_of asks_in word_of taken_by first_bad bad_line limit_in ldif_on_literals
two_requests is = rw is refl

-- their octets
search_octets : decode_of (codes "3049020101634404146f753d70656f706c652c64633d6578616d706c650a01010a0100020100020100010100a31704046d61696c040f424f42406578616d706c652e636f6d30040402636e") ≡ Ok (request_octets search)
unfolding hex_on_literals request_octets element_octets length_octets int_octets
search_octets = refl

who_octets : decode_of (codes "301e02010277198017312e332e362e312e342e312e343230332e312e31312e33") ≡ Ok (request_octets who)
unfolding hex_on_literals request_octets element_octets length_octets int_octets
who_octets = refl

-- every line that a search may have, but for a filter
whole_search : asked_in (codes "do: search" ∷ codes "scope: sub" ∷ codes "limit: 0000000010" ∷ codes "only: types" ∷ codes "subentries: TRUE" ∷ codes "select: cn" ∷ codes "select: *" ∷ [])
    ≡ Ok (record {
      line = 1;
      message = record {
        id = 1;
        request = request.Search (record { base = codes "o=a"; scope = WholeSubtree; size = 10; kinds_only = true; filter = presence; selection = codes "cn" ∷ codes "*" ∷ [] });
        controls = record { kind = codes "1.3.6.1.4.1.4203.1.10.1"; critical = true; value = Some (1 ∷ 1 ∷ 255 ∷ []) } ∷ [];
      };
    } ∷ [])
unfolding asks_of asks_in word_of taken_by first_bad bad_line limit_in ldif_on_literals
whole_search = refl

-- the other words
bind : asked_in (codes "do: bind" ∷ codes "password: p" ∷ []) ≡ one (request.Bind (record { version = 3; name = codes "o=a"; auth = Simple (codes "p") }))
unfolding asks_of asks_in word_of taken_by first_bad bad_line ldif_on_literals
bind = refl

compare : asked_in (codes "do: compare" ∷ codes "cn: b" ∷ []) ≡ one (request.Compare (record { name = codes "o=a"; kind = codes "cn"; value = codes "b" }))
unfolding asks_of asks_in word_of taken_by first_bad bad_line ldif_on_literals
compare = refl

add : asked_in (codes "do: add" ∷ codes "cn: b" ∷ codes "cn: c" ∷ codes "sn: d" ∷ codes "cn: e" ∷ [])
    ≡ one (request.Update (update.Add (record { name = codes "o=a"; attributes = record { kind = codes "cn"; values = codes "b" ∷ codes "c" ∷ [] } ∷ record { kind = codes "sn"; values = codes "d" ∷ [] } ∷ record { kind = codes "cn"; values = codes "e" ∷ [] } ∷ [] })))
unfolding asks_of asks_in word_of taken_by first_bad bad_line at_last attributes_of ldif_on_literals
add = refl

modify : asked_in (codes "do: modify" ∷ codes "replace: cn" ∷ codes "value: b" ∷ codes "value: c" ∷ codes "delete: sn" ∷ codes "add: 2.5.4.5" ∷ codes "value: d" ∷ [])
    ≡ one (request.Update (update.Modify (record { name = codes "o=a"; changes = record { operation = Replace; body = record { kind = codes "cn"; values = codes "b" ∷ codes "c" ∷ [] } } ∷ record { operation = Delete; body = record { kind = codes "sn"; values = [] } } ∷ record { operation = Add; body = record { kind = codes "2.5.4.5"; values = codes "d" ∷ [] } } ∷ [] })))
unfolding asks_of asks_in word_of taken_by first_bad bad_line at_last changes_of ldif_on_literals
modify = refl

rename : asked_in (codes "do: rename" ∷ codes "newrdn: o=b" ∷ codes "keep: TRUE" ∷ codes "newsuperior:" ∷ [])
    ≡ one (request.Update (update.Rename (record { name = codes "o=a"; new_rdn = codes "o=b"; delete_old = false; superior = Some [] })))
unfolding asks_of asks_in word_of taken_by first_bad bad_line ldif_on_literals
rename = refl

delete : asked_in (codes "do: delete" ∷ []) ≡ one (request.Update (update.Delete (record { name = codes "o=a" })))
unfolding asks_of asks_in word_of taken_by first_bad bad_line ldif_on_literals
delete = refl

no_records : asks_of [] ≡ Ok []
unfolding asks_of asks_in ldif_on_literals
no_records = refl

-- the line of the name: `do` isn't behind it, or it should be empty, or it is alone
no_do : asked_in (codes "scope: one" ∷ codes "do: search" ∷ []) ≡ Err 1
unfolding asks_of asks_in ldif_on_literals
no_do = refl

named_who : asked_in (codes "do: whoami" ∷ []) ≡ Err 1
unfolding asks_of asks_in word_of bad_line ldif_on_literals
named_who = refl

name_alone : asked_in [] ≡ Err 1
unfolding asks_of asks_in ldif_on_literals
name_alone = refl

-- the line `do`: its word is none, or a needed line is missing
unknown_word : asked_in (codes "do: Search" ∷ []) ≡ Err 2
unfolding asks_of asks_in word_of ldif_on_literals
unknown_word = refl

nothing_compared : asked_in (codes "do: compare" ∷ []) ≡ Err 2
unfolding asks_of asks_in word_of taken_by first_bad bad_line ldif_on_literals
nothing_compared = refl

no_new_rdn : asked_in (codes "do: rename" ∷ codes "keep: TRUE" ∷ []) ≡ Err 2
unfolding asks_of asks_in word_of taken_by first_bad bad_line ldif_on_literals
no_new_rdn = refl

-- a line that can't stand where it does
late_scope : asked_in (codes "do: search" ∷ codes "select: cn" ∷ codes "scope: one" ∷ codes "limit: x" ∷ []) ≡ Err 4
unfolding asks_of asks_in word_of taken_by first_bad bad_line ldif_on_literals
late_scope = refl

early_keep : asked_in (codes "do: rename" ∷ codes "keep: TRUE" ∷ codes "newrdn: o=b" ∷ []) ≡ Err 3
unfolding asks_of asks_in word_of taken_by first_bad bad_line ldif_on_literals
early_keep = refl

two_compared : asked_in (codes "do: compare" ∷ codes "cn: b" ∷ codes "cn: c" ∷ []) ≡ Err 4
unfolding asks_of asks_in word_of taken_by first_bad bad_line ldif_on_literals
two_compared = refl

a_line_too_many : asked_in (codes "do: delete" ∷ codes "cn: b" ∷ []) ≡ Err 3
unfolding asks_of asks_in word_of taken_by first_bad bad_line ldif_on_literals
a_line_too_many = refl

value_alone : asked_in (codes "do: modify" ∷ codes "value: b" ∷ []) ≡ Err 3
unfolding asks_of asks_in word_of taken_by first_bad bad_line ldif_on_literals
value_alone = refl

-- a value that the line can't have
large_limit : asked_in (codes "do: search" ∷ codes "limit: 2147483648" ∷ []) ≡ Err 3
unfolding asks_of asks_in word_of taken_by first_bad bad_line limit_in ldif_on_literals
large_limit = refl

kept_false : asked_in (codes "do: rename" ∷ codes "newrdn: o=b" ∷ codes "keep: FALSE" ∷ []) ≡ Err 4
unfolding asks_of asks_in word_of taken_by first_bad bad_line ldif_on_literals
kept_false = refl

no_type : asked_in (codes "do: modify" ∷ codes "add: c_n" ∷ []) ≡ Err 3
unfolding asks_of asks_in word_of taken_by first_bad bad_line ldif_on_literals
no_type = refl

-- the first record at fault decides, of those that can be read and those that can't
second_fault : asked_in (codes "do: none" ∷ [] ∷ codes "nothing" ∷ []) ≡ Err 2
unfolding asks_of asks_in word_of ldif_on_literals
second_fault = refl

-- an entry, with an attribute that has no values
an_entry : reply_text 1 (reply.Entry (codes "o=a") (record { kind = codes "cn"; values = codes "b" ∷ (10 ∷ []) ∷ [] } ∷ record { kind = codes "sn"; values = [] } ∷ []))
    ≡ codes "\ndn: o=a\ncn: b\ncn:: Cg==\n# sn\n"
unfolding reply_text entry_text one_line ldif_on_literals
an_entry = refl

-- a script
a_script : ask_script (record { line = 1; message = record { id = 1; request = request.Unbind; controls = [] } } ∷ []) ≡ codes "open 1\nsend 1 30050201014200\n"
unfolding ask_script hex_on_literals request_octets element_octets length_octets int_octets
a_script = refl
