-- The definitions, computed on known messages and streams.
use Rattle.std.proofs.Common.{◌≡◌, ℕ, true, false, List, [], ◌∷◌, codes, Option, Some, None, refl}
use Rattle.session_model.specs.ber_elements.Heading.{length_at, header_at}
use Rattle.session_model.specs.ber_elements.Integer.{int_at, int_octets}
use Rattle.session_model.specs.ber_elements.write.Spelling.{length_octets}
use Rattle.session_model.specs.ldap_msg.declared.kinds.Auth.TheVariants.{Simple, Other}
use Rattle.session_model.specs.ldap_msg.declared.kinds.Request.TheVariants as request
use Rattle.session_model.specs.ldap_msg.declared.kinds.Update.TheVariants as update
use Rattle.session_model.specs.ldap_msg.declared.kinds.Reply.TheVariants as reply
use Rattle.session_model.specs.ldap_msg.declared.operations.Ending.TheVariants as ending
use Rattle.session_model.specs.ldap_msg.Streams.{framed, frame_at, whole_of, rest_behind, whole, rest_of, is_broken}
use Rattle.session_model.specs.ldap_msg.reading.Messages.{message_in, message_of}
use Rattle.session_model.specs.ldap_msg.declared.operations.ResultCode.TheVariants as code
use Rattle.session_model.specs.ber_layout.element.Pieces.{piece_of, piece_at, tagged_at, number_in, pieces_of, are_pieces}
use Rattle.session_model.specs.ber_layout.components.Components.{any_of, required_of, optional_of, marked_of, each_from, each_of}
use Rattle.session_model.specs.ber_layout.Spellings.{element_octets}
use Rattle.session_model.specs.ber_layout.Layouts.{reads_into}
use Rattle.session_model.specs.ldap_msg.Replies.{reply_octets}
use Rattle.dir_tree.specs.schema_tables.Attributes.{attributes}
use Rattle.dir_tree.specs.dn_names.Classes.{class_of}
use Rattle.dir_tree.specs.dn_names.parsing.NameText.{read_name}
use Rattle.dir_tree.specs.dn_names.Modes.{text_fault}
use Rattle.dir_tree.specs.dn_names.Resolving.{resolve}
use Rattle.dir_tree.specs.dn_names.Reading.{written_of}
use Rattle.dir_tree.specs.dn_names.Printing.{print_value, print_by, print_name}
use Rattle.session_model.specs.ldap_msg.declared.kinds.Control.{Control}
use Rattle.session_model.specs.ldap_filter.filter.Filters.{Present}
use Rattle.session_model.specs.ldap_msg.declared.kinds.SearchScope.TheVariants.{BaseObject}
use Rattle.session_model.specs.ldap_msg.declared.kinds.SearchRequest.{SearchRequest}
use Rattle.op_read.specs.aci_item.declared.level.Level.TheVariants as level
use Rattle.op_read.specs.read_model.Views.{result_of}
use Rattle.op_bind.specs.Binds.{bind_answer}
use Rattle.change_laws.specs.op_add_delete.adding.Updates.{Refused, Made, added, deleted}
use Rattle.change_records.specs.Written.{record_text}
use Rattle.session_model.specs.Rules.{talk}
use Rattle.session_model.specs.Kept.{speech}
use Rattle.session_hub.specs.Parties.{Requester, nobody}
use Rattle.session_hub.specs.Terms.{no_terms}
use Rattle.session_hub.specs.Controls.{subentries_asked, page_asked}
use Rattle.session_hub.specs.Answering.{rules, recorded, changing, replying, kept_changes, answered}
use Rattle.session_hub.specs.WhoAmI.{authz_id}
use Rattle.session_hub.specs.Limiting.{lesser_limit}
use Rattle.session_hub.specs.Rooms.{room_of, queued_beside}
use Rattle.session_hub.specs.Answers.{said_to}
use Rattle.session_hub.specs.Event.{new_cut}
use Rattle.session_hub.specs.serve.Loops.{ends_with}
use Rattle.session_hub.specs.declared.ended.Ended.TheVariants.{Stopped, NoMemory}

-- a bind makes anonymous: with another version, with another method, with no name and no password, and also where a
-- critical control refuses it
abbrev somebody : Requester
somebody = record { name = Some []; level = level.Simple }

abbrev other_kind : List ℕ
other_kind = codes "1.2.3"

version_two : answered [] somebody [] (request.Bind (record { version = 2; name = []; auth = Simple [] }))
    ≡ record { replies = reply.Ended ending.Bind (result_of code.ProtocolError) ∷ []; cookie = None; changes = []; entries = []; who = nobody }
unfolding bind_answer
version_two = refl

another_method : answered [] somebody [] (request.Bind (record { version = 3; name = []; auth = Other 3 }))
    ≡ record { replies = reply.Ended ending.Bind (result_of code.AuthMethodNotSupported) ∷ []; cookie = None; changes = []; entries = []; who = nobody }
unfolding bind_answer
another_method = refl

critical_bind : answered [] somebody (record { kind = other_kind; critical = true; value = None } ∷ []) (request.Bind (record { version = 3; name = []; auth = Simple [] }))
    ≡ record { replies = reply.Ended ending.Bind (result_of code.UnavailableCriticalExtension) ∷ []; cookie = None; changes = []; entries = []; who = nobody }
critical_bind = refl

-- a control of subentries is known in a search alone
critical_delete : answered [] somebody (record { kind = codes "1.3.6.1.4.1.4203.1.10.1"; critical = true; value = None } ∷ []) (request.Update (update.Delete (record { name = [] })))
    ≡ record { replies = reply.Ended ending.Delete (result_of code.UnavailableCriticalExtension) ∷ []; cookie = None; changes = []; entries = []; who = somebody }
critical_delete = refl

uncritical_delete : answered [] somebody (record { kind = other_kind; critical = false; value = None } ∷ []) (request.Update (update.Delete (record { name = [] })))
    ≡ record { replies = reply.Ended ending.Delete (result_of code.UnwillingToPerform) ∷ []; cookie = None; changes = []; entries = []; who = somebody }
unfolding deleted read_name text_fault resolve written_of
uncritical_delete = refl

-- the root is no entry, and isn't added either
add_root : answered [] somebody [] (request.Update (update.Add (record { name = []; attributes = [] })))
    ≡ record { replies = reply.Ended ending.Add (result_of code.UnwillingToPerform) ∷ []; cookie = None; changes = []; entries = []; who = somebody }
unfolding added read_name text_fault resolve written_of
add_root = refl

-- who asks is told by an extended operation of this name: no octets where nobody is known, and a value that is there; it is
-- told of no other name, nor with a value
abbrev who_am_i : List ℕ
who_am_i = codes "1.3.6.1.4.1.4203.1.11.3"

who_is_nobody : answered [] nobody [] (request.Extended who_am_i None)
    ≡ record { replies = reply.Extended (result_of code.Success) None (Some []) ∷ []; cookie = None; changes = []; entries = []; who = nobody }
who_is_nobody = refl

who_is_unit : authz_id (record { name = Some ((record { kind = 9; value = record { octets = codes "B, C"; key = codes "b, c" } } ∷ []) ∷ []); level = level.Simple })
    ≡ codes "dn:ou=B\\, C"
unfolding attributes print_name print_by print_value class_of
who_is_unit = refl

who_with_value : answered [] somebody [] (request.Extended who_am_i (Some []))
    ≡ record { replies = reply.Extended (result_of code.ProtocolError) None None ∷ []; cookie = None; changes = []; entries = []; who = somebody }
who_with_value = refl

another_operation : answered [] somebody [] (request.Extended [] None)
    ≡ record { replies = reply.Extended (result_of code.ProtocolError) None None ∷ []; cookie = None; changes = []; entries = []; who = somebody }
another_operation = refl

-- an abandon is silent, and nobody looks at its controls

abandon : answered [] somebody (record { kind = other_kind; critical = true; value = None } ∷ []) (request.Abandon 5) ≡ record { replies = []; cookie = None; changes = []; entries = []; who = somebody }
abandon = refl

-- a control of subentries with this value
abbrev subentries_with : Option (List ℕ) → Control
subentries_with value = record { kind = codes "1.3.6.1.4.1.4203.1.10.1"; critical = true; value = value }

-- none; TRUE; any octet but 0 is TRUE; FALSE, with a length that isn't the shortest
no_control : subentries_asked (record { kind = other_kind; critical = false; value = None } ∷ []) ≡ Some None
no_control = refl

control_true : subentries_asked (subentries_with (Some (1 ∷ 1 ∷ 255 ∷ [])) ∷ []) ≡ Some (Some true)
unfolding reads_into required_of tagged_at piece_at piece_of header_at length_at
control_true = refl

control_one : subentries_asked (subentries_with (Some (1 ∷ 1 ∷ 1 ∷ [])) ∷ []) ≡ Some (Some true)
unfolding reads_into required_of tagged_at piece_at piece_of header_at length_at
control_one = refl

control_false : subentries_asked (subentries_with (Some (1 ∷ 0x81 ∷ 1 ∷ 0 ∷ [])) ∷ []) ≡ Some (Some false)
unfolding reads_into required_of tagged_at piece_at piece_of header_at length_at
control_false = refl

-- two; no value; another type; two octets; something behind
control_twice : subentries_asked (subentries_with (Some (1 ∷ 1 ∷ 255 ∷ [])) ∷ subentries_with (Some (1 ∷ 1 ∷ 255 ∷ [])) ∷ []) ≡ None
control_twice = refl

control_absent : subentries_asked (subentries_with None ∷ []) ≡ None
control_absent = refl

control_number : subentries_asked (subentries_with (Some (2 ∷ 1 ∷ 1 ∷ [])) ∷ []) ≡ None
unfolding reads_into required_of tagged_at piece_at piece_of header_at length_at
control_number = refl

control_long : subentries_asked (subentries_with (Some (1 ∷ 2 ∷ 255 ∷ 255 ∷ [])) ∷ []) ≡ None
unfolding reads_into required_of tagged_at piece_at piece_of header_at length_at
control_long = refl

control_followed : subentries_asked (subentries_with (Some (1 ∷ 1 ∷ 255 ∷ 0 ∷ [])) ∷ []) ≡ None
unfolding reads_into required_of tagged_at piece_at piece_of header_at length_at
control_followed = refl

-- a search with a critical control that isn't known, and one whose controls can't be read
abbrev a_search : SearchRequest
a_search = record { base = []; scope = BaseObject; size = 0; kinds_only = false; filter = Present []; selection = [] }

critical_search : answered [] nobody (record { kind = other_kind; critical = true; value = None } ∷ []) (request.Search a_search)
    ≡ record { replies = reply.Ended ending.Done (result_of code.UnavailableCriticalExtension) ∷ []; cookie = None; changes = []; entries = []; who = nobody }
critical_search = refl

search_twice : answered [] nobody (subentries_with None ∷ subentries_with None ∷ []) (request.Search a_search)
    ≡ record { replies = reply.Ended ending.Done (result_of code.ProtocolError) ∷ []; cookie = None; changes = []; entries = []; who = nobody }
search_twice = refl

-- so is one with two controls of pages, or with one without a value; none asks for no page
abbrev page_with : Option (List ℕ) → Control
page_with value = record { kind = codes "1.2.840.113556.1.4.319"; critical = false; value = value }

page_twice : answered [] nobody (page_with None ∷ page_with None ∷ []) (request.Search a_search)
    ≡ record { replies = reply.Ended ending.Done (result_of code.ProtocolError) ∷ []; cookie = None; changes = []; entries = []; who = nobody }
page_twice = refl

page_absent : page_asked (page_with None ∷ []) ≡ None
page_absent = refl

no_page : page_asked (subentries_with None ∷ []) ≡ Some None
no_page = refl

-- an anonymous bind, as octets, and its reply
one_bind : (said_to no_terms None [] nobody (0x30 ∷ 12 ∷ 2 ∷ 1 ∷ 1 ∷ 0x60 ∷ 7 ∷ 2 ∷ 1 ∷ 3 ∷ 4 ∷ 0 ∷ 0x80 ∷ 0 ∷ [])).replies
    ≡ 0x30 ∷ 12 ∷ 2 ∷ 1 ∷ 1 ∷ 0x61 ∷ 7 ∷ 10 ∷ 1 ∷ 0 ∷ 4 ∷ 0 ∷ 4 ∷ 0 ∷ []
unfolding speech rules talk whole whole_of rest_of rest_behind is_broken frame_at framed message_of message_in reads_into any_of required_of optional_of marked_of each_from each_of tagged_at piece_at piece_of number_in are_pieces pieces_of header_at length_at int_at int_octets length_octets element_octets reply_octets bind_answer read_name text_fault resolve written_of
one_bind = refl

-- the same asked as octets, and its reply
one_whoami : (said_to no_terms None [] nobody (0x30 ∷ 30 ∷ 2 ∷ 1 ∷ 2 ∷ 0x77 ∷ 25 ∷ 0x80 ∷ 23 ∷ who_am_i)).replies
    ≡ 0x30 ∷ 14 ∷ 2 ∷ 1 ∷ 2 ∷ 0x78 ∷ 9 ∷ 10 ∷ 1 ∷ 0 ∷ 4 ∷ 0 ∷ 4 ∷ 0 ∷ 0x8b ∷ 0 ∷ []
unfolding speech rules talk whole whole_of rest_of rest_behind is_broken frame_at framed message_of message_in reads_into any_of required_of optional_of marked_of each_from each_of tagged_at piece_at piece_of number_in are_pieces pieces_of header_at length_at int_at int_octets length_octets element_octets reply_octets
one_whoami = refl

-- an unbind closes in silence, and what follows it is not answered
one_unbind : (said_to no_terms None [] nobody (0x30 ∷ 5 ∷ 2 ∷ 1 ∷ 2 ∷ 0x42 ∷ 0 ∷ 0x31 ∷ [])).replies ≡ []
unfolding speech rules talk whole whole_of rest_of rest_behind is_broken frame_at framed message_of message_in reads_into any_of required_of optional_of marked_of each_from each_of tagged_at piece_at piece_of number_in are_pieces pieces_of header_at length_at int_at
one_unbind = refl

-- messageID 0 is no message: the notice, and the connection closes
unreadable : (said_to no_terms None [] nobody (0x30 ∷ 5 ∷ 2 ∷ 1 ∷ 0 ∷ 0x42 ∷ 0 ∷ [])).closes ≡ true
unfolding speech rules talk whole whole_of rest_of rest_behind is_broken frame_at framed message_of message_in reads_into any_of required_of optional_of marked_of each_from each_of tagged_at piece_at piece_of number_in are_pieces pieces_of header_at length_at int_at
unreadable = refl

-- a cut says nothing of the messages behind it, and closes
cut_away : said_to no_terms (Some 0) [] nobody (0x30 ∷ 5 ∷ 2 ∷ 1 ∷ 2 ∷ 0x42 ∷ 0 ∷ []) ≡ record { replies = []; changes = []; tree = []; who = nobody; closes = true }
unfolding speech talk whole whole_of frame_at framed header_at length_at
cut_away = refl

-- a cut is told of an open connection alone, and a loop in which one was cut ends for want of memory
cut_of_open : new_cut (Some (record { number = 1; rest = []; who = nobody; queue = []; closing = false; cut = None })) (Some 2) ≡ Some 2
cut_of_open = refl

cut_of_closing : new_cut (Some (record { number = 1; rest = []; who = nobody; queue = []; closing = true; cut = Some 2 })) (Some 2) ≡ None
cut_of_closing = refl

cut_ends : ends_with true Stopped ≡ NoMemory
cut_ends = refl

-- the lesser of two limits, where 0 is none
limit_none : lesser_limit 0 7 ≡ 7
limit_none = refl

limit_all : lesser_limit 5 0 ≡ 5
limit_all = refl

limit_more : lesser_limit 5 9 ≡ 5
limit_more = refl

limit_less : lesser_limit 5 3 ≡ 3
limit_less = refl

-- what others leave of the bound of all queues, and 1 MiB where they leave less
room_left : room_of 2000000 500000 ≡ 1500000
room_left = refl

room_least : room_of 2000000 1900000 ≡ 1048576
room_least = refl

-- a connection's own queue is not counted
queues_beside : queued_beside 1
    (record { number = 1; rest = []; who = nobody; queue = 7 ∷ 7 ∷ 7 ∷ []; closing = false; cut = None }
    ∷ record { number = 2; rest = []; who = nobody; queue = 7 ∷ 7 ∷ []; closing = false; cut = None } ∷ []) ≡ 2
queues_beside = refl

-- the record of a delete that is made, and none of one that is refused, nor of a search; and none is to be stored where no
-- changes are kept
recorded_delete : recorded (Made []) (request.Update (update.Delete (record { name = codes "o=A" }))) ≡ record_text (request.Update (update.Delete (record { name = codes "o=A" })))
recorded_delete = refl

refused_delete : recorded (Refused (result_of code.NoSuchObject)) (request.Update (update.Delete (record { name = codes "o=A" }))) ≡ []
refused_delete = refl

recorded_search : recorded (Made []) (request.Search a_search) ≡ []
unfolding record_text
recorded_search = refl

-- a change that is refused is answered so, and nothing else comes of it; one that is made is answered with success
refused_change : changing [] nobody (update.Delete (record { name = codes "o=A" })) (Refused (result_of code.NoSuchObject))
    ≡ replying [] nobody (reply.Ended ending.Delete (result_of code.NoSuchObject) ∷ [])
refused_change = refl

made_change : (changing [] nobody (update.Delete (record { name = codes "o=A" })) (Made [])).replies ≡ reply.Ended ending.Delete (result_of code.Success) ∷ []
made_change = refl

unkept_delete : kept_changes false (codes "dn: o=A\n") ≡ []
unkept_delete = refl
