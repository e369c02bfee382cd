-- A written message says itself, and so does a written reply.
use Rattle.std.proofs.Common.{◌≡◌, ℕ, ◌%◌, ◌<◌, cond, List, [], ◌∷◌, length, map, Option, Some, None, refl, sym, ap, arith, append-nil}
use Rattle.std.proofs.lemmas.Bool.{ne_eqb, eqb-false}
use Rattle.ber_elements.specs.write.Element.{IsTag}
use Rattle.ber_layout.specs.Spellings.{element_octets}
use Rattle.std.specs.List.{AllByRecursion}
use Rattle.ber_layout.specs.Layouts.{IsShort, MayFit, writes}
use Rattle.ber_layout.specs.Ranges.{Within}
use Rattle.ber_layout.specs.Layouts.Layout.{AnyOctets}
use Rattle.ber_layout.proofs.Theorems.{element_spells, writes_says, fits_within}
use Rattle.ldap_msg.specs.declared.kinds.Auth.{Auth}
use Rattle.ldap_msg.specs.declared.kinds.Auth.TheVariants.{Simple, Other}
use Rattle.ldap_msg.specs.declared.kinds.BindRequest.{BindRequest}
use Rattle.ldap_msg.specs.declared.kinds.Control.{Control}
use Rattle.ldap_msg.specs.declared.kinds.KindValues.{KindValues}
use Rattle.ldap_msg.specs.declared.kinds.SearchScope.{SearchScope}
use Rattle.ldap_msg.specs.declared.kinds.SearchScope.TheVariants.{BaseObject, SingleLevel, WholeSubtree}
use Rattle.ldap_msg.specs.declared.kinds.SearchRequest.{SearchRequest}
use Rattle.ldap_msg.specs.declared.kinds.Request.{Request}
use Rattle.ldap_msg.specs.declared.kinds.Request.TheVariants as request
use Rattle.ldap_msg.specs.declared.kinds.Update.{Update}
use Rattle.ldap_msg.specs.declared.kinds.Update.TheVariants as update
use Rattle.ldap_msg.specs.declared.kinds.Message.{Message}
use Rattle.ldap_msg.specs.declared.kinds.LdapResult.{LdapResult}
use Rattle.ldap_msg.specs.declared.kinds.Reply.{Reply}
use Rattle.ldap_msg.specs.declared.kinds.Reply.TheVariants as reply
use Rattle.ldap_msg.specs.declared.operations.Ending.{Ending}
use Rattle.ldap_msg.specs.declared.operations.Ending.TheVariants as ending
use Rattle.ldap_msg.specs.declared.operations.Response.{Response}
use Rattle.ldap_msg.specs.declared.operations.Response.TheVariants as response
use Rattle.ldap_msg.specs.operations.Operations.{ending_tag, response_tag}
use Rattle.ldap_msg.specs.Attributes.{attribute_layout, attribute_parts}
use Rattle.ldap_msg.specs.Binds.{bind_layout, bind_parts, bind_from, auth_parts, auth_from, HasTag}
use Rattle.ldap_msg.specs.Kinds.{modify_layout, modify_parts, add_layout, add_parts, rename_layout, rename_parts, compare_layout, compare_parts, extended_layout, abandon_layout}
use Rattle.ldap_msg.specs.Search.{scope_number, scope_from, search_layout, search_with, search_parts}
use Rattle.ldap_filter.proofs.Theorems.{filter_spells, spelled}
use Rattle.ldap_msg.specs.Controls.{controls_from, controls_parts}
use Rattle.ldap_msg.specs.reading.Contents.{SaysUpdate, SaysContent, update_octets, content_octets}
use Rattle.ldap_msg.specs.reading.Messages.{message_layout, message_parts, Says, request_octets}
use Rattle.ldap_msg.specs.Results.{result_layout, result_parts, entry_layout, entry_parts, answered_layout, answered_parts}
use Rattle.ldap_msg.specs.Replies.{response_for, reply_layout, reply_parts, reply_content, SaysReply, Replies, reply_octets}
use Rattle.ldap_msg.specs.Ranges.{IsUpdateWithin, IsWithin, IsWritable, IsWritableReply}
use Rattle.ldap_msg.proofs.operations.CodeLemmas.{code_bound}
use Rattle.ldap_msg.proofs.reading.PartLemmas.{controls_back, modify_back, add_back, attributes_back}

-- what is made of the parts of a bind request is the request
auth_back : (auth : Auth) → HasTag auth → auth_from (auth_parts auth) ≡ auth
auth_back (Simple password) has = refl
auth_back (Other tag) has = ap (λ b. cond b (Simple []) (Other tag)) (ne_eqb tag 0x80 has.1)

bind_back : (bind : BindRequest) → HasTag bind.auth → bind_from (bind_parts bind) ≡ bind
bind_back bind has =
    let made : Auth → BindRequest = λ (auth : Auth). record { version = bind.version; name = bind.name; auth = auth } in
    ap made (auth_back bind.auth has)

-- what is made of the number of a scope is the scope
scope_back : (scope : SearchScope) → scope_from (scope_number scope) ≡ scope
scope_back BaseObject = refl
scope_back SingleLevel = refl
scope_back WholeSubtree = refl

-- what is made of the parts of a search is the search
search_back : (search : SearchRequest) → search_with (search_parts search) search.filter ≡ search
search_back search =
    let made : SearchScope → SearchRequest =
    λ (scope : SearchScope). record { base = search.base; scope = scope; size = search.size; kinds_only = search.kinds_only; filter = search.filter; selection = search.selection } in
    ap made (scope_back search.scope)

-- the written content of a request for a change says it
update_says : (asked : Update) → IsUpdateWithin asked → IsShort (update_octets asked) → SaysUpdate asked (update_octets asked)
update_says (update.Modify modify) within short =
    record { parts = modify_parts modify; says = spelled modify_layout refl (modify_parts modify) within short; is = modify_back modify }
update_says (update.Add add) within short = record { parts = add_parts add; says = spelled add_layout refl (add_parts add) within short; is = add_back add }
update_says (update.Delete delete) within short = refl
update_says (update.Rename rename) within short = spelled rename_layout refl (rename_parts rename) within short

-- the written content of a request says it
pub content_says : (asked : Request) → IsWithin asked → IsShort (content_octets asked) → SaysContent asked (content_octets asked)
content_says (request.Bind bind) within short = record { parts = bind_parts bind; says = spelled bind_layout refl (bind_parts bind) within.0 short; is = bind_back bind within.1 }
content_says request.Unbind within short = refl
content_says (request.Search search) within short =
    let fits = fits_within search_layout (search_parts search) within.0 short in
    let filter = filter_spells search.filter within.2 fits.1.1.1.1.1.1.0.1 in
    record {
      parts = search_parts search;
      says = writes_says search_layout (search_parts search) refl fits;
      filter = (filter, within.1);
      is = search_back search;
    }
content_says (request.Update update) within short = update_says update within short
content_says (request.Compare compare) within short = spelled compare_layout refl (compare_parts compare) within short
content_says (request.Abandon id) within short = spelled abandon_layout refl id within short
content_says (request.Extended name value) within short = spelled extended_layout refl (name, (value, tt)) within short

written_controls : (controls : List Control) → controls_from (controls_parts controls) ≡ controls
written_controls [] = refl
written_controls (control ∷ controls) = controls_back (control ∷ controls)

-- a written message says itself
pub request_says : (message : Message) → IsWritable message → Says message (request_octets message)
unfolding request_octets
request_says message is =
    let content = writes message_layout (message_parts message) in
    let fits = fits_within message_layout (message_parts message) is.parts is.short in
    let tag : IsTag 0x30 = λ e. absurd cc in
    record {
      content = content;
      front = element_octets 0x30 content;
      rest = [];
      element = element_spells 0x30 content tag is.short;
      inner = record {
        parts = message_parts message;
        says = writes_says message_layout (message_parts message) refl fits;
        id = refl;
        tag = refl;
        request = content_says message.request is.request fits.1.0.1;
        controls = written_controls message.controls;
      };
      next = refl;
      joins = sym (append-nil (element_octets 0x30 content));
    }

-- the numbers of a reply are in the ranges of its layouts
octets_within : (values : List (List ℕ)) → AllByRecursion (Within AnyOctets) values
octets_within [] = tt
octets_within (value ∷ values) = (tt, octets_within values)

attributes_within : (attributes : List KindValues) → AllByRecursion (Within attribute_layout) (map attribute_parts attributes)
attributes_within [] = tt
attributes_within (attribute ∷ attributes) = ((tt, ((octets_within attribute.values, tt), tt)), attributes_within attributes)

result_within : (result : LdapResult) → Within result_layout (result_parts result)
result_within result = ((omega arith, omega (arith, code_bound result.code)), (tt, (tt, tt)))

may_fit : (value : Option (List ℕ)) → MayFit (Within AnyOctets) value
may_fit None = tt
may_fit (Some value) = tt

answered_within : (result : LdapResult) (name value : Option (List ℕ)) → Within answered_layout (answered_parts result name value)
answered_within result name value = ((omega arith, omega (arith, code_bound result.code)), (tt, (tt, (may_fit name, (may_fit value, tt)))))

ending_is : (kind : Ending) → IsTag (ending_tag kind)
ending_is ending.Bind = eqb-false (0x61 % 32) 31 refl
ending_is ending.Done = eqb-false (0x65 % 32) 31 refl
ending_is ending.Modify = eqb-false (0x67 % 32) 31 refl
ending_is ending.Add = eqb-false (0x69 % 32) 31 refl
ending_is ending.Delete = eqb-false (0x6b % 32) 31 refl
ending_is ending.Rename = eqb-false (0x6d % 32) 31 refl
ending_is ending.Compare = eqb-false (0x6f % 32) 31 refl

tag_is : (kind : Response) → IsTag (response_tag kind)
tag_is response.Entry = eqb-false (0x64 % 32) 31 refl
tag_is (response.Ended ending) = ending_is ending
tag_is response.Extended = eqb-false (0x78 % 32) 31 refl

-- the written content of a reply says it
pub reply_says : (answer : Reply) → IsShort (reply_content answer) → SaysReply answer (reply_content answer)
reply_says (reply.Entry name attributes) short =
    record {
      parts = entry_parts name attributes;
      says = spelled entry_layout refl (entry_parts name attributes) (tt, ((attributes_within attributes, tt), tt)) short;
      is = ap (λ (l : List KindValues). reply.Entry name l) (attributes_back attributes);
    }
reply_says (reply.Ended ending result) short = spelled result_layout refl (result_parts result) (result_within result) short
reply_says (reply.Extended result name value) short = spelled answered_layout refl (answered_parts result name value) (answered_within result name value) short

-- a written reply says itself
pub answer_says : (id : ℕ) (answer : Reply) → IsWritableReply id answer → Replies id answer (reply_octets id answer)
unfolding reply_octets
answer_says id answer is =
    let content = writes reply_layout (reply_parts id answer) in
    let within : Within reply_layout (reply_parts id answer) = ((omega arith, is.most), (tag_is (response_for answer), (tt, tt))) in
    let fits = fits_within reply_layout (reply_parts id answer) within is.short in
    let tag : IsTag 0x30 = λ e. absurd cc in
    record {
      content = content;
      front = element_octets 0x30 content;
      rest = [];
      element = element_spells 0x30 content tag is.short;
      inner = record {
        parts = reply_parts id answer;
        says = writes_says reply_layout (reply_parts id answer) refl fits;
        id = refl;
        tag = refl;
        reply = reply_says answer fits.1.0.1;
      };
      next = refl;
      joins = sym (append-nil (element_octets 0x30 content));
    }

-- no reply is empty
pub reply_some : (id : ℕ) (answer : Reply) → 0 < length (reply_octets id answer)
unfolding reply_octets element_octets
reply_some id answer = omega arith
