-- The content of each request: what it says, what is read of it, and what is written (RFC 4511 4.2 to 4.12).
use Rattle.std.specs.Prelude.{◌≡◌, ℕ, List, [], Option, Some}
use Rattle.ber_layout.specs.element.Pieces.{◌>>=◌}
use Rattle.ber_layout.specs.Layouts.{Layout, Value, Says as SaysLayout, reads, writes}
use Rattle.ber_layout.specs.Layouts.Layout.{AnyOctets, End}
use Rattle.ldap_msg.specs.declared.kinds.Request.{Request}
use Rattle.ldap_msg.specs.declared.kinds.Request.TheVariants as request
use Rattle.ldap_msg.specs.declared.kinds.Update.{Update}
use Rattle.ldap_msg.specs.declared.kinds.Update.TheVariants as update
use Rattle.ldap_msg.specs.declared.operations.Operation.{Operation}
use Rattle.ldap_msg.specs.declared.operations.Operation.TheVariants as operation
use Rattle.ldap_msg.specs.operations.Operations.{operation_of}
use Rattle.ldap_msg.specs.Binds.{bind_layout, bind_parts, bind_from, bind_of}
use Rattle.ldap_msg.specs.Search.{search_layout, search_parts, SaysSearch, search_of}
use Rattle.ldap_msg.specs.Kinds.{modify_layout, modify_parts, modify_from, add_layout, add_parts, add_from, rename_layout, rename_parts, rename_from, compare_layout, compare_parts, compare_from, extended_layout, abandon_layout}

-- the octets say parts of which the value is made
pub record SaysBy (l : Layout) {A : Type 0} (from : Value l → A) (value : A) (content : List ℕ) : Type 0 where
  pub parts : Value l
  pub says : SaysLayout l parts content
  pub is : from parts ≡ value

-- the operation of a request for a change
abbrev pub update_operation : Update → Operation
update_operation (update.Modify modify) = operation.Modify
update_operation (update.Add add) = operation.Add
update_operation (update.Delete delete) = operation.Delete
update_operation (update.Rename rename) = operation.Rename

-- the operation of a request
abbrev pub operation_for : Request → Operation
operation_for (request.Bind bind) = operation.Bind
operation_for request.Unbind = operation.Unbind
operation_for (request.Search search) = operation.Search
operation_for (request.Update update) = update_operation update
operation_for (request.Compare compare) = operation.Compare
operation_for (request.Abandon id) = operation.Abandon
operation_for (request.Extended name value) = operation.Extended

-- the content of its element says the change
abbrev pub SaysUpdate : Update → List ℕ → Type 0
SaysUpdate (update.Modify modify) content = SaysBy modify_layout modify_from modify content
SaysUpdate (update.Add add) content = SaysBy add_layout add_from add content
SaysUpdate (update.Delete delete) content = SaysLayout AnyOctets delete.name content
SaysUpdate (update.Rename rename) content = SaysLayout rename_layout (rename_parts rename) content

-- the content of its element says the request
abbrev pub SaysContent : Request → List ℕ → Type 0
SaysContent (request.Bind bind) content = SaysBy bind_layout bind_from bind content
SaysContent request.Unbind content = SaysLayout End tt content
SaysContent (request.Search search) content = SaysSearch search content
SaysContent (request.Update update) content = SaysUpdate update content
SaysContent (request.Compare compare) content = SaysLayout compare_layout (compare_parts compare) content
SaysContent (request.Abandon id) content = SaysLayout abandon_layout id content
SaysContent (request.Extended name value) content = SaysLayout extended_layout (name, (value, tt)) content

-- the extended request of these parts
abbrev pub extended_from : Value extended_layout → Request
extended_from (name, (value, _)) = request.Extended name value

-- the request of an operation that a content says
abbrev pub request_in : Operation → List ℕ → Option Request
request_in operation.Bind content = bind_of content >>= λ bind. Some (request.Bind bind)
request_in operation.Unbind content = reads End content >>= λ parts. Some request.Unbind
request_in operation.Search content = search_of content >>= λ search. Some (request.Search search)
request_in operation.Modify content = reads modify_layout content >>= λ parts. Some (request.Update (update.Modify (modify_from parts)))
request_in operation.Add content = reads add_layout content >>= λ parts. Some (request.Update (update.Add (add_from parts)))
request_in operation.Delete content = reads AnyOctets content >>= λ name. Some (request.Update (update.Delete (record { name = name })))
request_in operation.Rename content = reads rename_layout content >>= λ parts. Some (request.Update (update.Rename (rename_from parts)))
request_in operation.Compare content = reads compare_layout content >>= λ parts. Some (request.Compare (compare_from parts))
request_in operation.Abandon content = reads abandon_layout content >>= λ id. Some (request.Abandon id)
request_in operation.Extended content = reads extended_layout content >>= λ parts. Some (extended_from parts)

-- the request that a tag and a content say
abbrev pub request_of : ℕ × List ℕ → Option Request
request_of (tag, content) = operation_of tag >>= λ operation. request_in operation content

-- the written content of a request for a change
abbrev pub update_octets : Update → List ℕ
update_octets (update.Modify modify) = writes modify_layout (modify_parts modify)
update_octets (update.Add add) = writes add_layout (add_parts add)
update_octets (update.Delete delete) = delete.name
update_octets (update.Rename rename) = writes rename_layout (rename_parts rename)

-- the written content of a request
abbrev pub content_octets : Request → List ℕ
content_octets (request.Bind bind) = writes bind_layout (bind_parts bind)
content_octets request.Unbind = []
content_octets (request.Search search) = writes search_layout (search_parts search)
content_octets (request.Update update) = update_octets update
content_octets (request.Compare compare) = writes compare_layout (compare_parts compare)
content_octets (request.Abandon id) = writes abandon_layout id
content_octets (request.Extended name value) = writes extended_layout (name, (value, tt))
