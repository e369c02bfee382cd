-- The operations and the responses by their tags (RFC 4511 4.2 to 4.12).
use Rattle.std.specs.Prelude.{ℕ, ◌==◌, Option, Some, None, if◌then◌else◌}
use Rattle.ber_layout.specs.element.Pieces.{◌>>=◌}
use Rattle.ldap_msg.specs.declared.operations.Operation.{Operation}
use Rattle.ldap_msg.specs.declared.operations.Operation.TheVariants as operation
use Rattle.ldap_msg.specs.declared.operations.Ending.{Ending}
use Rattle.ldap_msg.specs.declared.operations.Ending.TheVariants as ending
use Rattle.ldap_msg.specs.declared.operations.Response.{Response}
use Rattle.ldap_msg.specs.declared.operations.Response.TheVariants as response

-- the tag of a request
abbrev pub request_tag : Operation → ℕ
request_tag operation.Bind = 0x60
request_tag operation.Unbind = 0x42
request_tag operation.Search = 0x63
request_tag operation.Modify = 0x66
request_tag operation.Add = 0x68
request_tag operation.Delete = 0x4a
request_tag operation.Rename = 0x6c
request_tag operation.Compare = 0x6e
request_tag operation.Abandon = 0x50
request_tag operation.Extended = 0x77

-- the operation whose request has this tag
abbrev pub operation_of : ℕ → Option Operation
operation_of tag =
    if tag == request_tag operation.Bind then Some operation.Bind
    else if tag == request_tag operation.Unbind then Some operation.Unbind
    else if tag == request_tag operation.Search then Some operation.Search
    else if tag == request_tag operation.Modify then Some operation.Modify
    else if tag == request_tag operation.Add then Some operation.Add
    else if tag == request_tag operation.Delete then Some operation.Delete
    else if tag == request_tag operation.Rename then Some operation.Rename
    else if tag == request_tag operation.Compare then Some operation.Compare
    else if tag == request_tag operation.Abandon then Some operation.Abandon
    else if tag == request_tag operation.Extended then Some operation.Extended
    else None

-- the tag of a response whose content is a result alone
abbrev pub ending_tag : Ending → ℕ
ending_tag ending.Bind = 0x61
ending_tag ending.Done = 0x65
ending_tag ending.Modify = 0x67
ending_tag ending.Add = 0x69
ending_tag ending.Delete = 0x6b
ending_tag ending.Rename = 0x6d
ending_tag ending.Compare = 0x6f

-- the response that has this tag, if its content is a result alone
abbrev pub ending_of : ℕ → Option Ending
ending_of tag =
    if tag == ending_tag ending.Bind then Some ending.Bind
    else if tag == ending_tag ending.Done then Some ending.Done
    else if tag == ending_tag ending.Modify then Some ending.Modify
    else if tag == ending_tag ending.Add then Some ending.Add
    else if tag == ending_tag ending.Delete then Some ending.Delete
    else if tag == ending_tag ending.Rename then Some ending.Rename
    else if tag == ending_tag ending.Compare then Some ending.Compare
    else None

-- the tag of a response
abbrev pub response_tag : Response → ℕ
response_tag response.Entry = 0x64
response_tag (response.Ended ending) = ending_tag ending
response_tag response.Extended = 0x78

-- the response that has this tag
abbrev pub response_of : ℕ → Option Response
response_of tag =
    if tag == response_tag response.Entry then Some response.Entry
    else if tag == response_tag response.Extended then Some response.Extended
    else ending_of tag >>= λ ending. Some (response.Ended ending)
