-- The controls of a request (RFC 4511 4.1.11), and what those of subentries (RFC 3672 3) and of pages (RFC 2696) ask for in
-- a search.
use Rattle.std.specs.Prelude.{ℕ, nat_lt, Bool, true, false, not, ◌&&◌, ◌||◌, List, count_by, find, codes, Option, Some, None, if◌then◌else◌}
use Rattle.std.specs.List.{list_any}
use Rattle.std.specs.Option.{option_map}
use Rattle.std.specs.Str.{bytes_eq}
use Rattle.session_model.specs.ber_layout.Layouts.{Layout, reads}
use Rattle.session_model.specs.ber_layout.Layouts.Layout.{Flag, End, Then}
use Rattle.session_model.specs.ldap_msg.declared.kinds.Control.{Control}
use Rattle.op_read.specs.page_core.declared.page.Page.{Page}
use Rattle.op_read.specs.page_core.Values.{page_kind, page_of}
use Rattle.session_model.specs.ldap_msg.declared.kinds.Request.{Request}
use Rattle.session_model.specs.ldap_msg.declared.kinds.Request.TheVariants as request

-- a control of subentries
abbrev pub is_subentries : Control → Bool
is_subentries control = bytes_eq control.kind (codes "1.3.6.1.4.1.4203.1.10.1")

-- a control of pages
abbrev pub is_paged : Control → Bool
is_paged control = bytes_eq control.kind page_kind

-- a search
abbrev pub is_search : Request → Bool
is_search (request.Bind bind) = false
is_search request.Unbind = false
is_search (request.Search search) = true
is_search (request.Update update) = false
is_search (request.Compare compare) = false
is_search (request.Abandon id) = false
is_search (request.Extended name value) = false

-- a control is known where it is one of subentries or of pages and comes with a search
abbrev pub is_known : Request → Control → Bool
is_known asked control = is_search asked && (is_subentries control || is_paged control)

-- a request is refused for a critical control that isn't known; others that aren't known are ignored
abbrev pub is_refused : Request → List Control → Bool
is_refused asked controls = list_any (λ control. control.critical && not (is_known asked control)) controls

-- the value of a control of subentries: a BOOLEAN and nothing behind it
abbrev pub subentries_layout : Layout
subentries_layout = Then 0x01 Flag End

-- what a value asks for: TRUE for subentries, FALSE for ordinary entries; nothing can be read where it is absent
abbrev pub flag_in : Option (List ℕ) → Option Bool
flag_in None = None
flag_in (Some octets) = option_map (λ parts. parts.0) (reads subentries_layout octets)

-- what a control of subentries asks for, if it can be read: nothing where there is none
abbrev pub flag_of : Option Control → Option (Option Bool)
flag_of None = Some None
flag_of (Some control) = option_map Some (flag_in control.value)

-- what the controls of subentries among these ask for; two or more can't be read
abbrev pub subentries_asked : List Control → Option (Option Bool)
subentries_asked controls = if nat_lt 1 (count_by is_subentries controls) then None else flag_of (find is_subentries controls)

-- the page that a value asks for; nothing can be read where it is absent
abbrev pub page_in : Option (List ℕ) → Option Page
page_in None = None
page_in (Some octets) = page_of octets

-- the page that a control asks for, if it can be read: none where there is no control
abbrev pub page_wanted : Option Control → Option (Option Page)
page_wanted None = Some None
page_wanted (Some control) = option_map Some (page_in control.value)

-- the page that the controls of pages among these ask for; two or more can't be read
abbrev pub page_asked : List Control → Option (Option Page)
page_asked controls = if nat_lt 1 (count_by is_paged controls) then None else page_wanted (find is_paged controls)
