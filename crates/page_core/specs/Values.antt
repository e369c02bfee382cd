-- The value of the control of pages (RFC 2696 2).
use Rattle.std.specs.Prelude.{◌≡◌, ℕ, List, codes, Option, Some}
use Rattle.ber_layout.specs.element.Pieces.{◌>>=◌}
use Rattle.ber_layout.specs.Layouts.{Layout, Value, Says, reads, writes}
use Rattle.ber_layout.specs.Layouts.Layout.{AnyOctets, Number, End, Then}
use Rattle.page_core.specs.declared.page.Page.{Page}

-- the type of the control
abbrev pub page_kind : List ℕ
page_kind = codes "1.2.840.113556.1.4.319"

-- realSearchControlValue ::= SEQUENCE { size INTEGER (0..maxInt), cookie OCTET STRING }
abbrev pub page_layout : Layout
page_layout = Then 0x02 (Number 0 2147483647) (Then 0x04 AnyOctets End)

-- it stands alone in the control's value
abbrev pub value_layout : Layout
value_layout = Then 0x30 page_layout End

abbrev pub value_parts : Page → Value value_layout
value_parts page = ((page.size, (page.cookie, tt)), tt)

abbrev pub page_from : Value value_layout → Page
page_from ((size, (cookie, _)), _) = record { size = size; cookie = cookie }

-- the value says what is asked for
abbrev pub SaysPage : Page → List ℕ → Type 0
SaysPage page value = Says value_layout (value_parts page) value

-- what a value asks for, if it says so
unfoldable pub page_of : List ℕ → Option Page
page_of value = reads value_layout value >>= λ parts. Some (page_from parts)

-- the written octets of a value
abbrev pub page_octets : Page → List ℕ
page_octets page = writes value_layout (value_parts page)
