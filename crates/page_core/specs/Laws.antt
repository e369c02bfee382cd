-- Values and ends of pages that can be read again when they are written, and what is read of them.
use Rattle.std.specs.Prelude.{◌≡◌, ℕ, ◌≤◌, List, []}
use Rattle.ber_layout.specs.components.Components.{Follows}
use Rattle.ber_layout.specs.Layouts.{Says, IsShort}
use Rattle.ber_layout.specs.Ranges.{Within}
use Rattle.ldap_msg.specs.Replies.{reply_layout}
use Rattle.page_core.specs.declared.page.Page.{Page}
use Rattle.page_core.specs.Values.{value_layout, value_parts, page_octets}
use Rattle.page_core.specs.Endings.{end_parts, IsShortEnd}

-- the value can be written so that it is read again
pub record IsWritablePage (page : Page) : Type 0 where
  pub range : page.size ≤ 2147483647
  pub short : IsShort (page_octets page)

-- so can the end of a page
pub record IsWritableEnd (id : ℕ) (cookie : List ℕ) : Type 0 where
  pub range : id ≤ 2147483647
  pub short : IsShortEnd id cookie

-- the octets are a message of these parts: the search done, and the control with the cookie
abbrev pub EndsPage : ℕ → List ℕ → List ℕ → Type 0
EndsPage id cookie bytes = Follows 0x30 (Says reply_layout (end_parts id cookie)) (λ rest. rest ≡ []) bytes
