-- The laws over the definitions that this crate's functions of laws state.
use Rattle.std.specs.Prelude.{◌≡◌, ◌≢◌, ◌⊎◌, ℕ, ◌+◌, ◌≤◌, true, false, List, [], ◌∷◌, ◌++◌, length, take}
use Rattle.ber_elements.specs.declared.kinds.Header.TheVariants.{Head, Short}
use Rattle.ber_elements.specs.Heading.{header_at}
use Rattle.ldap_msg.specs.declared.kinds.Frame.TheVariants.{More, Bad}
use Rattle.ldap_msg.specs.declared.kinds.Message.{Message}
use Rattle.ldap_msg.specs.declared.kinds.SearchScope.TheVariants.{BaseObject}
use Rattle.ldap_msg.specs.declared.kinds.SearchRequest.{SearchRequest}
use Rattle.ldap_msg.specs.declared.kinds.Request.TheVariants.{Search}
use Rattle.ldap_msg.specs.Streams.{frame_at, whole, rest_of, joined}
use Rattle.ldap_msg.specs.reading.Messages.{Says}
use Rattle.fair_pieces.specs.Wide.{is_wide}
use Rattle.fair_pieces.specs.declared.cuts.Cut.{Cut}
use Rattle.fair_pieces.specs.Cuts.{pieces_of, kept_behind}

-- none of the messages is wide but perhaps the last
abbrev pub OnlyLastIsWide : List (List ℕ) → Type 0
OnlyLastIsWide [] = Unit {0}
OnlyLastIsWide (message ∷ []) = Unit {0}
OnlyLastIsWide (message ∷ next ∷ messages) = (is_wide message ≡ false) × OnlyLastIsWide (next ∷ messages)

-- the octets are the front of a message, its header and more or less of its content, of which so many octets are
-- still to come
pub record IsPart (heard : List ℕ) (left : ℕ) : Type 0 where
  pub tag : ℕ
  pub head : ℕ
  pub len : ℕ
  pub frame : frame_at heard ≡ More
  pub heading : header_at heard ≡ Head tag head len
  pub missing : length heard + left ≡ head + len

-- what was heard behind the last whole message: nothing, the front of a message of which so many octets are still to
-- come, or octets that begin none
abbrev pub Awaits : List ℕ → ℕ → Type 0
Awaits heard left = ((heard ≡ []) × (left ≡ 0)) ⊎ (IsPart heard left ⊎ (frame_at heard ≡ Bad))

-- with what is given, at most the last of the messages that are then whole is wide, and the next cut can be made
pub record IsFair (heard octets : List ℕ) (cut : Cut) : Type 0 where
  pub only_last : OnlyLastIsWide (whole (heard ++ take cut.given octets))
  pub awaits : Awaits (rest_of (heard ++ take cut.given octets)) cut.left

-- with each piece, at most the last of the messages that are then whole is wide
abbrev pub AreFair : List ℕ → List (List ℕ) → Type 0
AreFair heard [] = Unit {0}
AreFair heard (piece ∷ pieces) = OnlyLastIsWide (whole (heard ++ piece)) × AreFair (rest_of (heard ++ piece)) pieces

-- octets of which nothing is given are the front of a header, at most five
pub record IsFrontOfHeader (left : ℕ) (octets : List ℕ) : Type 0 where
  pub fresh : left ≡ 0
  pub heading : header_at octets ≡ Short
  pub few : length octets ≤ 5

-- no octet is lost: the pieces that are given in turn, and what is then kept, are the octets
abbrev pub CutsJoin : Type 0
CutsJoin = (most left : ℕ) (octets : List ℕ) → joined (pieces_of most left octets) ++ kept_behind most left octets ≡ octets

-- octets that say a search of another scope than that of the base object are wide
abbrev pub SearchesAreWide : Type 0
SearchesAreWide = (message : Message) (search : SearchRequest) (octets : List ℕ) → Says message octets → message.request ≡ Search search
    → search.scope ≢ BaseObject → is_wide octets ≡ true

-- octets that say no search aren't wide
abbrev pub OnlySearchesAreWide : Type 0
OnlySearchesAreWide = (message : Message) (octets : List ℕ) → Says message octets → is_wide octets ≡ true
    → (search : SearchRequest) × (message.request ≡ Search search)
