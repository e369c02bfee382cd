-- The addresses on which a server listens: the loopback address of IPv4 (RFC 1122, 3.2.1.3), and a port of TCP (RFC 9293, 3.1).
use Rattle.std.specs.Prelude.{◌≡◌, ◌++◌, ℕ, Bool, List, Option, Some, None, option_and_then, is_some, codes, drop, length, nat_eq, if◌then◌else◌}
use Rattle.std.specs.List.{starts_with}
use Rattle.command_words.specs.Number.{IsNumberWithin, number_within}

-- what stands before the port
abbrev pub loopback : List ℕ
loopback = codes "127.0.0.1:"

-- a port in one to five decimal digits, from 1 to 65,535; zeros may lead
abbrev pub IsPort : List ℕ → ℕ → Type 0
IsPort text port = IsNumberWithin 5 1 65535 text port

-- the loopback address and a port
pub record IsAddress (address : List ℕ) : Type 0 where
  pub port_text : List ℕ
  pub port : ℕ
  pub address_is : address ≡ loopback ++ port_text
  pub port_is : IsPort port_text port

-- what follows the loopback address
abbrev pub after_loopback : List ℕ → Option (List ℕ)
after_loopback address = if starts_with nat_eq address loopback then Some (drop (length loopback) address) else None

-- the same as it is read
unfoldable pub is_address : List ℕ → Bool
is_address address = is_some (option_and_then (number_within 5 1 65535) (after_loopback address))

-- the text, where it is an address
unfoldable pub address_of : List ℕ → Option (List ℕ)
address_of text = if is_address text then Some text else None
