-- What one line of a script says, computed from left to right.
use Rattle.std.specs.Prelude.{ℕ, ◌==◌, ◌&&◌, nat_eq, nat_le, nat_lt, ◌^◌, Bool, if◌then◌else◌, List, length, drop, codes, Option, Some, None, Result, Ok, Err}
use Rattle.std.specs.Char.{is_ascii_digit}
use Rattle.std.specs.List.{list_all, starts_with, before_first, after_first}
use Rattle.std.specs.Option.{option_map}
use Rattle.std.specs.Str.Parse.{digits_value}
use Rattle.hex.specs.Hex.{decode_of}
use Rattle.hex.specs.declared.error.FromHexError.{FromHexError}
use Rattle.script_text.specs.declared.event.ScriptEvent.{ScriptEvent}
use Rattle.script_text.specs.declared.event.ScriptEvent.TheVariants.{Opened, Bytes, Ended}

-- the octet is a space
abbrev pub is_space : ℕ → Bool
is_space octet = octet == 32

-- the number where it is that of a connection
abbrev pub in_range : ℕ → Option ℕ
in_range number = if nat_le 1 number && nat_lt number (2 ^ 32) then Some number else None

-- the number that the digits write
unfoldable pub number_of : List ℕ → Option ℕ
number_of digits = if nat_le (length digits) 10 && list_all is_ascii_digit digits then in_range (digits_value 10 digits) else None

-- the octets, where the pairs of digits were read
abbrev pub read_pairs : Result (List ℕ) FromHexError → Option (List ℕ)
read_pairs (Ok octets) = Some octets
read_pairs (Err error) = None

-- the octets that the digits write, at least one
unfoldable pub octets_of : List ℕ → Option (List ℕ)
octets_of digits = if length digits == 0 then None else read_pairs (decode_of digits)

-- the event of octets that come on a connection, where both were read
abbrev pub sent : Option ℕ → Option (List ℕ) → Option ScriptEvent
sent None octets = None
sent (Some number) None = None
sent (Some number) (Some octets) = Some (Bytes number octets)

-- the event of `N HEX`
unfoldable pub sent_by : List ℕ → Option ScriptEvent
sent_by rest = sent (number_of (before_first is_space rest)) (octets_of (after_first is_space rest))

-- the event that the line is the text of
unfoldable pub event_of : List ℕ → Option ScriptEvent
event_of line =
    if starts_with nat_eq line (codes "open ") then option_map Opened (number_of (drop 5 line))
    else if starts_with nat_eq line (codes "send ") then sent_by (drop 5 line)
    else if starts_with nat_eq line (codes "end ") then option_map Ended (number_of (drop 4 line))
    else None
