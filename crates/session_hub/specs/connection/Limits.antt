-- How much a connection may leave unread.
use Rattle.std.specs.Prelude.{ℕ}

-- the most unread octets that a connection held may have: a header of 6 octets and a content of 1,048,576, but for the last octet
abbrev pub most_unread : ℕ
most_unread = 1048581
