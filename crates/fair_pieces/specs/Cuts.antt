-- Where the octets of a stream are cut, so that what is given at once has at most one wide message, the last.
use Rattle.std.specs.Prelude.{ℕ, zero, suc, ◌+◌, ◌-◌, min, List, [], ◌∷◌, length, take, drop, nat_lt, if◌then◌else◌}
use Rattle.ber_elements.specs.declared.kinds.Header.{Header}
use Rattle.ber_elements.specs.declared.kinds.Header.TheVariants as header
use Rattle.ber_elements.specs.Heading.{header_at}
use Rattle.ldap_msg.specs.declared.kinds.Frame.{Frame}
use Rattle.ldap_msg.specs.declared.kinds.Frame.TheVariants.{Whole, More, Bad}
use Rattle.ldap_msg.specs.Streams.{frame_at}
use Rattle.fair_pieces.specs.declared.cuts.Cut.{Cut}
use Rattle.fair_pieces.specs.Wide.{is_wide}

-- the octets of the message at the front, and of those behind it where it isn't wide
abbrev pub front_and : (List ℕ → ℕ) → List ℕ → Frame → ℕ
front_and behind octets (Whole count) = if is_wide (take count octets) then count else count + behind (drop count octets)
front_and behind octets More = 0
front_and behind octets Bad = 0

-- how many octets the whole messages at the front have, up to the first wide one, of at most so many messages
unfoldable pub front_within : ℕ → List ℕ → ℕ
front_within zero octets = 0
front_within (suc most) octets = front_and (front_within most) octets (frame_at octets)

-- how many octets the whole messages at the front have, up to the first wide one
unfoldable pub front_of : List ℕ → ℕ
front_of octets = front_within (length octets) octets

-- the front of a message is given as far as it came, but nothing of it before its header is there
abbrev pub part_cut : List ℕ → Header → Cut
part_cut octets (header.Head tag head len) = record { given = length octets; left = len - (length octets - head) }
part_cut octets header.Short = record { given = 0; left = 0 }
part_cut octets header.Bad = record { given = length octets; left = 0 }

-- where messages begin: whole ones up to the first wide one, the front of one, or octets that begin none
abbrev pub fresh_cut : List ℕ → Frame → Cut
fresh_cut octets (Whole count) = record { given = front_of octets; left = 0 }
fresh_cut octets More = part_cut octets (header_at octets)
fresh_cut octets Bad = record { given = length octets; left = 0 }

-- of a message that was given in part, so many octets are still to come: those that came of them are given
abbrev pub rest_cut : ℕ → List ℕ → Cut
rest_cut left octets = record { given = min left (length octets); left = left - length octets }

-- what is given at once of octets that came, and what is then still to come of a message that was given in part
unfoldable pub cut_at : ℕ → List ℕ → Cut
cut_at left octets = if nat_lt 0 left then rest_cut left octets else fresh_cut octets (frame_at octets)

-- the octets that are given at once
abbrev pub given_of : ℕ → List ℕ → List ℕ
given_of left octets = take (cut_at left octets).given octets

-- the octets that are kept
abbrev pub kept_of : ℕ → List ℕ → List ℕ
kept_of left octets = drop (cut_at left octets).given octets

-- what is given of octets in turn, at most so often
unfoldable pub pieces_of : ℕ → ℕ → List ℕ → List (List ℕ)
pieces_of zero left octets = []
pieces_of (suc most) left octets = given_of left octets ∷ pieces_of most (cut_at left octets).left (kept_of left octets)

-- what is kept of them then
unfoldable pub kept_behind : ℕ → ℕ → List ℕ → List ℕ
kept_behind zero left octets = octets
kept_behind (suc most) left octets = kept_behind most (cut_at left octets).left (kept_of left octets)
