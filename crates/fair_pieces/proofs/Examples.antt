-- The definitions computed on known messages (RFC 4511 4.5.1).
use Rattle.std.proofs.Common.{◌≡◌, ℕ, true, false, List, [], ◌∷◌, ◌++◌, refl}
use Rattle.ber_elements.specs.Heading.{length_at, header_at}
use Rattle.ldap_msg.specs.Streams.{framed, frame_at}
use Rattle.fair_pieces.specs.Wide.{is_wide}
use Rattle.fair_pieces.specs.Cuts.{front_within, front_of, cut_at}

-- a search of "dc=x" with this scope, for all entries with an objectClass, of no attribute in particular
search_of : ℕ → List ℕ
search_of scope =
    0x30 ∷ 0x23 ∷ 0x02 ∷ 0x01 ∷ 0x01 ∷ 0x63 ∷ 0x1e ∷ 0x04 ∷ 0x04 ∷ 0x64 ∷ 0x63 ∷ 0x3d ∷ 0x78 ∷ 0x0a ∷ 0x01 ∷ scope ∷ 0x0a ∷ 0x01 ∷ 0x00
    ∷ 0x02 ∷ 0x01 ∷ 0x00 ∷ 0x02 ∷ 0x01 ∷ 0x00 ∷ 0x01 ∷ 0x01 ∷ 0x00 ∷ 0x87 ∷ 0x05 ∷ 0x63 ∷ 0x6c ∷ 0x61 ∷ 0x73 ∷ 0x73 ∷ 0x30 ∷ 0x00 ∷ []

-- an unbind request
unbind : List ℕ
unbind = 0x30 ∷ 0x05 ∷ 0x02 ∷ 0x01 ∷ 0x02 ∷ 0x42 ∷ 0x00 ∷ []

whole_tree_is_wide : is_wide (search_of 2) ≡ true
unfolding search_of is_wide header_at length_at
whole_tree_is_wide = refl

one_level_is_wide : is_wide (search_of 1) ≡ true
unfolding search_of is_wide header_at length_at
one_level_is_wide = refl

base_is_narrow : is_wide (search_of 0) ≡ false
unfolding search_of is_wide header_at length_at
base_is_narrow = refl

unbind_is_narrow : is_wide unbind ≡ false
unfolding unbind is_wide header_at length_at
unbind_is_narrow = refl

-- of a base search and three searches of the whole tree, the first two are given
the_first_wide_ends : (cut_at 0 (search_of 0 ++ search_of 2 ++ search_of 2 ++ search_of 2)).given ≡ 74
unfolding search_of cut_at front_of front_within frame_at framed is_wide header_at length_at
the_first_wide_ends = refl

-- what is still to come of a message in part is given alone
the_rest_is_given_alone : (cut_at 5 (search_of 2)).given ≡ 5
unfolding search_of cut_at
the_rest_is_given_alone = refl

-- of three octets of a search, 34 are still to come
a_part_waits : (cut_at 0 (0x30 ∷ 0x23 ∷ 0x02 ∷ [])).left ≡ 34
unfolding cut_at frame_at framed header_at length_at
a_part_waits = refl

-- nothing is given of a first octet
a_short_header_is_kept : (cut_at 0 (0x30 ∷ [])).given ≡ 0
unfolding cut_at frame_at framed header_at length_at
a_short_header_is_kept = refl
