-- Where some texts leave the outer grammar of names, what some are read as, how some values are printed and kept, and
-- some path keys.
use Rattle.std.proofs.Common.{◌≡◌, ℕ, List, [], ◌∷◌, Some, None, refl}
use Rattle.std.specs.Prelude.{codes}
use Rattle.dn_names.specs.Classes.{class_of}
use Rattle.dn_names.specs.Modes.{text_fault}
use Rattle.dn_names.specs.Reading.{parts_of, value_octets, pair_of, rdn_of, written_of}
use Rattle.dn_names.specs.Printing.{print_value}
use Rattle.dn_names.specs.value.Pieces.{octets_in, key_in, split_of}
use Rattle.dn_names.specs.name.Names.{TypeAndValue}
use Rattle.dn_names.specs.path.PathKeys.{path_key}
use Rattle.dn_names.specs.path.PathReading.{after_key}

in_grammar : text_fault (codes "cn=a\\,b+uid=x, dc=example") ≡ None
unfolding text_fault class_of
in_grammar = refl

no_equals : text_fault (codes "dc") ≡ Some 2
unfolding text_fault class_of
no_equals = refl

half_an_escape : text_fault (codes "cn=\\0") ≡ Some 5
unfolding text_fault class_of
half_an_escape = refl

a_hash_first : text_fault (codes "cn= #1") ≡ Some 4
unfolding text_fault class_of
a_hash_first = refl

-- How two texts are read, and how two values are printed.
two_rdns : written_of (codes "cn=a\\,b+uid=x, dc=t")
    ≡ (record { kind = codes "cn"; octets = codes "a,b" } ∷ record { kind = codes "uid"; octets = codes "x" } ∷ [])
    ∷ (record { kind = codes "dc"; octets = codes "t" } ∷ []) ∷ []
unfolding written_of rdn_of parts_of pair_of value_octets class_of
two_rdns = refl

spaces_at_ends : value_octets (codes "  a b  ") ≡ codes "a b"
unfolding value_octets class_of
spaces_at_ends = refl

escaped_spaces : value_octets (codes "\\ a\\20 ") ≡ codes " a "
unfolding value_octets class_of
escaped_spaces = refl

printed_spaces : print_value (codes " a ") ≡ codes "\\ a\\ "
unfolding print_value class_of
printed_spaces = refl

printed_nul : print_value (0 ∷ 35 ∷ []) ≡ codes "\\00#"
unfolding print_value class_of
printed_nul = refl

-- A value with its key behind it, one that is its own key, and one whose key is empty.
kept_octets : octets_in (split_of (codes "Ann") (codes "ann")) (codes "Annann") ≡ codes "Ann"
kept_octets = refl

kept_key : key_in (split_of (codes "Ann") (codes "ann")) (codes "Annann") ≡ codes "ann"
kept_key = refl

kept_once : key_in 3 (codes "ann") ≡ codes "ann"
kept_once = refl

no_key : key_in (split_of (codes "ann") []) (codes "ann") ≡ []
no_key = refl

-- The path keys of two names, the second below the first, and of keys with the octets 00, 01, 02 and FF.
abbrev pair_of_key : ℕ → List ℕ → TypeAndValue
pair_of_key kind key = record { kind = kind; value = record { octets = key; key = key } }

path_of_one : path_key ((pair_of_key 25 (codes "t") ∷ []) ∷ []) ≡ 2 ∷ 25 ∷ 116 ∷ 0 ∷ 0 ∷ 1 ∷ []
unfolding path_key
path_of_one = refl

path_of_two : path_key ((pair_of_key 25 (codes "t") ∷ []) ∷ (pair_of_key 1 (codes "a") ∷ []) ∷ [])
    ≡ 2 ∷ 25 ∷ 116 ∷ 0 ∷ 0 ∷ 1 ∷ 2 ∷ 1 ∷ 97 ∷ 0 ∷ 0 ∷ 1 ∷ []
unfolding path_key
path_of_two = refl

path_of_marks : path_key ((pair_of_key 1 (0 ∷ 1 ∷ []) ∷ pair_of_key 2 (2 ∷ 255 ∷ []) ∷ []) ∷ [])
    ≡ 2 ∷ 1 ∷ 0 ∷ 255 ∷ 1 ∷ 0 ∷ 0 ∷ 2 ∷ 2 ∷ 2 ∷ 255 ∷ 0 ∷ 0 ∷ 1 ∷ []
unfolding path_key
path_of_marks = refl

behind_a_key : after_key (97 ∷ 0 ∷ 255 ∷ 0 ∷ 255 ∷ 0 ∷ 0 ∷ 1 ∷ []) ≡ 1 ∷ []
behind_a_key = refl
