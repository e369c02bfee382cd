-- What follows an operation, where it says no controls and where it doesn't (RFC 4511 4.1.1, 4.1.11).
use Rattle.std.proofs.Common.{◌≡◌, ℕ, Bool, true, false, ◌==◌, cond, List, [], ◌∷◌, length, map, Option, Some, None, refl, ap, arith}
use Rattle.std.proofs.lemmas.Bool.Decides.{nat_tests}
use Rattle.session_model.specs.ber_layout.element.Pieces.{◌>>=◌, Piece, tagged_at, are_pieces, other_than}
use Rattle.session_model.specs.ber_layout.components.Components.{Component, begins, required_of, optional_of, each_of, each_from}
use Rattle.session_model.specs.ber_layout.Layouts.{Value, reads_into, reads}
use Rattle.session_model.specs.ber_layout.Layouts.Layout.{Maybe, FurtherBut}
use Rattle.session_model.specs.ldap_msg.Controls.{control_layout, controls_layout, control_from}
use Rattle.session_model.specs.ldap_msg.declared.kinds.Message.{Message}
use Rattle.session_model.specs.ldap_msg.declared.kinds.Request.{Request}
use Rattle.session_model.specs.ldap_msg.declared.kinds.Control.{Control}
use Rattle.session_model.specs.ldap_msg.reading.Contents.{request_of}
use Rattle.session_model.specs.ldap_msg.reading.Messages.{message_layout, message_from}
use Rattle.session_hub.specs.SimpleBinds.{simple_in, says_no_controls}

-- the message of a number and an operation that these octets follow
abbrev pub message_before : ℕ → ℕ × List ℕ → List ℕ → Option Message
message_before id operation octets =
    reads_into {B = Value message_layout} (Maybe 0xa0 controls_layout (FurtherBut 0xa0)) (λ value. Some (id, (operation, value))) octets >>= message_from

-- a request with these controls as a message
abbrev pub with_controls : ℕ → List Control → Option Request → Option Message
with_controls id controls asked = asked >>= λ request. Some (record { id = id; request = request; controls = controls })

not_empty : (octet : ℕ) (octets : List ℕ) → length (octet ∷ octets) == 0 ≡ false
not_empty octet octets = grind (arith, nat_tests)

-- a list with a first value
record HasFirst {A : Type 0} (values : List A) : Type 0 where
  first : A
  others : List A
  is : values ≡ first ∷ others

-- the list behind one control has an end, or there is none
end_some : (found : Component (Value control_layout)) (others : Component (List (Value control_layout))) (b : Bool) (parts : Value controls_layout) →
    cond b (Some (found.value ∷ others.value, tt)) None ≡ Some parts → HasFirst parts.0
end_some found others true parts same =
    let all : parts ≡ (found.value ∷ others.value, tt) = cc in
    record { first = found.value; others = others.value; is = ap (λ (p : Value controls_layout). p.0) all }
end_some found others false parts same = absurd (let none : None ≡ Some parts = same in cc)

-- a list that has octets has a control
controls_some : (octet : ℕ) (octets : List ℕ) (parts : Value controls_layout) → reads controls_layout (octet ∷ octets) ≡ Some parts → HasFirst parts.0
unfolding reads_into each_of each_from
controls_some octet octets parts is = by_tag (octet == 0x30) refl
  where
    by_others : (found : Component (Value control_layout)) (others : Option (Component (List (Value control_layout)))) → required_of 0x30 (reads control_layout) (octet ∷ octets) ≡ Some found →
        each_from (length octets) 0x30 (reads control_layout) found.rest ≡ others → octet == 0x30 ≡ true → HasFirst parts.0
    by_others found None first then_ tag = absurd (let none : None ≡ Some parts = rw (tag, first, then_) at is in cc)
    by_others found (Some others) first then_ tag = end_some found others (length others.rest == 0) parts (rw (tag, first, then_) at is)

    by_first : (found : Option (Component (Value control_layout))) → required_of 0x30 (reads control_layout) (octet ∷ octets) ≡ found → octet == 0x30 ≡ true → HasFirst parts.0
    by_first None first tag = absurd (let none : None ≡ Some parts = rw (tag, first) at is in cc)
    by_first (Some found) first tag = by_others found (each_from (length octets) 0x30 (reads control_layout) found.rest) first refl tag

    by_tag : (b : Bool) → octet == 0x30 ≡ b → HasFirst parts.0
    by_tag true tag = by_first (required_of 0x30 (reads control_layout) (octet ∷ octets)) refl tag
    by_tag false tag = absurd (let none : None ≡ Some parts = rw (tag, not_empty octet octets) at is in cc)

-- where no controls are said, the message has none
pub no_controls : (id : ℕ) (operation : ℕ × List ℕ) (octets : List ℕ) → says_no_controls octets ≡ true → message_before id operation octets ≡ with_controls id [] (request_of operation)
unfolding reads_into optional_of required_of each_of each_from
no_controls id operation octets none = by_begin (begins 0xa0 octets) refl
  where
    by_content : (piece : Piece) (content : List ℕ) → piece.content ≡ content → tagged_at 0xa0 octets ≡ Some piece → begins 0xa0 octets ≡ true →
        message_before id operation octets ≡ with_controls id [] (request_of operation)
    by_content piece [] empty found first =
        let after : are_pieces (other_than 0xa0) piece.rest ≡ true = rw (first, found, empty) at none in
        rw (first, found, empty, after) refl
    by_content piece (octet ∷ content) some found first = absurd (let no : false ≡ true = rw (first, found, some, not_empty octet content) at none in cc)

    by_piece : (piece : Option Piece) → tagged_at 0xa0 octets ≡ piece → begins 0xa0 octets ≡ true → message_before id operation octets ≡ with_controls id [] (request_of operation)
    by_piece None found first = absurd (let no : false ≡ true = rw (first, found) at none in cc)
    by_piece (Some piece) found first = by_content piece piece.content refl found first

    by_begin : (b : Bool) → begins 0xa0 octets ≡ b → message_before id operation octets ≡ with_controls id [] (request_of operation)
    by_begin true first = by_piece (tagged_at 0xa0 octets) refl first
    by_begin false first = let after : are_pieces (other_than 0xa0) octets ≡ true = rw first at none in rw (first, after) refl

-- a message with controls is no simple bind without
listed : (id : ℕ) (parts : List (Value control_layout)) (asked : Option Request) → HasFirst parts → simple_in (with_controls id (map control_from parts) asked) ≡ None
listed id parts None some = refl
listed id parts (Some request) some = rw some.is refl

-- where others are said, there is no simple bind without controls
pub other_controls : (id : ℕ) (operation : ℕ × List ℕ) (octets : List ℕ) → says_no_controls octets ≡ false → simple_in (message_before id operation octets) ≡ None
unfolding reads_into optional_of required_of
other_controls id operation octets none = by_begin (begins 0xa0 octets) refl
  where
    by_content : (piece : Piece) (content : List ℕ) (parts : Value controls_layout) → piece.content ≡ content → tagged_at 0xa0 octets ≡ Some piece → begins 0xa0 octets ≡ true →
        reads controls_layout piece.content ≡ Some parts → are_pieces (other_than 0xa0) piece.rest ≡ true → simple_in (message_before id operation octets) ≡ None
    by_content piece [] parts empty found first list after = absurd (let no : true ≡ false = rw (first, found, empty, after) at none in cc)
    by_content piece (octet ∷ content) parts some found first list after =
        rw (first, found, list, after) (listed id parts.0 (request_of operation) (controls_some octet content parts (rw some at list)))

    by_rest : (piece : Piece) (parts : Value controls_layout) (b : Bool) → tagged_at 0xa0 octets ≡ Some piece → begins 0xa0 octets ≡ true → reads controls_layout piece.content ≡ Some parts →
        are_pieces (other_than 0xa0) piece.rest ≡ b → simple_in (message_before id operation octets) ≡ None
    by_rest piece parts false found first list after = rw (first, found, list, after) refl
    by_rest piece parts true found first list after = by_content piece piece.content parts refl found first list after

    by_list : (piece : Piece) (parts : Option (Value controls_layout)) → tagged_at 0xa0 octets ≡ Some piece → begins 0xa0 octets ≡ true → reads controls_layout piece.content ≡ parts →
        simple_in (message_before id operation octets) ≡ None
    by_list piece None found first list = rw (first, found, list) refl
    by_list piece (Some parts) found first list = by_rest piece parts (are_pieces (other_than 0xa0) piece.rest) found first list refl

    by_piece : (piece : Option Piece) → tagged_at 0xa0 octets ≡ piece → begins 0xa0 octets ≡ true → simple_in (message_before id operation octets) ≡ None
    by_piece None found first = rw (first, found) refl
    by_piece (Some piece) found first = by_list piece (reads controls_layout piece.content) found first refl

    by_begin : (b : Bool) → begins 0xa0 octets ≡ b → simple_in (message_before id operation octets) ≡ None
    by_begin true first = by_piece (tagged_at 0xa0 octets) refl first
    by_begin false first = let after : are_pieces (other_than 0xa0) octets ≡ false = rw first at none in rw (first, after) refl
