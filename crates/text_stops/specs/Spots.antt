-- The marks, words and strings of a text under the generic string encoding rules (RFC 3641 section 3), with their places.
-- A word is any octets between spaces and marks, so that what is none of the rules' words has a place too.
use Rattle.std.specs.Prelude.{ℕ, ◌+◌, ◌==◌, nat_le, Bool, true, false, ◌&&◌, List, [], ◌∷◌, ◌++◌, length, slice_range, if◌then◌else◌}
use Rattle.text_stops.specs.declared.spots.Kind.{Kind}
use Rattle.text_stops.specs.declared.spots.Kind.TheVariants.{Open, Close, Comma, Colon, Word, Text, Touch}
use Rattle.text_stops.specs.declared.spots.Spot.{Spot}
use Rattle.text_stops.specs.declared.spots.Class.{Class}
use Rattle.text_stops.specs.declared.spots.Class.TheVariants.{Blank, Quote, Sign, Other}
use Rattle.text_stops.specs.declared.spots.Mode.{Mode}
use Rattle.text_stops.specs.declared.spots.Mode.TheVariants.{Between, InWord, InText, Quoted}

-- what an octet is where it stands in no string
abbrev pub class_of : ℕ → Class
class_of octet =
    if octet == 32 then Blank
    else if octet == 34 then Quote
    else if octet == 44 then Sign Comma
    else if octet == 58 then Sign Colon
    else if octet == 123 then Sign Open
    else if octet == 125 then Sign Close
    else Other

abbrev pub spot : Kind → ℕ → ℕ → Spot
spot kind place end = record { kind = kind; place = place; end = end }

-- the octets of a spot
abbrev pub cut : List ℕ → Spot → List ℕ
cut text spot = if nat_le spot.place spot.end && nat_le spot.end (length text) then slice_range text spot.place spot.end else []

-- the spots that an octet ends, and where looking stands behind it
pub record Step : Type 0 where
  pub spots : List Spot
  pub mode : Mode

abbrev pub go : List Spot → Mode → Step
go spots mode = record { spots = spots; mode = mode }

-- a bound that may not be there, where something touches a word or a string
abbrev pub touched : Bool → ℕ → List Spot
touched touches place = if touches then spot Touch place place ∷ [] else []

-- an octet that begins something
abbrev pub begin : Bool → ℕ → Class → Step
begin touches place Blank = go [] Between
begin touches place (Sign Open) = go (touched touches place ++ spot Open place place ∷ []) Between
begin touches place (Sign kind) = go (spot kind place place ∷ []) Between
begin touches place Quote = go (touched touches place) (InText place)
begin touches place Other = go (touched touches place) (InWord place)

-- an octet behind a word or a string, which ends before it
abbrev pub ended : Kind → ℕ → ℕ → Class → Step
ended kind start place class = go (spot kind start place ∷ (begin true place class).spots) (begin true place class).mode

-- an octet in a word or behind it
abbrev pub in_word : ℕ → ℕ → Class → Step
in_word start place Other = go [] (InWord start)
in_word start place class = ended Word start place class

-- an octet in a string
abbrev pub in_text : ℕ → Class → Mode
in_text start Quote = Quoted start
in_text start class = InText start

-- an octet behind a quotation mark in a string
abbrev pub quoted : ℕ → ℕ → Class → Step
quoted start place Quote = go [] (InText start)
quoted start place class = ended Text start place class

-- an octet
unfoldable pub step : Mode → ℕ → ℕ → Step
step Between place octet = begin false place (class_of octet)
step (InWord start) place octet = in_word start place (class_of octet)
step (InText start) place octet = go [] (in_text start (class_of octet))
step (Quoted start) place octet = quoted start place (class_of octet)

-- the spots that the end of the text ends
abbrev pub at_end : Mode → ℕ → List Spot
at_end Between place = []
at_end (InWord start) place = spot Word start place ∷ []
at_end (InText start) place = spot Touch place place ∷ []
at_end (Quoted start) place = spot Text start place ∷ []

-- the spots of the octets from the place on
abbrev pub spots_from : Mode → ℕ → List ℕ → List Spot
spots_from mode place [] = at_end mode place
spots_from mode place (octet ∷ rest) = (step mode place octet).spots ++ spots_from (step mode place octet).mode (place + 1) rest

-- the spots of a text, in its order
unfoldable pub spots_of : List ℕ → List Spot
spots_of text = spots_from Between 0 text
