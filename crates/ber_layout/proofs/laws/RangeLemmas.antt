-- What is written of a part is no longer than what is written of the whole.
use Rattle.std.proofs.Common.{◌≡◌, ℕ, ◌+◌, ◌^◌, ◌<◌, ◌≤◌, Bool, true, false, List, [], ◌∷◌, ◌++◌, length, Option, Some, None, arith, length-append}
use Rattle.std.specs.List.{AllByRecursion}
use Rattle.ber_elements.specs.write.Spelling.{header_octets}
use Rattle.ber_layout.specs.Spellings.{element_octets, optional_octets, marked_octets, each_octets}
use Rattle.ber_layout.specs.Layouts.{Layout, Value, writes, Fits, IsShort, MayFit}
use Rattle.ber_layout.specs.Layouts.Layout.{AnyOctets, Ignored, Number, Skipped, Flag, End, Further, FurtherBut, AnyElement, Then, Maybe, Marked, Each}
use Rattle.ber_layout.specs.Ranges.{Within}

-- an element is no shorter than its content
pub element_longer : (tag : ℕ) (content : List ℕ) → length content ≤ length (element_octets tag content)
unfolding element_octets
element_longer tag content = omega (arith, length-append (header_octets tag (length content)) content)

-- the front and the back of short octets are short
pub front_short : (front back : List ℕ) → IsShort (front ++ back) → IsShort front
front_short front back short = omega (arith, length-append front back, short)

pub back_short : (front back : List ℕ) → IsShort (front ++ back) → IsShort back
back_short front back short = omega (arith, length-append front back, short)

pub content_short : (tag : ℕ) (content : List ℕ) → IsShort (element_octets tag content) → IsShort content
content_short tag content short = omega (arith, element_longer tag content, short)

may_fit : {A : Type 0} (value : Option A) (tag : ℕ) (content : A → List ℕ) (In Fit : A → Type 0) → ((part : A) → In part → IsShort (content part) → Fit part)
    → MayFit In value → IsShort (optional_octets tag content value) → MayFit (λ part. Fit part × IsShort (content part)) value
may_fit None tag content In Fit fit within short = tt
may_fit (Some value) tag content In Fit fit within short =
    let less = content_short tag (content value) short in (fit value within less, less)

each_fit : {A : Type 0} (values : List A) (tag : ℕ) (content : A → List ℕ) (In Fit : A → Type 0) → ((part : A) → In part → IsShort (content part) → Fit part)
    → AllByRecursion In values → IsShort (each_octets tag content values) → AllByRecursion (λ part. Fit part × IsShort (content part)) values
each_fit [] tag content In Fit fit within short = tt
each_fit (value ∷ values) tag content In Fit fit within short =
    let less = content_short tag (content value) (front_short (element_octets tag (content value)) (each_octets tag content values) short) in
    ((fit value within.0 less, less), each_fit values tag content In Fit fit within.1 (back_short (element_octets tag (content value)) (each_octets tag content values) short))

-- a value in its ranges fits where all that is written of it is short
pub fits_within : (l : Layout) (value : Value l) → Within l value → IsShort (writes l value) → Fits l value
fits_within AnyOctets value within short = tt
fits_within Ignored value within short = tt
fits_within (Number low high) value within short = within
fits_within (Skipped low high) value within short = tt
fits_within Flag value within short = tt
fits_within End value within short = tt
fits_within Further value within short = tt
fits_within (FurtherBut tag) value within short = tt
fits_within (AnyElement next) value within short =
    let first = element_octets value.0.0 value.0.1 in
    let rest = writes next value.1 in
    ((within.0, content_short value.0.0 value.0.1 (front_short first rest short)), fits_within next value.1 within.1 (back_short first rest short))
fits_within (Then tag inner next) value within short =
    let first = element_octets tag (writes inner value.0) in
    let rest = writes next value.1 in
    let less = content_short tag (writes inner value.0) (front_short first rest short) in
    ((fits_within inner value.0 within.0 less, less), fits_within next value.1 within.1 (back_short first rest short))
fits_within (Maybe tag inner next) value within short =
    let first = optional_octets tag (writes inner) value.0 in
    let rest = writes next value.1 in
    (may_fit value.0 tag (writes inner) (Within inner) (Fits inner) (fits_within inner) within.0 (front_short first rest short), fits_within next value.1 within.1 (back_short first rest short))
fits_within (Marked tag next) value within short = fits_within next value.1 within (back_short (marked_octets tag value.0) (writes next value.1) short)
fits_within (Each tag inner next) value within short =
    let first = each_octets tag (writes inner) value.0 in
    let rest = writes next value.1 in
    (each_fit value.0 tag (writes inner) (Within inner) (Fits inner) (fits_within inner) within.0 (front_short first rest short), fits_within next value.1 within.1 (back_short first rest short))
