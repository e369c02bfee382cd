-- What is written of a layout says the value, and is read again.
use Rattle.std.proofs.Common.{inl, ◌≡◌, ℕ, ◌^◌, ◌<◌, ◌≤◌, ◌%◌, Bool, true, false, eqb, leb, ltb, List, [], ◌∷◌, ◌++◌, length, Option, Some, None, refl, sym, subst, arith, append_assoc, ◌≢◌}
use Rattle.std.specs.Prelude.{◌&&◌, not, pos, FitsSigned}
use Rattle.std.specs.Int.{w64}
use Rattle.std.proofs.lemmas.Int.{ints}
use Rattle.std.specs.List.{AllByRecursion}
use Rattle.std.proofs.lemmas.Bool.{and_parts, ltb-true, leb-true, eq-eqb}
use Rattle.ber_elements.specs.write.Element.{Elem, IsTag}
use Rattle.ber_elements.specs.write.Spelling.{header_octets}
use Rattle.ber_elements.specs.Integer.{int_octets}
use Rattle.ber_elements.proofs.Theorems.{header_spells, int_spells}
use Rattle.ber_layout.specs.element.Pieces.{IsNumberIn}
use Rattle.ber_layout.specs.components.Flags.{IsFlag, flag_octets}
use Rattle.ber_layout.specs.components.Components.{Follows, MayFollow, MarkFollows, EachFollows}
use Rattle.ber_layout.specs.Spellings.{element_octets, optional_octets, marked_octets, each_octets}
use Rattle.ber_layout.specs.Layouts.{Layout, Value, Says, reads_into, writes, Fits, IsShort, MayFit, may_begin, is_clear}
use Rattle.ber_layout.specs.Layouts.Layout.{AnyOctets, Ignored, Number, Skipped, Flag, End, Further, FurtherBut, AnyElement, Then, Maybe, Marked, Each}
use Rattle.ber_layout.proofs.laws.LayoutLemmas.{complete_into}

-- an element as it is written
pub element_spells : (tag : ℕ) (content : List ℕ) → IsTag tag → IsShort content → Elem tag content (element_octets tag content)
unfolding element_octets
element_spells tag content is short = record { header = header_octets tag (length content); heads = header_spells tag (length content) is short; joined = refl }

followed : (tag : ℕ) (Inner Next : List ℕ → Type 0) (content rest : List ℕ) → IsTag tag → IsShort content → Inner content → Next rest
    → Follows tag Inner Next (element_octets tag content ++ rest)
followed tag Inner Next content rest is short inner next =
    record { content = content; front = element_octets tag content; rest = rest; element = element_spells tag content is short; inner = inner; next = next; joins = refl }

may_spell : {A : Type 0} (value : Option A) (tag : ℕ) (Inner : A → List ℕ → Type 0) (Next : List ℕ → Type 0) (P : A → Type 0) (content : A → List ℕ) (rest : List ℕ)
    → IsTag tag → ((part : A) → P part × IsShort (content part) → Inner part (content part)) → MayFit (λ part. P part × IsShort (content part)) value → Next rest
    → MayFollow tag Inner Next value (optional_octets tag content value ++ rest)
may_spell None tag Inner Next P content rest is says fits next = next
may_spell (Some value) tag Inner Next P content rest is says fits next = followed tag (Inner value) Next (content value) rest is fits.1 (says value fits) next

mark_spell : (flag : Bool) (tag : ℕ) (Next : List ℕ → Type 0) (rest : List ℕ) → IsTag tag → Next rest → MarkFollows tag Next flag (marked_octets tag flag ++ rest)
mark_spell true tag Next rest is next =
    let short : IsShort (255 ∷ []) = omega arith in
    followed tag (IsFlag true) Next (255 ∷ []) rest is short (record { octet = 255; alone = refl; says = refl }) next
mark_spell false tag Next rest is next = inl next

each_spell : {A : Type 0} (values : List A) (tag : ℕ) (Inner : A → List ℕ → Type 0) (Next : List ℕ → Type 0) (P : A → Type 0) (content : A → List ℕ) (rest : List ℕ)
    → IsTag tag → ((part : A) → P part × IsShort (content part) → Inner part (content part)) → AllByRecursion (λ part. P part × IsShort (content part)) values → Next rest
    → EachFollows tag Inner Next values (each_octets tag content values ++ rest)
each_spell [] tag Inner Next P content rest is says fits next = next
each_spell (value ∷ values) tag Inner Next P content rest is says fits next =
    let others = each_spell values tag Inner Next P content rest is says fits.1 next in
    subst (Follows tag (Inner value) (EachFollows tag Inner Next values)) (sym (append_assoc (element_octets tag (content value)) (each_octets tag content values) rest))
    (followed tag (Inner value) (EachFollows tag Inner Next values) (content value) (each_octets tag content values ++ rest) is fits.0.1 (says value fits.0) others)

flag_spells : (flag : Bool) → IsFlag flag (flag_octets flag)
flag_spells true = record { octet = 255; alone = refl; says = refl }
flag_spells false = record { octet = 0; alone = refl; says = refl }

number_spells : (low high number : ℕ) → high < 2 ^ 63 → low ≤ number → number ≤ high → IsNumberIn low high (int_octets (pos number)) number
number_spells low high number below from_low to_high =
    let fits : FitsSigned w64 (pos number) = search (arith, ints) in
    record { stands = (int_spells (pos number) fits).0; from_low = from_low; to_high = to_high }

tag_from : (k : ℕ) → not (eqb k 31) ≡ true → k ≢ 31
tag_from k test same = let is : eqb k 31 ≡ true = eq-eqb k 31 same in absurd cc

is_tag_by : (tag : ℕ) → not (eqb (tag % 32) 31) ≡ true → IsTag tag
is_tag_by tag test = tag_from (tag % 32) test

pub writes_says : (l : Layout) (value : Value l) → is_clear l ≡ true → Fits l value → Says l value (writes l value)
writes_says AnyOctets value clear fits = refl
writes_says Ignored value clear fits = tt
writes_says (Number low high) value clear fits = number_spells low high value (ltb-true high 9223372036854775808 clear) fits.0 fits.1
writes_says (Skipped low high) value clear fits =
    let tests = and_parts (leb low high) (ltb high 9223372036854775808) clear in
    (low, number_spells low high low (ltb-true high 9223372036854775808 tests.1) (omega arith) (leb-true low high tests.0))
writes_says Flag value clear fits = flag_spells value
writes_says End value clear fits = refl
writes_says Further value clear fits = record { pieces = []; are = refl }
writes_says (FurtherBut tag) value clear fits = record { pieces = []; are = refl }
writes_says (AnyElement next) value clear fits =
    followed value.0.0 (λ content. value.0.1 ≡ content) (Says next value.1) value.0.1 (writes next value.1) fits.0.0 fits.0.1 refl (writes_says next value.1 clear fits.1)
writes_says (Then tag inner next) value clear fits =
    let first = and_parts (not (eqb (tag % 32) 31)) (is_clear inner && is_clear next) clear in
    let both = and_parts (is_clear inner) (is_clear next) first.1 in
    followed tag (Says inner value.0) (Says next value.1) (writes inner value.0) (writes next value.1) (is_tag_by tag first.0) fits.0.1
    (writes_says inner value.0 both.0 fits.0.0) (writes_says next value.1 both.1 fits.1)
writes_says (Maybe tag inner next) value clear fits =
    let first = and_parts (not (eqb (tag % 32) 31)) (not (may_begin tag next) && (is_clear inner && is_clear next)) clear in
    let both = and_parts (is_clear inner) (is_clear next) (and_parts (not (may_begin tag next)) (is_clear inner && is_clear next) first.1).1 in
    may_spell value.0 tag (Says inner) (Says next value.1) (Fits inner) (writes inner) (writes next value.1) (is_tag_by tag first.0)
    (λ part fit. writes_says inner part both.0 fit.0) fits.0 (writes_says next value.1 both.1 fits.1)
writes_says (Marked tag next) value clear fits =
    let first = and_parts (not (eqb (tag % 32) 31)) (not (may_begin tag next) && is_clear next) clear in
    let second = and_parts (not (may_begin tag next)) (is_clear next) first.1 in
    mark_spell value.0 tag (Says next value.1) (writes next value.1) (is_tag_by tag first.0) (writes_says next value.1 second.1 fits)
writes_says (Each tag inner next) value clear fits =
    let first = and_parts (not (eqb (tag % 32) 31)) (not (may_begin tag next) && (is_clear inner && is_clear next)) clear in
    let both = and_parts (is_clear inner) (is_clear next) (and_parts (not (may_begin tag next)) (is_clear inner && is_clear next) first.1).1 in
    each_spell value.0 tag (Says inner) (Says next value.1) (Fits inner) (writes inner) (writes next value.1) (is_tag_by tag first.0)
    (λ part fit. writes_says inner part both.0 fit.0) fits.0 (writes_says next value.1 both.1 fits.1)

-- what is made of written octets is made of the value
pub written_into : {B : Type 0} (l : Layout) (make : Value l → Option B) (value : Value l) → is_clear l ≡ true → Fits l value → reads_into l make (writes l value) ≡ make value
written_into l make value clear fits = complete_into l clear make value (writes l value) (writes_says l value clear fits)

pub reads_again : (l : Layout) (value : Value l) → is_clear l ≡ true → Fits l value → reads_into l Some (writes l value) ≡ Some value
reads_again l value clear fits = written_into l (λ (v : Value l). Some v) value clear fits
