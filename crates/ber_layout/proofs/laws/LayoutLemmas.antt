-- What is read of a layout is what the octets say, and what they say by a clear layout is read.
use Rattle.std.proofs.Common.{◌≡◌, ℕ, ◌^◌, ◌<◌, ◌%◌, Bool, true, false, cond, eqb, leb, ltb, List, [], ◌∷◌, length, Option, Some, None, refl, sym, ap, subst, ◌∙◌}
use Rattle.std.specs.Prelude.{◌&&◌, not}
use Rattle.std.proofs.lemmas.Bool.{and_parts, eqb-true, ltb-true, eqb-false, ne_eqb, not-true, not-false, or_parts}
use Rattle.std.proofs.lemmas.List.{nil_from_length}
use Rattle.std.proofs.lemmas.Option.{same_Some}
use Rattle.ber_elements.specs.write.Element.{Elem}
use Rattle.ber_layout.specs.element.Pieces.{ArePieces, IsFurther, ◌>>=◌, number_in, any_tag, other_than, are_pieces}
use Rattle.ber_layout.specs.components.Flags.{flag_of}
use Rattle.ber_layout.specs.components.Components.{Component, begins, any_of, required_of, optional_of, marked_of, each_of}
use Rattle.ber_layout.specs.Layouts.{Layout, Value, Says, reads_into, may_begin, is_clear}
use Rattle.ber_layout.specs.Layouts.Layout.{AnyOctets, Ignored, Number, Skipped, Flag, End, Further, FurtherBut, AnyElement, Then, Maybe, Marked, Each}
use Rattle.ber_layout.proofs.components.StepLemmas.{bind_some, guard_passed, number_sound, number_again, further_sound, further_again}
use Rattle.ber_layout.proofs.components.ComponentLemmas.{follows, any_sound, any_again, required_sound, required_again, begins_not, optional_sound, flag_sound, flag_again, marked_sound, optional_again, marked_again, may_not, mark_not, each_not}
use Rattle.ber_layout.proofs.components.EachLemmas.{each_sound, each_again}

-- the octets say a value of which the answer was made
pub record Sound {B : Type 0} (l : Layout) (make : Value l → Option B) (bytes : List ℕ) (answer : B) : Type 0 where
  pub value : Value l
  pub says : Says l value bytes
  pub made : make value ≡ Some answer

-- the value itself
plain : (l : Layout) (bytes : List ℕ) (value : Value l) → Sound l (λ (v : Value l). Some v) bytes value → Says l value bytes
plain l bytes value sound = subst (λ (v : Value l). Says l v bytes) (same_Some sound.value value sound.made) sound.says

pub sound_into : {B : Type 0} (l : Layout) (make : Value l → Option B) (bytes : List ℕ) (answer : B) → reads_into l make bytes ≡ Some answer → Sound l make bytes answer
unfolding reads_into
sound_into AnyOctets make bytes answer e = record { value = bytes; says = refl; made = e }
sound_into Ignored make bytes answer e = record { value = tt; says = tt; made = e }
sound_into (Number low high) make bytes answer e =
    let a = bind_some (number_in low high bytes) (λ (n : ℕ). make n) answer e in
    record { value = a.0; says = number_sound low high bytes a.0 a.1; made = a.2 }
sound_into (Skipped low high) make bytes answer e =
    let a = bind_some (number_in low high bytes) (λ (n : ℕ). make tt) answer e in
    record { value = tt; says = (a.0, number_sound low high bytes a.0 a.1); made = a.2 }
sound_into Flag make bytes answer e =
    let a = bind_some (flag_of bytes) (λ (f : Bool). make f) answer e in
    record { value = a.0; says = flag_sound bytes a.0 a.1; made = a.2 }
sound_into End make bytes answer e =
    let a = guard_passed (eqb (length bytes) 0) (make tt) answer e in
    record { value = tt; says = nil_from_length bytes (eqb-true (length bytes) 0 a.0); made = a.1 }
sound_into Further make bytes answer e =
    let a = guard_passed (are_pieces any_tag bytes) (make tt) answer e in
    record { value = tt; says = further_sound any_tag bytes a.0; made = a.1 }
sound_into (FurtherBut tag) make bytes answer e =
    let a = guard_passed (are_pieces (other_than tag) bytes) (make tt) answer e in
    record { value = tt; says = further_sound (other_than tag) bytes a.0; made = a.1 }
sound_into (AnyElement next) make bytes answer e =
    let a = bind_some (any_of bytes) (λ (f : Component (ℕ × List ℕ)). reads_into next (λ (v : Value next). make (f.value, v)) f.rest) answer e in
    let rest = sound_into next (λ (v : Value next). make (a.0.value, v)) a.0.rest answer a.2 in
    record {
      value = (a.0.value, rest.value);
      says = follows a.0.value.0 (λ (value : ℕ × List ℕ) (content : List ℕ). value.1 ≡ content) (Says next rest.value) bytes a.0 (any_sound bytes a.0 a.1) rest.says;
      made = rest.made;
    }
sound_into (Then tag inner next) make bytes answer e =
    let a = bind_some (required_of tag (reads_into inner Some) bytes) (λ (f : Component (Value inner)). reads_into next (λ (v : Value next). make (f.value, v)) f.rest) answer e in
    let rest = sound_into next (λ (v : Value next). make (a.0.value, v)) a.0.rest answer a.2 in
    let stands = required_sound tag (reads_into inner Some) (Says inner) (λ content value read. plain inner content value (sound_into inner Some content value read)) bytes a.0 a.1 in
    record { value = (a.0.value, rest.value); says = follows tag (Says inner) (Says next rest.value) bytes a.0 stands rest.says; made = rest.made }
sound_into (Maybe tag inner next) make bytes answer e =
    let a = bind_some (optional_of tag (reads_into inner Some) bytes) (λ (f : Component (Option (Value inner))). reads_into next (λ (v : Value next). make (f.value, v)) f.rest) answer e in
    let rest = sound_into next (λ (v : Value next). make (a.0.value, v)) a.0.rest answer a.2 in
    let says = optional_sound tag (reads_into inner Some) (Says inner) (Says next rest.value) (λ content value read. plain inner content value (sound_into inner Some content value read)) bytes a.0 a.1 rest.says in
    record { value = (a.0.value, rest.value); says = says; made = rest.made }
sound_into (Marked tag next) make bytes answer e =
    let a = bind_some (marked_of tag bytes) (λ (f : Component Bool). reads_into next (λ (v : Value next). make (f.value, v)) f.rest) answer e in
    let rest = sound_into next (λ (v : Value next). make (a.0.value, v)) a.0.rest answer a.2 in
    record { value = (a.0.value, rest.value); says = marked_sound tag (Says next rest.value) bytes a.0 a.1 rest.says; made = rest.made }
sound_into (Each tag inner next) make bytes answer e =
    let a = bind_some (each_of tag (reads_into inner Some) bytes) (λ (f : Component (List (Value inner))). reads_into next (λ (v : Value next). make (f.value, v)) f.rest) answer e in
    let rest = sound_into next (λ (v : Value next). make (a.0.value, v)) a.0.rest answer a.2 in
    let says = each_sound tag (reads_into inner Some) (Says inner) (Says next rest.value) (λ content value read. plain inner content value (sound_into inner Some content value read)) bytes a.0 a.1 rest.says in
    record { value = (a.0.value, rest.value); says = says; made = rest.made }

-- what is read is what the octets say
pub reads_sound : (l : Layout) (value : Value l) (bytes : List ℕ) → reads_into l Some bytes ≡ Some value → Says l value bytes
reads_sound l value bytes e = plain l bytes value (sound_into l Some bytes value e)

-- ---- octets of a layout don't begin with a tag that it may not begin with

turned_test : (a b : ℕ) → eqb a b ≡ false → eqb b a ≡ false
turned_test a b differ = ne_eqb b a (λ same. eqb-false a b differ (sym same))

pieces_not : (tag : ℕ) (pieces : List (List ℕ)) (bytes : List ℕ) → ArePieces (other_than tag) pieces bytes → begins tag bytes ≡ false
pieces_not tag [] bytes are = ap (begins tag) are
pieces_not tag (piece ∷ pieces) bytes are =
    let differ : eqb tag are.0.tag ≡ false = turned_test are.0.tag tag (not-true (eqb are.0.tag tag) are.0.allows) in
    ap (begins tag) are.1.1 ∙ begins_not tag are.0.tag are.0.content piece are.1.0 are.0.element differ

pub not_begins : (tag : ℕ) (l : Layout) (value : Value l) (bytes : List ℕ) → may_begin tag l ≡ false → Says l value bytes → begins tag bytes ≡ false
not_begins tag AnyOctets value bytes not_there says = absurd cc
not_begins tag Ignored value bytes not_there says = absurd cc
not_begins tag (Number low high) value bytes not_there says = absurd cc
not_begins tag (Skipped low high) value bytes not_there says = absurd cc
not_begins tag Flag value bytes not_there says = absurd cc
not_begins tag End value bytes not_there says = ap (begins tag) says
not_begins tag Further value bytes not_there says = absurd cc
not_begins tag (FurtherBut other) value bytes not_there says =
    let same : other ≡ tag = sym (eqb-true tag other (not-false (eqb tag other) not_there)) in
    subst (λ (t : ℕ). IsFurther (other_than t) bytes → begins tag bytes ≡ false) (sym same) (λ is. pieces_not tag is.pieces bytes is.are) says
not_begins tag (AnyElement next) value bytes not_there says = absurd cc
not_begins tag (Then other inner next) value bytes not_there says =
    ap (begins tag) says.joins ∙ begins_not tag other says.content says.front says.rest says.element not_there
not_begins tag (Maybe other inner next) value bytes not_there says =
    let both = or_parts (eqb tag other) (may_begin tag next) not_there in
    may_not value.0 tag other (Says inner) (Says next value.1) bytes both.0 (not_begins tag next value.1 bytes both.1) says
not_begins tag (Marked other next) value bytes not_there says =
    let both = or_parts (eqb tag other) (may_begin tag next) not_there in
    mark_not value.0 tag other (Says next value.1) bytes both.0 (not_begins tag next value.1 bytes both.1) says
not_begins tag (Each other inner next) value bytes not_there says =
    let both = or_parts (eqb tag other) (may_begin tag next) not_there in
    each_not value.0 tag other (Says inner) (Says next value.1) bytes both.0 (not_begins tag next value.1 bytes both.1) says

-- ---- what the octets say is read

pub complete_into : {B : Type 0} (l : Layout) → is_clear l ≡ true → (make : Value l → Option B) (value : Value l) (bytes : List ℕ)
    → Says l value bytes → reads_into l make bytes ≡ make value
unfolding reads_into
complete_into AnyOctets clear make value bytes says = ap make (sym says)
complete_into Ignored clear make value bytes says = refl
complete_into {B} (Number low high) clear make value bytes says =
    let below : high < 2 ^ 63 = ltb-true high 9223372036854775808 clear in
    ap (λ (o : Option ℕ). o >>= λ (n : ℕ). make n) (number_again low high bytes value below says)
complete_into {B} (Skipped low high) clear make value bytes says =
    let below : high < 2 ^ 63 = ltb-true high 9223372036854775808 (and_parts (leb low high) (ltb high 9223372036854775808) clear).1 in
    ap (λ (o : Option ℕ). o >>= λ (n : ℕ). make tt) (number_again low high bytes says.0 below says.1)
complete_into Flag clear make value bytes says = ap (λ (o : Option Bool). o >>= λ (f : Bool). make f) (flag_again value bytes says)
complete_into {B} End clear make value bytes says = ap (λ (s : List ℕ). cond (eqb (length s) 0) (make tt) None) says
complete_into {B} Further clear make value bytes says = ap (λ (b : Bool). cond b (make tt) None) (further_again any_tag bytes says)
complete_into {B} (FurtherBut tag) clear make value bytes says = ap (λ (b : Bool). cond b (make tt) None) (further_again (other_than tag) bytes says)
complete_into {B} (AnyElement next) clear make value bytes says =
    let content : value.0.1 ≡ says.content = says.inner in
    let element : Elem value.0.0 value.0.1 says.front = subst (λ (c : List ℕ). Elem value.0.0 c says.front) (sym content) says.element in
    ap (reads_into (AnyElement next) make) says.joins
    ∙ ap (λ (o : Option (Component (ℕ × List ℕ))). o >>= λ (f : Component (ℕ × List ℕ)). reads_into next (λ (v : Value next). make (f.value, v)) f.rest) (any_again value.0.0 value.0.1 says.front says.rest element)
    ∙ complete_into next clear (λ (v : Value next). make (value.0, v)) value.1 says.rest says.next
complete_into {B} (Then tag inner next) clear make value bytes says =
    let both = and_parts (is_clear inner) (is_clear next) (and_parts (not (eqb (tag % 32) 31)) (is_clear inner && is_clear next) clear).1 in
    let content = complete_into inner both.0 (λ (v : Value inner). Some v) value.0 says.content says.inner in
    ap (reads_into (Then tag inner next) make) says.joins
    ∙ ap (λ (o : Option (Component (Value inner))). o >>= λ (f : Component (Value inner)). reads_into next (λ (v : Value next). make (f.value, v)) f.rest) (required_again tag (reads_into inner Some) value.0 says.content says.front says.rest says.element content)
    ∙ complete_into next both.1 (λ (v : Value next). make (value.0, v)) value.1 says.rest says.next
complete_into {B} (Maybe tag inner next) clear make value bytes says =
    let first = and_parts (not (eqb (tag % 32) 31)) (not (may_begin tag next) && (is_clear inner && is_clear next)) clear in
    let second = and_parts (not (may_begin tag next)) (is_clear inner && is_clear next) first.1 in
    let both = and_parts (is_clear inner) (is_clear next) second.1 in
    let read = optional_again value.0 tag (reads_into inner Some) (Says inner) (Says next value.1)
    (λ rest. not_begins tag next value.1 rest (not-true (may_begin tag next) second.0))
    (λ part content. complete_into inner both.0 (λ (v : Value inner). Some v) part content) bytes says in
    ap (λ (o : Option (Component (Option (Value inner)))). o >>= λ (f : Component (Option (Value inner))). reads_into next (λ (v : Value next). make (f.value, v)) f.rest) read.found
    ∙ complete_into next both.1 (λ (v : Value next). make (value.0, v)) value.1 read.rest read.next
complete_into {B} (Marked tag next) clear make value bytes says =
    let first = and_parts (not (eqb (tag % 32) 31)) (not (may_begin tag next) && is_clear next) clear in
    let second = and_parts (not (may_begin tag next)) (is_clear next) first.1 in
    let read = marked_again value.0 tag (Says next value.1) (λ rest. not_begins tag next value.1 rest (not-true (may_begin tag next) second.0)) bytes says in
    ap (λ (o : Option (Component Bool)). o >>= λ (f : Component Bool). reads_into next (λ (v : Value next). make (f.value, v)) f.rest) read.found
    ∙ complete_into next second.1 (λ (v : Value next). make (value.0, v)) value.1 read.rest read.next
complete_into {B} (Each tag inner next) clear make value bytes says =
    let first = and_parts (not (eqb (tag % 32) 31)) (not (may_begin tag next) && (is_clear inner && is_clear next)) clear in
    let second = and_parts (not (may_begin tag next)) (is_clear inner && is_clear next) first.1 in
    let both = and_parts (is_clear inner) (is_clear next) second.1 in
    let read = each_again value.0 tag (reads_into inner Some) (Says inner) (Says next value.1)
    (λ rest. not_begins tag next value.1 rest (not-true (may_begin tag next) second.0))
    (λ part content. complete_into inner both.0 (λ (v : Value inner). Some v) part content) bytes says in
    ap (λ (o : Option (Component (List (Value inner)))). o >>= λ (f : Component (List (Value inner))). reads_into next (λ (v : Value next). make (f.value, v)) f.rest) read.found
    ∙ complete_into next both.1 (λ (v : Value next). make (value.0, v)) value.1 read.rest read.next

pub reads_complete : (l : Layout) (value : Value l) (bytes : List ℕ) → is_clear l ≡ true → Says l value bytes → reads_into l Some bytes ≡ Some value
reads_complete l value bytes clear says = complete_into l clear (λ (v : Value l). Some v) value bytes says
