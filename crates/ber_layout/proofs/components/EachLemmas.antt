-- Elements of one tag: those that are read stand there, those that stand there are read, and one step of a loop.
use Rattle.std.proofs.Common.{◌≡◌, ℕ, zero, suc, ◌<◌, ◌≤◌, Bool, true, false, cond, List, [], ◌∷◌, ◌++◌, length, Option, Some, None, refl, sym, ap, subst, ◌∙◌, arith, append_assoc}
use Rattle.std.proofs.lemmas.Option.{same_Some}
use Rattle.ber_layout.specs.element.Pieces.{◌>>=◌}
use Rattle.ber_layout.specs.components.Components.{EachFollows, Component, begins, before, behind, required_of, each_from, each_of}
use Rattle.ber_layout.proofs.components.StepLemmas.{bind_some}
use Rattle.ber_layout.proofs.components.ComponentLemmas.{Stands, Read, follows, required_sound, required_again, begins_by}

-- ---- what is read stands there

each_end : {A : Type 0} (tag : ℕ) (Inner : A → List ℕ → Type 0) (Next : List ℕ → Type 0) (bytes : List ℕ) (found : Component (List A))
    → Some (record { value = []; rest = bytes }) ≡ Some found → Next found.rest → EachFollows tag Inner Next found.value bytes
each_end {A} tag Inner Next bytes found e =
    let made : Component (List A) = record { value = []; rest = bytes } in
    subst (λ (f : Component (List A)). Next f.rest → EachFollows tag Inner Next f.value bytes) (same_Some made found e) (λ next. next)

each_more : {A : Type 0} (tag : ℕ) (Inner : A → List ℕ → Type 0) (Next : List ℕ → Type 0) (bytes : List ℕ) (first : Component A) (others found : Component (List A))
    → Stands tag Inner bytes first → before first.value others ≡ found → (Next others.rest → EachFollows tag Inner Next others.value first.rest)
    → Next found.rest → EachFollows tag Inner Next found.value bytes
each_more {A} tag Inner Next bytes first others found stands is rest =
    subst (λ (f : Component (List A)). Next f.rest → EachFollows tag Inner Next f.value bytes) is
    (λ next. follows tag Inner (EachFollows tag Inner Next others.value) bytes first stands (rest next))

each_by : {A : Type 0} (test : Bool) (tag : ℕ) (reader : List ℕ → Option A) (Inner : A → List ℕ → Type 0) (Next : List ℕ → Type 0)
    → ((content : List ℕ) (value : A) → reader content ≡ Some value → Inner value content)
    → (rest_of : List ℕ → Option (Component (List A)))
    → ((rest : List ℕ) (others : Component (List A)) → rest_of rest ≡ Some others → Next others.rest → EachFollows tag Inner Next others.value rest)
    → (bytes : List ℕ) (found : Component (List A))
    → cond test (required_of tag reader bytes >>= λ (f : Component A). (rest_of f.rest >>= λ (others : Component (List A)). Some (before f.value others))) (Some (record { value = []; rest = bytes })) ≡ Some found
    → Next found.rest → EachFollows tag Inner Next found.value bytes
each_by {A} true tag reader Inner Next inner rest_of others_stand bytes found e =
    let a = bind_some (required_of tag reader bytes) (λ (f : Component A). (rest_of f.rest >>= λ (others : Component (List A)). Some (before f.value others))) found e in
    let b = bind_some (rest_of a.0.rest) (λ (others : Component (List A)). Some (before a.0.value others)) found a.2 in
    each_more tag Inner Next bytes a.0 b.0 found (required_sound tag reader Inner inner bytes a.0 a.1) (same_Some (before a.0.value b.0) found b.2) (others_stand a.0.rest b.0 b.1)
each_by {A} false tag reader Inner Next inner rest_of others_stand bytes found e = each_end tag Inner Next bytes found e

none_by : {A : Type 0} (test : Bool) (tag : ℕ) (Inner : A → List ℕ → Type 0) (Next : List ℕ → Type 0) (bytes : List ℕ) (found : Component (List A))
    → cond test None (Some (record { value = []; rest = bytes })) ≡ Some found → Next found.rest → EachFollows tag Inner Next found.value bytes
none_by true tag Inner Next bytes found e = absurd cc
none_by false tag Inner Next bytes found e = each_end tag Inner Next bytes found e

from_sound : {A : Type 0} (most : ℕ) (tag : ℕ) (reader : List ℕ → Option A) (Inner : A → List ℕ → Type 0) (Next : List ℕ → Type 0)
    → ((content : List ℕ) (value : A) → reader content ≡ Some value → Inner value content)
    → (bytes : List ℕ) (found : Component (List A)) → each_from most tag reader bytes ≡ Some found
    → Next found.rest → EachFollows tag Inner Next found.value bytes
unfolding each_from
from_sound zero tag reader Inner Next inner bytes found e = none_by (begins tag bytes) tag Inner Next bytes found e
from_sound (suc most) tag reader Inner Next inner bytes found e =
    each_by (begins tag bytes) tag reader Inner Next inner (each_from most tag reader) (from_sound most tag reader Inner Next inner) bytes found e

pub each_sound : {A : Type 0} (tag : ℕ) (reader : List ℕ → Option A) (Inner : A → List ℕ → Type 0) (Next : List ℕ → Type 0)
    → ((content : List ℕ) (value : A) → reader content ≡ Some value → Inner value content)
    → (bytes : List ℕ) (found : Component (List A)) → each_of tag reader bytes ≡ Some found
    → Next found.rest → EachFollows tag Inner Next found.value bytes
unfolding each_of
each_sound tag reader Inner Next inner bytes found e = from_sound (length bytes) tag reader Inner Next inner bytes found e

-- ---- what stands there is read

from_none : {A : Type 0} (most tag : ℕ) (reader : List ℕ → Option A) (bytes : List ℕ) → begins tag bytes ≡ false
    → each_from most tag reader bytes ≡ Some (record { value = []; rest = bytes })
unfolding each_from
from_none zero tag reader bytes not_there = rw not_there refl
from_none (suc most) tag reader bytes not_there = rw not_there refl

pub shorter_by : {A : Type 0} (tag : ℕ) (reader : List ℕ → Option A) (bytes : List ℕ) (found : Component A) → required_of tag reader bytes ≡ Some found → length found.rest < length bytes
shorter_by tag reader bytes found e = (required_sound tag reader (λ value content. Unit {0}) (λ content value reads. tt) bytes found e).shorter

from_step : {A : Type 0} (most tag : ℕ) (reader : List ℕ → Option A) (bytes : List ℕ) (found : Component A)
    → begins tag bytes ≡ true → required_of tag reader bytes ≡ Some found
    → each_from (suc most) tag reader bytes ≡ (each_from most tag reader found.rest >>= λ (others : Component (List A)). Some (before found.value others))
unfolding each_from
from_step most tag reader bytes found there e = rw (there, e) refl

from_again : {A : Type 0} (values : List A) (most tag : ℕ) (reader : List ℕ → Option A) (Inner : A → List ℕ → Type 0) (Next : List ℕ → Type 0)
    → ((rest : List ℕ) → Next rest → begins tag rest ≡ false)
    → ((value : A) (content : List ℕ) → Inner value content → reader content ≡ Some value)
    → (bytes : List ℕ) → length bytes ≤ most → EachFollows tag Inner Next values bytes → Read Next values (each_from most tag reader bytes)
from_again [] most tag reader Inner Next ends reads bytes enough says =
    record { rest = bytes; next = says; found = from_none most tag reader bytes (ends bytes says) }
from_again {A} (value ∷ values) zero tag reader Inner Next ends reads bytes enough says =
    let first : required_of tag reader bytes ≡ Some (record { value = value; rest = says.rest }) =
    ap (required_of tag reader) says.joins ∙ required_again tag reader value says.content says.front says.rest says.element (reads value says.content says.inner) in
    let shorter = shorter_by tag reader bytes (record { value = value; rest = says.rest }) first in
    absurd (omega (arith, shorter))
from_again {A} (value ∷ values) (suc most) tag reader Inner Next ends reads bytes enough says =
    let first : required_of tag reader bytes ≡ Some (record { value = value; rest = says.rest }) =
    ap (required_of tag reader) says.joins ∙ required_again tag reader value says.content says.front says.rest says.element (reads value says.content says.inner) in
    let there : begins tag bytes ≡ true = ap (begins tag) says.joins ∙ begins_by tag says.content says.front says.rest says.element in
    let shorter = shorter_by tag reader bytes (record { value = value; rest = says.rest }) first in
    let others = from_again values most tag reader Inner Next ends reads says.rest (omega (arith, shorter)) says.next in
    record {
      rest = others.rest;
      next = others.next;
      found = from_step most tag reader bytes (record { value = value; rest = says.rest }) there first
          ∙ ap (λ (o : Option (Component (List A))). o >>= λ (f : Component (List A)). Some (before value f)) others.found;
    }

pub each_again : {A : Type 0} (values : List A) (tag : ℕ) (reader : List ℕ → Option A) (Inner : A → List ℕ → Type 0) (Next : List ℕ → Type 0)
    → ((rest : List ℕ) → Next rest → begins tag rest ≡ false)
    → ((value : A) (content : List ℕ) → Inner value content → reader content ≡ Some value)
    → (bytes : List ℕ) → EachFollows tag Inner Next values bytes → Read Next values (each_of tag reader bytes)
unfolding each_of
each_again values tag reader Inner Next ends reads bytes says = from_again values (length bytes) tag reader Inner Next ends reads bytes (omega arith) says

-- ---- one step of a loop

same_by : {A : Type 0} (tag : ℕ) (reader : List ℕ → Option A) (f g : List ℕ → Option (Component (List A))) (bytes : List ℕ) (o : Option (Component A))
    → required_of tag reader bytes ≡ o
    → ((found : Component A) → required_of tag reader bytes ≡ Some found → f found.rest ≡ g found.rest)
    → (o >>= λ (found : Component A). (f found.rest >>= λ (others : Component (List A)). Some (before found.value others)))
    ≡ (o >>= λ (found : Component A). (g found.rest >>= λ (others : Component (List A)). Some (before found.value others)))
same_by tag reader f g bytes None e same = refl
same_by {A} tag reader f g bytes (Some found) e same =
    ap (λ (o : Option (Component (List A))). o >>= λ (others : Component (List A)). Some (before found.value others)) (same found e)

from_enough : {A : Type 0} (j k tag : ℕ) (reader : List ℕ → Option A) (bytes : List ℕ) → length bytes ≤ j → length bytes ≤ k
    → each_from j tag reader bytes ≡ each_from k tag reader bytes
unfolding each_from
from_enough zero zero tag reader bytes hj hk = refl
from_enough zero (suc k) tag reader [] hj hk = refl
from_enough zero (suc k) tag reader (b ∷ bytes) hj hk = absurd (omega arith)
from_enough (suc j) zero tag reader [] hj hk = refl
from_enough (suc j) zero tag reader (b ∷ bytes) hj hk = absurd (omega arith)
from_enough {A} (suc j) (suc k) tag reader bytes hj hk =
    ap (λ (o : Option (Component (List A))). cond (begins tag bytes) o (Some (record { value = []; rest = bytes })))
    (same_by tag reader (each_from j tag reader) (each_from k tag reader) bytes (required_of tag reader bytes) refl
    (λ found e. let shorter = shorter_by tag reader bytes found e in from_enough j k tag reader found.rest (omega (arith, shorter)) (omega (arith, shorter))))

pub each_step : {A : Type 0} (tag : ℕ) (reader : List ℕ → Option A) (bytes : List ℕ) (found : Component A)
    → begins tag bytes ≡ true → required_of tag reader bytes ≡ Some found
    → each_of tag reader bytes ≡ (each_of tag reader found.rest >>= λ (others : Component (List A)). Some (before found.value others))
unfolding each_of
each_step tag reader [] found there e = absurd cc
each_step {A} tag reader (b ∷ bytes) found there e =
    let shorter = shorter_by tag reader (b ∷ bytes) found e in
    from_step (length bytes) tag reader (b ∷ bytes) found there e
    ∙ ap (λ (o : Option (Component (List A))). o >>= λ (others : Component (List A)). Some (before found.value others))
    (from_enough (length bytes) (length found.rest) tag reader found.rest (omega (arith, shorter)) (omega arith))

pub each_none : {A : Type 0} (tag : ℕ) (reader : List ℕ → Option A) (bytes : List ℕ) → begins tag bytes ≡ true → required_of tag reader bytes ≡ None
    → each_of tag reader bytes ≡ None
unfolding each_of each_from
each_none tag reader [] there e = absurd cc
each_none tag reader (b ∷ bytes) there e = rw (there, e) refl

pub each_done : {A : Type 0} (tag : ℕ) (reader : List ℕ → Option A) (bytes : List ℕ) → begins tag bytes ≡ false
    → each_of tag reader bytes ≡ Some (record { value = []; rest = bytes })
unfolding each_of
each_done tag reader bytes not_there = from_none (length bytes) tag reader bytes not_there

-- values and one more before those that were found
pub behind_more : {A : Type 0} (values : List A) (value : A) (found : Option (Component (List A)))
    → behind values (found >>= λ (others : Component (List A)). Some (before value others)) ≡ behind (values ++ value ∷ []) found
behind_more values value None = refl
behind_more {A} values value (Some others) =
    ap (λ (all : List A). Some (record { value = all; rest = others.rest })) (sym (append_assoc values (value ∷ []) others.value))
