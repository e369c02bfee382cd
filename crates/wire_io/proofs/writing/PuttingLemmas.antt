-- Lemmas on what a sink was given over several calls.
use Rattle.std.proofs.Common.{◌≡◌, ℕ, ◌+◌, List, [], ◌++◌, length, take, drop, Option, Some, None, Result, Ok, Err, refl, ap, append_assoc, append-nil, sym, subst, ◌∙◌, arith, inl, inr}
use Rattle.std.proofs.Math.Seq.{take-add, take-length, take-append-add, take-append_seam}
use Rattle.std.proofs.lemmas.Bool.{cases_lt}
use Rattle.std.proofs.lemmas.List.{take_all, take-append-le}
use Rattle.plain_values.specs.Counts.{Rose}
use Rattle.wire_io.specs.declared.answers.PutFault.{PutFault}
use Rattle.wire_io.specs.declared.answers.PutFault.TheVariants.{Failed, NoMemory}
use Rattle.wire_io.specs.Putting.{appended, WriteTells, PutsAll, PutCause}

-- two pieces put one after the other are one
pub appended-appended : (old : Option (List ℕ)) (front back : List ℕ) → appended (appended old front) back ≡ appended old (front ++ back)
appended-appended None front back = refl
appended-appended (Some put) front back = ap Some (append_assoc put front back)

-- no octets put change nothing
pub appended-none : (old : Option (List ℕ)) → old ≡ appended old []
appended-none None = refl
appended-none (Some put) = ap Some (sym (append-nil put))

-- a front was put, and a call took a piece of the rest
pub appended-more :
    (old middle new : Option (List ℕ)) (octets : List ℕ) (done count : ℕ)
    → middle ≡ appended old (take done octets) → new ≡ appended middle (take count (drop done octets)) → new ≡ appended old (take (done + count) octets)
appended-more old middle new octets done count before more =
    more ∙ ap (λ put. appended put (take count (drop done octets))) before ∙ appended-appended old (take done octets) (take count (drop done octets))
    ∙ ap (λ front. appended old front) (sym (take-add done count octets))

-- what a call that took octets says, in its own word
pub tells-more :
    (old middle new : Option (List ℕ)) (octets rest : List ℕ) (done count : ℕ)
    → rest ≡ drop done octets → middle ≡ appended old (take done octets) → WriteTells middle rest (Ok count) new → new ≡ appended old (take (done + count) octets)
unfolding WriteTells
tells-more old middle new octets rest done count is_rest before more =
    appended-more old middle new octets done count before (more ∙ ap (λ piece. appended middle (take count piece)) is_rest)

-- a front was put, and a call was refused
pub PutsAll-refused :
    (T : Type 0) (old middle new : Option (List ℕ)) (octets rest : List ℕ) (done : ℕ) (fault : PutFault)
    → middle ≡ appended old (take done octets) → WriteTells middle rest (Err fault) new → PutsAll {T = T} old octets (Err fault) new
unfolding WriteTells PutsAll
PutsAll-refused T old middle new octets rest done fault before same = (done, same ∙ before)

-- all octets were put
pub PutsAll-whole :
    {T : Type 0} (old new : Option (List ℕ)) (octets : List ℕ) (done : ℕ) (answer : T)
    → done ≡ length octets → new ≡ appended old (take done octets) → PutsAll {T = T} old octets (Ok answer) new
unfolding PutsAll
PutsAll-whole old new octets done answer all put = put ∙ ap (λ count. appended old (take count octets)) all ∙ ap (λ front. appended old front) (take-length octets)

-- the count was as before, and then a call was refused
pub PutCause-refused :
    (T U : Type 0) (before middle after : ℕ) (fault : PutFault)
    → middle ≡ before → PutCause {T = T} middle after (Err fault) → PutCause {T = U} before after (Err fault)
unfolding PutCause
PutCause-refused T U before middle after Failed stays cause = subst (λ count. Rose count after) stays cause
PutCause-refused T U before middle after NoMemory stays cause = cause ∙ stays

-- the count was as before, and then a call took octets
pub PutCause-more :
    {T : Type 0} (before middle after : ℕ) (answer : T)
    → middle ≡ before → PutCause middle after (Ok answer) → after ≡ before
unfolding PutCause
PutCause-more before middle after answer stays cause = cause ∙ stays

-- the count was as before in all
pub PutCause-done : {T : Type 0} (before after : ℕ) (answer : T) → after ≡ before → PutCause before after (Ok answer)
unfolding PutCause
PutCause-done before after answer stays = stays

-- nothing was to be put
pub PutsAll-nothing : {T : Type 0} (old : Option (List ℕ)) (answer : T) → PutsAll old [] (Ok answer) old
unfolding PutsAll
PutsAll-nothing old answer = appended-none old

pub PutCause-nothing : {T : Type 0} (before : ℕ) (answer : T) → PutCause before before (Ok answer)
unfolding PutCause
PutCause-nothing before answer = refl

-- nothing was put for want of memory
pub PutsAll-no_memory : (T : Type 0) (old : Option (List ℕ)) (text : List ℕ) → PutsAll {T = T} old text (Err NoMemory) old
unfolding PutsAll
PutsAll-no_memory T old text = (0, appended-none old)

pub PutCause-no_memory : (T : Type 0) (before : ℕ) → PutCause {T = T} before before (Err NoMemory)
unfolding PutCause
PutCause-no_memory T before = refl

-- a front of a text is a front of it and what follows
front_in : (count : ℕ) (text rest : List ℕ) → (other : ℕ) × (take count text ≡ take other (text ++ rest))
front_in count text rest =
    elim (cases_lt (length text) count) [
      | inl longer ↦ (length text, take_all count text (omega arith) ∙ sym (take-append_seam text rest))
      | inr short ↦ (count, sym (take-append-le count text rest short))
    ]

-- where a text was refused, so were it and what follows
pub PutsAll-cut :
    (T : Type 0) (old new : Option (List ℕ)) (text rest : List ℕ) (fault : PutFault)
    → PutsAll {T = T} old text (Err fault) new → PutsAll {T = T} old (text ++ rest) (Err fault) new
unfolding PutsAll
PutsAll-cut T old new text rest fault puts =
    let other : (k : ℕ) × (take puts.0 text ≡ take k (text ++ rest)) = front_in puts.0 text rest in
    (other.0, puts.1 ∙ ap (λ front. appended old front) other.1)

-- a text was put, and one after it was put or refused
pub PutsAll-then :
    {T U : Type 0} (old now new : Option (List ℕ)) (front back : List ℕ) (answer : T) (result : Result U PutFault)
    → PutsAll old front (Ok answer) now → PutsAll now back result new → PutsAll old (front ++ back) result new
unfolding PutsAll
PutsAll-then old now new front back answer (Ok done) before puts = puts ∙ ap (λ put. appended put back) before ∙ appended-appended old front back
PutsAll-then old now new front back answer (Err fault) before puts = (
  length front + puts.0,
  puts.1 ∙ ap (λ put. appended put (take puts.0 back)) before ∙ appended-appended old front (take puts.0 back)
      ∙ ap (λ put. appended old put) (sym (take-append-add front back puts.0)),
)

-- the causes of two puttings
pub PutCause-then :
    {T U : Type 0} (before middle after : ℕ) (answer : T) (result : Result U PutFault)
    → PutCause before middle (Ok answer) → PutCause middle after result → PutCause before after result
unfolding PutCause
PutCause-then before middle after answer (Ok done) first second = second ∙ first
PutCause-then before middle after answer (Err Failed) first second = subst (λ count. Rose count after) first second
PutCause-then before middle after answer (Err NoMemory) first second = second ∙ first
