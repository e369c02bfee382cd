-- What is read of a text says what the text is: one induction over the octets for all answers.
use Rattle.std.proofs.Common.{◌≡◌, ℕ, ◌+◌, ◌-◌, ◌<◌, ◌≤◌, suc, true, false, List, [], ◌∷◌, ◌++◌, length, length-append, take, Option, Some, None, refl, sym, ap, subst, ◌∙◌, append_assoc, append-nil, arith}
use Rattle.std.specs.Prelude.{nat_lt, Result, Ok, Err, if◌then◌else◌}
use Rattle.std.proofs.lemmas.Bool.{ltb-true, ltb-false, false≢true}
use Rattle.std.proofs.lemmas.List.{take_all, take-append-le}
use Rattle.regular_text.specs.Machine.{by_step}
use Rattle.regular_text.specs.Place.{Begins, IsPlace}
use Rattle.ldap_filter.specs.filter.Filters.{Filter, depth}
use Rattle.ldap_filter.specs.reading.FilterLayouts.{most_deep}
use Rattle.filter_text.specs.declared.frame.Frame.{Frame}
use Rattle.filter_text.specs.declared.frame.Frame.TheVariants.{Start, Whole, Opened, All, Any, No, Negated, Item}
use Rattle.filter_text.specs.FilterText.{IsText, IsFilterText}
use Rattle.filter_text.specs.Nesting.{open_in, IsTooDeep}
use Rattle.filter_text.specs.Faults.{FilterCause, Text, TooDeep}
use Rattle.filter_text.specs.Reading.{Stack, step, ended, read_from, nothing_yet, filter_in}
use Rattle.filter_text.proofs.laws.CameTo.{Behind, CameTo, step-behind}
use Rattle.filter_text.proofs.laws.BeginsLemmas.{behind-begins}
use Rattle.filter_text.proofs.laws.OpenLemmas.{Counted, counted-open, step-counted}
use Rattle.filter_text.proofs.laws.PassLemmas.{stacked, Passes, passes-step, passes-append}
use Rattle.filter_text.proofs.laws.DepthLemmas.{text-passes, text-deepens}

-- ---- whole texts

-- a filter's text is read where the filter isn't too deep
pub text-read : (filter : Filter) (text : List ℕ) → IsText filter text → depth filter ≤ most_deep → read_from 0 text nothing_yet ≡ Ok filter
text-read filter text t low =
    ap (λ (s : List ℕ). read_from 0 s nothing_yet) (sym (append-nil text)) ∙ text-passes filter text Start (Whole filter) [] t refl refl (omega (arith, low)) 0 []

-- and is refused as too deep where it is
pub text-deep : (filter : Filter) (text : List ℕ) → IsText filter text → most_deep < depth filter → read_from 0 text nothing_yet ≡ Err TooDeep
text-deep filter text t high =
    ap (λ (s : List ℕ). read_from 0 s nothing_yet) (sym (append-nil text)) ∙ text-deepens filter text Start [] t refl (omega arith) (omega (arith, high)) 0 []

-- no filter's text is refused with a place
no_place : (text : List ℕ) (place : ℕ) → IsFilterText text → read_from 0 text nothing_yet ≡ Err (Text place) → ⊥
no_place text place (filter, t) refused =
    elim (nat_lt most_deep (depth filter)) as (λ b. nat_lt most_deep (depth filter) ≡ b → ⊥) [
      | true ↦ λ e. (let deep = text-deep filter text t (ltb-true most_deep (depth filter) e) in cc)
      | false ↦ λ e. (let whole = text-read filter text t (ltb-false most_deep (depth filter) e) in cc)
    ] refl

-- ---- fronts of texts

take-front : (front rest : List ℕ) → take (length front) (front ++ rest) ≡ front
take-front front rest = take-append-le (length front) front rest (omega arith) ∙ take_all (length front) front (omega arith)

take-past : (front rest : List ℕ) (count : ℕ) → take (length front + count) (front ++ rest) ≡ front ++ take count rest
take-past [] rest count = let same : 0 + count ≡ count = omega arith in ap (λ (n : ℕ). take n rest) same
take-past (x ∷ xs) rest count =
    let same : suc (length xs) + count ≡ suc (length xs + count) = omega arith in
    ap (λ (n : ℕ). take n (x ∷ (xs ++ rest))) same ∙ ap (λ (s : List ℕ). x ∷ s) (take-past xs rest count)

-- ---- the answers

-- what has come leads to the stack, which isn't too deep at any front
record Reached (front : List ℕ) (stack : Stack) : Type 0 where
  pub came : Behind front stack
  pub counted : Counted front stack
  pub passed : Passes front nothing_yet stack
  pub shallow : (count : ℕ) → count ≤ length front → open_in (take count front) ≤ most_deep

-- what an answer says of the text
abbrev pub Says : List ℕ → Result Filter FilterCause → Type 0
Says text (Ok filter) = IsText filter text × ((count : ℕ) → count ≤ length text → open_in (take count text) ≤ most_deep)
Says text (Err (Text place)) = IsPlace IsFilterText text place × (IsFilterText text → ⊥) × ((count : ℕ) → count ≤ place → open_in (take count text) ≤ most_deep)
Says text (Err TooDeep) = IsTooDeep text

-- the end comes too early
refused-end : (front : List ℕ) (stack : Stack) → Reached front stack → ((place : ℕ) → ended place stack.top ≡ Err (Text place)) → Says front (Err (Text (length front)))
refused-end front stack r stops = (
  record {
    within = omega arith;
    begins = subst (Begins IsFilterText) (sym (take_all (length front) front (omega arith))) (behind-begins front stack r.came);
    longest = λ count within _. within;
  },
  (λ whole. no_place front (0 + length front) whole
      (ap (λ (s : List ℕ). read_from 0 s nothing_yet) (sym (append-nil front)) ∙ r.passed 0 [] ∙ stops (0 + length front))),
  r.shallow,
)

whole-end : (front : List ℕ) (filter : Filter) (below : List Frame) → CameTo (Whole filter) below front → IsText filter front
whole-end front filter [] (outer, came) = came
whole-end front filter (frame ∷ below) came = absurd (false≢true came.0)

says-end : (top : Frame) (below : List Frame) (front : List ℕ) → Reached front (stacked top below) → Says front (ended (length front) top)
says-end Start below front r = refused-end front (stacked Start below) r (λ place. refl)
says-end (Whole filter) below front r = (whole-end front filter below r.came, r.shallow)
says-end Opened below front r = refused-end front (stacked Opened below) r (λ place. refl)
says-end (All members) below front r = refused-end front (stacked (All members) below) r (λ place. refl)
says-end (Any members) below front r = refused-end front (stacked (Any members) below) r (λ place. refl)
says-end No below front r = refused-end front (stacked No below) r (λ place. refl)
says-end (Negated member) below front r = refused-end front (stacked (Negated member) below) r (λ place. refl)
says-end (Item raw mode) below front r = refused-end front (stacked (Item raw mode) below) r (λ place. refl)

-- an octet may not follow
stuck : (front : List ℕ) (x : ℕ) (more : List ℕ) (stack : Stack) → Reached front stack → step x stack ≡ None → IsFilterText (front ++ x ∷ more) → ⊥
stuck front x more stack r none whole =
    no_place (front ++ x ∷ more) (0 + length front) whole
    (r.passed 0 (x ∷ more)
    ∙ ap (λ (o : Option Stack). by_step o (Err (Text (0 + length front))) (λ n. if nat_lt most_deep (length n.below) then Err TooDeep else read_from ((0 + length front) + 1) more n)) none)

at_most : (front : List ℕ) (x : ℕ) (xs : List ℕ) (stack : Stack) → Reached front stack → step x stack ≡ None → (count : ℕ) → Begins IsFilterText (take count (front ++ x ∷ xs)) → count ≤ length front
at_most front x xs stack r none count (more, (filter, t)) =
    elim (nat_lt (length front) count) as (λ b. nat_lt (length front) count ≡ b → count ≤ length front) [
      | true ↦ λ e. (let less = ltb-true (length front) count e in
          let past : count ≡ length front + suc (count - suc (length front)) = omega (arith, less) in
          let same : take count (front ++ x ∷ xs) ++ more ≡ front ++ x ∷ (take (count - suc (length front)) xs ++ more) =
          ap (λ (n : ℕ). take n (front ++ x ∷ xs) ++ more) past
          ∙ ap (λ (s : List ℕ). s ++ more) (take-past front (x ∷ xs) (suc (count - suc (length front))))
          ∙ append_assoc front (x ∷ take (count - suc (length front)) xs) more in
          absurd (stuck front x (take (count - suc (length front)) xs ++ more) stack r none (filter, subst (IsText filter) same t)))
      | false ↦ λ e. ltb-false (length front) count e
    ] refl

refused-at : (front : List ℕ) (x : ℕ) (xs : List ℕ) (stack : Stack) → Reached front stack → step x stack ≡ None → Says (front ++ x ∷ xs) (Err (Text (length front)))
refused-at front x xs stack r none = (
  record {
    within = omega (arith, length-append front (x ∷ xs));
    begins = subst (Begins IsFilterText) (sym (take-front front (x ∷ xs))) (behind-begins front stack r.came);
    longest = λ count within begins. at_most front x xs stack r none count begins;
  },
  stuck front x xs stack r none,
  λ count within. subst (λ (s : List ℕ). open_in s ≤ most_deep) (sym (take-append-le count front (x ∷ xs) within)) (r.shallow count within),
)

-- too many frames
deep-at : (front : List ℕ) (x : ℕ) (xs : List ℕ) (stack next : Stack) → Reached front stack → step x stack ≡ Some next → most_deep < length next.below → Says (front ++ x ∷ xs) (Err TooDeep)
deep-at front x xs stack next r e high =
    let more = front ++ x ∷ [] in
    let whole = take-front more xs in
    let count = counted-open more next (step-counted x stack next front e r.counted) in
    subst IsTooDeep (append_assoc front (x ∷ []) xs)
    (record {
      size = length more;
      within = omega (arith, length-append more xs);
      begins = subst (Begins IsFilterText) (sym whole) (behind-begins more next (step-behind x stack next front e r.came));
      deep = subst (λ (s : List ℕ). most_deep < open_in s) (sym whole) (omega (arith, high, count));
    })

-- one octet more
reached-step : (front : List ℕ) (x : ℕ) (stack next : Stack) → Reached front stack → step x stack ≡ Some next → length next.below ≤ most_deep → Reached (front ++ x ∷ []) next
reached-step front x stack next r e low = record {
  came = step-behind x stack next front e r.came;
  counted = step-counted x stack next front e r.counted;
  passed = passes-append front (x ∷ []) nothing_yet stack next r.passed (passes-step x stack next e low);
  shallow = λ count within. below count within;
}
  where
    below : (count : ℕ) → count ≤ length (front ++ x ∷ []) → open_in (take count (front ++ x ∷ [])) ≤ most_deep
    below count within =
        elim (nat_lt (length front) count) as (λ b. nat_lt (length front) count ≡ b → open_in (take count (front ++ x ∷ [])) ≤ most_deep) [
          | true ↦ λ l. (let less = ltb-true (length front) count l in
              let all = take_all count (front ++ x ∷ []) (omega (arith, less, length-append front (x ∷ []))) in
              let counts = counted-open (front ++ x ∷ []) next (step-counted x stack next front e r.counted) in
              subst (λ (s : List ℕ). open_in s ≤ most_deep) (sym all) (omega (arith, counts, low)))
          | false ↦ λ l. (let less = ltb-false (length front) count l in
              subst (λ (s : List ℕ). open_in s ≤ most_deep) (sym (take-append-le count front (x ∷ []) less)) (r.shallow count less))
        ] refl

says : (rest front : List ℕ) (stack : Stack) → Reached front stack → Says (front ++ rest) (read_from (length front) rest stack)
says [] front stack r = subst (λ (s : List ℕ). Says s (ended (length front) stack.top)) (sym (append-nil front)) (says-end stack.top stack.below front r)
says (x ∷ xs) front stack r =
    elim (step x stack) as (λ o. step x stack ≡ o → Says (front ++ x ∷ xs) (by_step o (Err (Text (length front))) (λ n. if nat_lt most_deep (length n.below) then Err TooDeep else read_from (length front + 1) xs n))) [
      | None ↦ λ e. refused-at front x xs stack r e
      | Some next ↦ λ e.
          elim (nat_lt most_deep (length next.below)) as (λ b. nat_lt most_deep (length next.below) ≡ b → Says (front ++ x ∷ xs) (if b then Err TooDeep else read_from (length front + 1) xs next)) [
            | true ↦ λ d. deep-at front x xs stack next r e (ltb-true most_deep (length next.below) d)
            | false ↦ λ d. (let place : length (front ++ x ∷ []) ≡ length front + 1 = length-append front (x ∷ []) in
                subst (λ (s : List ℕ). Says s (read_from (length front + 1) xs next)) (append_assoc front (x ∷ []) xs)
                (subst (λ (n : ℕ). Says ((front ++ x ∷ []) ++ xs) (read_from n xs next)) place
                (says xs (front ++ x ∷ []) next (reached-step front x stack next r e (ltb-false most_deep (length next.below) d)))))
          ] refl
    ] refl

reached-nothing : Reached [] nothing_yet
reached-nothing = record {
  came = (refl, refl);
  counted = record { counted = omega arith };
  passed = λ place rest. (let same : place ≡ place + 0 = omega arith in ap (λ (n : ℕ). read_from n rest nothing_yet) same);
  shallow = λ count within. subst (λ (s : List ℕ). open_in s ≤ most_deep) (sym (take_all count [] (omega arith))) (omega arith);
}

-- what is read of a text says what it is
pub filter_in-Says : (text : List ℕ) → Says text (filter_in text)
unfolding filter_in
filter_in-Says text = says text [] nothing_yet reached-nothing

-- a filter that has a text is read of it
pub filter_in-text : (filter : Filter) (text : List ℕ) → IsText filter text → depth filter ≤ most_deep → filter_in text ≡ Ok filter
unfolding filter_in
filter_in-text filter text t low = text-read filter text t low

pub filter_in-deep : (filter : Filter) (text : List ℕ) → IsText filter text → most_deep < depth filter → filter_in text ≡ Err TooDeep
unfolding filter_in
filter_in-deep filter text t high = text-deep filter text t high
