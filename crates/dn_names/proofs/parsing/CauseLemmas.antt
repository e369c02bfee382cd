-- Why a text is no name: what reading answers has the cause, and what has the cause is answered so.
use Rattle.std.proofs.Common.{◌≡◌, ℕ, zero, suc, ◌+◌, ◌≤◌, ◌<◌, true, false, List, [], ◌∷◌, length, take, slice_get, Some, None, Result, Ok, Err, IfErr, refl, sym, ap, subst, ◌∙◌, arith, inl, inr, nat_lt}
use Rattle.std.specs.Prelude.{◌==◌, ◌↔◌, IfSome, if◌then◌else◌}
use Rattle.std.specs.List.{AllByRecursion}
use Rattle.std.proofs.lemmas.Bool.Decides.{nat_tests}
use Rattle.plain_values.specs.Answers.{Answers}
use Rattle.regular_text.proofs.Theorems.{IsPlace-unique}
use Rattle.dn_names.specs.declared.error.BadName.{BadName}
use Rattle.dn_names.specs.declared.error.BadName.TheVariants.{Text, Part, TooMany, NoMemory}
use Rattle.dn_names.specs.name.Names.{RdnSequence}
use Rattle.dn_names.specs.NameGrammar.{IsNameText}
use Rattle.dn_names.specs.Spelling.{WrittenPair, SpellsName}
use Rattle.dn_names.specs.Modes.{text_fault}
use Rattle.dn_names.specs.Reading.{written_of}
use Rattle.dn_names.specs.Resolving.{from_root, rdns_from, resolve, resolve_rdn}
use Rattle.dn_names.specs.GoodPlaces.{Placed, placed_pairs, IsGoodPlace, IsFirstBad}
use Rattle.dn_names.specs.parsing.NameText.{LeavesGrammar, read_by, read_name, read_rdn}
use Rattle.dn_names.specs.parsing.NameCause.{NameCause, cause_of}
use Rattle.dn_names.proofs.parsing.OrderedLemmas.{which_first}
use Rattle.dn_names.proofs.name.PairLemmas.{written_of-spelled}
use Rattle.dn_names.proofs.parsing.SpelledInGrammar.{IsNameText-spelled}
use Rattle.dn_names.proofs.parsing.ParseLemmas.{IsNameText-from_text_fault, text_fault-IsNameText, LeavesGrammar-from_text_fault, SpellsName-written_of}
use Rattle.dn_names.proofs.parsing.FirstBadLemmas.{Says, from_root-says}

-- what is read of written pairs by a meaning
abbrev Meaning : Type 0
Meaning = List (List WrittenPair) → Result RdnSequence BadName

-- what a meaning says of written pairs
abbrev SaysOf : (ℕ → Type 0) → List (List WrittenPair) → Result RdnSequence BadName → Type 0
SaysOf Fits written (Ok name) = Fits (length written) × AllByRecursion IsGoodPlace (placed_pairs written)
SaysOf Fits written (Err (Text place)) = ⊥
SaysOf Fits written (Err (Part index)) = Fits (length written) × IsFirstBad (placed_pairs written) index
SaysOf Fits written (Err TooMany) = ¬ (Fits (length written))
SaysOf Fits written (Err NoMemory) = ⊥

says_part : (Fits : ℕ → Type 0) (written : List (List WrittenPair)) → Fits (length written) → (cause : BadName) (index : ℕ) → cause ≡ Part index → IsFirstBad (placed_pairs written) index → SaysOf Fits written (Err cause)
says_part Fits written fits cause index is first =
    subst (λ (e : BadName). SaysOf Fits written (Err e)) (sym is) (fits, first)

says_fitting : (Fits : ℕ → Type 0) (written : List (List WrittenPair)) → Fits (length written) → (r : Result RdnSequence BadName) → Says 0 (placed_pairs written) r → SaysOf Fits written r
says_fitting Fits written fits (Ok name) says = (fits, says)
says_fitting Fits written fits (Err cause) (i, is, first) =
    (let place : 0 + i ≡ i = omega arith in says_part Fits written fits cause i (is ∙ ap Part place) first)

resolve-SaysOf : (written : List (List WrittenPair)) → SaysOf (λ count. count ≤ 64) written (resolve written)
unfolding resolve
resolve-SaysOf written =
    elim (nat_lt 64 (length written)) as (λ b. nat_lt 64 (length written) ≡ b → SaysOf (λ count. count ≤ 64) written (if b then Err TooMany else from_root (rdns_from 0 written))) [
      | true ↦ λ is few. grind (arith, nat_tests)
      | false ↦ λ is. says_fitting (λ count. count ≤ 64) written (grind (arith, nat_tests)) (from_root (rdns_from 0 written)) (from_root-says written)
    ] refl

resolve_rdn-SaysOf : (written : List (List WrittenPair)) → SaysOf (λ count. count ≡ 1) written (resolve_rdn written)
unfolding resolve_rdn
resolve_rdn-SaysOf written =
    elim (length written == 1) as (λ b. (length written == 1) ≡ b → SaysOf (λ count. count ≡ 1) written (if b then from_root (rdns_from 0 written) else Err TooMany)) [
      | true ↦ λ is. says_fitting (λ count. count ≡ 1) written (grind (arith, nat_tests)) (from_root (rdns_from 0 written)) (from_root-says written)
      | false ↦ λ is one. grind (arith, nat_tests, one)
    ] refl

good_at : (xs : List Placed) (n i : ℕ) (x : Placed) → AllByRecursion IsGoodPlace (take n xs) → i < n → slice_get xs i ≡ Some x → IsGoodPlace x
good_at [] n i x good below e = absurd cc
good_at (y ∷ xs) zero i x good below e = absurd (omega arith)
good_at (y ∷ xs) (suc n) zero x good below e = (let is : y ≡ x = cc in subst (λ (p : Placed). IsGoodPlace p) is good.0)
good_at (y ∷ xs) (suc n) (suc i) x good below e = good_at xs n i x good.1 (omega arith) e

-- where all pairs are good, none is the first bad one
all_good : (xs : List Placed) (i : ℕ) (x : Placed) → AllByRecursion IsGoodPlace xs → slice_get xs i ≡ Some x → IsGoodPlace x
all_good [] i x good e = absurd cc
all_good (y ∷ xs) zero x good e = (let is : y ≡ x = cc in subst (λ (p : Placed). IsGoodPlace p) is good.0)
all_good (y ∷ xs) (suc i) x good e = all_good xs i x good.1 e

-- there is one first bad pair
IsFirstBad-unique : (xs : List Placed) (i j : ℕ) → IsFirstBad xs i → IsFirstBad xs j → i ≡ j
IsFirstBad-unique xs i j a b = elim (which_first i j) [
  | inl less ↦ absurd (a.bad (good_at xs j i a.placed b.before less a.there))
  | inr (inl same) ↦ same
  | inr (inr more) ↦ absurd (b.bad (good_at xs i j b.placed a.before more b.there))
]

module _ (meaning : Meaning) (Fits : ℕ → Type 0) (says : (written : List (List WrittenPair)) → SaysOf Fits written (meaning written)) where
  of_meaning : (text : List ℕ) (written : List (List WrittenPair)) → SpellsName written text → (cause : BadName) → SaysOf Fits written (Err cause) → NameCause Fits text cause
  of_meaning text written spells (Text place) h = absurd h
  of_meaning text written spells TooMany h = record { written = written; spells = spells; other = h }
  of_meaning text written spells (Part index) h = record { written = written; spells = spells; fits = h.0; first = h.1 }
  of_meaning text written spells NoMemory h = absurd h

  of_text : (text : List ℕ) (place : ℕ) (cause : BadName) → text_fault text ≡ Some place → Text place ≡ cause → NameCause Fits text cause
  of_text text place cause fault is = subst (λ (e : BadName). NameCause Fits text e) is (LeavesGrammar-from_text_fault text place fault)

  -- what is answered is the cause
  pub NameCause-read_by : (text : List ℕ) (cause : BadName) → read_by meaning (text_fault text) text ≡ Err cause → NameCause Fits text cause
  NameCause-read_by text cause h =
      elim (text_fault text) as (λ f. text_fault text ≡ f → read_by meaning f text ≡ Err cause → NameCause Fits text cause) [
        | Some place ↦ λ fault e. of_text text place cause fault cc
        | None ↦ λ none e. of_meaning text (written_of text) (SpellsName-written_of text (IsNameText-from_text_fault text none)) cause
            (subst (λ (r : Result RdnSequence BadName). SaysOf Fits (written_of text) r) e (says (written_of text)))
      ] refl h

  read_spelled : (text : List ℕ) (written : List (List WrittenPair)) → SpellsName written text → read_by meaning (text_fault text) text ≡ meaning written
  read_spelled text written spells =
      ap (λ f. read_by meaning f text) (text_fault-IsNameText text (IsNameText-spelled written text spells))
      ∙ ap meaning (written_of-spelled written text spells)

  is_many : (written : List (List WrittenPair)) (r : Result RdnSequence BadName) → SaysOf Fits written r → ¬ (Fits (length written)) → r ≡ Err TooMany
  is_many written (Ok name) h other = absurd (other h.0)
  is_many written (Err (Text place)) h other = absurd h
  is_many written (Err (Part index)) h other = absurd (other h.0)
  is_many written (Err TooMany) h other = refl
  is_many written (Err NoMemory) h other = absurd h

  is_part : (written : List (List WrittenPair)) (r : Result RdnSequence BadName) (index : ℕ) → SaysOf Fits written r → Fits (length written) → IsFirstBad (placed_pairs written) index → r ≡ Err (Part index)
  is_part written (Ok name) index h fits first = absurd (first.bad (all_good (placed_pairs written) index first.placed h.1 first.there))
  is_part written (Err (Text place)) index h fits first = absurd h
  is_part written (Err (Part other)) index h fits first = ap (λ n. Err (Part n)) (IsFirstBad-unique (placed_pairs written) other index h.1 first)
  is_part written (Err TooMany) index h fits first = absurd (h fits)
  is_part written (Err NoMemory) index h fits first = absurd h

  is_text : (text : List ℕ) (place : ℕ) → LeavesGrammar text place → read_by meaning (text_fault text) text ≡ Err (Text place)
  is_text text place leaves =
      elim (text_fault text) as (λ f. text_fault text ≡ f → read_by meaning f text ≡ Err (Text place)) [
        | Some other ↦ λ fault. ap (λ n. Err (Text n)) (IsPlace-unique IsNameText text other place (LeavesGrammar-from_text_fault text other fault).exact leaves.exact)
        | None ↦ λ none. absurd (leaves.outside (IsNameText-from_text_fault text none))
      ] refl

  -- and the cause is what is answered
  pub read_by-NameCause : (text : List ℕ) (cause : BadName) → NameCause Fits text cause → read_by meaning (text_fault text) text ≡ Err cause
  read_by-NameCause text (Text place) h = is_text text place h
  read_by-NameCause text TooMany h = read_spelled text h.written h.spells ∙ is_many h.written (meaning h.written) (says h.written) h.other
  read_by-NameCause text (Part index) h = read_spelled text h.written h.spells ∙ is_part h.written (meaning h.written) index (says h.written) h.fits h.first
  read_by-NameCause text NoMemory h = absurd h

-- a text is refused as a name exactly for its cause
pub read_name-NameCause : (text : List ℕ) (cause : BadName) → (read_name text ≡ Err cause) ↔ NameCause (λ count. count ≤ 64) text cause
unfolding read_name
read_name-NameCause text cause = (NameCause-read_by resolve (λ count. count ≤ 64) resolve-SaysOf text cause, read_by-NameCause resolve (λ count. count ≤ 64) resolve-SaysOf text cause)

-- and as an RDN
pub read_rdn-NameCause : (text : List ℕ) (cause : BadName) → (read_rdn text ≡ Err cause) ↔ NameCause (λ count. count ≡ 1) text cause
unfolding read_rdn
read_rdn-NameCause text cause = (NameCause-read_by resolve_rdn (λ count. count ≡ 1) resolve_rdn-SaysOf text cause, read_by-NameCause resolve_rdn (λ count. count ≡ 1) resolve_rdn-SaysOf text cause)

answers_cause : (Fits : ℕ → Type 0) (text : List ℕ) (read : Result RdnSequence BadName) → ((cause : BadName) → read ≡ Err cause → NameCause Fits text cause) → (result : Result RdnSequence BadName) → Answers (λ name. name) cause_of result read → IfErr result (λ error. IfSome (cause_of error) (NameCause Fits text))
answers_cause Fits text read each (Ok name) h = tt
answers_cause Fits text read each (Err (Text place)) h = each (Text place) h
answers_cause Fits text read each (Err (Part index)) h = each (Part index) h
answers_cause Fits text read each (Err TooMany) h = each TooMany h
answers_cause Fits text read each (Err NoMemory) h = tt

-- what a call tells is the cause
pub NameCause-Answers : (result : Result RdnSequence BadName) (text : List ℕ) → Answers (λ name. name) cause_of result (read_name text) → IfErr result (λ error. IfSome (cause_of error) (NameCause (λ count. count ≤ 64) text))
NameCause-Answers result text h = answers_cause (λ count. count ≤ 64) text (read_name text) (λ cause. (read_name-NameCause text cause).0) result h

pub NameCause-Answers_rdn : (result : Result RdnSequence BadName) (text : List ℕ) → Answers (λ name. name) cause_of result (read_rdn text) → IfErr result (λ error. IfSome (cause_of error) (NameCause (λ count. count ≡ 1) text))
NameCause-Answers_rdn result text h = answers_cause (λ count. count ≡ 1) text (read_rdn text) (λ cause. (read_rdn-NameCause text cause).0) result h
