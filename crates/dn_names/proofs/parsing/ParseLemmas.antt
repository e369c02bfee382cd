-- What is read as a name is a text of it, and the other way round.
use Rattle.std.proofs.Common.{◌≡◌, ℕ, IfOk, List, Some, None, Result, Ok, Err, refl, sym, ap, subst, ◌∙◌}
use Rattle.plain_values.specs.Answers.{Answers}
use Rattle.regular_text.specs.Place.{IsPlace}
use Rattle.regular_text.proofs.Theorems.{fault_at-None, fault_at-Some}
use Rattle.dn_names.specs.declared.error.BadName.{BadName}
use Rattle.dn_names.specs.declared.modes.Mode.TheVariants.{Start}
use Rattle.dn_names.specs.name.Names.{RdnSequence}
use Rattle.dn_names.specs.NameGrammar.{IsNameText}
use Rattle.dn_names.specs.Spelling.{WrittenPair, SpellsName}
use Rattle.dn_names.specs.Modes.{machine, text_fault}
use Rattle.dn_names.specs.Reading.{written_of}
use Rattle.dn_names.specs.Resolving.{resolve, resolve_rdn}
use Rattle.dn_names.specs.parsing.NameText.{NameText, RdnText, LeavesGrammar, read_by, read_name, read_rdn}
use Rattle.dn_names.specs.parsing.NameCause.{cause_of}
use Rattle.dn_names.proofs.parsing.MachineOfNames.{grammar_of, names_machine}
use Rattle.dn_names.proofs.name.PairLemmas.{written_of-spelled}
use Rattle.dn_names.proofs.parsing.GrammarIsSpelled.{spelled-IsNameText}
use Rattle.dn_names.proofs.parsing.SpelledInGrammar.{IsNameText-spelled}

-- a text without a fault is of the outer grammar, and the other way round
pub IsNameText-from_text_fault : (text : List ℕ) → text_fault text ≡ None → IsNameText text
unfolding text_fault IsNameText
IsNameText-from_text_fault text e = (fault_at-None machine grammar_of names_machine text 0 Start).0 e

pub text_fault-IsNameText : (text : List ℕ) → IsNameText text → text_fault text ≡ None
unfolding text_fault IsNameText
text_fault-IsNameText text m = (fault_at-None machine grammar_of names_machine text 0 Start).1 m

place_of_fault : (text : List ℕ) (place : ℕ) → text_fault text ≡ Some place → IsPlace IsNameText text place
unfolding text_fault IsNameText
place_of_fault text place e = fault_at-Some machine grammar_of names_machine text Start place e

-- a fault's place is where the octets leave the grammar
pub LeavesGrammar-from_text_fault : (text : List ℕ) (place : ℕ) → text_fault text ≡ Some place → LeavesGrammar text place
LeavesGrammar-from_text_fault text place e = record {
  outside = λ m. (let none = text_fault-IsNameText text m in cc);
  exact = place_of_fault text place e;
}

-- a text of the grammar spells what it is read as
pub SpellsName-written_of : (text : List ℕ) → IsNameText text → SpellsName (written_of text) text
SpellsName-written_of text m =
    let spelled = spelled-IsNameText text m in
    subst (λ (w : List (List WrittenPair)). SpellsName w text) (sym (written_of-spelled spelled.0 text spelled.1)) spelled.1

-- what is read by a meaning
abbrev Meaning : Type 0
Meaning = List (List WrittenPair) → Result RdnSequence BadName

pub read_by-Ok : (meaning : Meaning) (text : List ℕ) (name : RdnSequence) → read_by meaning (text_fault text) text ≡ Ok name → (written : List (List WrittenPair)) × SpellsName written text × (meaning written ≡ Ok name)
read_by-Ok meaning text name h =
    elim (text_fault text) as (λ f. text_fault text ≡ f → read_by meaning f text ≡ Ok name → (written : List (List WrittenPair)) × SpellsName written text × (meaning written ≡ Ok name)) [
      | Some place ↦ λ _ e. absurd cc
      | None ↦ λ none e. (written_of text, SpellsName-written_of text (IsNameText-from_text_fault text none), e)
    ] refl h

-- what is read as a name is a text of it
pub NameText-read_name : (name : RdnSequence) (text : List ℕ) → read_name text ≡ Ok name → NameText name text
unfolding read_name NameText
NameText-read_name name text h = read_by-Ok resolve text name h

-- and what is read as an RDN is a text of one
pub RdnText-read_rdn : (name : RdnSequence) (text : List ℕ) → read_rdn text ≡ Ok name → RdnText name text
unfolding read_rdn RdnText
RdnText-read_rdn name text h = read_by-Ok resolve_rdn text name h

-- the same of what a call answers
pub NameText-Answers : (result : Result RdnSequence BadName) (text : List ℕ) → Answers (λ name. name) cause_of result (read_name text) → IfOk result (λ name. NameText name text)
NameText-Answers (Ok name) text h = NameText-read_name name text h
NameText-Answers (Err cause) text h = tt

pub RdnText-Answers : (result : Result RdnSequence BadName) (text : List ℕ) → Answers (λ name. name) cause_of result (read_rdn text) → IfOk result (λ name. RdnText name text)
RdnText-Answers (Ok name) text h = RdnText-read_rdn name text h
RdnText-Answers (Err cause) text h = tt

-- and each text of a name is read as it
pub read_name-NameText : (name : RdnSequence) (text : List ℕ) → NameText name text → read_name text ≡ Ok name
unfolding read_name NameText
read_name-NameText name text (written, spells, e) =
    ap (λ f. read_by resolve f text) (text_fault-IsNameText text (IsNameText-spelled written text spells))
    ∙ ap resolve (written_of-spelled written text spells) ∙ e

pub read_rdn-RdnText : (name : RdnSequence) (text : List ℕ) → RdnText name text → read_rdn text ≡ Ok name
unfolding read_rdn RdnText
read_rdn-RdnText name text (written, spells, e) =
    ap (λ f. read_by resolve_rdn f text) (text_fault-IsNameText text (IsNameText-spelled written text spells))
    ∙ ap resolve_rdn (written_of-spelled written text spells) ∙ e
