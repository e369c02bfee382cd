-- What a state reads, octet by octet.
use Rattle.std.proofs.Common.{◌≡◌, ℕ, true, List, [], ◌∷◌, Some, None, refl, sym, ap, subst, ◌∙◌}
use Rattle.regular_text.specs.Grammar.{Grammar, Matches}
use Rattle.regular_text.specs.Machine.{grammar_at}
use Rattle.regular_text.proofs.Theorems.{after-Matches, has_empty-Matches, fault_at-None}
use Rattle.filter_text.specs.declared.classes.Class.{Class}
use Rattle.filter_text.specs.declared.modes.Mode.{Mode}
use Rattle.filter_text.specs.Classes.{class_of}
use Rattle.filter_text.specs.Modes.{step_of, may_end, machine}
use Rattle.filter_text.proofs.laws.MachineOfItems.{grammar_of, items_machine, finish}

-- the octets that a state reads to the end of an item
abbrev pub Reads : Mode → List ℕ → Type 0
Reads mode text = Matches class_of (grammar_of mode) text

pub reads-finish : (mode : Mode) → Reads mode (finish mode)
reads-finish mode = (fault_at-None machine grammar_of items_machine (finish mode) 0 mode).0 (items_machine.finishes mode)

pub reads-cons : (mode next : Mode) (x : ℕ) (text : List ℕ) → step_of mode (class_of x) ≡ Some next → Reads next text → Reads mode (x ∷ text)
reads-cons mode next x text e m =
    (after-Matches class_of (grammar_of mode) x text).0
    (subst (λ (g : Grammar Class). Matches class_of g text) (sym (items_machine.same mode (class_of x) ∙ ap (grammar_at grammar_of) e)) m)

pub reads-step : (mode : Mode) (x : ℕ) (text : List ℕ) → Reads mode (x ∷ text) → (next : Mode) × (step_of mode (class_of x) ≡ Some next) × Reads next text
reads-step mode x text m =
    let later : Matches class_of (grammar_at grammar_of (step_of mode (class_of x))) text =
    subst (λ (g : Grammar Class). Matches class_of g text) (items_machine.same mode (class_of x)) ((after-Matches class_of (grammar_of mode) x text).1 m) in
    elim (step_of mode (class_of x)) as (λ s. step_of mode (class_of x) ≡ s → Matches class_of (grammar_at grammar_of s) text → (next : Mode) × (step_of mode (class_of x) ≡ Some next) × Reads next text) [
      | None ↦ λ e n. absurd n
      | Some next ↦ λ e n. (next, e, n)
    ] refl later

pub ends-reads : (mode : Mode) → may_end mode ≡ true → Reads mode []
ends-reads mode e = (has_empty-Matches class_of (grammar_of mode)).0 (items_machine.empty mode ∙ e)

pub reads-ends : (mode : Mode) → Reads mode [] → may_end mode ≡ true
reads-ends mode m = sym (items_machine.empty mode) ∙ (has_empty-Matches class_of (grammar_of mode)).1 m
