-- Where the octets are UTF-8 the word says the item, and else they say none.
use Rattle.std.proofs.Common.{◌≡◌, ℕ, List, Option, None, true, false, refl, ap, subst}
use Rattle.std.specs.Prelude.{IfOk, IsUtf8}
use Rattle.std.specs.Option.{option_map}
use Rattle.std.specs.Str.{is_utf8}
use Rattle.std.proofs.lemmas.Str.{IsUtf8-from_is_utf8, is_utf8-from_IsUtf8}
use Rattle.dir_tree.specs.dn_names.value.Values.{of_text}
use Rattle.acdf_filters.specs.Asking.{Protected}
use Rattle.explanation.specs.ItemWords.{item_of}
use Rattle.explanation.specs.Questions.{item_asked}
use Rattle.certify.proofs.form_lines.item_said.Goals as goal

no_text : (octets : List ℕ) → ¬ (IsUtf8 octets) → is_utf8 octets ≡ false
no_text octets refuted =
    elim (is_utf8 octets) as (λ b. is_utf8 octets ≡ b → b ≡ false) [
      | true ↦ λ e. absurd (refuted (IsUtf8-from_is_utf8 octets e))
      | false ↦ λ _. refl
    ] refl

said : (word octets : List ℕ) → word ≡ octets → is_utf8 octets ≡ true → item_of word ≡ of_text item_of octets
said word octets same text = rw text (ap item_of same)

unsaid : (octets : List ℕ) → is_utf8 octets ≡ false → None ≡ of_text item_of octets
unsaid octets text = rw text refl

pub returns-in-Ok : goal.returns-in-Ok
returns-in-Ok c =
    subst (λ (whole : Option Protected). IfOk c.read_item.result (λ item. option_map item_asked item ≡ whole))
    (said c.in-Ok.word.now c.args.octets.now c.in-Ok.ensures.cases.0 (is_utf8-from_IsUtf8 c.args.octets.now c.in-Ok.ensures.cases.1)) c.read_item.ensures.exact

pub returns-in-Err : goal.returns-in-Err
returns-in-Err c = unsaid c.args.octets.now (no_text c.args.octets.now c.in-Err.ensures.cases.0)
