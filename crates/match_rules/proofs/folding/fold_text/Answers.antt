-- Each step's text is the next one's characters, since a text has one list of characters.
use Rattle.std.proofs.Common.{◌≡◌, chars, sym, ◌∙◌}
use Rattle.std.proofs.lemmas.Str.{chars_from_encodes}
use Rattle.caseless.specs.Caseless.{default_case_fold}
use Rattle.unicode_normalization.specs.Forms.{nfkc}
use Rattle.match_rules.proofs.folding.fold_text.Goals as goal

pub returns : goal.returns
returns c =
    let composed : nfkc (chars c.args.text.now) ≡ chars c.deref.result.now =
    chars_from_encodes _ _ c.deref.utf8 (sym (c.deref.ensures ∙ c.in_ok-composed.ensures)) in
    let caseless : default_case_fold (chars c.deref.result.now) ≡ chars c.deref-2.result.now =
    chars_from_encodes _ _ c.deref-2.utf8 (sym (c.deref-2.ensures ∙ c.in_ok-caseless.ensures)) in
    cc (c.in_ok-text.ensures, c.into_bytes.ensures.value)
