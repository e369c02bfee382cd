-- The octets passed the test, so that the library makes a text of them.
use Rattle.std.proofs.Common.{◌≡◌, ◌∙◌, sym, ap, true}
use Rattle.std.specs.String.{string_bytes}
use Rattle.std.specs.Str.{is_utf8}
use Rattle.std.proofs.lemmas.Str.{IsUtf8-from_is_utf8}
use Rattle.gser_tree.proofs.part.PartLemmas.{chosen_text}
use Rattle.gser_tree.proofs.part.Draft.whole.Goals as goal

pub returns-in-Ok : goal.returns-in-Ok
returns-in-Ok c =
    let octets = c.self.inside.octets.items in
    let test : is_utf8 octets ≡ true = sym (c.if-not-is_text.ensures.exact ∙ ap is_utf8 c.deref.ensures.value) in
    let same : string_bytes c.in-Ok.string ≡ octets = ap (λ v. v.items) c.in-Ok.ensures.ok in
    record { exact = chosen_text c.args.self _ octets _ c.self.view_is test (c.from_string.ensures.exact ∙ same) }

pub returns : goal.returns
returns c =
    let octets = c.self.inside.octets.items in
    let test : is_utf8 octets ≡ true = sym (c.if-not-is_text.ensures.exact ∙ ap is_utf8 c.deref.ensures.value) in
    let never = c.in-Err.ensures.succeeds (IsUtf8-from_is_utf8 octets test) in
    record { exact = cc }
