-- A text may be cut where it was written on.
use Rattle.std.proofs.Common.{◌≡◌, length, sym, subst, rules, ℕ}
use Rattle.std.specs.Prelude.{string_bytes, IsCharBoundary}
use Rattle.std.proofs.lemmas.Str.{IsUtf8-string_bytes}
use Rattle.gser_tree.proofs.strings.KeptLemmas.{kept_boundary}
use Rattle.gser_tree.proofs.strings.put_string.Goals as goal

pub truncate-requires : goal.truncate-requires
truncate-requires c =
    let before = string_bytes c.args.out.now in
    let after = string_bytes c.put_quoted.new.out in
    let size : c.len-before.result ≡ length (string_bytes c.args.out.now) = search rules in
    let cut = subst (λ (n : ℕ). IsCharBoundary after n) (sym size)
    (kept_boundary before after (IsUtf8-string_bytes c.args.out.now) (IsUtf8-string_bytes c.put_quoted.new.out) c.put_quoted.ensures.kept) in
    λ _. (cut.0, λ _. cut.1)
