-- The first quotation mark, and what stands before and behind it.
use Rattle.std.proofs.Common.{◌++◌, ◌∙◌, sym, ap, arith, rules}
use Rattle.std.specs.Prelude.{string_bytes}
use Rattle.std.proofs.lemmas.Str.Pattern.{split_once_first}
use Rattle.gser_tree.proofs.strings.KeptLemmas.{kept_more}
use Rattle.gser_tree.proofs.strings.DoubledLemmas.{joined, doubled_none}
use Rattle.gser_tree.proofs.strings.put_doubled.Goals as goal

pub marks-preserved : goal.marks-preserved
marks-preserved c =
    let rest = c.marks.rest.now in
    let found = split_once_first 34 rest c.split_once.result c.split_once.ensures.cases (omega arith) in
    let facts = rw c.in-Some.is at found in (
      joined (string_bytes c.marks.out) (string_bytes c.push_str.new.self) (string_bytes c.push_str-in-Some.new.self) c.in-Some.before.now c.in-Some.after.now rest
          c.in_ok-push_str.ensures.bytes c.in_ok-push_str-2.ensures.bytes facts.0 facts.1 facts.2
          ∙ c.marks.invariant.0,
      kept_more _ _ _ _ (kept_more _ _ _ _ c.marks.invariant.1 c.in_ok-push_str.ensures.bytes) c.in_ok-push_str-2.ensures.bytes,
      search rules,
    )

pub returns : goal.returns
returns c =
    let rest = c.marks.rest.now in
    let found = split_once_first 34 rest c.split_once.result c.split_once.ensures.cases (omega arith) in
    let none = rw c.in_default.is at found in
    record {
      ok = c.in_ok-push_str-3.ensures.bytes ∙ ap (λ r. string_bytes c.marks.out ++ r) (sym (doubled_none rest none)) ∙ c.marks.invariant.0;
      kept = kept_more _ _ _ _ c.marks.invariant.1 c.in_ok-push_str-3.ensures.bytes;
    }
