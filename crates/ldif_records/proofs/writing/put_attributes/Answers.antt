use Rattle.std.proofs.Common.{sym, ◌∙◌, ap, arith, ◌++◌, ◌<◌, length, take}
use Rattle.std.proofs.lemmas.List.{append_assoc}
use Rattle.ldif_records.specs.writing.Written.{written_attributes, written_values}
use Rattle.ldif_records.proofs.writing.WrittenLemmas.{attributes-more, kind-within}
use Rattle.ldif_records.proofs.writing.put_attributes.Goals as goal
use Rattle.ldif_records.proofs.writing.put_attributes.Goals.{in-Some+in_ok-put_values, in_default}

-- the attribute at the index is there, and its lines were written
pub loop-index-preserved : goal.loop-index-preserved
loop-index-preserved c =
    elim c.match-kind_at.branch [
      | in-Some+in_ok-put_values w ↦
          let more = attributes-more c.args.entry.now.attributes c.loop-index.index w.in-Some.kind.0 w.as_bytes.result.now w.values.result.now c.is_good.ensures.good w.in-Some.ensures.exact (w.as_bytes.ensures.value ∙ w.kind_name.ensures) w.values.ensures.exact in
          rw w.out-is
          (w.in_ok-put_values.ensures
          ∙ ap (λ items. items ++ written_values w.as_bytes.result.now w.values.result.now) c.loop-index.invariant
          ∙ append_assoc c.args.out.now.items (written_attributes (take c.loop-index.index c.args.entry.now.attributes)) _
          ∙ ap (λ lines. c.args.out.now.items ++ lines) (sym more))
      | in_default w ↦
          let within : c.loop-index.index < length c.args.entry.now.attributes = omega arith in
          kind-within c.args.entry.now.attributes c.loop-index.index within w.in_default.ensures.exact
    ]
