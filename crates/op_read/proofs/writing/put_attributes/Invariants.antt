-- The attributes so far, and those that are left, are all.
use Rattle.std.proofs.Common.{◌≡◌, ◌++◌}
use Rattle.std.specs.Prelude.{flat_map}
use Rattle.ldap_msg.specs.ber_layout.Spellings.{Extends}
use Rattle.op_read.specs.Seeing.{row_in}
use Rattle.op_read.specs.Choices.{sent_of}
use Rattle.op_read.specs.Writing.{attributes_octets}
use Rattle.op_read.proofs.writing.put_attributes.Given as goal

abbrev pub invariant-loop-kind : goal.invariant-loop-kind
invariant-loop-kind g l =
    let sent = sent_of l.search.selection.choices.now l.search.selection.kinds_only (row_in (g.D.Dir.rows l.target.asking.now.dir.now) l.target.asking.now.who.now l.target.entry.now) in
    record {
      whole : l.out.items ++ attributes_octets (flat_map sent l.kind-iterator) ≡ l.fn.out.items ++ attributes_octets (flat_map sent l.target.entry.now.attributes);
      kept : Extends l.fn.out.items l.out.items;
    }
