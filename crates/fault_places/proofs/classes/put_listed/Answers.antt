-- The four texts.
use Rattle.std.proofs.Common.{◌≡◌, ◌++◌}
use Rattle.std.specs.Prelude.{flat_map, string_bytes}
use Rattle.fault_places.specs.ClassFaults.{all_kinds, listed, unknown_class, structural_said, kind_said, alone_said, listed_said}
use Rattle.fault_places.proofs.classes.PutLemmas.{four_written}
use Rattle.fault_places.proofs.classes.put_listed.Goals as goal

pub returns : goal.returns
unfolding listed_said
returns c =
    let entry = c.args.entry.now in
    let given = c.args.given.now in
    let first : string_bytes c.put_all_unknown.new.out ≡ string_bytes c.args.out.now ++ flat_map (unknown_class given.line) (listed entry) =
    rw c.listed.ensures.exact at c.in_ok-put_all_unknown.ensures.ok in
    let second : string_bytes c.put_structural.new.out ≡ string_bytes c.put_all_unknown.new.out ++ structural_said given.line (listed entry) =
    rw c.listed-2.ensures.exact at c.in_ok-put_structural.ensures.ok in
    let third : string_bytes c.put_kinds.new.out ≡ string_bytes c.put_structural.new.out ++ flat_map (kind_said given entry) all_kinds =
    rw c.kinds.ensures.exact at c.in_ok-put_kinds.ensures.ok in
    record {
      ok = four_written c.put_alone.result _ _ _ _ (string_bytes c.put_alone.new.out) _ _ _ (alone_said given.line entry) first second third c.put_alone.ensures.ok;
    }
