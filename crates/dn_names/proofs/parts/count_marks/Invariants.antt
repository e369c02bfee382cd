-- The marks so far and those that are left are all.
use Rattle.std.proofs.Common.{◌≡◌, ◌+◌, ◌≤◌, false, drop}
use Rattle.dn_names.specs.Reading.{marks_from}
use Rattle.dn_names.proofs.parts.count_marks.Given as goal

abbrev pub invariant-loop-octet : goal.invariant-loop-octet
invariant-loop-octet l = record {
  fits : l.count ≤ l.octet-index;
  exact : l.count + marks_from l.mark l.escaped (drop l.octet-index l.text) ≡ marks_from l.mark false l.text;
}
