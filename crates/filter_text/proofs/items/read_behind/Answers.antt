-- One part more was read, which is not the last.
use Rattle.std.proofs.Common.{sym, ap, ◌∙◌}
use Rattle.filter_text.specs.Items.{final_of}
use Rattle.filter_text.proofs.items.PartLemmas.{any_of-step, final_of-more}
use Rattle.filter_text.proofs.items.read_behind.Goals as goal

pub loop-part-preserved : goal.loop-part-preserved
loop-part-preserved c = record {
  any =
      any_of-step c.push.new.self.items c.loop-part.any.items c.in_ok-read_value.field-0 c.in-Some.part.now c.in-Some.rest.now c.loop-part.left.now _
      c.in_ok-push.ensures.items c.in_ok-read_value.ensures.ok c.in-Some.ensures.exact c.loop-part.invariant.any;
  last = sym (ap final_of c.in-Some.ensures.exact ∙ final_of-more c.in-Some.part.now c.in-Some.rest.now) ∙ c.loop-part.invariant.last;
}
