use Rattle.std.proofs.Common.{arith}
use Rattle.sample_input.specs.Counting.{is_entry, is_hidden, found_in, hidden_in}
use Rattle.sample_input.proofs.counting.CountLemmas.{such_start, none_more, none_bad, none_left, counted_on, few_on, all_counted}
use Rattle.sample_input.proofs.counting.count_found.Goals as goal

-- nothing was counted yet
pub loop-left-init : goal.loop-left-init
loop-left-init c = record {
  found = such_start is_entry _ _ (omega arith);
  hidden = such_start is_hidden _ _ (omega arith);
  few_found = omega arith;
  few_hidden = omega arith;
}

-- less than a message is left
pub returns-in-More-clause-found : goal.returns-in-More-clause-found
unfolding found_in
returns-in-More-clause-found c = all_counted _ _ _ c.loop-left.invariant.found (none_more is_entry _ _ c.in-More.ensures.exact)

pub returns-in-More-clause-hidden : goal.returns-in-More-clause-hidden
unfolding hidden_in
returns-in-More-clause-hidden c = all_counted _ _ _ c.loop-left.invariant.hidden (none_more is_hidden _ _ c.in-More.ensures.exact)

-- what is left is no message
pub returns-in-Bad-clause-found : goal.returns-in-Bad-clause-found
unfolding found_in
returns-in-Bad-clause-found c = all_counted _ _ _ c.loop-left.invariant.found (none_bad is_entry _ _ c.in-Bad.ensures.exact)

pub returns-in-Bad-clause-hidden : goal.returns-in-Bad-clause-hidden
unfolding hidden_in
returns-in-Bad-clause-hidden c = all_counted _ _ _ c.loop-left.invariant.hidden (none_bad is_hidden _ _ c.in-Bad.ensures.exact)

-- no more was counted than there are octets
pub and_one-counts-requires-clause-found : goal.and_one-counts-requires-clause-found
and_one-counts-requires-clause-found c = omega (arith, c.loop-left.invariant.few_found)

pub and_one-counts-requires-clause-hidden : goal.and_one-counts-requires-clause-hidden
and_one-counts-requires-clause-hidden c = omega (arith, c.loop-left.invariant.few_hidden)

-- one message more was counted
pub loop-left-preserved : goal.loop-left-preserved
loop-left-preserved c = record {
  found = counted_on is_entry _ _ _ _ _ _ _ _ _ _ c.loop-left-test.true c.in-Whole.ensures.exact c.split_at.ensures.front c.split_at-in-Whole.ensures.back
      c.in_ok-kind-in-Whole.ensures.entry c.and_one-counts.ensures.found c.loop-left.invariant.found;
  hidden = counted_on is_hidden _ _ _ _ _ _ _ _ _ _ c.loop-left-test.true c.in-Whole.ensures.exact c.split_at.ensures.front c.split_at-in-Whole.ensures.back
      c.in_ok-kind-in-Whole.ensures.hidden c.and_one-counts.ensures.hidden c.loop-left.invariant.hidden;
  few_found = few_on _ _ _ _ c.and_one-counts.ensures.found c.loop-left.invariant.few_found;
  few_hidden = few_on _ _ _ _ c.and_one-counts.ensures.hidden c.loop-left.invariant.few_hidden;
}

-- as many turns as there are octets
pub returns-clause-found : goal.returns-clause-found
unfolding found_in
returns-clause-found c = all_counted _ _ _ c.loop-left.invariant.found (none_left is_entry _ _ (omega arith))

pub returns-clause-hidden : goal.returns-clause-hidden
unfolding hidden_in
returns-clause-hidden c = all_counted _ _ _ c.loop-left.invariant.hidden (none_left is_hidden _ _ (omega arith))
