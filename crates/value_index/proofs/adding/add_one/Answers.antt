-- The set has the posting beside those that it had.
use Rattle.value_index.proofs.index.PostingLemmas.{added-one}
use Rattle.value_index.proofs.adding.add_one.Goals as goal

pub returns-clause-ok : goal.returns-clause-ok
returns-clause-ok c = added-one c.args.hash c.args.number.0 c.args.postings.now.keys c.insert.new.self.keys c.in_ok-insert.ensures.updates.0
