-- The set has all postings but the one.
use Rattle.value_index.proofs.index.PostingLemmas.{dropped-one}
use Rattle.value_index.proofs.dropping.drop_one.Goals as goal

pub returns : goal.returns
returns c = record { exact = dropped-one c.args.hash c.args.number.0 c.args.postings.now.keys c.remove.new.self.keys c.remove.ensures.updates.0 }
