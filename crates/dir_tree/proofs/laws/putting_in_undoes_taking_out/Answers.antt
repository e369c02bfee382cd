-- By the theorems.
use Rattle.dir_tree.proofs.TreeTheorems.{put_row-taken, without-put_row, put_in-taken_out, taken_out-put_in}
use Rattle.dir_tree.proofs.laws.putting_in_undoes_taking_out.Goals as goal

pub returns : goal.returns
returns c = record { put = put_row-taken; taken = without-put_row; put_in = put_in-taken_out; taken_out = taken_out-put_in }
