-- Under a hush each message of the connection is answered over twins, and it finds room when it opens.
use Rattle.hush_laws.proofs.laws.ShowLemmas.{run-hushed, replay-hushed}
use Rattle.hush_laws.proofs.laws.what_is_hushed_does_not_show.Goals as goal

pub returns : goal.returns
returns c = record {
  run = λ terms entries steps number top good once none.
      let keeps = c.sessions_keep_a_directory_good.ensures in
      let meets = run-hushed terms entries steps number top (keeps.places terms number entries steps good) (keeps.messages terms number entries steps good) none in
      c.other_sessions_do_not_show.ensures.exact terms entries top number steps once meets.0 meets.1;
  replay = λ terms entries events number top good once none.
      let keeps = c.sessions_keep_a_directory_good.ensures in
      let meets = replay-hushed terms entries events number top (keeps.replay_places terms number entries events good) (keeps.replay_messages terms number entries events good) none in
      c.other_sessions_do_not_show.ensures.replay terms entries top number events once meets.0 meets.1;
  taken = λ terms entries steps number top journal sound good once none.
      let keeps = c.sessions_keep_a_directory_good.ensures in
      let meets = run-hushed terms entries steps number top (keeps.places terms number entries steps good) (keeps.messages terms number entries steps good) none in
      c.other_sessions_do_not_show.ensures.taken terms entries top number steps journal sound once meets.0 meets.1;
}
