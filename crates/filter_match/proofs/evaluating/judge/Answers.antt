-- All tests are the filter's own.
use Rattle.std.proofs.Common.{[], sym, ap, ◌∙◌, append-nil}
use Rattle.ldap_filter.specs.filter.Filters.{Filter}
use Rattle.filter_match.specs.Judging.{judged}
use Rattle.filter_match.specs.walk.Walks.{tests_of}
use Rattle.filter_match.proofs.evaluating.judge.Goals as goal

pub returns : goal.returns
returns g c = record {
  exact =
      (c.walk.ensures [] (c.tests.ensures.exact ∙ ap tests_of (sym c.filter.ensures.exact) ∙ sym (append-nil (tests_of c.filter.result.now)))).0
      ∙ ap (λ (filter : Filter). judged (g.J.Judge.answers c.args.judge.now) c.args.question filter) c.filter.ensures.exact;
}
