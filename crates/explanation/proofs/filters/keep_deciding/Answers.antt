-- The filters in their order, and the lengths between them.
use Rattle.std.proofs.Common.{◌≡◌, List, filter, length, ap, ◌∙◌, arith}
use Rattle.acdf_filters.specs.users.Choices.{highest, lowest, passing_or_all}
use Rattle.explanation.specs.declared.candidates.Candidate.{Candidate}
use Rattle.explanation.specs.declared.facts.Facts.{Facts}
use Rattle.explanation.specs.Candidates.{staying, covering, permitted, foremost, most_specific, deciding}
use Rattle.explanation.proofs.filters.keep_deciding.Goals as goal

pub returns : goal.returns
returns c =
    let xs = c.args.candidates.now.items in
    let facts : Candidate → Facts = λ one. one.facts in
    let users : c.keep_staying.new.candidates.items ≡ staying facts xs = c.keep_staying.ensures.exact in
    let item : c.keep_covering.new.candidates.items ≡ covering facts xs =
    c.keep_covering.ensures.exact ∙ ap (λ (ys : List Candidate). filter (λ one. one.facts.covers) ys) users in
    let permission : c.keep_permitted.new.candidates.items ≡ permitted facts xs =
    c.keep_permitted.ensures.exact ∙ ap (λ (ys : List Candidate). filter (λ one. one.facts.permitted) ys) item in
    let precedence : c.keep_foremost.new.candidates.items ≡ foremost facts xs =
    c.keep_foremost.ensures.exact ∙ ap (λ (ys : List Candidate). highest (λ one. one.facts.precedence) ys) permission in
    let class : c.keep_most_specific.new.candidates.items ≡ most_specific facts xs =
    c.keep_most_specific.ensures.exact ∙ ap (λ (ys : List Candidate). lowest (λ one. one.facts.rank) ys) precedence in
    let explicit : c.keep_explicit.new.candidates.items ≡ deciding facts xs =
    c.keep_explicit.ensures.exact ∙ ap (λ (ys : List Candidate). passing_or_all (λ one. one.facts.explicit) ys) class in
    record {
      counts = record {
        listed = omega (arith, c.args.candidates.now.ok.0);
        users = omega (arith, c.keep_staying.new.candidates.ok.0, ap length users);
        item = omega (arith, c.keep_covering.new.candidates.ok.0, ap length item);
        permission = omega (arith, c.keep_permitted.new.candidates.ok.0, ap length permission);
        precedence = omega (arith, c.keep_foremost.new.candidates.ok.0, ap length precedence);
        class = omega (arith, c.keep_most_specific.new.candidates.ok.0, ap length class);
        explicit = omega (arith, c.keep_explicit.new.candidates.ok.0, ap length explicit);
      };
      exact = explicit;
    }
