-- Filters by facts leave what the six filters leave.
use Rattle.std.proofs.Common.{◌≡◌, Bool, ◌&&◌, List, map, sym, ap, ◌∙◌}
use Rattle.std.specs.List.{list_all}
use Rattle.dir_tree.specs.tree.Numbered.{Numbered, entries_of}
use Rattle.acdf_filters.specs.Asking.{Asked}
use Rattle.acdf_filters.specs.users.Choices.{is_filled}
use Rattle.acdf_filters.specs.Filters.{Placed, left_by_users, left_by_item, left_by_permission, left_by_precedence, left_by_class, left_by_explicit, decided}
use Rattle.acdf_filters.specs.Tuples.{Listed, tuples_of}
use Rattle.acdf_filters.specs.Granted.{placed_of}
use Rattle.acdf_filters.specs.weighing.Weighing.{asked_of, asked_ranks}
use Rattle.acdf_filters.specs.declared.question.Question.{Question}
use Rattle.explanation.specs.declared.candidates.Candidate.{Candidate}
use Rattle.explanation.specs.declared.facts.Facts.{Facts}
use Rattle.explanation.specs.declared.steps.Counts.{Counts}
use Rattle.explanation.specs.declared.steps.Steps.{Steps}
use Rattle.explanation.specs.Explained.{AreCounts, kept_at, kept_of, IsExplained}
use Rattle.explanation.specs.Candidates.{Described, described, described_for, described_at, described_all, staying, covering, permitted, foremost, most_specific, deciding, AreCounted, kept_from, kept_in, all_grant}
use Rattle.explanation.proofs.filters.MappedLemmas.{map-both, same_length, staying-mapped, covering-mapped, permitted-mapped, foremost-mapped, most_specific-mapped, deciding-mapped, granting-mapped}

-- the facts of what is said of a tuple
abbrev facts_in : Described → Facts
facts_in x = x.facts

-- what the last filter leaves
same_deciding : (rows : List Numbered) (asked : Asked) (cs : List Candidate) (xs : List Placed) → described_all rows cs ≡ map (described asked) xs
    → described_all rows (deciding (λ one. one.facts) cs) ≡ map (described asked) (left_by_explicit asked xs)
same_deciding rows asked cs xs e =
    deciding-mapped (described_at rows) facts_in cs ∙ ap (deciding facts_in) e ∙ sym (deciding-mapped (described asked) facts_in xs)

-- how many each leaves
counts-counted : (rows : List Numbered) (asked : Asked) (cs : List Candidate) (xs : List Placed) (counts : Counts) → described_all rows cs ≡ map (described asked) xs
    → AreCounted cs counts → AreCounts asked xs counts
counts-counted rows asked cs xs counts e h =
    let at = described_at rows in
    let of = described asked in
    record {
      listed = h.listed ∙ same_length at of cs xs e;
      users = h.users ∙ same_length at of (staying (λ one. one.facts) cs) (left_by_users asked xs)
          (staying-mapped at facts_in cs ∙ ap (staying facts_in) e ∙ sym (staying-mapped of facts_in xs));
      item = h.item ∙ same_length at of (covering (λ one. one.facts) cs) (left_by_item asked xs)
          (covering-mapped at facts_in cs ∙ ap (covering facts_in) e ∙ sym (covering-mapped of facts_in xs));
      permission = h.permission ∙ same_length at of (permitted (λ one. one.facts) cs) (left_by_permission asked xs)
          (permitted-mapped at facts_in cs ∙ ap (permitted facts_in) e ∙ sym (permitted-mapped of facts_in xs));
      precedence = h.precedence ∙ same_length at of (foremost (λ one. one.facts) cs) (left_by_precedence asked xs)
          (foremost-mapped at facts_in cs ∙ ap (foremost facts_in) e ∙ sym (foremost-mapped of facts_in xs));
      class = h.class ∙ same_length at of (most_specific (λ one. one.facts) cs) (left_by_class asked xs)
          (most_specific-mapped at facts_in cs ∙ ap (most_specific facts_in) e ∙ sym (most_specific-mapped of facts_in xs));
      explicit = h.explicit ∙ same_length at of (deciding (λ one. one.facts) cs) (left_by_explicit asked xs) (same_deciding rows asked cs xs e);
    }

-- what is said of those that are left
kept-said : (rows : List Numbered) (asked : Asked) (cs : List Candidate) (xs : List Placed) → described_all rows cs ≡ map (described asked) xs
    → map (kept_at rows) (map kept_from cs) ≡ map kept_of xs
kept-said rows asked cs xs e =
    sym (map-both kept_from (kept_at rows) cs)
    ∙ map-both (described_at rows) kept_in cs
    ∙ ap (map kept_in) e
    ∙ sym (map-both (described asked) kept_in xs)

-- whether all of some grant
granted-said : (rows : List Numbered) (asked : Asked) (cs : List Candidate) (xs : List Placed) → described_all rows cs ≡ map (described asked) xs
    → all_grant (map kept_from cs) ≡ (is_filled xs && list_all (λ x. x.listed.tuple.grants) xs)
granted-said rows asked cs xs e =
    let grants : Described → Bool = λ x. x.facts.grants in
    granting-mapped kept_from (λ one. one.grants) cs
    ∙ sym (granting-mapped (described_at rows) grants cs)
    ∙ ap (λ (ds : List Described). is_filled ds && list_all grants ds) e
    ∙ granting-mapped (described asked) grants xs

-- what a program says of an entry's tuples is what is said of them with their ranks
placed-said : (question : Question) (ts : List Listed) → map (described_for question) ts
    ≡ map (described (asked_of question)) (map (λ x. record { listed = x; ranks = asked_ranks question x.tuple }) ts)
placed-said question ts =
    map-both (λ (x : Listed). record { listed = x; ranks = asked_ranks question x.tuple }) (described (asked_of question)) ts

-- so the decision came about as it is said
pub explained : (question : Question) (cs : List Candidate) (steps : Steps)
    → described_all question.tree.now cs ≡ map (described_for question) (tuples_of (entries_of question.tree.now) question.entry.now)
    → AreCounted cs steps.counts → steps.kept.items ≡ map kept_from (deciding (λ one. one.facts) cs) → steps.granted ≡ all_grant steps.kept.items
    → IsExplained question.tree.now question.entry.now (asked_of question) steps
unfolding decided
explained question cs steps listed counted kept allowed =
    let rows = question.tree.now in
    let asked = asked_of question in
    let xs = placed_of (entries_of rows) question.who.now question.entry.now in
    let same : described_all rows cs ≡ map (described asked) xs = listed ∙ placed-said question (tuples_of (entries_of rows) question.entry.now) in
    let last = same_deciding rows asked cs xs same in
    let left = deciding (λ (one : Candidate). one.facts) cs in
    record {
      counts = counts-counted rows asked cs xs steps.counts same counted;
      kept = ap (map (kept_at rows)) kept ∙ kept-said rows asked left (left_by_explicit asked xs) last;
      granted = allowed ∙ ap all_grant kept ∙ granted-said rows asked left (left_by_explicit asked xs) last;
    }
