-- From the entry on, by the scope.
use Rattle.std.proofs.Common.{ap, sym, ◌∙◌, Option, ◌≡◌, ◌≤◌, List, length, subst, ℕ}
use Rattle.std.proofs.lemmas.List.{length-map}
use Rattle.dir_tree.specs.Entry.{EntryInformation}
use Rattle.dir_tree.specs.tree.Numbered.{Numbered, ids_of, entry_of, entries_of}
use Rattle.dir_tree.specs.Scope.{in_scope, scoped, is_within}
use Rattle.dir_tree.specs.declared.scope.Scope.{Scope}
use Rattle.dir_tree.specs.declared.scope.Scope.TheVariants.{Base, One, Sub}
use Rattle.dir_tree.proofs.walk.WalkLemmas.{filter-named, filter_and_true, scoped-fits}
use Rattle.dir_tree.proofs.tree.Tree.walk_from.Goals as goal

fits : (rows : List Numbered) → length (entries_of rows) ≤ 200000 → length rows ≤ 200000
fits rows h = subst (λ (n : ℕ). n ≤ 200000) (length-map rows (λ (row : Numbered). row.entry)) h

-- the entry alone
pub returns-in-Base : goal.returns-in-Base
returns-in-Base c =
    let at = rw c.name.ensures.exact at c.walk_at.ensures.exact in
    let exact : c.walk_at.result ≡ scoped c.args.scope c.args.no.0 c.args.self.now =
    at
    ∙ filter-named c.args.no.0 c.args.entry.now c.args.self.now c.entries_form_a_tree.ensures.exact.tree.sorted c.requires
    ∙ ap (λ (base : Option EntryInformation). in_scope Base c.args.no.0 base c.args.self.now) (sym c.requires)
    ∙ ap (λ (scope : Scope). scoped scope c.args.no.0 c.args.self.now) (sym c.in-Base.is) in
    record {
      exact = exact;
      fits = rw exact (scoped-fits c.args.scope c.args.no.0 (entry_of c.args.no.0 c.args.self.now) c.args.self.now (fits c.args.self.now c.entries_form_a_tree.ensures.exact.tree.fits));
    }

-- those immediately below
pub returns-in-One : goal.returns-in-One
returns-in-One c =
    let from = rw (c.len.ensures.exact, c.name-in-One.ensures.exact, c.name-in-One-2.ensures.exact) at c.walk_within.ensures.exact in
    let exact : c.walk_within.result ≡ scoped c.args.scope c.args.no.0 c.args.self.now =
    from
    ∙ ap (λ (base : Option EntryInformation). in_scope One c.args.no.0 base c.args.self.now) (sym c.requires)
    ∙ ap (λ (scope : Scope). scoped scope c.args.no.0 c.args.self.now) (sym c.in-One.is) in
    record {
      exact = exact;
      fits = rw exact (scoped-fits c.args.scope c.args.no.0 (entry_of c.args.no.0 c.args.self.now) c.args.self.now (fits c.args.self.now c.entries_form_a_tree.ensures.exact.tree.fits));
    }

-- the entry and all below
pub returns-in-Sub : goal.returns-in-Sub
returns-in-Sub c =
    let from = rw c.name-in-Sub.ensures.exact at c.walk_within-in-Sub.ensures.exact in
    let exact : c.walk_within-in-Sub.result ≡ scoped c.args.scope c.args.no.0 c.args.self.now =
    from
    ∙ ap ids_of (filter_and_true (λ row. is_within c.args.entry.now.name row.entry) c.args.self.now)
    ∙ ap (λ (base : Option EntryInformation). in_scope Sub c.args.no.0 base c.args.self.now) (sym c.requires)
    ∙ ap (λ (scope : Scope). scoped scope c.args.no.0 c.args.self.now) (sym c.in-Sub.is) in
    record {
      exact = exact;
      fits = rw exact (scoped-fits c.args.scope c.args.no.0 (entry_of c.args.no.0 c.args.self.now) c.args.self.now (fits c.args.self.now c.entries_form_a_tree.ensures.exact.tree.fits));
    }
