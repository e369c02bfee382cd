-- The map finds what the rows do.
use Rattle.std.proofs.Common.{ℕ, ◌∙◌, Vec, Global}
use Rattle.dir_tree.proofs.tree.MapLemmas.{lookup-find_name}
use Rattle.dir_tree.proofs.tree.Tree.number_of.Goals as goal

pub returns-in-Some : goal.returns-in-Some
returns-in-Some c = record {
  exact = λ name is. rw (← c.self.view_is)
      (c.in-Some.ensures.value ∙ lookup-find_name (λ (key : Vec ℕ Global). key.items) c.self.inside.slots.items c.args.path.now name c.self.inside.places.entries is c.self.invariant.keyed);
}

pub returns-in-None : goal.returns-in-None
returns-in-None c = record {
  exact = λ name is. rw (← c.self.view_is)
      (c.in-None.ensures.value ∙ lookup-find_name (λ (key : Vec ℕ Global). key.items) c.self.inside.slots.items c.args.path.now name c.self.inside.places.entries is c.self.invariant.keyed);
}
