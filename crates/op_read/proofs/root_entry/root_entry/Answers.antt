-- The attributes with the suffix's name.
use Rattle.std.proofs.Common.{◌∙◌, List, [], ℕ, ap}
use Rattle.std.specs.Prelude.{flat_map}
use Rattle.ldap_msg.specs.declared.kinds.KindValues.{KindValues}
use Rattle.ldap_msg.specs.declared.kinds.Reply.TheVariants as reply
use Rattle.op_read.specs.Rooting.{root_sent_of, roots_with}
use Rattle.op_read.proofs.root_entry.RootLemmas.{root-entry}
use Rattle.op_read.proofs.root_entry.root_entry.Goals as goal

pub returns : goal.returns
returns g c = record {
  ok =
      ap (λ (name : List ℕ). reply.Entry name c.from_vec.result) (c.from_vec-name.ensures.exact ∙ c.new.ensures.items)
      ∙ ap (λ (sent : List KindValues). reply.Entry [] sent) (c.from_vec.ensures.exact ∙ c.in_ok-sent.ensures.ok
      ∙ ap (λ (suffix : List ℕ). flat_map (root_sent_of c.args.request.now) (roots_with suffix)) (c.as_slice.ensures.exact ∙ c.in_ok-suffix.ensures.ok))
      ∙ root-entry (g.D.Dir.rows c.args.asking.now.dir.now) c.args.asking.now.who.now c.args.request.now;
}
