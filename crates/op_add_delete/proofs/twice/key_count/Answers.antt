-- The set has the keys of the values.
use Rattle.std.proofs.Common.{rules, ◌≡◌, ◌∙◌, refl, ap, sym, map, ℕ, List, Bor}
use Rattle.std.specs.Set.{distinct_count}
use Rattle.std.specs.Ordering.{nat_cmp, eq_by_cmp}
use Rattle.std.specs.Cmp.Lexicographic.{slice_cmp, on_texts}
use Rattle.std.proofs.lemmas.Iterator.{YieldsList-from_slice, YieldsList-from_map_by, items_from_drains}
use Rattle.std.proofs.lemmas.Map.Views.{btree_set_len-from_list}
use Rattle.dir_tree.specs.dn_names.name.Names.{Keyed}
use Rattle.dir_tree.specs.Entry.{is_match}
use Rattle.op_add_delete.proofs.twice.CountLemmas.{count-on, is_same_key, same-match}
use Rattle.op_add_delete.proofs.twice.key_count.Goals as goal

pub returns : goal.returns
returns c =
    let ran = c.in_ok-keys.ensures.ran in
    let items : map (λ (r : Bor (List ℕ)). r.now) ran.0 ≡ map (λ (value : Keyed). value.key) c.args.values.now =
    items_from_drains {v = λ (r : Bor (List ℕ)). r.now} ran.0 ran.1 (YieldsList-from_map_by _ (λ (r : Bor (List ℕ)). r.now) (λ (value : Keyed). value.key) (YieldsList-from_slice c.args.values.now cc) c.map.ensures.closure (λ x r q k. search rules)) in
    record {
      ok =
          c.len.ensures.len
          ∙ btree_set_len-from_list (on_texts (λ (r : Bor (List ℕ)). r.now)) ran.0 c.in_ok-keys.keys ran.2
          ∙ count-on (λ (r : Bor (List ℕ)). r.now) (eq_by_cmp (λ x y. slice_cmp nat_cmp x.now y.now)) is_same_key (λ x y. refl) ran.0
          ∙ ap (distinct_count is_same_key) items
          ∙ sym (count-on (λ (value : Keyed). value.key) is_match is_same_key same-match c.args.values.now);
    }
