-- One pair more is written.
use Rattle.std.proofs.Common.{◌≡◌, true, ◌∷◌, [], ◌++◌, ◌+◌, take, drop, sym, ◌∙◌, ap, arith}
use Rattle.std.specs.Str.{is_utf8}
use Rattle.std.proofs.lemmas.List.{drop_more, take_more}
use Rattle.dn_names.specs.name.Names.{TypeAndValue}
use Rattle.dn_names.specs.Printing.{print_pair, shown_of}
use Rattle.dn_names.proofs.printing.PrintLemmas.{next_item}
use Rattle.dn_names.proofs.printing.put_rdn.Goals as goal
use Rattle.base_laws.proofs.Theorems.{all_push}

pub loop-index-preserved : goal.loop-index-preserved
loop-index-preserved c =
    let l = c.loop-index in
    let rdn = c.args.rdn.now in
    let pair = c.index-rdn-index.result in
    let left = drop_more rdn l.index pair (omega arith) ∙ ap (λ x. x ∷ drop (l.index + 1) rdn) (sym c.index-rdn-index.is) in
    let come = take_more rdn l.index pair (omega arith) ∙ ap (λ x. take l.index rdn ++ x ∷ []) (sym c.index-rdn-index.is) in
    record {
      exact = next_item 43 (print_pair (shown_of c.args.shown)) rdn l.index pair l.out.items c.put_mark.new.out.items c.put_pair.new.out.items _
          left c.in_ok-put_mark.ensures.ok c.in_ok-put_pair.ensures.ok l.invariant.exact;
      text = rw come (all_push (λ (p : TypeAndValue). is_utf8 p.value.octets ≡ true) (take l.index rdn) pair l.invariant.text c.in_ok-put_pair.ensures.text);
    }
