-- Four attributes, one behind the other.
use Rattle.std.proofs.Common.{◌≡◌, ◌∷◌, [], codes, true, false}
use Rattle.op_read.specs.Rooting.{root_of, root_sent_of}
use Rattle.op_read.proofs.root_entry.RootLemmas.{sent-four, one-value, two-values}
use Rattle.op_read.proofs.root_entry.sent_roots.Goals as goal

pub returns : goal.returns
returns c =
    let classes : root_of c.user_attribute.result ≡ record { name = codes "objectClass"; operational = false; values = codes "top" ∷ [] } = one-value _ _ _ _ _ c.user_attribute.ensures.exact c.as_slice.ensures in
    let contexts : root_of c.operational_attribute.result ≡ record { name = codes "namingContexts"; operational = true; values = c.args.suffix.now ∷ [] } = c.operational_attribute.ensures.exact in
    let controls : root_of c.operational_attribute-control.result
    ≡ record { name = codes "supportedControl"; operational = true; values = codes "1.3.6.1.4.1.4203.1.10.1" ∷ codes "1.2.840.113556.1.4.319" ∷ [] } = two-values _ _ _ _ _ _ _ c.operational_attribute-control.ensures.exact c.as_slice-2.ensures c.as_slice-3.ensures in
    let versions : root_of c.operational_attribute-2.result ≡ record { name = codes "supportedLDAPVersion"; operational = true; values = codes "3" ∷ [] } = one-value _ _ _ _ _ c.operational_attribute-2.ensures.exact c.as_slice-4.ensures in
    record {
      ok = sent-four (root_sent_of c.args.request.now)
          c.new-sent.result.items c.put_root.new.sent.items c.put_root-2.new.sent.items c.put_root-3.new.sent.items c.put_root-4.new.sent.items
          (root_of c.user_attribute.result) (root_of c.operational_attribute.result) (root_of c.operational_attribute-control.result) (root_of c.operational_attribute-2.result)
          _ _ _ _
          c.new-sent.ensures.items c.in_ok-put_root.ensures.ok c.in_ok-put_root-2.ensures.ok c.in_ok-put_root-3.ensures.ok c.in_ok-put_root-4.ensures.ok
          classes contexts controls versions;
    }
