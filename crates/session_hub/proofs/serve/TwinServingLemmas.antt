-- What serves a directory serves its twins.
use Rattle.std.proofs.Common.{◌≡◌, ℕ, List, ◌++◌, Option, Some, refl, sym, ◌∙◌, subst}
use Rattle.std.proofs.lemmas.List.{append_cancel_left}
use Rattle.session_model.specs.wire_io.declared.journal.Item.{Item}
use Rattle.session_model.specs.Journaled.{steps_of}
use Rattle.session_model.specs.Serving.{Served}
use Rattle.session_hub.specs.Parties.{DirectoryEntries}
use Rattle.session_hub.specs.Terms.{Terms}
use Rattle.session_hub.specs.declared.ended.Ended.{Ended}
use Rattle.session_hub.specs.declared.ended.Ended.TheVariants.{Stopped, TurnsSpent, LinkFault, StoreFault, NoMemory}
use Rattle.session_hub.specs.Answering.{rules}
use Rattle.session_hub.specs.serve.Loops.{Serves, ServedAs, ServesTwins}
use Rattle.session_hub.proofs.alike.TwinLemmas.{served-twins}

same_rest : (begun one other : List Item) → Some (begun ++ one) ≡ Some (begun ++ other) → one ≡ other
same_rest begun one other same = let joins : begun ++ one ≡ begun ++ other = cc in append_cancel_left begun one other joins

-- by the answer, which is neither want of memory nor a fault of the store
served_uncut : (terms : Terms) (entries left : DirectoryEntries) (added : List Item) (ended : Ended) → (ended ≡ NoMemory → ⊥) → (ended ≡ StoreFault → ⊥) → ServedAs terms entries left added ended
    → Served (rules terms) entries (steps_of added) added
served_uncut terms entries left added Stopped uncut stored served = served.served
served_uncut terms entries left added TurnsSpent uncut stored served = served.served
served_uncut terms entries left added LinkFault uncut stored served = served.served
served_uncut terms entries left added StoreFault uncut stored served = absurd (stored refl)
served_uncut terms entries left added NoMemory uncut stored served = absurd (uncut refl)

pub serves_twins : (terms : Terms) (entries left : DirectoryEntries) (turns : ℕ) (before : Option (List Item)) (ended : Ended) (after : Option (List Item))
    → Serves terms entries left turns before ended after → ServesTwins terms entries before ended after
unfolding Serves
serves_twins terms entries left turns before ended after serves begun added other top was is uncut stored all =
    let so = serves begun was in
    let same : so.0 ≡ added = same_rest begun so.0 added (sym so.1 ∙ is) in
    let served = subst (λ xs. Served (rules terms) entries (steps_of xs) xs) same (served_uncut terms entries left so.0 ended uncut stored so.2.served) in
    served-twins terms entries other top (steps_of added) added all served

-- a loop that had no memory to begin says nothing
pub starved_twins : (terms : Terms) (entries : DirectoryEntries) (before after : Option (List Item)) → ServesTwins terms entries before NoMemory after
starved_twins terms entries before after begun added other top was is uncut stored all = absurd (uncut refl)
