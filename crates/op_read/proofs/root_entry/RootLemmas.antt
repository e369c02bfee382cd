-- The root DSE, its attributes one after the other.
use Rattle.std.proofs.Common.{◌≡◌, ℕ, Bool, List, [], ◌∷◌, ◌++◌, sym, ap, ◌∙◌, append_assoc}
use Rattle.std.specs.Prelude.{flat_map}
use Rattle.std.proofs.lemmas.List.{append-nil}
use Rattle.dir_tree.specs.tree.Numbered.{Numbered}
use Rattle.acdf_filters.specs.declared.asking.Requester.{Requester}
use Rattle.ldap_msg.specs.declared.kinds.KindValues.{KindValues}
use Rattle.ldap_msg.specs.declared.kinds.SearchRequest.{SearchRequest}
use Rattle.ldap_msg.specs.declared.kinds.Reply.TheVariants as reply
use Rattle.page_core.specs.read_model.RootEntry.{RootAttribute, suffix_name, root_attributes, is_root_chosen, sent_root, root_entry}
use Rattle.directory.specs.Asking.{view_in}
use Rattle.op_read.specs.Rooting.{root_sent_of, roots_with}
use Rattle.op_read.proofs.choosing.ChoosingLemmas.{roots-one}

-- four lists, one behind the other
pub four : (a b c d : List KindValues) → ((([] ++ a) ++ b) ++ c) ++ d ≡ a ++ (b ++ (c ++ (d ++ [])))
four a b c d =
    append_assoc (a ++ b) c d ∙ append_assoc a b (c ++ d) ∙ ap (λ last. a ++ (b ++ (c ++ last))) (sym (append-nil d))

-- the entry, with the attributes that were put
pub root-entry : (rows : List Numbered) (who : Requester) (request : SearchRequest) → reply.Entry [] (flat_map (root_sent_of request) (roots_with (suffix_name (view_in rows who)))) ≡ root_entry (view_in rows who) request
unfolding root_entry
root-entry rows who request =
    ap (λ (sent : List KindValues). reply.Entry [] sent)
    (roots-one (is_root_chosen request.selection) (sent_root request.kinds_only) (root_attributes (view_in rows who)))

-- an attribute's values, as they were written
pub one-value : (made : RootAttribute) (name : List ℕ) (operational : Bool) (text value : List ℕ) → made ≡ record { name = name; operational = operational; values = text ∷ [] } → text ≡ value
    → made ≡ record { name = name; operational = operational; values = value ∷ [] }
one-value made name operational text value is e = is ∙ ap (λ (values : List (List ℕ)). attribute values) (ap (λ text. text ∷ []) e)
  where
    attribute : List (List ℕ) → RootAttribute
    attribute values = record { name = name; operational = operational; values = values }

pub two-values : (made : RootAttribute) (name : List ℕ) (operational : Bool) (text other value last : List ℕ) → made ≡ record { name = name; operational = operational; values = text ∷ other ∷ [] } → text ≡ value → other ≡ last
    → made ≡ record { name = name; operational = operational; values = value ∷ last ∷ [] }
two-values made name operational text other value last is e f = is ∙ ap (λ (values : List (List ℕ)). attribute values) (ap (λ text. text ∷ other ∷ []) e ∙ ap (λ other. value ∷ other ∷ []) f)
  where
    attribute : List (List ℕ) → RootAttribute
    attribute values = record { name = name; operational = operational; values = values }

-- four attributes, one behind the other
pub sent-four : (f : RootAttribute → List KindValues) (s0 s1 s2 s3 s4 : List KindValues) (r1 r2 r3 r4 a b c d : RootAttribute) → s0 ≡ [] → s1 ≡ s0 ++ f r1 → s2 ≡ s1 ++ f r2 → s3 ≡ s2 ++ f r3 → s4 ≡ s3 ++ f r4
    → r1 ≡ a → r2 ≡ b → r3 ≡ c → r4 ≡ d → s4 ≡ f a ++ (f b ++ (f c ++ (f d ++ [])))
sent-four f s0 s1 s2 s3 s4 r1 r2 r3 r4 a b c d e0 e1 e2 e3 e4 ea eb ec ed =
    let first : s1 ≡ [] ++ f a = e1 ∙ ap (λ s. s ++ f r1) e0 ∙ ap (λ r. [] ++ f r) ea in
    let second : s2 ≡ ([] ++ f a) ++ f b = e2 ∙ ap (λ s. s ++ f r2) first ∙ ap (λ r. ([] ++ f a) ++ f r) eb in
    let third : s3 ≡ (([] ++ f a) ++ f b) ++ f c = e3 ∙ ap (λ s. s ++ f r3) second ∙ ap (λ r. (([] ++ f a) ++ f b) ++ f r) ec in
    e4 ∙ ap (λ s. s ++ f r4) third ∙ ap (λ r. ((([] ++ f a) ++ f b) ++ f c) ++ f r) ed ∙ four (f a) (f b) (f c) (f d)
