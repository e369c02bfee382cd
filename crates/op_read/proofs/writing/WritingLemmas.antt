-- What is written of an entry, element by element, is what the layouts say.
use Rattle.std.proofs.Common.{◌≡◌, ℕ, Bool, true, false, List, [], ◌∷◌, ◌++◌, refl, sym, ap, ◌∙◌, map, append_assoc}
use Rattle.std.specs.Prelude.{flat_map, if◌then◌else◌}
use Rattle.std.specs.List.{list_any}
use Rattle.std.proofs.lemmas.List.{append-nil}
use Rattle.dir_tree.specs.schema_tables.Attributes.{name_of}
use Rattle.dir_tree.specs.dn_names.name.Names.{Keyed}
use Rattle.dir_tree.specs.Entry.{Attribute}
use Rattle.ldap_msg.specs.ber_layout.Layouts.{writes}
use Rattle.ldap_msg.specs.ber_layout.Layouts.Layout.{AnyOctets, End, Each}
use Rattle.ldap_msg.specs.ber_layout.Spellings.{element_octets, each_octets}
use Rattle.ldap_msg.specs.declared.kinds.KindValues.{KindValues}
use Rattle.ldap_msg.specs.declared.kinds.SearchRequest.{SearchRequest}
use Rattle.ldap_msg.specs.Attributes.{attribute_layout, attribute_parts}
use Rattle.ldap_msg.specs.Replies.{reply_octets, IsShortReply}
use Rattle.page_core.specs.read_model.Views.{Row}
use Rattle.page_core.specs.read_model.Choosing.{is_chosen, readable_values, sent_attribute, sent_attributes, sent_entry}
use Rattle.op_read.specs.declared.choosing.Choice.{Choice}
use Rattle.op_read.specs.Choices.{chooses, sent_of}
use Rattle.op_read.specs.Sending.{sent_entries}
use Rattle.op_read.specs.Short.{Puts}
use Rattle.op_read.specs.Writing.{values_octets, attributes_octets, entry_of}
use Rattle.op_read.proofs.choosing.ChoosingLemmas.{sent-attributes}
use Rattle.op_read.proofs.sending.PutsLemmas.{puts-one}

-- an element for each, of what is made of them
each-made : {A B : Type 0} (tag : ℕ) (content : B → List ℕ) (made : A → B) (xs : List A) → flat_map (λ x. element_octets tag (content (made x))) xs ≡ each_octets tag content (map made xs)
each-made tag content made [] = refl
each-made tag content made (x ∷ xs) = ap (λ rest. element_octets tag (content (made x)) ++ rest) (each-made tag content made xs)

-- the content of the set of the values
set-octets : (kinds_only : Bool) (row : Row) (attribute : Attribute) → (if kinds_only then [] else values_octets (readable_values row attribute)) ≡ writes (Each 0x04 AnyOctets End) ((sent_attribute kinds_only row attribute).values, tt)
set-octets true row attribute = refl
set-octets false row attribute =
    each-made 0x04 (writes AnyOctets) (λ (value : Keyed). value.octets) (readable_values row attribute)
    ∙ sym (append-nil (each_octets 0x04 (writes AnyOctets) (map (λ value. value.octets) (readable_values row attribute))))

-- the type and the set
parts-octets : (kinds_only : Bool) (row : Row) (attribute : Attribute) → element_octets 0x04 (name_of attribute.kind) ++ element_octets 0x31 (if kinds_only then [] else values_octets (readable_values row attribute)) ≡ writes attribute_layout (attribute_parts (sent_attribute kinds_only row attribute))
parts-octets kinds_only row attribute =
    ap (λ set. element_octets 0x04 (name_of attribute.kind) ++ element_octets 0x31 set) (set-octets kinds_only row attribute)
    ∙ ap (λ set. element_octets 0x04 (name_of attribute.kind) ++ set) (sym (append-nil (element_octets 0x31 (writes (Each 0x04 AnyOctets End) ((sent_attribute kinds_only row attribute).values, tt)))))

-- written behind what stands there
pub parts-written : (kinds_only : Bool) (row : Row) (attribute : Attribute) (name before middle after : List ℕ) → name ≡ name_of attribute.kind → middle ≡ before ++ element_octets 0x04 name
    → after ≡ middle ++ element_octets 0x31 (if kinds_only then [] else values_octets (readable_values row attribute)) → after ≡ before ++ writes attribute_layout (attribute_parts (sent_attribute kinds_only row attribute))
parts-written kinds_only row attribute name before middle after named first second =
    second
    ∙ ap (λ written. written ++ element_octets 0x31 (if kinds_only then [] else values_octets (readable_values row attribute))) (first ∙ ap (λ name. before ++ element_octets 0x04 name) named)
    ∙ append_assoc before (element_octets 0x04 (name_of attribute.kind)) (element_octets 0x31 (if kinds_only then [] else values_octets (readable_values row attribute)))
    ∙ ap (λ written. before ++ written) (parts-octets kinds_only row attribute)

-- the content of the list of the attributes
list-octets : (choices : List Choice) (texts : List (List ℕ)) (kinds_only asked : Bool) (row : Row) → ((kind : ℕ) → list_any (chooses kind) choices ≡ is_chosen texts kind) → kinds_only ≡ asked
    → attributes_octets (flat_map (sent_of choices kinds_only row) row.entry.attributes) ≡ writes (Each 0x30 attribute_layout End) (map attribute_parts (sent_attributes texts asked row), tt)
list-octets choices texts kinds_only asked row same only =
    each-made 0x30 (writes attribute_layout) attribute_parts (flat_map (sent_of choices kinds_only row) row.entry.attributes)
    ∙ ap (λ (sent : List KindValues). each_octets 0x30 (writes attribute_layout) (map attribute_parts sent)) (sent-attributes choices texts kinds_only row same ∙ ap (λ asked. sent_attributes texts asked row) only)
    ∙ sym (append-nil (each_octets 0x30 (writes attribute_layout) (map attribute_parts (sent_attributes texts asked row))))

-- written behind what stands there, when none is left
pub list-written : (choices : List Choice) (texts : List (List ℕ)) (kinds_only asked : Bool) (row : Row) → ((kind : ℕ) → list_any (chooses kind) choices ≡ is_chosen texts kind) → kinds_only ≡ asked
    → (left : List Attribute) (before after : List ℕ) → left ≡ []
    → after ++ attributes_octets (flat_map (sent_of choices kinds_only row) left) ≡ before ++ attributes_octets (flat_map (sent_of choices kinds_only row) row.entry.attributes)
    → after ≡ before ++ writes (Each 0x30 attribute_layout End) (map attribute_parts (sent_attributes texts asked row), tt)
list-written choices texts kinds_only asked row same only left before after none whole =
    sym (append-nil after)
    ∙ ap (λ (left : List Attribute). after ++ attributes_octets (flat_map (sent_of choices kinds_only row) left)) (sym none)
    ∙ whole
    ∙ ap (λ written. before ++ written) (list-octets choices texts kinds_only asked row same only)

-- ---- the message

-- the octets of an entry's message, behind what stands there
pub entry-written : (id : ℕ) (request : SearchRequest) (row : Row) (before after : List ℕ) → after ≡ before ++ reply_octets id (entry_of request row) → IsShortReply id (entry_of request row)
    → Puts id (sent_entries request (row ∷ [])) before after
unfolding sent_entry
entry-written id request row before after put short = puts-one id (entry_of request row) before after put short
