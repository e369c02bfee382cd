-- Which requests read outside a subtree, computed.
use Rattle.std.proofs.Common.{◌≡◌, true, false, [], ◌∷◌, codes, Ok, refl}
use Rattle.dir_tree.specs.dn_names.name.Names.{RdnSequence}
use Rattle.dir_tree.specs.dn_names.NameOrder.{is_prefix_of, is_same, name_cmp}
use Rattle.dir_tree.specs.dn_names.parsing.NameText.{read_name}
use Rattle.dir_tree.specs.dn_names.Modes.{text_fault}
use Rattle.dir_tree.specs.dn_names.Resolving.{resolve}
use Rattle.dir_tree.specs.dn_names.Reading.{written_of}
use Rattle.session_model.specs.ldap_msg.declared.kinds.Auth.TheVariants.{Simple}
use Rattle.session_model.specs.ldap_msg.declared.kinds.BindRequest.{BindRequest}
use Rattle.session_model.specs.ldap_msg.declared.kinds.Request.TheVariants as request
use Rattle.session_model.specs.ldap_msg.declared.kinds.Update.TheVariants as update
use Rattle.session_hub.specs.Twins.{is_read_within, reads_outside}

-- a name of one RDN, and one of the same key below it
abbrev top : RdnSequence
top = (record { kind = 11; value = record { octets = codes "Secret"; key = codes "secret" } } ∷ []) ∷ []

abbrev below : RdnSequence
below = (record { kind = 11; value = record { octets = codes "SECRET"; key = codes "secret" } } ∷ []) ∷ (record { kind = 11; value = record { octets = codes "a"; key = codes "a" } } ∷ []) ∷ []

-- a name is within where it begins with the other, by keys; the empty name and what is no name aren't
itself : is_read_within top (Ok top) ≡ true
unfolding is_prefix_of is_same name_cmp
itself = refl

one_below : is_read_within top (Ok below) ≡ true
unfolding is_prefix_of is_same name_cmp
one_below = refl

one_above : is_read_within below (Ok top) ≡ false
unfolding is_prefix_of is_same name_cmp
one_above = refl

-- an anonymous bind reads outside each subtree but that of the empty name
abbrev anonymous : BindRequest
anonymous = record { version = 3; name = []; auth = Simple [] }

anonymous_outside : reads_outside top (request.Bind anonymous) ≡ true
unfolding is_prefix_of is_same name_cmp read_name text_fault resolve written_of
anonymous_outside = refl

anonymous_within : reads_outside [] (request.Bind anonymous) ≡ false
unfolding is_prefix_of is_same name_cmp read_name text_fault resolve written_of
anonymous_within = refl

-- a delete changes entries, and an abandon doesn't
a_delete : reads_outside top (request.Update (update.Delete (record { name = codes "dc=example" }))) ≡ false
a_delete = refl

an_abandon : reads_outside top (request.Abandon 3) ≡ true
an_abandon = refl
