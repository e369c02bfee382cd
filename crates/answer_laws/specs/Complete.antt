-- Reads that are granted at each step, and how a search ends (RFC 4511 4.5 and 4.10, X.511 9.2 and 10.2).
use Rattle.std.specs.Prelude.{◌≡◌, ◌≢◌, ℕ, Bool, true, false, List, [], ◌∷◌, ◌++◌, Some, Ok}
use Rattle.std.specs.List.{AllByRecursion}
use Rattle.dir_tree.specs.schema_tables.Attributes.{attr_of}
use Rattle.dir_tree.specs.dn_names.name.Names.{Keyed, RdnSequence}
use Rattle.dir_tree.specs.dn_names.parsing.NameText.{read_name}
use Rattle.dir_tree.specs.dn_names.NameValues.{value_of}
use Rattle.dir_tree.specs.Entry.{EntryInformation, has_kind}
use Rattle.dir_tree.specs.tree.Trees.{named_in}
use Rattle.acdf_filters.specs.aci_item.declared.permission.Permission.TheVariants.{Read, Compare, DiscloseOnError}
use Rattle.acdf_filters.specs.declared.asking.Requester.{Requester}
use Rattle.acdf_filters.specs.Asking.{Entry, Kind}
use Rattle.acdf_filters.specs.Granted.{granted}
use Rattle.ldap_msg.specs.declared.operations.ResultCode.{ResultCode}
use Rattle.ldap_msg.specs.declared.kinds.SearchRequest.{SearchRequest}
use Rattle.ldap_msg.specs.declared.kinds.CompareRequest.{CompareRequest}
use Rattle.ldap_msg.specs.declared.kinds.Reply.{Reply}
use Rattle.ldap_msg.specs.declared.kinds.Reply.TheVariants as reply
use Rattle.ldap_msg.specs.declared.operations.Ending.TheVariants as ending
use Rattle.read_model.specs.Views.{result_of}

-- the base of the search is the name of an entry, of which the requester may know
pub record HasKnownBase (entries : List EntryInformation) (who : Requester) (request : SearchRequest) : Type 0 where
  pub name : RdnSequence
  pub entry : EntryInformation
  pub reads : read_name request.base ≡ Ok name
  pub filled : name ≢ []
  pub named : named_in name entries ≡ Some entry
  pub disclosed : granted entries who entry Entry DiscloseOnError ≡ true

-- the compare is of a value of the type's syntax with an attribute of an entry, which the requester may read, and whose
-- attributes of the type it may compare
pub record IsComparable (entries : List EntryInformation) (who : Requester) (request : CompareRequest) : Type 0 where
  pub name : RdnSequence
  pub kind : ℕ
  pub asserted : Keyed
  pub entry : EntryInformation
  pub reads : read_name request.name ≡ Ok name
  pub filled : name ≢ []
  pub known : attr_of request.kind ≡ Some kind
  pub fits : value_of kind request.value ≡ Some asserted
  pub named : named_in name entries ≡ Some entry
  pub readable : granted entries who entry Entry Read ≡ true
  pub compared : granted entries who entry (Kind kind) Compare ≡ true
  pub there : has_kind kind entry.attributes ≡ true

-- the reply sends an entry
abbrev pub is_entry : Reply → Bool
is_entry (reply.Entry name attributes) = true
is_entry (reply.Ended ending result) = false
is_entry (reply.Extended result name value) = false

-- the replies send entries, or none, and the last one ends the search with the code
pub record EndsWith (code : ResultCode) (replies : List Reply) : Type 0 where
  pub sent : List Reply
  pub entries : AllByRecursion (λ reply. is_entry reply ≡ true) sent
  pub ends : replies ≡ sent ++ reply.Ended ending.Done (result_of code) ∷ []
