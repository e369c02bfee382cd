-- How searches end and what a compare comes to, computed over a small tree, and that the premises can be met.
use Rattle.std.proofs.Common.{◌≡◌, List, [], ◌∷◌, true, false, Some, None, Ok, refl}
use Rattle.std.specs.Prelude.{codes}
use Rattle.dir_tree.specs.schema_tables.Attributes.{attr_of}
use Rattle.dir_tree.specs.dn_names.name.Names.{Keyed, RdnSequence}
use Rattle.dir_tree.specs.dn_names.NameOrder.{name_cmp, is_same, is_prefix_of}
use Rattle.dir_tree.specs.dn_names.parsing.NameText.{read_name}
use Rattle.dir_tree.specs.dn_names.NameValues.{value_of}
use Rattle.dir_tree.specs.Entry.{EntryInformation}
use Rattle.dir_tree.specs.tree.Trees.{named_in}
use Rattle.dir_tree.specs.EntryClasses.{has_class}
use Rattle.dir_tree.specs.Points.{is_point, is_specific_point, is_inner_point, is_subentry}
use Rattle.acdf_filters.specs.admin_scope.Areas.{areas}
use Rattle.acdf_filters.specs.admin_scope.InForce.{in_force}
use Rattle.acdf_filters.specs.aci_item.declared.level.Level.TheVariants.{Anyone}
use Rattle.acdf_filters.specs.aci_item.declared.permission.Permission.TheVariants.{Read, Compare, DiscloseOnError}
use Rattle.acdf_filters.specs.aci_item.Permission.{Bit}
use Rattle.acdf_filters.specs.aci_item.item.Items.{Item, UserFirst}
use Rattle.acdf_filters.specs.aci_item.AciText.{item_of}
use Rattle.acdf_filters.specs.aci_item.AciTuples.{tuples_of_item}
use Rattle.acdf_filters.specs.declared.asking.Requester.{Requester}
use Rattle.acdf_filters.specs.Asking.{Entry, Kind}
use Rattle.acdf_filters.specs.Tuples.{items_in, inherited, tuples_of}
use Rattle.acdf_filters.specs.users.Users.{ranks_of}
use Rattle.acdf_filters.specs.Covering.{covers, is_explicit}
use Rattle.acdf_filters.specs.Filters.{decided}
use Rattle.acdf_filters.specs.Granted.{granted}
use Rattle.ldap_msg.specs.declared.kinds.SearchScope.TheVariants.{BaseObject}
use Rattle.ldap_msg.specs.declared.kinds.SearchRequest.{SearchRequest}
use Rattle.ldap_msg.specs.declared.kinds.CompareRequest.{CompareRequest}
use Rattle.ldap_msg.specs.ldap_filter.filter.Filters.Filter.{Present}
use Rattle.ldap_msg.specs.declared.operations.ResultCode.TheVariants as code
use Rattle.ldap_msg.specs.declared.kinds.Reply.TheVariants as reply
use Rattle.ldap_msg.specs.declared.operations.Ending.TheVariants as ending
use Rattle.read_model.specs.Views.{Row, matched_name, result_of, result_with}
use Rattle.read_model.specs.Selecting.{is_selected, selected}
use Rattle.read_model.specs.SearchReplies.{found_replies, replies_at}
use Rattle.ldap_msg.specs.declared.kinds.Request.TheVariants as request
use Rattle.ldap_msg.specs.declared.kinds.Update.TheVariants as update
use Rattle.answer_laws.specs.Asked.{AsksFor}
use Rattle.answer_laws.specs.Complete.{HasKnownBase, IsComparable, is_entry, EndsWith}

-- the name of one RDN
abbrev suffix : RdnSequence
suffix = (record { kind = 1; value = record { octets = codes "t"; key = codes "t" } } ∷ []) ∷ []

abbrev anonymous : Requester
anonymous = record { name = None; level = Anyone }

-- the bits that grant to know of, to read and to compare
abbrev grants : List Bit
grants =
    record { permission = DiscloseOnError; grants = true }
    ∷ record { permission = Read; grants = true }
    ∷ record { permission = Compare; grants = true }
    ∷ []

-- an item that grants them to all, on the entry and on a type
abbrev granting : Item
granting = record {
  tag = codes "o";
  precedence = 0;
  level = Anyone;
  first = UserFirst (record { all = true; this_entry = false; names = []; groups = []; subtrees = [] })
      (record {
        precedence = None;
        items = record {
          entry = true;
          all_kinds = false;
          kinds = 1 ∷ [];
          all_values = [];
          all_kinds_and_values = false;
          values = [];
          self_values = [];
          max_counts = [];
          restricted = [];
        };
        bits = grants;
      } ∷ []);
}

-- a suffix with that item of its own, and with an attribute of the type
abbrev suffix_with : Keyed → EntryInformation
suffix_with text = record {
  name = suffix;
  attributes = record { kind = 33; values = text ∷ [] }
      ∷ record { kind = 1; values = record { octets = codes "t"; key = codes "t" } ∷ [] }
      ∷ [];
}

-- what the item grants to an anonymous requester
the_suffix_is_known : (text : Keyed) → item_of text.octets ≡ Some granting
    → granted (suffix_with text ∷ []) anonymous (suffix_with text) Entry DiscloseOnError ≡ true
unfolding name_cmp is_same is_prefix_of has_class is_subentry is_point is_specific_point is_inner_point areas in_force
    items_in inherited tuples_of tuples_of_item covers is_explicit ranks_of decided granted
the_suffix_is_known text e = rw e refl

the_suffix_is_read : (text : Keyed) → item_of text.octets ≡ Some granting
    → granted (suffix_with text ∷ []) anonymous (suffix_with text) Entry Read ≡ true
unfolding name_cmp is_same is_prefix_of has_class is_subentry is_point is_specific_point is_inner_point areas in_force
    items_in inherited tuples_of tuples_of_item covers is_explicit ranks_of decided granted
the_suffix_is_read text e = rw e refl

the_type_is_compared : (text : Keyed) → item_of text.octets ≡ Some granting
    → granted (suffix_with text ∷ []) anonymous (suffix_with text) (Kind 1) Compare ≡ true
unfolding name_cmp is_same is_prefix_of has_class is_subentry is_point is_specific_point is_inner_point areas in_force
    items_in inherited tuples_of tuples_of_item covers is_explicit ranks_of decided granted
the_type_is_compared text e = rw e refl

the_suffix_is_found : (text : Keyed) → named_in suffix (suffix_with text ∷ []) ≡ Some (suffix_with text)
unfolding name_cmp is_same
the_suffix_is_found text = refl

-- so a search of it has a known base, and a compare of its attribute is granted
a_base_is_known : (text : Keyed) (request : SearchRequest) → item_of text.octets ≡ Some granting
    → read_name request.base ≡ Ok suffix → HasKnownBase (suffix_with text ∷ []) anonymous request
a_base_is_known text request e reads = record {
  name = suffix;
  entry = suffix_with text;
  reads = reads;
  filled = λ empty. absurd cc;
  named = the_suffix_is_found text;
  disclosed = the_suffix_is_known text e;
}

a_compare_is_granted : (text asserted : Keyed) (request : CompareRequest) → item_of text.octets ≡ Some granting
    → read_name request.name ≡ Ok suffix → attr_of request.kind ≡ Some 1 → value_of 1 request.value ≡ Some asserted
    → IsComparable (suffix_with text ∷ []) anonymous request
a_compare_is_granted text asserted request e reads known fits = record {
  name = suffix;
  kind = 1;
  asserted = asserted;
  entry = suffix_with text;
  reads = reads;
  filled = λ empty. absurd cc;
  known = known;
  fits = fits;
  named = the_suffix_is_found text;
  readable = the_suffix_is_read text e;
  compared = the_type_is_compared text e;
  there = refl;
}

-- a base that may not be known of is answered otherwise, with success for no scope
abbrev closed : Row
closed = record { entry = record { name = suffix; attributes = [] }; allows = λ item permission. false }

abbrev asked : SearchRequest
asked = record { base = []; scope = BaseObject; size = 0; kinds_only = false; filter = Present (codes "objectClass"); selection = [] }

a_base_that_is_not_known : replies_at (closed ∷ []) asked None suffix ≡ reply.Ended ending.Done (result_with code.NoSuchObject []) ∷ []
unfolding name_cmp is_same is_prefix_of matched_name is_selected selected found_replies replies_at
a_base_that_is_not_known = refl

-- an entry, and the end
one_entry : EndsWith code.Success (reply.Entry [] [] ∷ reply.Ended ending.Done (result_of code.Success) ∷ [])
one_entry = record { sent = reply.Entry [] [] ∷ []; entries = (refl, tt); ends = refl }

-- another reply is none
a_reply_to_a_compare_is_no_entry : is_entry (reply.Ended ending.Compare (result_of code.Success)) ≡ false
a_reply_to_a_compare_is_no_entry = refl

-- a message without controls asks for its request
a_delete : AsksFor (record { id = 3; request = request.Update (update.Delete (record { name = codes "dc=t" })); controls = [] }) (request.Update (update.Delete (record { name = codes "dc=t" })))
a_delete = record { asks = refl; accepted = refl }
