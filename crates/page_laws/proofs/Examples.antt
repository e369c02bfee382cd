-- Listings, computed on pages made by hand, and the pages of a small view.
use Rattle.std.proofs.Common.{◌≡◌, ℕ, true, false, List, [], ◌∷◌, codes, Some, None, filter, refl}
use Prim.Native.String.{String}
use Rattle.dir_tree.specs.schema_tables.Attributes.{attributes}
use Rattle.dir_tree.specs.dn_names.Classes.{class_of}
use Rattle.dir_tree.specs.dn_names.name.Names.{TypeAndValue, RdnSequence}
use Rattle.dir_tree.specs.dn_names.NameOrder.{name_cmp}
use Rattle.dir_tree.specs.dn_names.Printing.{print_value, print_by, print_name}
use Rattle.ldap_msg.specs.ldap_filter.filter.Filters.Filter.{Present}
use Rattle.ldap_msg.specs.declared.kinds.SearchScope.TheVariants.{WholeSubtree}
use Rattle.ldap_msg.specs.declared.kinds.SearchRequest.{SearchRequest}
use Rattle.ldap_msg.specs.declared.kinds.Reply.{Reply}
use Rattle.ldap_msg.specs.declared.kinds.Reply.TheVariants as reply
use Rattle.read_model.specs.Views.{Row, View}
use Rattle.read_model.specs.Choosing.{sent_attributes, sent_entry}
use Rattle.page_core.specs.Endings.{done}
use Rattle.page_core.specs.Starts.{is_after}
use Rattle.page_core.specs.Pages.{Paged, page_of_rows, unpaged}
use Rattle.page_laws.specs.Listing.{listed}

-- two pages, of which the second comes with the cookie of the first and is the last
abbrev entry : String → Reply
entry name = reply.Entry (codes name) []

abbrev two_pages : List ℕ → Paged
two_pages [] = record { replies = entry "cn=a" ∷ entry "cn=b" ∷ []; cookie = Some (codes "cn=b") }
two_pages (octet ∷ octets) = record { replies = entry "cn=c" ∷ []; cookie = Some [] }

two_join : listed two_pages 2 [] ≡ Some (entry "cn=a" ∷ entry "cn=b" ∷ entry "cn=c" ∷ [])
two_join = refl

-- one page is too few, three are not too many, and from the second on the others are left
one_too_few : listed two_pages 1 [] ≡ None
one_too_few = refl

three_join : listed two_pages 3 [] ≡ Some (entry "cn=a" ∷ entry "cn=b" ∷ entry "cn=c" ∷ [])
three_join = refl

the_second_alone : listed two_pages 1 (codes "cn=b") ≡ Some (entry "cn=c" ∷ [])
the_second_alone = refl

-- what comes without a cookie isn't listed
without_cookie : listed (λ cookie. unpaged (done ∷ [])) 5 [] ≡ None
without_cookie = refl

-- a name of one RDN for each letter, and entries on which all is allowed
abbrev rdn : String → List TypeAndValue
rdn name = record { kind = 1; value = record { octets = codes name; key = codes name } } ∷ []

abbrev allowed : RdnSequence → Row
allowed name = record { entry = record { name = name; attributes = [] }; allows = λ item permission. true }

abbrev first : Row
first = allowed (rdn "t" ∷ [])

abbrev second : Row
second = allowed (rdn "t" ∷ rdn "a" ∷ [])

abbrev third : Row
third = allowed (rdn "t" ∷ rdn "b" ∷ [])

abbrev rows : View
rows = first ∷ second ∷ third ∷ []

abbrev asked : SearchRequest
asked = record { base = []; scope = WholeSubtree; size = 0; kinds_only = false; filter = Present (codes "objectClass"); selection = [] }

-- a page of two from the start, and the one behind its cookie's name
from_the_start : page_of_rows asked 2 (filter (is_after []) rows)
    ≡ record { replies = entry "cn=t" ∷ entry "cn=a,cn=t" ∷ []; cookie = Some (codes "cn=a,cn=t") }
unfolding name_cmp sent_entry sent_attributes attributes class_of print_value print_by print_name
from_the_start = refl

behind_the_second : page_of_rows asked 2 (filter (is_after second.entry.name) rows) ≡ record { replies = entry "cn=b,cn=t" ∷ []; cookie = Some [] }
unfolding name_cmp sent_entry sent_attributes attributes class_of print_value print_by print_name
behind_the_second = refl

-- a name that no entry has says a place as well
behind_a_name_between : filter (is_after (rdn "t" ∷ rdn "a" ∷ rdn "z" ∷ [])) rows ≡ third ∷ []
unfolding name_cmp
behind_a_name_between = refl
