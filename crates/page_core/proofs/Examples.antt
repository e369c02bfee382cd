-- Pages, computed on known values and small views.
use Rattle.std.proofs.Common.{◌≡◌, ℕ, true, false, List, [], ◌∷◌, ◌++◌, codes, Some, None, Ok, Err, refl}
use Prim.Native.String.{String}
use Rattle.ber_elements.specs.Heading.{length_at, header_at}
use Rattle.ber_elements.specs.Integer.{int_at, int_octets}
use Rattle.ber_elements.specs.write.Spelling.{length_octets}
use Rattle.ber_layout.specs.element.Pieces.{piece_of, piece_at, tagged_at, number_in}
use Rattle.ber_layout.specs.components.Components.{required_of}
use Rattle.ber_layout.specs.Spellings.{element_octets}
use Rattle.ber_layout.specs.Layouts.{reads_into}
use Rattle.dir_tree.specs.schema_tables.Attributes.{attributes}
use Rattle.dir_tree.specs.dn_names.name.Names.{TypeAndValue, RdnSequence}
use Rattle.dir_tree.specs.dn_names.NameOrder.{name_cmp, is_same, is_prefix_of}
use Rattle.dir_tree.specs.dn_names.Classes.{class_of}
use Rattle.dir_tree.specs.dn_names.Modes.{text_fault}
use Rattle.dir_tree.specs.dn_names.Printing.{print_value, print_by, print_name}
use Rattle.dir_tree.specs.dn_names.Reading.{written_of}
use Rattle.dir_tree.specs.dn_names.Resolving.{resolve}
use Rattle.dir_tree.specs.dn_names.parsing.NameText.{read_name}
use Rattle.ldap_msg.specs.ldap_filter.filter.Filters.Filter.{Present}
use Rattle.ldap_msg.specs.declared.kinds.SearchScope.TheVariants.{WholeSubtree}
use Rattle.ldap_msg.specs.declared.kinds.SearchRequest.{SearchRequest}
use Rattle.ldap_msg.specs.declared.kinds.Reply.{Reply}
use Rattle.ldap_msg.specs.declared.kinds.Reply.TheVariants as reply
use Rattle.ldap_msg.specs.declared.operations.ResultCode.TheVariants as code
use Rattle.ldap_msg.specs.Replies.{reply_octets}
use Rattle.read_model.specs.Views.{Row, View}
use Rattle.page_core.specs.Values.{page_of, page_octets}
use Rattle.page_core.specs.Endings.{done, page_end}
use Rattle.page_core.specs.Starts.{start_of}
use Rattle.page_core.specs.Pages.{Paged, last_name, next_cookie, page_of_rows, fits_page, ended, is_success, page_sized, page_from, page_replies}

-- a value with the size 2 and no cookie; with the size 300 and a cookie, its lengths not the shortest
first_page : page_of (0x30 ∷ 5 ∷ 2 ∷ 1 ∷ 2 ∷ 4 ∷ 0 ∷ []) ≡ Some (record { size = 2; cookie = [] })
unfolding page_of reads_into required_of tagged_at piece_at piece_of number_in header_at length_at int_at
first_page = refl

second_page : page_of (0x30 ∷ 0x81 ∷ 7 ∷ 2 ∷ 2 ∷ 1 ∷ 44 ∷ 4 ∷ 1 ∷ 97 ∷ []) ≡ Some (record { size = 300; cookie = codes "a" })
unfolding page_of reads_into required_of tagged_at piece_at piece_of number_in header_at length_at int_at
second_page = refl

-- none is read with something behind the value or behind the cookie, with a size below 0, without a cookie, and of
-- nothing
followed : page_of (0x30 ∷ 5 ∷ 2 ∷ 1 ∷ 2 ∷ 4 ∷ 0 ∷ 0 ∷ []) ≡ None
unfolding page_of reads_into required_of tagged_at piece_at piece_of number_in header_at length_at int_at
followed = refl

cookie_followed : page_of (0x30 ∷ 7 ∷ 2 ∷ 1 ∷ 2 ∷ 4 ∷ 0 ∷ 4 ∷ 0 ∷ []) ≡ None
unfolding page_of reads_into required_of tagged_at piece_at piece_of number_in header_at length_at int_at
cookie_followed = refl

below_zero : page_of (0x30 ∷ 5 ∷ 2 ∷ 1 ∷ 255 ∷ 4 ∷ 0 ∷ []) ≡ None
unfolding page_of reads_into required_of tagged_at piece_at piece_of number_in header_at length_at int_at
below_zero = refl

without_cookie : page_of (0x30 ∷ 3 ∷ 2 ∷ 1 ∷ 2 ∷ []) ≡ None
unfolding page_of reads_into required_of tagged_at piece_at piece_of number_in header_at length_at int_at
without_cookie = refl

nothing : page_of [] ≡ None
unfolding page_of reads_into required_of tagged_at piece_at piece_of number_in header_at length_at int_at
nothing = refl

-- the end of a page
written_end : page_end 2 (codes "ou=lab,dc=example")
    ≡ 0x30 ∷ 0x42 ∷ 0x02 ∷ 0x01 ∷ 0x02 ∷ 0x65 ∷ 0x07 ∷ 0x0a ∷ 0x01 ∷ 0x00 ∷ 0x04 ∷ 0x00 ∷ 0x04 ∷ 0x00 ∷ 0xa0 ∷ 0x34 ∷ 0x30 ∷ 0x32
    ∷ 0x04 ∷ 0x16 ∷ codes "1.2.840.113556.1.4.319" ++ 0x04 ∷ 0x18 ∷ 0x30 ∷ 0x16 ∷ 0x02 ∷ 0x01 ∷ 0x00 ∷ 0x04 ∷ 0x11 ∷ codes "ou=lab,dc=example"
unfolding page_end element_octets length_octets int_octets
written_end = refl

-- where pages begin: the empty cookie at the start, and no page where the cookie is no name or the empty one
at_start : start_of [] ≡ Some []
at_start = refl

no_name : start_of (codes "zz") ≡ None
unfolding read_name text_fault class_of
no_name = refl

empty_name : start_of (codes " ") ≡ None
unfolding read_name text_fault resolve written_of class_of
empty_name = refl

-- a name of one RDN for each letter
abbrev rdn : String → List TypeAndValue
rdn name = record { kind = 1; value = record { octets = codes name; key = codes name } } ∷ []

abbrev top : RdnSequence
top = rdn "t" ∷ []

-- three entries on which all is allowed, and one on which nothing is
abbrev allowed : RdnSequence → Row
allowed name = record { entry = record { name = name; attributes = [] }; allows = λ item permission. true }

abbrev closed : RdnSequence → Row
closed name = record { entry = record { name = name; attributes = [] }; allows = λ item permission. false }

abbrev first : Row
first = allowed (rdn "t" ∷ rdn "a" ∷ [])

abbrev second : Row
second = closed (rdn "t" ∷ rdn "b" ∷ [])

abbrev third : Row
third = allowed (rdn "t" ∷ rdn "c" ∷ [])

abbrev asked : SearchRequest
asked = record { base = []; scope = WholeSubtree; size = 0; kinds_only = false; filter = Present (codes "objectClass"); selection = [] }

-- a cookie is the printed name of the last entry that is sent, and there is none where no more are left
more_left : next_cookie 2 (allowed top ∷ first ∷ third ∷ []) ≡ codes "cn=a,cn=t"
unfolding attributes class_of print_value print_by print_name
more_left = refl

none_left : next_cookie 3 (allowed top ∷ first ∷ third ∷ []) ≡ []
none_left = refl

-- a size 0 ends a listing, and a cookie that is no name is refused
size_zero : page_from (allowed top ∷ []) asked None top 0 (Some top) ≡ record { replies = []; cookie = Some [] }
size_zero = refl

bad_cookie : page_from (allowed top ∷ []) asked None top 1 None ≡ ended code.UnwillingToPerform
bad_cookie = refl

-- a limit fits a page where it is no more than its size
limit_fits : fits_page (record asked { size = 2 }) 2 ≡ true
limit_fits = refl

limit_above : fits_page (record asked { size = 3 }) 2 ≡ false
limit_above = refl

no_limit : fits_page asked 2 ≡ false
no_limit = refl
