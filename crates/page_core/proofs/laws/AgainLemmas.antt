-- What is written of pages says itself, and is read again.
use Rattle.std.proofs.Common.{◌≡◌, ℕ, ◌≤◌, List, [], ◌∷◌, ◌++◌, Option, Some, refl, sym, ap, arith, append-nil}
use Rattle.ber_elements.specs.write.Element.{IsTag}
use Rattle.ber_layout.specs.element.Pieces.{◌>>=◌}
use Rattle.ber_layout.specs.Spellings.{element_octets}
use Rattle.ber_layout.specs.Layouts.{Value, Says, Fits, IsShort, reads, writes}
use Rattle.ber_layout.specs.Ranges.{Within}
use Rattle.ber_layout.proofs.Theorems.{element_spells, writes_says, reads_again, fits_within}
use Rattle.ldap_msg.specs.Results.{result_layout}
use Rattle.ldap_msg.specs.Replies.{reply_layout, reply_content, Replies, reply_of}
use Rattle.ldap_msg.proofs.Theorems.{reply_is_complete}
use Rattle.page_core.specs.declared.page.Page.{Page}
use Rattle.page_core.specs.Values.{value_layout, value_parts, page_from, SaysPage, page_of, page_octets}
use Rattle.page_core.specs.Endings.{done, end_parts, page_end}
use Rattle.page_core.specs.Laws.{IsWritablePage, IsWritableEnd, EndsPage}

page_within : (page : Page) → page.size ≤ 2147483647 → Within value_layout (value_parts page)
page_within page most = (((omega arith, most), (tt, tt)), tt)

page_fits : (page : Page) → IsWritablePage page → Fits value_layout (value_parts page)
page_fits page is = fits_within value_layout (value_parts page) (page_within page is.range) is.short

-- a written value says what is asked for
pub page_says : (page : Page) → IsWritablePage page → SaysPage page (page_octets page)
page_says page is = writes_says value_layout (value_parts page) refl (page_fits page is)

-- and is read again
pub page_again : (page : Page) → IsWritablePage page → page_of (page_octets page) ≡ Some page
unfolding page_of
page_again page is =
    ap (λ (o : Option (Value value_layout)). o >>= λ (parts : Value value_layout). Some (page_from parts))
    (reads_again value_layout (value_parts page) refl (page_fits page is))

-- ---- the end of a page

sequence : IsTag 0x30
sequence e = absurd cc

end_within : (id : ℕ) (cookie : List ℕ) → id ≤ 2147483647 → Within reply_layout (end_parts id cookie)
end_within id cookie most =
    let response : IsTag 0x65 = λ e. absurd cc in
    ((omega arith, most), (response, ((((tt, (tt, tt)), tt), tt), tt)))

end_fits : (id : ℕ) (cookie : List ℕ) → IsWritableEnd id cookie → Fits reply_layout (end_parts id cookie)
end_fits id cookie is = fits_within reply_layout (end_parts id cookie) (end_within id cookie is.range) is.short

-- the written end of a page is the message of its parts
pub end_says : (id : ℕ) (cookie : List ℕ) → IsWritableEnd id cookie → EndsPage id cookie (page_end id cookie)
unfolding page_end
end_says id cookie is =
    let content = writes reply_layout (end_parts id cookie) in
    record {
      content = content;
      front = element_octets 0x30 content;
      rest = [];
      element = element_spells 0x30 content sequence is.short;
      inner = writes_says reply_layout (end_parts id cookie) refl (end_fits id cookie is);
      next = refl;
      joins = sym (append-nil (element_octets 0x30 content));
    }

done_content : IsShort (reply_content done) → Says result_layout (0, ([], (tt, tt))) (reply_content done)
done_content short =
    writes_says result_layout (0, ([], (tt, tt))) refl (fits_within result_layout (0, ([], (tt, tt))) ((omega arith, omega arith), (tt, (tt, tt))) short)

-- which says that the search is done
done_says : (id : ℕ) (cookie : List ℕ) → IsWritableEnd id cookie → Replies id done (page_end id cookie)
done_says id cookie is =
    let says = end_says id cookie is in
    record {
      content = says.content;
      front = says.front;
      rest = says.rest;
      element = says.element;
      inner = record {
        parts = end_parts id cookie;
        says = says.inner;
        id = refl;
        tag = refl;
        reply = done_content (end_fits id cookie is).1.0.1;
      };
      next = says.next;
      joins = says.joins;
    }

-- and is read so
pub end_again : (id : ℕ) (cookie : List ℕ) → IsWritableEnd id cookie → reply_of (page_end id cookie) ≡ Some (id, done)
end_again id cookie is = reply_is_complete (page_end id cookie) id done (done_says id cookie is)
