-- What is read of octets is of octets: whatever is true of each octet of a text is true of each octet of the values that it
-- says, by whatever layout. So it is of what a message asks for.
use Rattle.std.proofs.Common.{◌≡◌, ℕ, ◌<◌, true, false, List, [], ◌∷◌, ◌++◌, map, Option, Some, None, sym, subst, inl, inr}
use Rattle.std.specs.List.{AllByRecursion}
use Rattle.base64.specs.GeneralPurpose.{IsBytes}
use Rattle.session_hub.specs.session_model.ber_layout.components.Components.{Follows, EachFollows}
use Rattle.session_hub.specs.session_model.ber_layout.Layouts.{Layout, Value}
use Rattle.session_hub.specs.session_model.ber_layout.Layouts as layouts
use Rattle.session_hub.specs.session_model.ber_layout.Layouts.Layout.{AnyOctets, Ignored, Number, Skipped, Flag, End, Further, FurtherBut, AnyElement, Then, Maybe, Marked, Each}
use Rattle.session_hub.specs.session_model.ldap_msg.declared.kinds.Message.{Message}
use Rattle.session_hub.specs.session_model.ldap_msg.declared.kinds.Request.{Request}
use Rattle.session_hub.specs.session_model.ldap_msg.declared.kinds.Request.TheVariants as request
use Rattle.session_hub.specs.session_model.ldap_msg.declared.kinds.Update.TheVariants as update
use Rattle.session_hub.specs.session_model.ldap_msg.Attributes.{attribute_layout, attribute_from, change_layout, change_from}
use Rattle.session_hub.specs.session_model.ldap_msg.Kinds.{modify_layout, modify_from, add_layout, add_from, rename_layout, rename_parts}
use Rattle.session_hub.specs.session_model.ldap_msg.reading.Contents.{SaysContent}
use Rattle.session_hub.specs.session_model.ldap_msg.reading.Messages.{message_layout, message_of}
use Rattle.session_hub.proofs.session_model_proofs.ldap_msg_proofs.Theorems.{message_sound}
use Rattle.change_replay.specs.change_records.Writable.{AreBytes}
use Rattle.change_replay.specs.Laws.{HasOctets, ChangesOctets, IsOfOctets}
use Rattle.loading_laws.specs.LoadableTrees.{AreOctets}
use Rattle.loading_laws.proofs.laws.OctetLemmas.{IsBytes-from_AreOctets}

-- what is true of each of a list is true of each of its parts
parts_all : {A : Type 0} (P : A → Type 0) (xs ys : List A) → AllByRecursion P (xs ++ ys) → AllByRecursion P xs × AllByRecursion P ys
parts_all P [] ys all = (tt, all)
parts_all P (x ∷ xs) ys all = let later = parts_all P xs ys all.1 in ((all.0, later.0), later.1)

-- of a value, if there is one
abbrev pub MayHold : {A : Type 0} → (A → Type 0) → Option A → Type 0
MayHold P None = Unit {0}
MayHold P (Some value) = P value

module _ (Q : ℕ → Type 0) where
  abbrev All : List ℕ → Type 0
  All octets = AllByRecursion Q octets

  -- of each octet of a value
  abbrev pub AllIn : (l : Layout) → Value l → Type 0
  AllIn AnyOctets value = All value
  AllIn Ignored value = Unit {0}
  AllIn (Number low high) value = Unit {0}
  AllIn (Skipped low high) value = Unit {0}
  AllIn Flag value = Unit {0}
  AllIn End value = Unit {0}
  AllIn Further value = Unit {0}
  AllIn (FurtherBut tag) value = Unit {0}
  AllIn (AnyElement next) value = All value.0.1 × AllIn next value.1
  AllIn (Then tag inner next) value = AllIn inner value.0 × AllIn next value.1
  AllIn (Maybe tag inner next) value = MayHold (AllIn inner) value.0 × AllIn next value.1
  AllIn (Marked tag next) value = AllIn next value.1
  AllIn (Each tag inner next) value = AllByRecursion (AllIn inner) value.0 × AllIn next value.1

  -- of the content of an element, and of what follows it
  content_all : (tag : ℕ) (Inner Next : List ℕ → Type 0) (bytes : List ℕ) → (found : Follows tag Inner Next bytes) → All bytes → All found.content × All found.rest
  content_all tag Inner Next bytes found all =
      let parts = parts_all Q found.front found.rest (subst All found.joins all) in
      let element = parts_all Q found.element.header found.content (subst All found.element.joined parts.0) in
      (element.1, parts.1)

  -- and of the values of elements in a row
  each_all : {A : Type 0} (tag : ℕ) (Inner : A → List ℕ → Type 0) (Next : List ℕ → Type 0) (P : A → Type 0) (Q' : Type 0)
      → ((value : A) (bytes : List ℕ) → Inner value bytes → All bytes → P value) → ((bytes : List ℕ) → Next bytes → All bytes → Q')
      → (values : List A) (bytes : List ℕ) → EachFollows tag Inner Next values bytes → All bytes → AllByRecursion P values × Q'
  each_all tag Inner Next P Q' inner next [] bytes says all = (tt, next bytes says all)
  each_all tag Inner Next P Q' inner next (value ∷ values) bytes says all =
      let parts = content_all tag (Inner value) (EachFollows tag Inner Next values) bytes says all in
      let later = each_all tag Inner Next P Q' inner next values says.rest says.next parts.1 in
      ((inner value says.content says.inner parts.0, later.0), later.1)

  pub says_all : (l : Layout) (value : Value l) (bytes : List ℕ) → layouts.Says l value bytes → All bytes → AllIn l value
  says_all AnyOctets value bytes says all = subst All (sym says) all
  says_all Ignored value bytes says all = tt
  says_all (Number low high) value bytes says all = tt
  says_all (Skipped low high) value bytes says all = tt
  says_all Flag value bytes says all = tt
  says_all End value bytes says all = tt
  says_all Further value bytes says all = tt
  says_all (FurtherBut tag) value bytes says all = tt
  says_all (AnyElement next) value bytes says all =
      let parts = content_all value.0.0 (λ content. value.0.1 ≡ content) (layouts.Says next value.1) bytes says all in
      (subst All (sym says.inner) parts.0, says_all next value.1 says.rest says.next parts.1)
  says_all (Then tag inner next) value bytes says all =
      let parts = content_all tag (layouts.Says inner value.0) (layouts.Says next value.1) bytes says all in
      (says_all inner value.0 says.content says.inner parts.0, says_all next value.1 says.rest says.next parts.1)
  says_all (Maybe tag inner next) (None, later) bytes says all = (tt, says_all next later bytes says all)
  says_all (Maybe tag inner next) (Some value, later) bytes says all =
      let parts = content_all tag (layouts.Says inner value) (layouts.Says next later) bytes says all in
      (says_all inner value says.content says.inner parts.0, says_all next later says.rest says.next parts.1)
  says_all (Marked tag next) (true, later) bytes says all =
      let parts = content_all tag _ (layouts.Says next later) bytes says all in says_all next later says.rest says.next parts.1
  says_all (Marked tag next) (false, later) bytes (inl says) all = says_all next later bytes says all
  says_all (Marked tag next) (false, later) bytes (inr says) all =
      let parts = content_all tag _ (layouts.Says next later) bytes says all in says_all next later says.rest says.next parts.1
  says_all (Each tag inner next) value bytes says all =
      each_all tag (layouts.Says inner) (layouts.Says next value.1) (AllIn inner) (AllIn next value.1)
      (λ one octets. says_all inner one octets) (λ octets. says_all next value.1 octets) value.0 bytes says all

-- ---- of octets

abbrev IsOctet : ℕ → Type 0
IsOctet octet = octet < 256

values-octets : (values : List (List ℕ)) → AllByRecursion (AllIn IsOctet AnyOctets) values → AllByRecursion IsBytes values
values-octets [] all = tt
values-octets (value ∷ values) all = (IsBytes-from_AreOctets value all.0, values-octets values all.1)

given-octets : (parts : List (Value attribute_layout)) → AllByRecursion (AllIn IsOctet attribute_layout) parts
    → AllByRecursion HasOctets (map attribute_from parts)
given-octets [] all = tt
given-octets (one ∷ parts) all = (values-octets one.1.0.0 all.0.1.0.0, given-octets parts all.1)

changes-octets : (parts : List (Value change_layout)) → AllByRecursion (AllIn IsOctet change_layout) parts
    → AllByRecursion ChangesOctets (map change_from parts)
changes-octets [] all = tt
changes-octets (one ∷ parts) all = (values-octets one.1.0.1.0.0 all.0.1.0.1.0.0, changes-octets parts all.1)

superior-octets : (superior : Option (List ℕ)) → MayHold (AllIn IsOctet AnyOctets) superior → AreBytes superior
superior-octets None all = tt
superior-octets (Some octets) all = IsBytes-from_AreOctets octets all

content-octets : (asked : Request) (content : List ℕ) → SaysContent asked content → AreOctets content → IsOfOctets asked
content-octets (request.Update (update.Modify modify)) content says all =
    let parts = says_all IsOctet modify_layout says.parts content says.says all in
    let is : IsOfOctets (request.Update (update.Modify (modify_from says.parts))) = (IsBytes-from_AreOctets says.parts.0 parts.0, changes-octets says.parts.1.0.0 parts.1.0.0) in
    subst (λ modify. IsOfOctets (request.Update (update.Modify modify))) says.is is
content-octets (request.Update (update.Add add)) content says all =
    let parts = says_all IsOctet add_layout says.parts content says.says all in
    let is : IsOfOctets (request.Update (update.Add (add_from says.parts))) = (IsBytes-from_AreOctets says.parts.0 parts.0, given-octets says.parts.1.0.0 parts.1.0.0) in
    subst (λ add. IsOfOctets (request.Update (update.Add add))) says.is is
content-octets (request.Update (update.Delete delete)) content says all = IsBytes-from_AreOctets delete.name (subst AreOctets (sym says) all)
content-octets (request.Update (update.Rename rename)) content says all =
    let parts = says_all IsOctet rename_layout (rename_parts rename) content says all in
    (IsBytes-from_AreOctets rename.name parts.0, IsBytes-from_AreOctets rename.new_rdn parts.1.0, superior-octets rename.superior parts.1.1.1.0)
content-octets other content says all = tt

pub message-octets : (bytes : List ℕ) (message : Message) → AreOctets bytes → message_of bytes ≡ Some message → IsOfOctets message.request
message-octets bytes message all read =
    let says = message_sound bytes message read in
    let content = content_all IsOctet 0x30 _ _ bytes says all in
    let parts = says_all IsOctet message_layout says.inner.parts says.content says.inner.says content.0 in
    content-octets message.request says.inner.parts.1.0.1 says.inner.request parts.1.0
