-- An anonymous bind is a simple bind of no name, and is read as one.
use Rattle.std.proofs.Common.{◌≡◌, ℕ, List, [], Option, Some, None, sym, ap, ◌∙◌}
use Rattle.session_model.specs.ldap_msg.declared.kinds.Message.{Message}
use Rattle.session_hub.specs.declared.simple.SimpleBind.{SimpleBind}
use Rattle.session_hub.specs.SimpleBinds.{Credentials, message_for, simple_in}
use Rattle.session_hub.specs.FirstAnswers.{IsAnonymousBind}

-- the name of a simple bind
abbrev name_in : Option (ℕ × Credentials) → List ℕ
name_in None = []
name_in (Some found) = found.1.0

pub anonymous_name : (said : Option Message) (read : SimpleBind) → IsAnonymousBind said → said ≡ Some (message_for read) → read.name.now ≡ []
anonymous_name said read bind is = ap (λ (m : Option Message). name_in (simple_in m)) (sym is ∙ bind.says)

pub anonymous_found : (said : Option Message) → IsAnonymousBind said → simple_in said ≡ None → ⊥
anonymous_found said bind none = let found : ◌≡◌ {A = Option (ℕ × Credentials)} (Some (bind.id, ([], []))) None = ap simple_in (sym bind.says) ∙ none in cc
