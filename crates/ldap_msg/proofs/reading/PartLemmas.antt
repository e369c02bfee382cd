-- What is made of the parts of a value is the value.
use Rattle.std.proofs.Common.{◌≡◌, ℕ, zero, suc, ◌≤◌, arith, List, [], ◌∷◌, map, refl, ap, ◌∙◌}
use Rattle.std.specs.Coded.{le_prop}
use Rattle.ldap_msg.specs.declared.kinds.KindValues.{KindValues}
use Rattle.ldap_msg.specs.declared.kinds.ModifyOperation.{ModifyOperation}
use Rattle.ldap_msg.specs.declared.kinds.ModifyOperation.TheVariants.{Add, Delete, Replace, Other}
use Rattle.ldap_msg.specs.declared.kinds.ModifyRequest.{ModifyRequest}
use Rattle.ldap_msg.specs.declared.kinds.Change.{Change}
use Rattle.ldap_msg.specs.declared.kinds.AddRequest.{AddRequest}
use Rattle.ldap_msg.specs.declared.kinds.Control.{Control}
use Rattle.ldap_msg.specs.Attributes.{attribute_parts, attribute_from, operation_number, operation_from, change_parts, change_from}
use Rattle.ldap_msg.specs.Kinds.{modify_parts, modify_from, add_parts, add_from}
use Rattle.ldap_msg.specs.Controls.{control_parts, control_from}

-- a list of values is made of the parts of each
pub map_back : {A X : Type 0} (to : A → X) (from : X → A) → ((value : A) → from (to value) ≡ value) → (values : List A) → map from (map to values) ≡ values
map_back to from back [] = refl
map_back {A} to from back (value ∷ values) =
    ap (λ (first : A). first ∷ map from (map to values)) (back value) ∙ ap (λ (rest : List A). value ∷ rest) (map_back to from back values)

pub attributes_back : (values : List KindValues) → map attribute_from (map attribute_parts values) ≡ values
attributes_back values = map_back attribute_parts attribute_from (λ value. refl) values

pub controls_back : (values : List Control) → map control_from (map control_parts values) ≡ values
controls_back values = map_back control_parts control_from (λ value. refl) values

-- what is made of the number of an operation is the operation
other_back : (number : ℕ) (beyond : 3 ≤ number) → operation_from number ≡ Other (record { number = number; beyond = beyond })
other_back zero beyond = absurd (omega arith)
other_back (suc zero) beyond = absurd (omega arith)
other_back (suc (suc zero)) beyond = absurd (omega arith)
other_back (suc (suc (suc more))) beyond =
    ap (λ (is : 3 ≤ suc (suc (suc more))). Other (record { number = suc (suc (suc more)); beyond = is })) (le_prop _ beyond)

operation_back : (operation : ModifyOperation) → operation_from (operation_number operation) ≡ operation
operation_back Add = refl
operation_back Delete = refl
operation_back Replace = refl
operation_back (Other other) = other_back other.number other.beyond

change_back : (change : Change) → change_from (change_parts change) ≡ change
change_back change = ap (λ (operation : ModifyOperation). record { operation = operation; body = change.body }) (operation_back change.operation)

pub modify_back : (request : ModifyRequest) → modify_from (modify_parts request) ≡ request
modify_back request =
    let made : List Change → ModifyRequest = λ (changes : List Change). record { name = request.name; changes = changes } in
    ap made (map_back change_parts change_from change_back request.changes)

pub add_back : (request : AddRequest) → add_from (add_parts request) ≡ request
add_back request =
    let made : List KindValues → AddRequest = λ (attributes : List KindValues). record { name = request.name; attributes = attributes } in
    ap made (attributes_back request.attributes)
