-- Controls (RFC 4511 4.1.11).
use Rattle.std.specs.Prelude.{List, [], ◌∷◌, map, Option, Some, None}
use Rattle.ber_layout.specs.Layouts.{Layout, Value}
use Rattle.ber_layout.specs.Layouts.Layout.{AnyOctets, End, Then, Maybe, Marked, Each}
use Rattle.ldap_msg.specs.declared.kinds.Control.{Control}

-- Control ::= SEQUENCE { controlType LDAPOID, criticality BOOLEAN DEFAULT FALSE, controlValue OCTET STRING OPTIONAL }
abbrev pub control_layout : Layout
control_layout = Then 0x04 AnyOctets (Marked 0x01 (Maybe 0x04 AnyOctets End))

abbrev pub control_parts : Control → Value control_layout
control_parts control = (control.kind, (control.critical, (control.value, tt)))

abbrev pub control_from : Value control_layout → Control
control_from (kind, (critical, (value, _))) = record { kind = kind; critical = critical; value = value }

-- Controls ::= SEQUENCE OF control Control
abbrev pub controls_layout : Layout
controls_layout = Each 0x30 control_layout End

-- absent controls are none
abbrev pub controls_from : Option (Value controls_layout) → List Control
controls_from None = []
controls_from (Some (controls, _)) = map control_from controls

-- no controls are absent
abbrev pub controls_parts : List Control → Option (Value controls_layout)
controls_parts [] = None
controls_parts (control ∷ controls) = Some (map control_parts (control ∷ controls), tt)
