-- Names, records and events of small samples.
use Rattle.std.proofs.Common.{◌≡◌, ◌++◌, length, refl, ap, arith}
use Rattle.std.proofs.lemmas.Fmt.{decimal_digit}
use Rattle.std.specs.Prelude.{codes}
use Rattle.sample_input.specs.SampleFile.{person_name, person_record}
use Rattle.sample_input.specs.SampleEvents.{sample_events}

-- odd numbers are in the open unit, even ones in the other
open_person : person_name 1 ≡ codes "uid=u1,ou=open,dc=sample"
unfolding person_name
open_person = ap (λ digits. codes "uid=u" ++ (digits ++ codes ",ou=open,dc=sample")) (decimal_digit 1 (omega arith))

shut_person : person_name 8 ≡ codes "uid=u8,ou=shut,dc=sample"
unfolding person_name
shut_person = ap (λ digits. codes "uid=u" ++ (digits ++ codes ",ou=shut,dc=sample")) (decimal_digit 8 (omega arith))

-- the record of the eighth person
eighth_person : person_record 8 ≡ codes "\ndn: uid=u8,ou=shut,dc=sample\nobjectClass: account\nuid: u8\n"
unfolding person_record person_name
eighth_person =
    ap (λ digits. codes "\ndn: " ++ ((codes "uid=u" ++ (digits ++ codes ",ou=shut,dc=sample")) ++ (codes "\nobjectClass: account\nuid: u" ++ (digits ++ codes "\n"))))
    (decimal_digit 8 (omega arith))

-- it opens, binds, and searches once for each of three persons
three_persons : length (sample_events 3) ≡ 5
unfolding sample_events
three_persons = refl
