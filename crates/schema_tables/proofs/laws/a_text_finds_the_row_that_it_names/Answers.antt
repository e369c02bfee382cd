-- A row that is found has the name, and no earlier row does.
use Rattle.schema_tables.proofs.Theorems.{NamesAttribute-from_attr_of, attr_of-from_NamesAttribute, NamesClass-from_class_of, class_of-from_NamesClass}
use Rattle.schema_tables.proofs.laws.a_text_finds_the_row_that_it_names.Goals as goal

pub returns : goal.returns
returns c =
    record {
      attributes =
          λ text number. (NamesAttribute-from_attr_of text number, attr_of-from_NamesAttribute text number);
      classes =
          λ text number. (NamesClass-from_class_of text number, class_of-from_NamesClass text number);
    }
