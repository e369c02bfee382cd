-- The running state of the decision: what of the tuples weighed so far decides. Each tuple is weighed once.
use Rattle.std.specs.Prelude.{nat_lt, Bool, true, false, ◌&&◌, List, map, if◌then◌else◌}
use Rattle.std.specs.List.{list_any, list_all}
use Rattle.acdf_filters.specs.users.Choices.{greatest, least, is_filled}
use Rattle.acdf_filters.specs.weighing.LastFilters.{Keys, of_highest_precedence, of_most_specific_class, of_most_specific_item}
use Rattle.acdf_filters.specs.declared.standing.Standing.{Standing}

-- before any tuple was weighed
abbrev pub initial : Standing
initial = record { filled = false; precedence = 0; rank = 3; explicit = false; grants = true }

-- that of one tuple
abbrev pub alone : {A : Type 0} → Keys A → A → Standing
alone keys x = record {
  filled = true;
  precedence = keys.precedence x;
  rank = keys.rank x;
  explicit = keys.explicit x;
  grants = keys.grants x;
}

-- one that is like those seen counts with them
abbrev pub with_like : Standing → Standing → Standing
with_like one seen = record one { grants = seen.grants && one.grants }

-- one that names the item explicitly takes the place of those that do not
abbrev pub with_item : Standing → Standing → Standing
with_item one seen =
    if one.explicit
    then (if seen.explicit then with_like one seen else one)
    else (if seen.explicit then seen else with_like one seen)

-- one of a more specific class takes the place of those of others
abbrev pub with_class : Standing → Standing → Standing
with_class one seen =
    if nat_lt one.rank seen.rank then one else if nat_lt seen.rank one.rank then seen else with_item one seen

-- one of a higher precedence takes the place of those of lower ones
abbrev pub with_one : Standing → Standing → Standing
with_one one seen =
    if nat_lt seen.precedence one.precedence then one
    else if nat_lt one.precedence seen.precedence then seen else with_class one seen

-- the state that the filters give, of tuples that all stay, cover the item and have the permission
abbrev pub standing : {A : Type 0} → Keys A → List A → Standing
standing keys xs = record {
  filled = is_filled (of_most_specific_item keys xs);
  precedence = greatest (map keys.precedence xs);
  rank = least (map keys.rank (of_highest_precedence keys xs));
  explicit = list_any keys.explicit (of_most_specific_class keys xs);
  grants = list_all keys.grants (of_most_specific_item keys xs);
}

-- the state with a tuple weighed, of one that passes the first three filters
abbrev pub weighed : {A : Type 0} → Keys A → (A → Bool) → Standing → A → Standing
weighed keys passes seen x = if passes x then with_one (alone keys x) seen else seen
