-- The parts that are written one after the other are the text of a decision.
use Rattle.std.proofs.Common.{◌≡◌, ℕ, true, List, [], ◌++◌, map, Option, Some, None, refl, sym, ap, subst, ◌∙◌}
use Rattle.std.specs.Prelude.{flat_map, codes, is_some, Result, IfOk}
use Rattle.std.specs.Option.{option_map_or, option_and_then}
use Rattle.std.proofs.lemmas.List.{append_assoc}
use Rattle.dir_tree.specs.dn_names.name.Names.{RdnSequence}
use Rattle.dir_tree.specs.dn_names.Printing.{print_name, print_by}
use Rattle.dir_tree.specs.Entry.{EntryInformation}
use Rattle.dir_tree.specs.tree.Trees.{named_in}
use Rattle.dir_tree.specs.tree.Numbered.{Numbered, IsNumberedTree, AreDistinct, entries_of, entry_of, find_name}
use Rattle.dir_tree.proofs.TreeTheorems.{entry_of-found, found_both}
use Rattle.acdf_filters.specs.admin_scope.InForce.{in_force}
use Rattle.acdf_filters.specs.aci_item.declared.permission.Permission.{Permission}
use Rattle.acdf_filters.specs.declared.asking.Requester.{Requester}
use Rattle.acdf_filters.specs.Asking.{Protected, Asked, asked_on}
use Rattle.acdf_filters.specs.Filters.{left_by_explicit}
use Rattle.acdf_filters.specs.Granted.{placed_of}
use Rattle.explanation.specs.declared.steps.Counts.{Counts}
use Rattle.explanation.specs.declared.steps.Steps.{Steps}
use Rattle.explanation.specs.Explained.{IsExplained, name_at, kept_at, kept_of}
use Rattle.explanation.specs.Texts.{subentry_line, count_line, count_lines, kept_line, outcome_line, entry_text, explained_text}

-- the lines of counts
abbrev pub lines_of : Counts → List ℕ
lines_of counts =
    count_line (codes "listed") counts.listed
    ++ (count_line (codes "users") counts.users
    ++ (count_line (codes "item") counts.item
    ++ (count_line (codes "permission") counts.permission
    ++ (count_line (codes "precedence") counts.precedence
    ++ (count_line (codes "class") counts.class
    ++ count_line (codes "explicit") counts.explicit)))))

counts-said : (rows : List Numbered) (entry : EntryInformation) (asked : Asked) (steps : Steps) → IsExplained rows entry asked steps
    → lines_of steps.counts ≡ count_lines asked (placed_of (entries_of rows) asked.who entry)
counts-said rows entry asked steps is =
    let counts = is.counts in
    rw (counts.listed, counts.users, counts.item, counts.permission, counts.precedence, counts.class, counts.explicit) refl

pub text-said : (rows : List Numbered) (entry : EntryInformation) (asked : Asked) (steps : Steps) (subentries : List EntryInformation) (text with_subentries with_counts with_kept whole : List ℕ)
    → IsExplained rows entry asked steps → subentries ≡ in_force (entries_of rows) entry
    → text ≡ []
    → with_subentries ≡ text ++ flat_map subentry_line subentries
    → with_counts ≡ with_subentries ++ lines_of steps.counts
    → with_kept ≡ with_counts ++ flat_map kept_line (map (kept_at rows) steps.kept.items)
    → whole ≡ with_kept ++ outcome_line steps.granted
    → whole ≡ entry_text (entries_of rows) entry asked
text-said rows entry asked steps subentries text with_subentries with_counts with_kept whole is found first second third fourth fifth =
    let a = flat_map subentry_line (in_force (entries_of rows) entry) in
    let b = count_lines asked (placed_of (entries_of rows) asked.who entry) in
    let c = flat_map kept_line (map (kept_at rows) steps.kept.items) in
    let d = outcome_line steps.granted in
    let one : with_subentries ≡ a = second ∙ ap (λ (t : List ℕ). t ++ flat_map subentry_line subentries) first ∙ ap (flat_map subentry_line) found in
    let two : with_counts ≡ a ++ b = third ∙ ap (λ (t : List ℕ). t ++ lines_of steps.counts) one ∙ ap (λ (t : List ℕ). a ++ t) (counts-said rows entry asked steps is) in
    let three : with_kept ≡ (a ++ b) ++ c = fourth ∙ ap (λ (t : List ℕ). t ++ c) two in
    fifth ∙ ap (λ (t : List ℕ). t ++ d) three
    ∙ append_assoc (a ++ b) c d
    ∙ append_assoc a b (c ++ d)
    ∙ ap (λ xs. a ++ (b ++ (flat_map kept_line xs ++ d))) is.kept
    ∙ ap (λ g. a ++ (b ++ (flat_map kept_line (map kept_of (left_by_explicit asked (placed_of (entries_of rows) asked.who entry))) ++ outcome_line g))) is.granted

-- nothing is written of the name of an entry that is not there
pub print_name-none : (rows : List Numbered) (id : ℕ) → entry_of id rows ≡ None → print_name (name_at rows id) ≡ []
unfolding print_name print_by
print_name-none rows id e = ap (λ (o : Option EntryInformation). print_name (option_map_or (λ entry. entry.name) o [])) e

-- so the text is that of the entry that is found
pub text-found : {T E : Type 0} (bytes : T → List ℕ) (r : Result T E) (rows tree : List Numbered) (who : Requester) (target : RdnSequence) (item : Protected) (permission : Permission) (id : ℕ)
    → tree ≡ rows → IsNumberedTree tree → Some id ≡ find_name target tree
    → ((entry : EntryInformation) → entry_of id rows ≡ Some entry → IfOk r (λ t. bytes t ≡ entry_text (entries_of rows) entry (asked_on who entry item permission)))
    → IfOk r (λ t. bytes t ≡ explained_text (entries_of rows) who target item permission)
unfolding explained_text
text-found {T = T} {E = E} bytes r rows tree who target item permission id same good e h =
    let distinct : AreDistinct rows = subst AreDistinct same good.distinct in
    let found : Some id ≡ find_name target rows = subst (λ (t : List Numbered). Some id ≡ find_name target t) same e in
    let there : is_some (named_in target (entries_of rows)) ≡ true = sym (found_both target rows) ∙ ap is_some (sym found) in
    let known : entry_of id rows ≡ named_in target (entries_of rows) =
    ap (λ (o : Option ℕ). option_and_then (λ n. entry_of n rows) o) found ∙ entry_of-found target rows distinct in
    by (named_in target (entries_of rows)) refl there known
  where
    asked : EntryInformation → Asked
    asked entry = asked_on who entry item permission

    by : (o : Option EntryInformation) → named_in target (entries_of rows) ≡ o → is_some o ≡ true → entry_of id rows ≡ o
        → IfOk r (λ t. bytes t ≡ option_map_or (λ entry. entry_text (entries_of rows) entry (asked entry)) (named_in target (entries_of rows)) (codes "absent\n"))
    by None f some known = absurd cc
    by (Some entry) f some known =
        subst (λ (whole : List ℕ). IfOk r (λ t. bytes t ≡ whole))
        (sym (ap (λ (o : Option EntryInformation). option_map_or (λ entry. entry_text (entries_of rows) entry (asked entry)) o (codes "absent\n")) f)) (h entry known)

pub text-absent : (rows tree : List Numbered) (who : Requester) (target : RdnSequence) (item : Protected) (permission : Permission) → tree ≡ rows → IsNumberedTree tree → None ≡ find_name target tree
    → codes "absent\n" ≡ explained_text (entries_of rows) who target item permission
unfolding explained_text
text-absent rows tree who target item permission same good e =
    let distinct : AreDistinct rows = subst AreDistinct same good.distinct in
    let missing : None ≡ find_name target rows = subst (λ (t : List Numbered). None ≡ find_name target t) same e in
    let none : None ≡ named_in target (entries_of rows) =
    ap (λ (o : Option ℕ). option_and_then (λ n. entry_of n rows) o) missing ∙ entry_of-found target rows distinct in
    ap (λ (o : Option EntryInformation). option_map_or (λ entry. entry_text (entries_of rows) entry (asked_on who entry item permission)) o (codes "absent\n")) none

-- the item that is asked for, as the decision takes it
pub same_item : (entries : List EntryInformation) (who : Requester) (target : RdnSequence) (taken asked : Protected) (permission : Permission)
    → taken ≡ asked → explained_text entries who target taken permission ≡ explained_text entries who target asked permission
same_item entries who target taken asked permission is = ap (λ item. explained_text entries who target item permission) is
