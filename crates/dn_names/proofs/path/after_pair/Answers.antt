-- Behind the type's number stands the key.
use Rattle.std.proofs.Common.{◌≡◌, ◌++◌, ap, ◌∙◌}
use Rattle.dn_names.specs.path.PathKeys.{escape}
use Rattle.dn_names.specs.path.PathReading.{after_key}
use Rattle.dn_names.proofs.path.PathLemmas.{after_key-escape}
use Rattle.dn_names.proofs.path.after_pair.Goals as goal

pub returns-in-Some-clause-exact : goal.returns-in-Some-clause-exact
returns-in-Some-clause-exact c = λ kind key more e.
    (let there = c.in-Some.ensures.cases.0 in
    let tail : c.in-Some.key.now ≡ escape key ++ more = cc in
    c.after_key.ensures.exact ∙ ap after_key tail ∙ after_key-escape key more)
