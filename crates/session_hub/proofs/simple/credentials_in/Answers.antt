-- A version, a name and a password are the parts of a bind.
use Rattle.std.proofs.Common.{rules}
use Rattle.session_model.specs.ber_layout.Layouts.{reads_into}
use Rattle.session_model.specs.ber_layout.components.Components.{required_of, any_of}
use Rattle.session_hub.proofs.simple.credentials_in.Goals as goal

pub returns-in_err-version : goal.returns-in_err-version
unfolding reads_into required_of any_of
returns-in_err-version c = search rules

pub returns-in_err-name : goal.returns-in_err-name
unfolding reads_into required_of any_of
returns-in_err-name c = search rules

pub returns-in_err-auth : goal.returns-in_err-auth
unfolding reads_into required_of any_of
returns-in_err-auth c = search rules

pub returns-in_err-number_of : goal.returns-in_err-number_of
unfolding reads_into required_of any_of
returns-in_err-number_of c = search rules

pub returns-then-branch-ne3 : goal.returns-then-branch-ne3
unfolding reads_into required_of any_of
returns-then-branch-ne3 c = search rules

pub returns : goal.returns
unfolding reads_into required_of any_of
returns c = search rules
