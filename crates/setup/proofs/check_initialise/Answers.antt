-- `setup::check_initialise` meets its contract.
use Rattle.state.proofs.Admitted.{inside, refusing}
use Rattle.model.specs.Calls.{set_checks}
use Rattle.setup.proofs.check_initialise.Goals as goal

pub returns-then-not-is_sound : goal.returns-then-not-is_sound
returns-then-not-is_sound c = unfold set_checks in (search refusing depth 12)

pub returns-then-attribute-ne0 : goal.returns-then-attribute-ne0
returns-then-attribute-ne0 c = unfold set_checks in (search refusing depth 12)

pub may_initialise-requires : goal.may_initialise-requires
may_initialise-requires c = search inside

pub returns-then-not-may_initialise : goal.returns-then-not-may_initialise
returns-then-not-may_initialise c = unfold set_checks in (search refusing depth 12)

pub returns : goal.returns
returns c = unfold set_checks in (search refusing depth 12)
