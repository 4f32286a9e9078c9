-- `setup::check_count` meets its contract.
use Rattle.state.proofs.Admitted.{inside, refusing}
use Rattle.model.specs.Calls.{set_checks}
use Rattle.setup.proofs.check_count.Goals as goal

pub returns-then-not-is_sound : goal.returns-then-not-is_sound
returns-then-not-is_sound c = unfold set_checks in (search refusing depth 12)

pub returns-then-not-is_count : goal.returns-then-not-is_count
returns-then-not-is_count c = unfold set_checks in (search refusing depth 12)

pub count_is_open-requires : goal.count_is_open-requires
count_is_open-requires c = search inside

pub returns-then-not-count_is_open : goal.returns-then-not-count_is_open
returns-then-not-count_is_open c = unfold set_checks in (search refusing depth 12)

pub returns : goal.returns
returns c = unfold set_checks in (search refusing depth 12)
