-- A device just made, all that was read, and the last line.
use Rattle.std.proofs.Common.{arith, rules}
use Rattle.std.proofs.lemmas.Grind.{common_steps}
use Rattle.std.proofs.lemmas.Result.{on_ok_weaker}
use Rattle.session.proofs.Inputs.{made_state, session_answers}
use Rattle.session.proofs.run.Goals as goal

pub returns : goal.returns
returns g c =
    on_ok_weaker c.write_all.result
    (λ put. session_answers _ _ _ _ _ _ _ _ _ _ (made_state _ _ _ (search rules) c.make.ensures) c.in_ok-read_all.ensures.answered c.in_ok-read_all.ensures.ends
    c.run_last-n.ensures.ends.text put (grind (arith, common_steps)))
    c.write_all.ensures.bytes
