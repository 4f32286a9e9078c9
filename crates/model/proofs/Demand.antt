-- Demand 3, whole: the proposition of specs/Demands holds.
use Rattle.model.specs.Record.{entry_read}
use Rattle.model.specs.Demands.{Demand3}
use Rattle.model.proofs.Soundness.{stopped-ready}
use Rattle.model.proofs.Listed.{family}
use Rattle.model.proofs.Asked.{get-answers}
use Rattle.model.proofs.Restores.{by_attributes}
use Rattle.model.proofs.Recorded.{by_record}

pub demand3 : Demand3
unfolding entry_read
demand3 from hf = record {
  gets = λ a m. get-answers from hf (family from (stopped-ready from hf) m);
  by_attributes = λ to ht same cs r w. by_attributes from to hf ht same cs r w;
  by_record = λ to ht same buf room. by_record from to hf ht same buf room;
}
