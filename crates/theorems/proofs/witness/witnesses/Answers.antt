use Rattle.theorems.proofs.OrderToChoice.{order_to_choice}
use Rattle.theorems.proofs.Tested.{from_test}
use Rattle.theorems.proofs.witness.witnesses.Goals as goal

pub returns : goal.returns
returns g c = record {
  told = c.fulfils.ensures;
  allowed = λ e. order_to_choice _ _ (from_test (record { tells = c.fulfils.ensures }) e).1;
}
