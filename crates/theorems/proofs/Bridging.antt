-- Happens-before and orders agree.
use Rattle.std.proofs.Common.{ℕ, ◌↔◌}
use Rattle.semantics.specs.Events.{Events}
use Rattle.semantics.specs.HappensBefore.{Allowed}
use Rattle.theorems.specs.Statements.{Fulfillable}
use Rattle.theorems.proofs.ChoiceToOrder.{choice_to_order}
use Rattle.theorems.proofs.OrderToChoice.{order_to_choice}

pub bridge : (e : Events) → ((x y : ℕ) → Dec (e.Kept x y)) → Allowed e ↔ Fulfillable e
bridge e kept = (λ a. choice_to_order e a.0 a.1 kept, λ f. order_to_choice e f.0 f.1)
