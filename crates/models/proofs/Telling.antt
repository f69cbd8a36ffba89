-- Answers that tell whether something holds, put together.
use Rattle.std.proofs.Common.{Bool, true, false, ◌&&◌}
use Rattle.models.specs.Tells.{Tells}

pub told_both : (a b : Bool) (P Q : Type 0) → Tells a P → Tells b Q → Tells (a && b) (P × Q)
told_both true true P Q p q = (p, q)
told_both true false P Q p q = λ h. q h.1
told_both false true P Q p q = λ h. p h.0
told_both false false P Q p q = λ h. p h.0

pub told_again : (r : Bool) (P Q : Type 0) → (P → Q) → (Q → P) → Tells r P → Tells r Q
told_again true P Q to back h = to h
told_again false P Q to back h = λ q. h (back q)
