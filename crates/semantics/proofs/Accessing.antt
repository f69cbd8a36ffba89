-- Where accesses stand.
use Rattle.std.proofs.Common.{◌≡◌, ℕ, ◌<◌, ◌≤◌, List, length, Some, None, ap, ⊎_elim}
use Rattle.std.proofs.lemmas.Bool.{cases_lt}
use Rattle.std.proofs.lemmas.List.{get_or_past}
use Rattle.semantics.specs.Events.{access_of, access_at}
use Rattle.semantics.specs.Program.{nothing}
use Rattle.semantics.specs.declared.access.Access.TheVariants.{Reading}
use Rattle.semantics.specs.declared.placed.Placed.{Placed}

-- nothing is accessed past the last place
past : (ps : List Placed) (x : ℕ) → length ps ≤ x → access_at ps x ≡ None
past ps x h = ap (λ p. access_of ps x p.instruction) (get_or_past ps x nothing h)

-- what reads stands among the places
pub reading : (ps : List Placed) (x l v : ℕ) → access_at ps x ≡ Some (Reading l v) → x < length ps
reading ps x l v e =
    ⊎_elim
    (λ h. h)
    (λ h. let n = past ps x h in absurd (cc))
    (cases_lt x (length ps))
