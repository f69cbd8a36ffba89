use Rattle.std.proofs.Common.{◌≡◌, ◌<◌, length, sym, refl, ap, Some, None, ◌∙◌, arith, length-set}
use Rattle.std.proofs.lemmas.List.{get_or-replicate}
use Rattle.semantics.specs.Program.{nothing}
use Rattle.semantics.specs.Values.{held}
use Rattle.semantics.specs.declared.placed.Placed.{Placed}
use Rattle.semantics.proofs.Growing.{at_front}
use Rattle.semantics.proofs.Running.{other_thread, no_target, at_target}
use Rattle.semantics.proofs.values.registers_at.Goals as goal
use Rattle.semantics.proofs.values.registers_at.Goals.{then-placed-thread+in-Some, else-placed-thread, else-placed-thread-via-else-placed-thread, else-placed-thread-via-then-placed-thread+in-None-1}

pub loop-placed-init : goal.loop-placed-init
loop-placed-init c = (refl, λ k h. get_or-replicate 256 k 0 0 h)

pub loop-placed-preserved : goal.loop-placed-preserved
loop-placed-preserved c =
    let ps = c.args.places.now in
    let t = c.args.thread in
    let n = c.loop-placed.placed-index in
    let rs = c.loop-placed.registers in
    let is = λ (d : Placed). at_front ps c.args.end n d nothing c.loop-placed-test.true in
    let known = c.loop-placed.invariant.1 in
    elim c.if-placed-thread.branch [
      | then-placed-thread+in-Some w ↦
          let target = w.from.result in
          let long : target < length rs = omega arith in (
            simp (w.registers-is, length-set) c.loop-placed.invariant.0,
            simp w.registers-is (at_target ps t n _ (is _) rs known target w.result_of.result w.if-placed-thread.true (sym w.target.ensures ∙ w.in-Some.is ∙ ap Some (sym w.from.ensures)) (w.result_of.ensures (held ps t n) known) long),
          )
      | else-placed-thread w ↦
          elim w.else-placed-thread.branch [
            | else-placed-thread-via-else-placed-thread w' ↦ (simp w.registers-is c.loop-placed.invariant.0, simp w.registers-is (other_thread ps t n _ (is _) rs known w'.if-placed-thread.false))
            | else-placed-thread-via-then-placed-thread+in-None-1 w' ↦
                let none : w'.target.result ≡ None = cc in
                (simp w.registers-is c.loop-placed.invariant.0, simp w.registers-is (no_target ps t n _ (is _) rs known (sym w'.target.ensures ∙ none)))
          ]
    ]
