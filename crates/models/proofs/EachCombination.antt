-- What holds of all pairs of two kinds in a list that has each combination of the three facts.
use Rattle.std.proofs.Common.{◌≡◌, ℕ, ◌<◌, Bool, true, false, List, length, get_or, sym, subst}
use Rattle.std.specs.Bool.{MatchBool}
use Rattle.std.specs.List.{AllWithin, HoldsAt, Contains}
use Rattle.std.proofs.lemmas.List.Elements.{All-contains, All-from_all_within, Contains-get_or}
use Rattle.models.specs.Summaries.{facts}
use Rattle.models.specs.Tells.{Tells}
use Rattle.models.specs.declared.facts.Facts.{Facts}
use Rattle.models.specs.declared.facts.Kind.{Kind}

module _ (P : Facts → Type 0) (x y : Kind) (xs : List Facts) (only : (f : Facts) → Contains xs f → (f.earlier ≡ x) × (f.later ≡ y)) (every : (s d c : Bool) → Contains xs (facts x y s d c)) where
  at : ((s d c : Bool) → P (facts x y s d c)) → (f : Facts) → Contains xs f → P f
  at h f among =
      let kinds = only f among in
      subst (λ (k : Kind). P (facts f.earlier k f.same_addr f.data_dep f.control_dep)) (sym kinds.1)
      (subst (λ (k : Kind). P (facts k y f.same_addr f.data_dep f.control_dep)) (sym kinds.0) (h f.same_addr f.data_dep f.control_dep))

  pub told_of_each : (r : Bool) → MatchBool r (AllWithin P xs 0 (length xs)) ((k : ℕ) × (k < length xs) × HoldsAt (λ f. P f → ⊥) xs k) → Tells r ((s d c : Bool) → P (facts x y s d c))
  told_of_each true all = λ s d c. All-contains P xs (facts x y s d c) (All-from_all_within P xs all) (every s d c)
  told_of_each false some = λ h. let d = facts x y false false false in some.2 d (at h (get_or xs some.0 d) (Contains-get_or xs some.0 d some.1))
