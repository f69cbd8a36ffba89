-- A text has at most one tree: from the same words, the longest formula, term or factor is one and the same.
use Rattle.std.proofs.Common.{◌≡◌, List, ◌∷◌, sym, refl, subst, ap₂}
use Rattle.formulas.specs.Grammar.{Level, formula, Reads, one_term, more_terms, one_factor, more_factors, name, bracketed}
use Rattle.formulas.specs.Items.{NotFirst}
use Rattle.formulas.specs.Readers.{Stops}
use Rattle.models.specs.Trees.{Tree, both, either}
use Rattle.formulas.specs.declared.token.Token.{Token}
use Rattle.formulas.specs.declared.token.Token.TheVariants.{And, Or, Close}

pub or_no_and : (us : List Token) → NotFirst And (Or ∷ us)
or_no_and us vs e = cc

pub close_stops : (us : List Token) → Stops formula (Close ∷ us)
close_stops us = (λ vs e. cc, λ vs e. cc)

pub same_rest : {t : Token} {us vs : List Token} → t ∷ us ≡ t ∷ vs → us ≡ vs
same_rest e = cc

moved : {l : Level} {ts us vs : List Token} {t : Tree} → us ≡ ts → Reads l ts t vs → Reads l us t vs
moved {l = l} {vs = vs} {t = t} e r = subst (λ (x : List Token). Reads l x t vs) (sym e) r

pub determined : {l : Level} {ts us vs : List Token} {t u : Tree} → Reads l ts t us → Stops l us → Reads l ts u vs → Stops l vs → (t ≡ u) × (us ≡ vs)
determined (one_term r) s (one_term q) p = determined r s.0 q p.0
determined (one_term r) s (more_terms q k) p = absurd (s.1 _ (determined r s.0 q (or_no_and _)).1)
determined (more_terms r k) s (one_term q) p = absurd (p.1 _ (sym (determined r (or_no_and _) q p.0).1))
determined (more_terms r k) s (more_terms q m) p =
    let first = determined r (or_no_and _) q (or_no_and _) in
    let rest = determined k s (moved (same_rest first.1) m) p in
    (ap₂ either first.0 rest.0, rest.1)
determined (one_factor r) s (one_factor q) p = determined r tt q tt
determined (one_factor r) s (more_factors q k) p = absurd (s _ (determined r tt q tt).1)
determined (more_factors r k) s (one_factor q) p = absurd (p _ (sym (determined r tt q tt).1))
determined (more_factors r k) s (more_factors q m) p =
    let first = determined r tt q tt in
    let rest = determined k s (moved (same_rest first.1) m) p in
    (ap₂ both first.0 rest.0, rest.1)
determined name s name p = (refl, refl)
determined (bracketed r) s (bracketed q) p =
    let inner = determined r (close_stops _) q (close_stops _) in
    (inner.0, same_rest inner.1)
