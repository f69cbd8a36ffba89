-- The texts of the named models' formulas have the trees that the models mean.
use Rattle.std.proofs.Common.{◌≡◌, ℕ, ◌+◌, ◌<◌, ◌≤◌, max, Bool, true, ◌&&◌, leb, ltb, List, [], ◌∷◌, length, take, refl, ap, arith, length-drop}
use Rattle.std.specs.List.{prefix_len}
use Rattle.std.specs.Str.{bytes_eq}
use Rattle.std.proofs.lemmas.Bool.{and_parts, leb-true, ltb-true}
use Rattle.std.proofs.lemmas.List.Sums.{prefix_len-le-length}
use Rattle.std.proofs.lemmas.Slice.Eq.{bytes_eq-Decides}
use Rattle.models.specs.Named.{formula_of}
use Rattle.models.specs.declared.Named.{Named}
use Rattle.models.specs.declared.Named.TheVariants.{Sc, Ibm370, Tso, Rmo}
use Rattle.models.specs.declared.Word.TheVariants.{True, ReadX, ReadY, WriteX, WriteY, FenceX, FenceY, SameAddr, DataDep, ControlDep}
use Rattle.formulas.specs.Grammar.{formula, Reads, one_term, more_terms, one_factor, more_factors, name, Forms}
use Rattle.formulas.specs.Texts.{text_of}
use Rattle.formulas.specs.declared.token.Token.{Token}
use Rattle.formulas.specs.declared.token.Token.TheVariants.{Name, And, Or}
use Rattle.formulas.specs.Items.{bytes_of}
use Rattle.formulas.specs.Words.{letter, Tokens}
use Rattle.formulas.proofs.Lexing.{blank, rest, rest_is, nothing_comes, known_comes, before, no_more}

-- whether the words and signs of s from i on are ts, by computing
abbrev spelled : List ℕ → ℕ → List Token → Bool
spelled s i [] = leb (length s) (i + prefix_len blank (rest s i))
spelled s i (t ∷ ts) =
    let k = i + prefix_len blank (rest s i) in
    let m = max (prefix_len letter (rest s k)) 1 in
    ltb k (length s) && (bytes_eq (take m (rest s k)) (bytes_of t) && spelled s (k + m) ts)

tokens : (s : List ℕ) (i : ℕ) (ts : List Token) → i ≤ length s → spelled s i ts ≡ true → Tokens s i ts
tokens s i [] within e = no_more (nothing_comes s i _ within refl (leb-true (length s) _ e))
tokens s i (t ∷ ts) within e =
    let k = i + prefix_len blank (rest s i) in
    let m = max (prefix_len letter (rest s k)) 1 in
    let a = and_parts (ltb k (length s)) (bytes_eq (take m (rest s k)) (bytes_of t) && spelled s (k + m) ts) e in
    let b = and_parts (bytes_eq (take m (rest s k)) (bytes_of t)) (spelled s (k + m) ts) a.1 in
    let on : k < length s = ltb-true k (length s) a.0 in
    let fits : k + m ≤ length s = omega (arith, prefix_len-le-length letter (rest s k), ap length (rest_is s k), length-drop k s) in
    before (known_comes s i _ within refl on m refl t ((bytes_eq-Decides _ _).0 b.0)) (tokens s (k + m) ts fits b.1)

abbrev words_of : Named → List Token
words_of Sc = Name True ∷ []
words_of Ibm370 =
    Name WriteX ∷ And ∷ Name ReadY ∷ And ∷ Name SameAddr ∷ Or ∷ Name WriteX ∷ And ∷ Name WriteY ∷ Or ∷ Name ReadX ∷ Or ∷ Name FenceX ∷ Or ∷ Name FenceY ∷ []
words_of Tso = Name WriteX ∷ And ∷ Name WriteY ∷ Or ∷ Name ReadX ∷ Or ∷ Name FenceX ∷ Or ∷ Name FenceY ∷ []
words_of Rmo = Name WriteY ∷ And ∷ Name SameAddr ∷ Or ∷ Name FenceX ∷ Or ∷ Name FenceY ∷ Or ∷ Name DataDep ∷ Or ∷ Name ControlDep ∷ []

reads : (n : Named) → Reads formula (words_of n) (formula_of n) []
reads Sc = one_term (one_factor name)
reads Ibm370 =
    more_terms (more_factors name (more_factors name (one_factor name)))
    (more_terms (more_factors name (one_factor name)) (more_terms (one_factor name) (more_terms (one_factor name) (one_term (one_factor name)))))
reads Tso =
    more_terms (more_factors name (one_factor name)) (more_terms (one_factor name) (more_terms (one_factor name) (one_term (one_factor name))))
reads Rmo =
    more_terms (more_factors name (one_factor name))
    (more_terms (one_factor name) (more_terms (one_factor name) (more_terms (one_factor name) (one_term (one_factor name)))))

found : (n : Named) → spelled (text_of n) 0 (words_of n) ≡ true
found Sc = refl
found Ibm370 = refl
found Tso = refl
found Rmo = refl

pub forms : (n : Named) → Forms (text_of n) (formula_of n)
forms n = (words_of n, tokens (text_of n) 0 (words_of n) (omega arith) (found n), reads n)
