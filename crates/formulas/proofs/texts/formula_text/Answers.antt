use Rattle.models.specs.declared.Named.TheVariants.{Sc, Ibm370, Tso, Rmo}
use Rattle.formulas.proofs.NamedTexts.{forms}
use Rattle.formulas.proofs.texts.formula_text.Goals as goal

pub returns-in-Sc-clause-means : goal.returns-in-Sc-clause-means
returns-in-Sc-clause-means c = rw c.in-Sc.is (forms Sc)

pub returns-in-Ibm370-clause-means : goal.returns-in-Ibm370-clause-means
returns-in-Ibm370-clause-means c = rw c.in-Ibm370.is (forms Ibm370)

pub returns-in-Tso-clause-means : goal.returns-in-Tso-clause-means
returns-in-Tso-clause-means c = rw c.in-Tso.is (forms Tso)

pub returns-in-Rmo-clause-means : goal.returns-in-Rmo-clause-means
returns-in-Rmo-clause-means c = rw c.in-Rmo.is (forms Rmo)
