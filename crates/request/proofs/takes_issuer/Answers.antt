use native.Mathlib.Omega.{arith}
use Rattle.request.proofs.Laws.{issuer_taken, products_fit}
use Rattle.request.proofs.takes_issuer.Goals as goal

pub overflow_mul-result : goal.overflow_mul-result
overflow_mul-result c = omega (arith, products_fit c.args.asked c.args.given c.requires.0 c.requires.1)

pub overflow_mul-result-2 : goal.overflow_mul-result-2
overflow_mul-result-2 c = omega (arith, products_fit c.args.asked c.args.given c.requires.0 c.requires.1)

pub returns : goal.returns
returns c = issuer_taken c.args.asked c.args.given
