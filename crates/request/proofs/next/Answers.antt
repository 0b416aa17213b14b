use Rattle.std.proofs.Common.{rules, tests, arith, ◌≡◌, false, true}
use Rattle.std.proofs.lemmas.Iterator.{first_from_Range}
use Rattle.meaning.specs.Numbers.{key_by}
use Rattle.meaning.specs.Reading.{key_in, takes}
use Rattle.request.proofs.Laws.{next_found}
use Rattle.request.proofs.next.Goals as goal

pub returns : goal.returns
returns c =
    let q = c.args.request.now in
    let key = key_by c.args.key in
    next_found q key c.args.from c.find.result
    (first_from_Range _ _ _ c.find.result (λ i. true ≡ takes key (key_in q i)) (λ i. false ≡ takes key (key_in q i)) c.find.ensures.ran
    (λ x p k. search (rules, tests))
    (λ x p k. (search rules, search (rules, tests))))
