use Rattle.std.proofs.lemmas.Option.{IfSome_then}
use Rattle.fields.specs.declared.Kind.TheVariants.{PolicySet, Policy}
use Rattle.grammar.proofs.Fits.{fits}
use Rattle.grammar.proofs.Parties.{party_is, party_next}
use Rattle.grammar.proofs.Rows.{row_none, row_then, row_lower, row_few}
use mathlib.Core.Logic.{inl, inr}
use mathlib.Core.Path.{refl}
use native.Mathlib.Omega.{arith}
use Rattle.grammar.proofs.+party.Goals as goal

pub returns-then-is_fit : goal.returns-then-is_fit
returns-then-is_fit t c =
    IfSome_then _ c.policy_parts.ensures
    (λ due x. party_is _ Policy (fits c.if-is_fit.ensures) (inr refl) (omega (arith, c.span.ensures.0)) (omega arith) x.row)

pub loop-at-init : goal.loop-at-init
loop-at-init t c =
    let s = c.in_ok-at.ensures in
    (s.upto, omega (arith, (s.row 1 0 0 refl).forth), λ gc pc. row_then _ (s.row 1 gc pc refl) (row_none _ refl (omega arith)))

pub overflow_add-due : goal.overflow_add-due
overflow_add-due t c =
    let p = party_next _ _ c.loop-at.invariant.2 c.in-Some.ensures c.if-depth-lt-MOST_DEPTH.true refl in
    omega (arith, p.0, row_few _ (p.2 0 0))

pub loop-at-smaller : goal.loop-at-smaller
loop-at-smaller t c =
    let p = party_next _ _ c.loop-at.invariant.2 c.in-Some.ensures c.if-depth-lt-MOST_DEPTH.true c.span-in-loop-at.ensures.0 in
    omega (arith, p.0, p.1)

pub loop-at-preserved : goal.loop-at-preserved
loop-at-preserved t c =
    let p = party_next _ _ c.loop-at.invariant.2 c.in-Some.ensures c.if-depth-lt-MOST_DEPTH.true c.span-in-loop-at.ensures.0 in
    (p.0, omega (arith, p.1), p.2)

pub overflow_add-result : goal.overflow_add-result
overflow_add-result t c =
    omega (arith, row_few _ (row_then _ (c.loop-at.invariant.2 0 0) (row_lower _ (c.in_ok-own.ensures.row 1 0 0 refl) (omega arith))))

pub returns : goal.returns
returns t c =
    party_is _ PolicySet (fits c.if-not-is_fit.ensures) (inl refl) (omega (arith, c.span.ensures.0)) (omega arith)
    (λ gc pc. row_then _ (c.loop-at.invariant.2 gc pc) (row_lower _ (c.in_ok-own.ensures.row 1 gc pc refl) (omega arith)))
