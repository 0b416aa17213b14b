-- The claim of specs/Alike.antt: that of Seen.antt with each code seen as it is. Assumes nothing.
use Prim.Native.Nat.{ℕ}
use mathlib.Core.Path.{◌≡◌, refl, sym, ap, ◌∙◌}
use Rattle.sums.specs.declared.Status.{Status}
use Rattle.meaning.specs.Numbers.{key_by}
use Rattle.meaning.specs.Meaning.{the_only, decides}
use Rattle.meaning.specs.Alike.{CountsByTests}
use Rattle.meaning.specs.declared.Verdict.{Verdict}
use Rattle.meaning.specs.declared.Verdict.TheVariants.{Permit, Deny, NotApplicable, Indeterminate}
use Rattle.meaning.proofs.Seen.{seen, verdict_seen, WorthSeen, alike_seen, same_seen}

abbrev itself : Status → Status
itself s = s

verdict_itself : (v : Verdict) → verdict_seen itself refl v ≡ v
verdict_itself Permit = refl
verdict_itself Deny = refl
verdict_itself NotApplicable = refl
verdict_itself (Indeterminate s) = refl

pub counts_by_tests : CountsByTests
counts_by_tests g h same n k =
    let e = same_seen itself refl g h (λ t. ap (seen itself refl) (same.matched t)) (λ t. ap (seen itself refl) (same.compared t)) worths n k in
    (sym (verdict_itself (decides g n)) ∙ e.0 ∙ verdict_itself (decides h n), e.1)
  where
    worths : (key : ℕ) → WorthSeen itself refl (key_by key).type (the_only (g (key_by key))) (the_only (h (key_by key)))
    worths key = alike_seen itself refl (key_by key).type (the_only (g (key_by key))) (the_only (h (key_by key))) (same.worths key)
