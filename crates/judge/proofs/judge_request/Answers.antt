use Prim.Native.Nat.{◌*◌}
use Rattle.judge.proofs.Answers.{some_ltb, none_ltb}
use lib.ListN.{length}
use native.Mathlib.Omega.{arith}
use borrow.Author.Tests.{lt-ltb, le-ltb}
use Rattle.record.specs.Bytes.{size, most_entries}
use Rattle.judge.specs.Request.{judge_entries, judge_request_of}
use Rattle.judge.proofs.judge_request.Goals as goal

pub returns-then-request-ne0 : goal.returns-then-request-ne0
unfolding judge_request_of
returns-then-request-ne0 c = rw (some_ltb _ c.if-request-ne0.true)

pub returns-then-request : goal.returns-then-request
unfolding judge_request_of
returns-then-request c =
    let l = length c.args.request.now in
    rw (none_ltb _ c.if-request-ne0.false, lt-ltb (most_entries * size) l (omega arith))

pub returns-then-entry-n : goal.returns-then-entry-n
unfolding judge_request_of judge_entries
returns-then-entry-n c =
    let l = length c.args.request.now in
    rw (none_ltb _ c.if-request-ne0.false, le-ltb (most_entries * size) l (omega arith), ← c.first_entry-entry.ensures.0, lt-ltb _ _ c.if-entry-n.true)

pub returns : goal.returns
unfolding judge_request_of judge_entries
returns c =
    let l = length c.args.request.now in
    rw (none_ltb _ c.if-request-ne0.false, le-ltb (most_entries * size) l (omega arith), ← c.first_entry-entry.ensures.0, le-ltb _ _ c.if-entry-n.false)
