use Rattle.std.specs.Prelude.{◌≡◌, ◌≤◌, ◌-◌, length}
use Rattle.text.specs.Text.{start, width, judge_from}
use Rattle.text.proofs.Lines.judge.Given as goal

abbrev pub invariant-loop-n : goal.invariant-loop-n
invariant-loop-n l =
    let text = l.self.text.now in
    (start l.self.w l.n ≤ length text) × (judge_from (width text) text l.most 0 ≡ judge_from l.self.w text (l.most - l.n) l.n)
