use Rattle.judge.proofs.Answers.{clean_accepted}
use Rattle.judge.proofs.judge_records.Goals as goal

pub returns-in-Some : goal.returns-in-Some
returns-in-Some c = clean_accepted _ c.in-Some.ensures
