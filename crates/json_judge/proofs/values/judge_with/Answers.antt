use Rattle.json_judge.proofs.JudgeLaws.{judge_more, judge_bad, judge_good}
use Rattle.json_judge.proofs.values.judge_with.Goals as goal

pub returns-then-skip_indent-s : goal.returns-then-skip_indent-s
returns-then-skip_indent-s c = judge_more c.args.s.now _ c.skip_indent-start.ensures _ c.value.ensures.told _ _ c.in-Some.is _ c.skip_indent.ensures c.if-skip_indent-s.true

pub returns-then-bad : goal.returns-then-bad
returns-then-bad c = judge_bad c.args.s.now _ c.skip_indent-start.ensures _ c.value.ensures.told _ _ c.in-Some.is _ c.skip_indent.ensures c.if-skip_indent-s.false c.if-bad.true

pub returns : goal.returns
returns c = judge_good c.args.s.now _ c.skip_indent-start.ensures _ c.value.ensures.told _ _ c.in-Some.is _ c.skip_indent.ensures c.if-skip_indent-s.false c.if-bad.false
