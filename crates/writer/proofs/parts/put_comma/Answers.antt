use Rattle.writer.proofs.TextLaws.{comma_nothing, comma_room, comma_put}
use Rattle.writer.proofs.parts.put_comma.Goals as goal

pub returns-then-k-eq0 : goal.returns-then-k-eq0
returns-then-k-eq0 c =
    let p = comma_nothing _ c.args.out.now c.if-k-eq0.true in
    record { count = p.0; memory = p.1 }

pub bounds-out-0 : goal.bounds-out-0
bounds-out-0 c = comma_room _ c.args.out.now c.if-k-eq0.false c.requires

pub returns : goal.returns
returns c =
    let p = comma_put _ c.args.out.now c.if-k-eq0.false c.requires in
    record { count = p.0; memory = p.1 }
