use mathlib.Core.Path.{sym, ap, ◌∙◌}
use mathlib.Core.Bool.{Bool, cond}
use Rattle.sigmf_objects.specs.Places.{noted}
use Rattle.sigmf_objects.specs.Global.{entries_of, lacks_dataset}
use Rattle.sigmf_objects.proofs.GlobalLaws.{later_few, later_many, later_entries, later_none}
use Rattle.sigmf_objects.proofs.global.later_low.Goals as goal
use Rattle.sigmf_objects.proofs.global.later_low.Goals.{then-channels-lt1-via-then-channels-lt1, then-channels-lt1-via-else-channels-lt1+then-channels-gt-CHANNELS}
use Rattle.sigmf_objects.proofs.global.later_low.Goals.{else-low-eq0-via-then-low-eq0+else-lacks_dataset, else-low-eq0-via-else-low-eq0}

pub returns-then-channels-lt1 : goal.returns-then-channels-lt1
returns-then-channels-lt1 c =
    elim c.then-channels-lt1.branch [
      | then-channels-lt1-via-then-channels-lt1 w ↦ later_few c.args.channels (entries_of c.args.s.now (noted c.args.s.now c.args.entries)) (lacks_dataset (noted c.args.s.now c.args.only) (noted c.args.s.now c.args.dataset)) w.if-channels-lt1.true
      | then-channels-lt1-via-else-channels-lt1+then-channels-gt-CHANNELS w ↦ later_many c.args.channels (entries_of c.args.s.now (noted c.args.s.now c.args.entries)) (lacks_dataset (noted c.args.s.now c.args.only) (noted c.args.s.now c.args.dataset)) w.if-channels-gt-CHANNELS.true
    ]

pub returns-then-lacks_dataset : goal.returns-then-lacks_dataset
returns-then-lacks_dataset c =
    ap (λ (b : Bool). cond b 14 0) (sym c.if-lacks_dataset.true ∙ c.lacks_dataset.ensures)
    ∙ later_none c.args.channels (entries_of c.args.s.now (noted c.args.s.now c.args.entries)) (lacks_dataset (noted c.args.s.now c.args.only) (noted c.args.s.now c.args.dataset)) c.if-channels-lt1.false c.if-channels-gt-CHANNELS.false _ c.entries_low-low.ensures c.if-low-eq0.true

pub returns-else-low-eq0 : goal.returns-else-low-eq0
returns-else-low-eq0 c =
    elim c.else-low-eq0.branch [
      | else-low-eq0-via-then-low-eq0+else-lacks_dataset w ↦
          w.if-low-eq0.true
          ∙ ap (λ (b : Bool). cond b 14 0) (sym w.if-lacks_dataset.false ∙ w.lacks_dataset.ensures)
          ∙ later_none c.args.channels (entries_of c.args.s.now (noted c.args.s.now c.args.entries)) (lacks_dataset (noted c.args.s.now c.args.only) (noted c.args.s.now c.args.dataset)) c.if-channels-lt1.false c.if-channels-gt-CHANNELS.false _ c.entries_low-low.ensures w.if-low-eq0.true
      | else-low-eq0-via-else-low-eq0 w ↦ later_entries c.args.channels (entries_of c.args.s.now (noted c.args.s.now c.args.entries)) (lacks_dataset (noted c.args.s.now c.args.only) (noted c.args.s.now c.args.dataset)) c.if-channels-lt1.false c.if-channels-gt-CHANNELS.false _ c.entries_low-low.ensures w.if-low-eq0.false
    ]
