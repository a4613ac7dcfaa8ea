use mathlib.Core.Path.{sym, ◌∙◌}
use Rattle.sigmf_objects.proofs.GlobalLaws.{first_bare, first_unversioned, first_version, first_unlisted, first_good}
use Rattle.sigmf_objects.proofs.ValueLaws.{part_sized}
use Rattle.sigmf_objects.proofs.global.first_low.Goals as goal
use Rattle.sigmf_objects.proofs.global.first_low.Goals.{then-place-eq0-via-then-place-eq0, then-place-eq0-via-else-place-eq0+then-version-eq0}

pub returns-then-place-eq0 : goal.returns-then-place-eq0
returns-then-place-eq0 c =
    elim c.then-place-eq0.branch [
      | then-place-eq0-via-then-place-eq0 w ↦ first_bare c.args.s.now c.args.place c.args.version w.if-place-eq0.true
      | then-place-eq0-via-else-place-eq0+then-version-eq0 w ↦ first_unversioned c.args.s.now c.args.place c.args.version w.if-place-eq0.false w.if-version-eq0.true
    ]

pub returns-then-not-is_version : goal.returns-then-not-is_version
returns-then-not-is_version c =
    let part = c.sized_part.ensures ∙ part_sized c.args.s.now c.args.version c.args.n c.if-version-eq0.false c.requires.n_value in
    first_version c.args.s.now c.args.place c.args.version c.if-place-eq0.false c.if-version-eq0.false _ part (sym c.is_version.ensures ∙ c.if-not-is_version.true)

pub returns-then-is_listed : goal.returns-then-is_listed
returns-then-is_listed c =
    let part = c.sized_part.ensures ∙ part_sized c.args.s.now c.args.version c.args.n c.if-version-eq0.false c.requires.n_value in
    first_good c.args.s.now c.args.place c.args.version c.if-place-eq0.false c.if-version-eq0.false _ part (sym c.is_version.ensures ∙ c.if-not-is_version.false) _ c.requires.code_value (sym c.is_listed.ensures ∙ c.if-is_listed.true)

pub returns-else-is_listed : goal.returns-else-is_listed
returns-else-is_listed c =
    let part = c.sized_part.ensures ∙ part_sized c.args.s.now c.args.version c.args.n c.if-version-eq0.false c.requires.n_value in
    first_unlisted c.args.s.now c.args.place c.args.version c.if-place-eq0.false c.if-version-eq0.false _ part (sym c.is_version.ensures ∙ c.if-not-is_version.false) _ c.requires.code_value (sym c.is_listed.ensures ∙ c.if-is_listed.false)
