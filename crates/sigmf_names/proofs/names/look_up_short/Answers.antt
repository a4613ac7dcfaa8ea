use mathlib.Core.Path.{ap, ◌∙◌}
use Rattle.sigmf_names.proofs.DecodedLaws.{text_raw, text_decoded}
use Rattle.sigmf_names.specs.Names.{core_of}
use Rattle.sigmf_names.specs.Lookup.{lookup_in}
use Rattle.sigmf_names.proofs.names.look_up_short.Goals as goal
use Rattle.sigmf_names.proofs.names.look_up_short.Goals.{then-verbatim, else-verbatim}

pub returns : goal.returns
returns c =
    let raw = c.args.raw.now in
    c.compare_names.ensures
    ∙ ap (lookup_in (core_of c.args.kind))
    (elim c.if-verbatim.branch [
      | then-verbatim w ↦ rw w.text-is (text_raw raw c.args.verbatim c.requires.verbatim_value w.if-verbatim.true)
      | else-verbatim w ↦ rw w.text-is (text_decoded raw _ (c.requires.raw_len_bound w.if-verbatim.false) w.put_decoded-n.ensures.text)
    ])
