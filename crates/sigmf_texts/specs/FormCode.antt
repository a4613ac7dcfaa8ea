-- For the code: a name's namespace passed.
use Rattle.std.specs.Prelude.{cond, List, [], ◌∷◌, ℕ, eqb}
use Rattle.refusals.specs.Answer.{Answer, accepted, refused}
use Rattle.sigmf_texts.specs.Form.{namespace_byte}

-- bytes of a namespace up to the first colon, and what stands past that
unfoldable pub past_space : List ℕ → Answer (List ℕ)
past_space [] = refused 5
past_space (b ∷ l) = cond (eqb b 0x3A) (accepted l) (cond (namespace_byte b) (past_space l) (refused 5))
