-- For the code: a row of the table as the code holds it.
use Rattle.std.specs.Prelude.{◌≡◌}
use Rattle.sigmf_datatypes.specs.declared.Entry.{Entry}
use Rattle.sigmf_datatypes.specs.Datatypes.{Datatype}

pub record EntryOf (e : Entry) (d : Datatype) : Type 0 where
  pub name : e.name.now ≡ d.name
  pub bytes : e.bytes ≡ d.bytes
  pub complex : e.complex ≡ d.complex
