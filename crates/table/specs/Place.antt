-- Document 01, "Rows, pieces, cuts": the place of a text in the metadata.
use Rattle.std.specs.Prelude.{◌+◌, Bool, ◌&&◌, leb, eqb}
use Rattle.limits.specs.Limits.{metadata}
use Rattle.table.specs.declared.Place.{Place}

-- "0, 0 if absent"
abbrev pub nowhere : Place
nowhere = record { at = 0; len = 0 }

unfoldable pub absent : Place → Bool
absent p = eqb p.at 0 && eqb p.len 0

-- "text places end within 61,440"
unfoldable pub ends_within : Place → Bool
ends_within p = leb (p.at + p.len) metadata
