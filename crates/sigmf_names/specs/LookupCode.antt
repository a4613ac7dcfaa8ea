-- For the code: names compared one after another.
use Rattle.std.specs.Prelude.{Bool, cond, ℕ, ◌+◌}
use Rattle.sigmf_names.specs.declared.NameLookup.{NameLookup}

-- one name more was compared, that of field i; rest is what the others tell
unfoldable pub one_more : Bool → ℕ → NameLookup → NameLookup
one_more is i rest = record { number = cond is i rest.number; compared = rest.compared + 1 }
