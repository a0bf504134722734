-- What a log holds: its records done one after another, from none held.
use Rattle.std.specs.Prelude.{ℕ, List, [], ◌∷◌}
use Rattle.bytemap.specs.Map.{Map, insert, remove}
use Rattle.log_record.specs.Records.{Record, stored, dropped, records_in}

abbrev pub done : Map (List ℕ) → Record → Map (List ℕ)
done held (stored name value) = insert held name value
done held (dropped name) = remove held name

unfoldable pub all_done : Map (List ℕ) → List Record → Map (List ℕ)
all_done held [] = held
all_done held (r ∷ rs) = all_done (done held r) rs

-- what bytes read back to
unfoldable pub replayed : List ℕ → Map (List ℕ)
replayed bytes = all_done [] (records_in bytes)

-- a name with its value as a record
abbrev pub stored_pair : List ℕ × List ℕ → Record
stored_pair p = stored p.0 p.1
