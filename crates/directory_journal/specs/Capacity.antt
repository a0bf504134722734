-- How many keys a directory can hold.
use Rattle.std.specs.Prelude.{ℕ, ◌+◌, length}
use Rattle.directory.specs.Meaning.{DirectoryMeaning}

-- the places in use and the free ones
abbrev pub capacity : DirectoryMeaning → ℕ
capacity m = length m.entries + m.free
