-- What a journal means.
use Rattle.std.specs.Prelude.{ℕ, List, vec_items}
use Rattle.directory.specs.Meaning.{DirectoryMeaning}
use Rattle.directory_table.specs.Making.{table_meaning}
use Rattle.directory_journal.specs.Capacity.{capacity}
use Rattle.directory_journal.specs.declared.journal.Journal.{Journal}

-- that of its index: what its bytes say
abbrev pub journal_meaning : Journal → DirectoryMeaning
journal_meaning j = table_meaning j.index

-- all bytes of its memory
abbrev pub journal_bytes : Journal → List ℕ
journal_bytes j = vec_items j.bytes

abbrev pub journal_places : Journal → ℕ
journal_places j = capacity (journal_meaning j)
