-- How long and how large the parts of a name may be.
use Rattle.std.specs.Prelude.{ℕ}

abbrev pub longest_key : ℕ
longest_key = 32

abbrev pub longest_name : ℕ
longest_name = 39

abbrev pub greatest_sequence : ℕ
greatest_sequence = 4294967295

-- There are writers 0 to 16.
abbrev pub greatest_writer : ℕ
greatest_writer = 16
