-- Stamps: which of two writes is the later one.
use Rattle.std.specs.Prelude.{ℕ, ◌+◌, ◌≤◌, Bool, cond, ◌&&◌, ◌==◌, nat_le, nat_lt}
use Rattle.byte_strings.specs.Order.{StrictTotalOrder}
use Rattle.naming.specs.Limits.{greatest_sequence, greatest_writer}

-- What a stamp stands for: the number of the write, and who wrote.
pub record StampValue : Type 0 where
  pub sequence : ℕ
  pub writer : ℕ

pub record ValidStamp (s : StampValue) : Type 0 where
  pub sequence_fits : s.sequence ≤ greatest_sequence
  pub writer_known : s.writer ≤ greatest_writer

abbrev pub valid_writer : ℕ → Bool
valid_writer w = nat_le w greatest_writer

-- By the sequence, and by the writer where the sequences are equal.
unfoldable pub stamp_below : StampValue → StampValue → Bool
stamp_below s t =
    cond (s.sequence == t.sequence) (nat_lt s.writer t.writer) (nat_lt s.sequence t.sequence)

-- Theorem: stamps are in a strict total order.
abbrev pub StampsAreOrdered : Type 0
StampsAreOrdered = StrictTotalOrder stamp_below

-- The stamp of a key without an entry.
abbrev pub no_stamp : StampValue
no_stamp = record { sequence = 0; writer = 0 }

-- The stamp of the next write, where there is one.
abbrev pub has_next : StampValue → ℕ → Bool
has_next s w = nat_lt s.sequence greatest_sequence && valid_writer w

abbrev pub next_stamp : StampValue → ℕ → StampValue
next_stamp s w = record { sequence = s.sequence + 1; writer = w }
