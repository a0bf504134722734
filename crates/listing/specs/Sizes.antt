-- A listing: its size, the answer, and what it writes.
use Rattle.std.specs.Prelude.{ℕ, cond, List, ◌++◌, length, drop, Some, None, Option, nat_lt}
use Rattle.protocol.specs.declared.answers.Listed.{Listed}
use Rattle.protocol.specs.Listing.{listing}

abbrev pub measured : List (List ℕ) → Listed
measured keys = record { count = length keys; bytes = length (listing keys) }

-- the answer, where the listing fits the buffer
abbrev pub listed : List (List ℕ) → List ℕ → Option Listed
listed keys buffer = cond (nat_lt (length buffer) (length (listing keys))) None (Some (measured keys))

-- the buffer with the listing at its front, where it fits
abbrev pub listed_over : List (List ℕ) → List ℕ → List ℕ
listed_over keys buffer = cond (nat_lt (length buffer) (length (listing keys))) buffer (listing keys ++ drop (length (listing keys)) buffer)
