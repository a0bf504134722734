-- What opening answers, by whether storage is supported and what the bytes replay to.
use Rattle.std.proofs.Common.{◌≡◌, ℕ, ◌+◌, ◌*◌, ◌<◌, ◌≤◌, true, false, List, length, Ok, Err, vec_items, vec_capacity, Result, sym, ap, ◌∙◌, arith}
use Rattle.std.proofs.lemmas.Bool.{and_left, and_right, and_from, le-leb, lt-leb}
use Rattle.std.proofs.lemmas.Bool.Decides.{nat_tests}
use Rattle.refusal.specs.declared.Refusal.TheVariants.{UnsupportedStorage}
use Rattle.refusal.specs.declared.Rejected.{Rejected}
use Rattle.directory.specs.Meaning.{DirectoryMeaning}
use Rattle.directory_table.specs.declared.table.Table.{Table}
use Rattle.directory_table.specs.Making.{supported, table_meaning}
use Rattle.journal_record.specs.Layout.{longest_record}
use Rattle.directory_journal.specs.declared.journal.Journal.{Journal}
use Rattle.directory_journal.specs.declared.memory.JournalMemory.{JournalMemory}
use Rattle.directory_journal.specs.Capacity.{capacity}
use Rattle.directory_journal.specs.Replay.{empty_directory, replay_from, replay}
use Rattle.directory_journal.specs.Opening.{can_open, meaning_in, opened, Opens, OpensWith}
use Rattle.directory_journal.proofs.Capacity.{table_capacity}

module _ (places room : ℕ) (bytes : List ℕ) where
  not_opened : can_open places room bytes ≡ false → opened places room bytes ≡ Err UnsupportedStorage
  unfolding opened
  not_opened h = rw h

  pub opened_is : can_open places room bytes ≡ true → opened places room bytes ≡ meaning_in (replay places bytes)
  unfolding opened
  opened_is h = rw h

  pub too_few_bytes : length bytes < (places + 1) * longest_record → opened places room bytes ≡ Err UnsupportedStorage
  too_few_bytes h = not_opened (and_right (supported places room) _ (lt-leb _ _ h))

  pub not_supported : supported places room ≡ false → opened places room bytes ≡ Err UnsupportedStorage
  not_supported h = not_opened (and_left _ _ h)

  pub can_be_opened : supported places room ≡ true → (places + 1) * longest_record ≤ length bytes → can_open places room bytes ≡ true
  can_be_opened s h = and_from _ _ s (le-leb _ _ h)

-- storage of an open journal is supported
pub supports : (t : Table) (room : ℕ) → capacity (table_meaning t) ≤ room → supported (capacity (table_meaning t)) room ≡ true
supports t room h =
    let e = table_capacity t in
    let a = t.some in
    let b = t.few in
    grind (arith, nat_tests)

-- the replay began with an empty directory of as many places
pub from_empty : (first after : DirectoryMeaning) (bytes : List ℕ) → first ≡ empty_directory (capacity first) → capacity after ≡ capacity first
    → replay (capacity after) bytes ≡ replay_from first 0 0 bytes
from_empty first after bytes empty same = ap (λ n. replay n bytes) same ∙ ap (λ m. replay_from m 0 0 bytes) (sym empty)

pub opens_from : (memory : JournalMemory) (places n : ℕ) → n ≡ places → can_open places (vec_capacity memory.index) (vec_items memory.bytes) ≡ true
    → (r : Result Journal (Rejected JournalMemory)) → OpensWith memory.bytes n r → Opens memory places r
opens_from memory places n e can (Ok journal) h =
    let bytes = vec_items memory.bytes in
    (opened_is places (vec_capacity memory.index) bytes can ∙ ap (λ k. meaning_in (replay k bytes)) (sym e) ∙ h.0, h.1)
opens_from memory places n e can (Err rejected) h =
    let bytes = vec_items memory.bytes in
    (opened_is places (vec_capacity memory.index) bytes can ∙ ap (λ k. meaning_in (replay k bytes)) (sym e) ∙ h.0, h.1, λ l. omega (arith, e, h.2))
