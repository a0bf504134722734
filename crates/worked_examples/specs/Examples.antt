-- Worked examples of the definitions, as one table.
use Rattle.std.specs.Prelude.{◌≡◌, ℕ, true, false, List, [], ◌∷◌, Some, None, Err}
use Rattle.refusal.specs.declared.Refusal.TheVariants.{UnsupportedRow, CorruptJournal}
use Rattle.refusal.specs.Numbers.{refusal_number, refusal_offset}
use Rattle.naming.specs.Stamps.{StampValue, stamp_below}
use Rattle.naming.specs.Names.{name_of}
use Rattle.entry.specs.Entries.{EntryValue}
use Rattle.directory.specs.declared.interface.CommitError.TheVariants.{Older}
use Rattle.directory.specs.Meaning.{DirectoryMeaning}
use Rattle.directory.specs.Calls.{entry_of, commit_answer, commit_after}
use Rattle.journal_record.specs.Records.{RecordValue}
use Rattle.journal_record.specs.Layout.{encode}
use Rattle.directory_journal.specs.Replay.{empty_directory, replay}
use Rattle.directory_journal.specs.Opening.{meaning_in}
use Rattle.protocol.specs.Listing.{keys_of, listing}
use Rattle.slots.specs.Values.{supported}

abbrev pub A : List ℕ
A = 0x41 ∷ []

abbrev pub B : List ℕ
B = 0x42 ∷ []

abbrev pub stamp : ℕ → ℕ → StampValue
stamp sequence writer = record { sequence = sequence; writer = writer }

-- A deleted, in this container and at this stamp
abbrev pub deleted_A : ℕ → StampValue → RecordValue
deleted_A container at = record { container = container; key = A; entry = record { stamp = at; live = None } }

-- an entry with a value
abbrev pub some_value : EntryValue
some_value = record { stamp = stamp 1 1; live = Some (record { clouds = 3; size = 0; digest = [] }) }

-- B and then A, both with values, in container 7
abbrev pub BAndA : DirectoryMeaning
BAndA = commit_after (commit_after (empty_directory 2) 7 B some_value) 7 A some_value

pub record WorkedExamples : Type 0 where
  -- the name of A in container 7 at (1, 2)
  pub name_of_A : name_of 7 A (stamp 1 2) ≡ 0x07 ∷ 0x41 ∷ 0x7c ∷ 0x00 ∷ 0x00 ∷ 0x00 ∷ 0x01 ∷ 0x02 ∷ []
  -- (1, 16) is below (2, 1)
  pub sequence_first : stamp_below (stamp 1 16) (stamp 2 1) ≡ true
  -- a commit with an equal stamp is older
  pub equal_stamp_is_older : (m : DirectoryMeaning) (container : ℕ) (key : List ℕ) (present new : EntryValue)
      → entry_of m container key ≡ Some present → new.stamp ≡ present.stamp → commit_answer m container key new ≡ Err Older
  -- 4 clouds of which 2 may fail are refused with 1; 5 open
  pub four_are_too_few : supported 2 4 ≡ false
  pub refused_with_1 : refusal_number UnsupportedRow ≡ 1
  pub five_open : supported 2 5 ≡ true
  -- the record of A deleted in container 0 at (2, 3)
  pub deleted_in_0 : encode (deleted_A 0 (stamp 2 3)) ≡ 0x80 ∷ 0x01 ∷ 0x41 ∷ 0x00 ∷ 0x00 ∷ 0x00 ∷ 0x02 ∷ 0x03 ∷ []
  -- and in container 7 at (1, 1)
  pub deleted_in_7 : encode (deleted_A 7 (stamp 1 1)) ≡ 0x81 ∷ 0x01 ∷ 0x41 ∷ 0x00 ∷ 0x00 ∷ 0x00 ∷ 0x01 ∷ 0x01 ∷ 0x07 ∷ []
  -- the first with sequence 0, and the second with its last byte 0, are refused with 3 at 0, for any number of places
  pub sequence_0 : (places : ℕ) → meaning_in (replay places (0x80 ∷ 0x01 ∷ 0x41 ∷ 0x00 ∷ 0x00 ∷ 0x00 ∷ 0x00 ∷ 0x03 ∷ [])) ≡ Err (CorruptJournal 0)
  pub container_0_written_out : (places : ℕ) → meaning_in (replay places (0x81 ∷ 0x01 ∷ 0x41 ∷ 0x00 ∷ 0x00 ∷ 0x00 ∷ 0x01 ∷ 0x01 ∷ 0x00 ∷ [])) ≡ Err (CorruptJournal 0)
  pub refused_with_3 : refusal_number (CorruptJournal 0) ≡ 3
  pub at_0 : refusal_offset (CorruptJournal 0) ≡ Some 0
  -- B and A, both live, are listed as A and B
  pub listed : listing (keys_of BAndA 7) ≡ 0x01 ∷ 0x41 ∷ 0x01 ∷ 0x42 ∷ []
