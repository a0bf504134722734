-- The numbers by which causes and refusals are reported, and what they carry.
use Rattle.std.specs.Prelude.{ℕ, Some, None, Option}
use Rattle.refusal.specs.declared.Cause.{Cause}
use Rattle.refusal.specs.declared.Cause.TheVariants.{Full, TooLong, NotHeld, Silent, BadListing}
use Rattle.refusal.specs.declared.CloudFault.{CloudFault}
use Rattle.refusal.specs.declared.Refusal.{Refusal}
use Rattle.refusal.specs.declared.Refusal.TheVariants.{UnsupportedRow, UnsupportedStorage, CorruptJournal, UnknownParty, InvalidKey, ValueTooLong, UnknownCloud, SlotBusy, SlotNotReady, DifferentValue, AlreadyStored, TooFewStored, CloudNotListed, NoEntry, SequenceExhausted, DirectoryFull, BufferTooShort, CloudRefused, ValueMismatch}

abbrev pub cause_number : Cause → ℕ
cause_number Full = 1
cause_number TooLong = 2
cause_number NotHeld = 3
cause_number Silent = 4
cause_number BadListing = 5

abbrev pub refusal_number : Refusal → ℕ
refusal_number UnsupportedRow = 1
refusal_number UnsupportedStorage = 2
refusal_number (CorruptJournal offset) = 3
refusal_number UnknownParty = 4
refusal_number InvalidKey = 5
refusal_number ValueTooLong = 6
refusal_number UnknownCloud = 7
refusal_number SlotBusy = 8
refusal_number SlotNotReady = 9
refusal_number DifferentValue = 10
refusal_number AlreadyStored = 11
refusal_number TooFewStored = 12
refusal_number CloudNotListed = 13
refusal_number NoEntry = 14
refusal_number SequenceExhausted = 15
refusal_number DirectoryFull = 16
refusal_number BufferTooShort = 17
refusal_number (CloudRefused fault) = 18
refusal_number ValueMismatch = 19

-- where the first bad record of a journal begins
abbrev pub refusal_offset : Refusal → Option ℕ
refusal_offset (CorruptJournal offset) = Some offset
refusal_offset _ = None

-- which cloud refused, and why
abbrev pub refusal_fault : Refusal → Option CloudFault
refusal_fault (CloudRefused fault) = Some fault
refusal_fault _ = None
