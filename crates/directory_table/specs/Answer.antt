-- What a commit answers, by the entry that the key has.
use Rattle.std.specs.Prelude.{ℕ, cond, Err, Option}
use Rattle.naming.specs.Stamps.{stamp_below}
use Rattle.entry.specs.Entries.{EntryValue}
use Rattle.directory.specs.declared.interface.CommitError.TheVariants.{Older}
use Rattle.directory.specs.Calls.{Answer, stamp_of, place_answer}

abbrev pub answer_of : Option EntryValue → ℕ → EntryValue → Answer
answer_of present free e = cond (stamp_below (stamp_of present) e.stamp) (place_answer present free) (Err Older)
