-- What a commit leaves, by what it answers.
use Rattle.std.proofs.Common.{◌≡◌, ℕ, ◌<◌, List, None, Ok, Err, Option, arith}
use Rattle.std.proofs.lemmas.Bool.Decides.{nat_tests}
use Rattle.bytemap.specs.Map.{Map, insert}
use Rattle.entry.specs.Entries.{EntryValue}
use Rattle.directory.specs.declared.interface.CommitError.{CommitError}
use Rattle.directory.specs.Meaning.{DirectoryMeaning, address}
use Rattle.directory.specs.Calls.{Answer, entry_of, commit_answer, commit_after, free_after}
use Rattle.directory_table.specs.Answer.{answer_of}

abbrev pub Commits : DirectoryMeaning → ℕ → List ℕ → EntryValue → Answer → DirectoryMeaning → Type 0
Commits m c k e r n = (r ≡ commit_answer m c k e) × (n ≡ commit_after m c k e)

-- there is one way to be committed
pub done : (t : Unit {0}) (r : Answer) → Ok t ≡ r → Ok tt ≡ r
done t r h = h

-- a new key gets a place only where one is free
pub room_for_new : (free : ℕ) (e : EntryValue) → Ok tt ≡ answer_of None free e → 0 < free
room_for_new free e h = grind (arith, nat_tests)

-- the key has this entry, or none
module _ (m : DirectoryMeaning) (c : ℕ) (k : List ℕ) (e : EntryValue) (present : Option EntryValue) (is : entry_of m c k ≡ present) where
  answer : (r : Answer) → r ≡ answer_of present m.free e → r ≡ commit_answer m c k e
  unfolding commit_answer
  answer r answered = rw is answered

  pub kept : (r : Answer) (why : CommitError) → r ≡ Err why → Err why ≡ answer_of present m.free e → Commits m c k e r m
  unfolding commit_after
  kept r why refused answered = let a = answer (Err why) answered in rw refused (a, rw (← a))

  pub recorded : Ok tt ≡ answer_of present m.free e → (es : Map EntryValue) (free : ℕ) → es ≡ insert m.entries (address c k) e → free ≡ free_after present m.free → Commits m c k e (Ok tt) (record { entries = es; free = free })
  unfolding commit_after
  recorded answered es free es_is free_is = let a = answer (Ok tt) answered in (a, rw (← a, is, es_is, free_is))
