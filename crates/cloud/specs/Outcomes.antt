-- What each call at a cloud answers, writes and leaves: exactly where the cloud is sound, and within bounds where it is not.
use Rattle.std.specs.Prelude.{◌≡◌, ℕ, ◌+◌, ◌-◌, ◌≤◌, Bool, true, cond, ◌&&◌, List, ◌++◌, length, drop, IfSome, IfOk, Some, None, Ok, Err, Option, Result, ◌==◌, nat_le}
use Rattle.std.specs.Option.{option_map}
use Rattle.refusal.specs.declared.Cause.{Cause}
use Rattle.refusal.specs.declared.Cause.TheVariants.{Full, TooLong, NotHeld}
use Rattle.bytemap.specs.Map.{find, insert, remove, next_key}
use Rattle.cloud.specs.Meaning.{CloudMeaning, longest_name, longest_value}

abbrev pub Done : Type 0
Done = Result (Unit {0}) Cause

-- bytes written to the front of a part; the rest of it stays
abbrev pub over : List ℕ → List ℕ → List ℕ
over bytes part = bytes ++ drop (length bytes) part

-- ---- put

abbrev pub fits : List ℕ → List ℕ → Bool
fits name value = nat_le (length name) longest_name && nat_le (length value) longest_value

-- a name that is held has its place; a new one needs a free place
abbrev pub place_answer : Option (List ℕ) → ℕ → Done
place_answer (Some old) free = Ok tt
place_answer None free = cond (free == 0) (Err Full) (Ok tt)

unfoldable pub put_answer : CloudMeaning → List ℕ → List ℕ → Done
put_answer m name value = cond (fits name value) (place_answer (find m.held name) m.free) (Err TooLong)

abbrev pub free_after : Option (List ℕ) → ℕ → ℕ
free_after (Some old) free = free
free_after None free = free - 1

abbrev pub when_put : Done → CloudMeaning → List ℕ → List ℕ → CloudMeaning
when_put (Ok t) m name value =
    record { sound = m.sound; held = insert m.held name value; free = free_after (find m.held name) m.free }
when_put (Err e) m name value = m

unfoldable pub put_after : CloudMeaning → List ℕ → List ℕ → CloudMeaning
put_after m name value = when_put (put_answer m name value) m name value

pub record PutOutcome (m : CloudMeaning) (name value : List ℕ) (r : Done) (m' : CloudMeaning) : Type 0 where
  pub answer : m.sound ≡ true → r ≡ put_answer m name value
  pub after : m.sound ≡ true → m' ≡ put_after m name value

-- ---- get

abbrev pub Length : Type 0
Length = Result ℕ Cause

abbrev pub length_within : Option (List ℕ) → ℕ → Length
length_within None room = Err NotHeld
length_within (Some value) room = cond (nat_le (length value) room) (Ok (length value)) (Err TooLong)

unfoldable pub get_answer : CloudMeaning → List ℕ → ℕ → Length
get_answer m name room = length_within (find m.held name) room

abbrev pub part_within : Option (List ℕ) → List ℕ → List ℕ
part_within None part = part
part_within (Some value) part = cond (nat_le (length value) (length part)) (over value part) part

unfoldable pub get_part : CloudMeaning → List ℕ → List ℕ → List ℕ
get_part m name part = part_within (find m.held name) part

pub record GetOutcome (m : CloudMeaning) (name part : List ℕ) (r : Length) (part' : List ℕ) (m' : CloudMeaning) : Type 0 where
  pub within : IfOk r (λ n. n ≤ length part)
  pub answer : m.sound ≡ true → r ≡ get_answer m name (length part)
  pub written : m.sound ≡ true → part' ≡ get_part m name part
  pub after : m.sound ≡ true → m' ≡ m

-- ---- drop

abbrev pub held_answer : Option (List ℕ) → Done
held_answer None = Err NotHeld
held_answer (Some value) = Ok tt

unfoldable pub drop_answer : CloudMeaning → List ℕ → Done
drop_answer m name = held_answer (find m.held name)

abbrev pub when_dropped : Done → CloudMeaning → List ℕ → CloudMeaning
when_dropped (Ok t) m name = record { sound = m.sound; held = remove m.held name; free = m.free + 1 }
when_dropped (Err e) m name = m

unfoldable pub drop_after : CloudMeaning → List ℕ → CloudMeaning
drop_after m name = when_dropped (drop_answer m name) m name

pub record DropOutcome (m : CloudMeaning) (name : List ℕ) (r : Done) (m' : CloudMeaning) : Type 0 where
  pub answer : m.sound ≡ true → r ≡ drop_answer m name
  pub after : m.sound ≡ true → m' ≡ drop_after m name

-- ---- next

abbrev pub NextLength : Type 0
NextLength = Result (Option ℕ) Cause

abbrev pub place_with : Option (List ℕ) → List ℕ → List ℕ
place_with None place = place
place_with (Some name) place = over name place

unfoldable pub next_answer : CloudMeaning → List ℕ → NextLength
next_answer m above = Ok (option_map length (next_key m.held above))

unfoldable pub next_place : CloudMeaning → List ℕ → List ℕ → List ℕ
next_place m above place = place_with (next_key m.held above) place

pub record NextOutcome (m : CloudMeaning) (above place : List ℕ) (r : NextLength) (place' : List ℕ) (m' : CloudMeaning) : Type 0 where
  pub within : IfOk r (λ o. IfSome o (λ n. n ≤ longest_name))
  pub answer : m.sound ≡ true → r ≡ next_answer m above
  pub written : m.sound ≡ true → place' ≡ next_place m above place
  pub after : m.sound ≡ true → m' ≡ m
