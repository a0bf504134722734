-- What a call at a sound cloud answers, writes and leaves, by what the cloud finds.
use Rattle.std.proofs.Common.{◌≡◌, ℕ, ◌+◌, ◌-◌, ◌<◌, ◌≤◌, true, false, eqb, ◌⊎◌, List, length, Some, None, Ok, Err, IfOk, refl, arith}
use Rattle.std.proofs.lemmas.Bool.Decides.{nat_tests}
use Rattle.refusal.specs.declared.Cause.TheVariants.{Full, TooLong, NotHeld}
use Rattle.bytemap.specs.Map.{Map, find, insert, remove, next_key}
use Rattle.cloud.specs.Meaning.{CloudMeaning}
use Rattle.cloud.specs.Outcomes.{Length, over, fits, length_within, part_within, put_answer, put_after, get_answer, get_part, drop_answer, drop_after, next_answer, next_place, PutOutcome, GetOutcome, DropOutcome, NextOutcome}

abbrev Held : Type 0
Held = Map (List ℕ)

abbrev sound_cloud : Held → ℕ → CloudMeaning
sound_cloud held free = record { sound = true; held = held; free = free }

module _ (held : Held) (free : ℕ) (name : List ℕ) where
  module _ (value : List ℕ) where
    pub put_too_long : (39 < length name) ⊎ (1024 < length value) → PutOutcome (sound_cloud held free) name value (Err TooLong) (sound_cloud held free)
    unfolding put_answer put_after
    put_too_long h =
        let f : fits name value ≡ false = grind (arith, nat_tests) in
        record { answer = λ _. rw f; after = λ _. rw f }

    module _ (short : length name ≤ 39) (small : length value ≤ 1024) where
      within : fits name value ≡ true
      within = grind (arith, nat_tests)

      pub put_full : find held name ≡ None → free ≡ 0 → PutOutcome (sound_cloud held free) name value (Err Full) (sound_cloud held free)
      unfolding put_answer put_after
      put_full none full = record { answer = λ _. rw (within, none, full); after = λ _. rw (within, none, full) }

      pub put_new : find held name ≡ None → 0 < free → (held' : Held) (free' : ℕ) → held' ≡ insert held name value → free' ≡ free - 1 → PutOutcome (sound_cloud held free) name value (Ok tt) (sound_cloud held' free')
      unfolding put_answer put_after
      put_new none some held' free' h f =
          let e : eqb free 0 ≡ false = grind (arith, nat_tests) in
          record { answer = λ _. rw (within, none, e); after = λ _. rw (within, none, e, none, h, f) }

      pub put_again : (old : List ℕ) → find held name ≡ Some old → (held' : Held) (free' : ℕ) → held' ≡ insert held name value → free' ≡ free → PutOutcome (sound_cloud held free) name value (Ok tt) (sound_cloud held' free')
      unfolding put_answer put_after
      put_again old some held' free' h f = record { answer = λ _. rw (within, some); after = λ _. rw (within, some, some, h, f) }

  module _ (part : List ℕ) where
    pub get_missing : find held name ≡ None → GetOutcome (sound_cloud held free) name part (Err NotHeld) part (sound_cloud held free)
    unfolding get_answer get_part
    get_missing none = record { within = tt; answer = λ _. rw none; written = λ _. rw none; after = λ _. refl }

    -- what is found is written as far as there is room for it
    pub get_found : (value : List ℕ) → find held name ≡ Some value → (r : Length) (part' : List ℕ) → r ≡ length_within (Some value) (length part) → part' ≡ part_within (Some value) part → GetOutcome (sound_cloud held free) name part r part' (sound_cloud held free)
    unfolding get_answer get_part
    get_found value some r part' a w = record { within = rw a within_part; answer = λ _. rw some a; written = λ _. rw some w; after = λ _. refl } where
      within_part : IfOk (length_within (Some value) (length part)) (λ n. n ≤ length part)
      within_part = grind (arith, nat_tests)

  pub drop_missing : find held name ≡ None → DropOutcome (sound_cloud held free) name (Err NotHeld) (sound_cloud held free)
  unfolding drop_answer drop_after
  drop_missing none = record { answer = λ _. rw none; after = λ _. rw none }

  pub drop_done : (value : List ℕ) → find held name ≡ Some value → (held' : Held) (free' : ℕ) → held' ≡ remove held name → free' ≡ free + 1 → DropOutcome (sound_cloud held free) name (Ok tt) (sound_cloud held' free')
  unfolding drop_answer drop_after
  drop_done value some held' free' h f = record { answer = λ _. rw some; after = λ _. rw (some, h, f) }

module _ (held : Held) (free : ℕ) (above place : List ℕ) where
  pub next_end : next_key held above ≡ None → NextOutcome (sound_cloud held free) above place (Ok None) place (sound_cloud held free)
  unfolding next_answer next_place
  next_end none = record { within = tt; answer = λ _. rw none; written = λ _. rw none; after = λ _. refl }

  pub next_found : (name : List ℕ) → next_key held above ≡ Some name → length name ≤ 39 → (n : ℕ) (place' : List ℕ) → n ≡ length name → place' ≡ over name place → NextOutcome (sound_cloud held free) above place (Ok (Some n)) place' (sound_cloud held free)
  unfolding next_answer next_place
  next_found name some short n place' l w = record { within = omega arith; answer = λ _. rw (some, l); written = λ _. rw (some, w); after = λ _. refl }
