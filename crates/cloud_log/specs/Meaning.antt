-- What a log cloud means: what its bytes read back to.
use Rattle.std.specs.Prelude.{◌≡◌, ℕ, ◌+◌, ◌-◌, ◌≤◌, true, List, ◌++◌, length, take, Ok, Err, vec_items, vec_len}
use Rattle.cloud.specs.Meaning.{CloudMeaning}
use Rattle.cloud.specs.Outcomes.{Done}
use Rattle.log_record.specs.Records.{Record, encoded}
use Rattle.log_record.specs.Replay.{done, replayed}
use Rattle.cloud_log.specs.Index.{names}
use Rattle.cloud_log.specs.declared.log_cloud.LogCloud.{LogCloud}

-- a cloud of so many places whose log is these bytes
abbrev pub meaning_of : List ℕ → ℕ → CloudMeaning
meaning_of log places = record { sound = true; held = replayed log; free = places - length (replayed log) }

-- the bytes of the log
abbrev pub log_of : LogCloud → List ℕ
log_of c = take c.used (vec_items c.bytes)

abbrev pub log_meaning : LogCloud → CloudMeaning
log_meaning c = meaning_of (log_of c) c.places

-- A record for which there is room is appended, and the bytes before it stay; where there is none, the log is closed
-- up first. A refused call leaves the log.
abbrev pub Appended : LogCloud → Record → Done → LogCloud → Type 0
Appended c r (Ok t) c' = c.used + length (encoded r) ≤ vec_len c.bytes → log_of c' ≡ log_of c ++ encoded r
Appended c r (Err e) c' = log_of c' ≡ log_of c

-- what a call that writes this record does to the log
pub record Logged (c : LogCloud) (r : Record) (answer : Done) (c' : LogCloud) : Type 0 where
  pub same_memory : vec_len c'.bytes ≡ vec_len c.bytes
  pub appended : Appended c r answer c'

-- ---- within the cloud

-- the cloud with this record appended
pub record Grown (c : LogCloud) (r : Record) (c' : LogCloud) : Type 0 where
  pub same_memory : vec_len c'.bytes ≡ vec_len c.bytes
  pub log : log_of c' ≡ log_of c ++ encoded r
  pub held : replayed (log_of c') ≡ done (replayed (log_of c)) r
  pub same_places : c'.places ≡ c.places

-- the same cloud with so many free bytes, closed up where they were fewer
pub record Roomy (c c' : LogCloud) (size : ℕ) : Type 0 where
  pub same_memory : vec_len c'.bytes ≡ vec_len c.bytes
  pub unmoved : c.used + size ≤ vec_len c.bytes → log_of c' ≡ log_of c
  pub same_held : replayed (log_of c') ≡ replayed (log_of c)
  pub same_names : names (vec_items c'.index) ≡ names (vec_items c.index)
  pub same_places : c'.places ≡ c.places
  pub room : c'.used + size ≤ vec_len c'.bytes
