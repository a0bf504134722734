-- The invariant of a log cloud again, after its bytes and its index changed.
use Rattle.std.proofs.Common.{◌≡◌, ℕ, zero, suc, ◌+◌, ◌-◌, ◌<◌, ◌≤◌, true, List, [], ◌∷◌, ◌++◌, length, get_or, take, is_some, IfSome, IfNone, Some, None, vec_items, vec_len, Option, sym, refl, ap, subst, ◌∙◌, arith}
use Rattle.std.specs.Vec.{with_items}
use Rattle.std.proofs.lemmas.List.{with_items_is, length-map}
use Rattle.std.proofs.lemmas.List.Edits.{length-remove}
use Rattle.bytemap.specs.Map.{gathered}
use Rattle.log_record.specs.Records.{Record, stored, dropped, valid, encoded}
use Rattle.log_record.specs.Replay.{replayed}
use Rattle.log_record.specs.Written.{overwritten, Written}
use Rattle.log_record.proofs.Overwriting.{length_overwritten}
use Rattle.log_record.proofs.Outcomes.{written_is}
use Rattle.log_record.proofs.ReadBack.{whole_from}
use Rattle.log_record.proofs.Replay.{replayed_none}
use Rattle.cloud_log.specs.declared.entry.Entry.{Entry}
use Rattle.cloud_log.specs.declared.log_cloud.LogCloud.{LogCloud}
use Rattle.cloud_log.specs.Index.{name_of, names, Placed, without}
use Rattle.cloud_log.specs.Closing.{Closed}
use Rattle.cloud_log.specs.Sound.{Sound}
use Rattle.cloud_log.specs.Meaning.{meaning_of, log_of, Grown}
use Rattle.cloud_log.proofs.Standing.{laid_none}
use Rattle.cloud_log.proofs.Changed.{sound_closed, held_closed, names_closed, more_bytes, more_held, stored_sound, dropped_sound}

-- an empty log
pub sound_none : (b : List ℕ) → Sound b 0 []
unfolding gathered
sound_none b = record { within = omega arith; whole = whole_from [] refl; laid_out = laid_none b 0 0 (omega arith); different = tt; same = replayed_none }

pub empty_meaning : (places : ℕ) → meaning_of [] places ≡ record { sound = true; held = []; free = places }
empty_meaning places =
    let f : places - length (replayed []) ≡ places = omega (arith, ap length replayed_none) in
    λ j. record { sound = true; held = replayed_none j; free = f j }

-- ---- closing up, over what the cloud lends

module _ (s : LogCloud) (b₀ b' : List ℕ) (es₀ es' : List Entry) (end : ℕ) (lent_bytes : b₀ ≡ vec_items s.bytes) (lent_index : es₀ ≡ vec_items s.index)
    (all_bytes : length b' ≡ length b₀) (all_entries : length es' ≡ length es₀) (closed : Closed b₀ es₀ b' es' end) where
  bytes_are : vec_items (with_items s.bytes b') ≡ b'
  bytes_are = with_items_is s.bytes b' (omega (arith, all_bytes, ap length lent_bytes, s.bytes.ok.0))

  index_is : vec_items (with_items s.index es') ≡ es'
  index_is = with_items_is s.index es' (omega (arith, all_entries, ap length lent_index, s.index.ok.0))

  closed_here : Closed (vec_items s.bytes) (vec_items s.index) b' es' end
  closed_here = subst (λ x. Closed x (vec_items s.index) b' es' end) lent_bytes (subst (λ x. Closed b₀ x b' es' end) lent_index closed)

  -- a whole record fits behind
  pub room_behind : end + 1066 ≤ vec_len s.bytes
  room_behind = omega (arith, closed.small, all_entries, ap length lent_index, s.index.ok.0, s.reserved, s.room)

  end_within : end ≤ length b'
  end_within = omega (arith, room_behind, all_bytes, ap length lent_bytes, s.bytes.ok.0)

  pub closed_sound : Sound (vec_items (with_items s.bytes b')) end (vec_items (with_items s.index es'))
  closed_sound =
      subst (λ x. Sound x end (vec_items (with_items s.index es'))) (sym bytes_are)
      (subst (λ x. Sound b' end x) (sym index_is) (sound_closed _ _ _ s.sound b' es' end closed_here end_within))

  pub closed_held : replayed (take end (vec_items (with_items s.bytes b'))) ≡ replayed (log_of s)
  closed_held = ap (λ x. replayed (take end x)) bytes_are ∙ held_closed _ _ _ s.sound b' es' end closed_here end_within

  pub closed_names : names (vec_items (with_items s.index es')) ≡ names (vec_items s.index)
  closed_names = ap names index_is ∙ names_closed _ _ _ s.sound b' es' end closed_here end_within

-- ---- places

pub placed_within : (es : List Entry) (name : List ℕ) (place : Option ℕ) (n : ℕ) → n ≡ length es → Placed (names es) name place → IfSome place (λ i. i < n)
placed_within es name None n e a = tt
placed_within es name (Some i) n e a = omega (arith, a.0, length-map es name_of)

-- a held name is short
pub placed_short : (es : List Entry) (name : List ℕ) (i : ℕ) → Placed (names es) name (Some i) → length name ≤ 39
placed_short es name i a = short es i (omega (arith, a.0, length-map es name_of)) a.1
  where
    short : (es : List Entry) (i : ℕ) → i < length es → get_or (names es) i [] ≡ name → length name ≤ 39
    short [] i l e = absurd (omega arith)
    short (x ∷ es) zero l e = omega (arith, x.short, ap length e)
    short (x ∷ es) (suc i) l e = short es i (omega arith) e

-- there is a place for one entry more than are kept, where the name has one or one is free
pub one_more : (s : LogCloud) (name : List ℕ) (place : Option ℕ) → Placed (names (vec_items s.index)) name place → IfNone place (vec_len s.index < s.places) → length (without (vec_items s.index) place) < s.places
one_more s name None a c = omega (arith, s.index.ok.0)
one_more s name (Some i) a c =
    omega (arith, s.index.ok.0, s.reserved, length-remove (vec_items s.index) i (placed_within (vec_items s.index) name (Some i) _ refl a))

-- ---- one record more, over what the cloud lends

-- The record was written behind the log.
pub record Appending (s : LogCloud) (r : Record) (b' : List ℕ) (answer : Option ℕ) : Type 0 where
  pub allowed : valid r ≡ true
  pub fits : s.used + length (encoded r) ≤ length (vec_items s.bytes)
  pub ends : answer ≡ Some (s.used + length (encoded r))
  pub written : b' ≡ overwritten (vec_items s.bytes) s.used (encoded r)

pub appending : (s : LogCloud) (r : Record) {b₀ b' : List ℕ} {answer : Option ℕ} → valid r ≡ true → s.used + length (encoded r) ≤ vec_len s.bytes → b₀ ≡ vec_items s.bytes → Written b₀ s.used r answer b' → Appending s r b' answer
appending s r {b' = b'} {answer = answer} v room lent w =
    let f : s.used + length (encoded r) ≤ length (vec_items s.bytes) = omega (arith, room, s.bytes.ok.0) in
    let i = written_is (vec_items s.bytes) s.used r answer b' v f (subst (λ x. Written x s.used r answer b') lent w) in
    record { allowed = v; fits = f; ends = i.0; written = i.1 }

module _ {s : LogCloud} {r : Record} {b' : List ℕ} {answer : Option ℕ} (a : Appending s r b' answer) where
  pub appended : is_some answer ≡ true
  appended = ap is_some a.ends

  appended_bytes : vec_items (with_items s.bytes b') ≡ b'
  appended_bytes = with_items_is s.bytes b' (omega (arith, ap length a.written, length_overwritten (vec_items s.bytes) s.used (encoded r) a.fits, s.bytes.ok.0))

  module _ {end : ℕ} (is : answer ≡ Some end) where
    end_is : end ≡ s.used + length (encoded r)
    end_is = let e = a.ends in cc

    pub grown : (s' : LogCloud) → s'.bytes ≡ with_items s.bytes b' → s'.used ≡ end → s'.places ≡ s.places → Grown s r s'
    grown s' b u p =
        let e = u ∙ end_is in
        let x = ap vec_items b ∙ appended_bytes in
        let l : log_of s' ≡ take (s.used + length (encoded r)) b' = λ j. take (e j) (x j) in
        record {
          same_memory = ap vec_len b;
          log = l ∙ more_bytes _ _ _ s.sound r a.allowed a.fits b' a.written;
          held = ap replayed l ∙ more_held _ _ _ s.sound r a.allowed a.fits b' a.written;
          same_places = p;
        }

    pub sound_grown : (es' : List Entry) → Sound b' (s.used + length (encoded r)) es' → Sound (vec_items (with_items s.bytes b')) end es'
    sound_grown es' t = subst (λ x. Sound x end es') (sym appended_bytes) (subst (λ n. Sound b' n es') (sym end_is) t)

-- the index after a value was put under a name: its entry is the last
pub sound_stored : {s : LogCloud} {name value b' : List ℕ} {answer : Option ℕ} {end : ℕ} → Appending s (stored name value) b' answer → answer ≡ Some end → (place : Option ℕ) → Placed (names (vec_items s.index)) name place
    → (es₁ es' : List Entry) (e : Entry) → es₁ ≡ without (vec_items s.index) place → es' ≡ es₁ ++ (e ∷ []) → name_of e ≡ name → e.offset ≡ s.used → e.size ≡ length value → Sound (vec_items (with_items s.bytes b')) end es'
sound_stored {s} {name} {value} {b'} a is place at es₁ es' e taken pushed named from sized =
    let t = stored_sound _ _ _ s.sound name value a.allowed place at a.fits b' a.written e named from sized in
    sound_grown a is es' (subst (Sound b' _) (sym (pushed ∙ ap (λ x. x ++ (e ∷ [])) taken)) t)

-- and after a name was dropped
pub sound_dropped : {s : LogCloud} {name b' : List ℕ} {answer : Option ℕ} {end : ℕ} → Appending s (dropped name) b' answer → answer ≡ Some end → (i : ℕ) → Placed (names (vec_items s.index)) name (Some i)
    → (es' : List Entry) → es' ≡ without (vec_items s.index) (Some i) → Sound (vec_items (with_items s.bytes b')) end es'
sound_dropped {s} {name} {b'} a is i at es' taken =
    sound_grown a is es' (subst (Sound b' _) (sym taken) (dropped_sound _ _ _ s.sound name a.allowed (Some i) at a.fits b' a.written))
