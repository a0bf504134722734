-- Rounds over a schedule that is kept in sixteen words are the rounds over the whole schedule.
use Rattle.std.proofs.Common.{◌≡◌, ℕ, zero, suc, ◌+◌, ◌-◌, ◌%◌, ◌<◌, ◌≤◌, max, ◌≢◌, List, length, get_or, take, sym, refl, ap, ◌∙◌, inl, inr, add-one, arith}
use Rattle.std.proofs.lemmas.List.{get_or-take, get_or-set_same, get_or-set_other, length-set}
use Rattle.std.proofs.lemmas.Bool.{lt-ltb, le-ltb, cases_lt, cases_eq}
use Rattle.digest.specs.Words.{sums}
use Rattle.digest.specs.Rounds.{turned, scheduled, schedule, rounds, compression, renewed, step, ReadsSixteen}
use Rattle.digest.proofs.Turns.{take_grown, getD_grown}

module _ (mixed : (ℕ → ℕ) → ℕ) (n : ℕ) (block : List ℕ) where
  getD_schedule : (t : ℕ) → t < n → get_or (schedule mixed n block) t 0 ≡ scheduled mixed block (take t (schedule mixed n block)) t
  getD_schedule t h =
      let more = n - (t + 1) in
      let e : t + 1 + more ≡ n = omega arith in
      let e' : t + (1 + more) ≡ n = omega arith in
      let next = scheduled mixed block in
      rw e at (getD_grown next t more) ∙ ap (λ ws. next ws t) (sym (rw e' at (take_grown next t (1 + more))))

  pub schedule_first : (t : ℕ) → t < n → t < 16 → get_or (schedule mixed n block) t 0 ≡ get_or block t 0
  schedule_first t h low = getD_schedule t h ∙ rw (lt-ltb t 16 low)

  pub schedule_later : ReadsSixteen mixed → (t : ℕ) → t < n → 16 ≤ t → get_or (schedule mixed n block) t 0 ≡ mixed (λ k. get_or (schedule mixed n block) (t - k) 0)
  schedule_later reads t h high =
      let ws = schedule mixed n block in
      getD_schedule t h ∙ rw (le-ltb t 16 high)
      (reads (λ k. get_or (take t ws) (t - k) 0) (λ k. get_or ws (t - k) 0) (λ k pos le. let below : t - k < t = omega arith in get_or-take t ws (t - k) 0 below))

-- before the round t: the last sixteen words of the schedule stand at their places, the block's while t is below 16
record Holds (ws w : List ℕ) (t : ℕ) : Type 0 where
  long : length w ≡ 16
  places : (k : ℕ) → k < max 16 t → t ≤ k + 16 → get_or w (k % 16) 0 ≡ get_or ws k 0

module _ (round : List ℕ → ℕ → ℕ → List ℕ) (mixed : (ℕ → ℕ) → ℕ) (reads : ReadsSixteen mixed) (n : ℕ) (h block : List ℕ) (enough : 16 ≤ n) (sixteen : length block ≡ 16) where
  abbrev ws : List ℕ
  ws = schedule mixed n block

  holds_none : Holds ws block 0
  holds_none = record { long = sixteen; places = λ k below _. let low : k < 16 = omega arith in let e : k % 16 ≡ k = omega arith in rw e (sym (schedule_first mixed n block k (omega arith) low)) }

  -- the mix of the sixteen words is the word t
  mixed_held : (w : List ℕ) (t : ℕ) → t < n → 16 ≤ t → Holds ws w t → mixed (λ k. get_or w ((t - k) % 16) 0) ≡ get_or ws t 0
  mixed_held w t below high holds =
      reads (λ k. get_or w ((t - k) % 16) 0) (λ k. get_or ws (t - k) 0) (λ k pos le. holds.places (t - k) (omega arith) (omega arith))
      ∙ sym (schedule_later mixed n block reads t below high)

  place : (t : ℕ) (w : List ℕ) → length w ≡ 16 → t % 16 < length w
  place t w e = omega arith

  word_renewed : (w : List ℕ) (t : ℕ) → t < n → Holds ws w t → get_or (renewed mixed w t) (t % 16) 0 ≡ get_or ws t 0
  word_renewed w t below holds =
      elim (cases_lt t 16) [
        | inl low ↦ rw (lt-ltb t 16 low) (holds.places t (omega arith) (omega arith))
        | inr high ↦ rw (le-ltb t 16 high) (get_or-set_same w (t % 16) _ 0 (place t w holds.long) ∙ mixed_held w t below high holds)
      ]

  holds_more : (w : List ℕ) (t : ℕ) → t < n → Holds ws w t → Holds ws (renewed mixed w t) (t + 1)
  holds_more w t below holds =
      elim (cases_lt t 16) [
        | inl low ↦ rw (lt-ltb t 16 low) (record { long = holds.long; places = λ k a b. holds.places k (omega arith) (omega arith) })
        | inr high ↦ rw (le-ltb t 16 high) (record {
          long = length-set w (t % 16) _ ∙ holds.long;
          places = λ k a b. elim (cases_eq k t) [
            | inl e ↦ rw e (get_or-set_same w (t % 16) _ 0 (place t w holds.long) ∙ mixed_held w t below high holds)
            | inr ne ↦ let other : k % 16 ≢ t % 16 = omega arith in get_or-set_other w (t % 16) (k % 16) _ 0 other ∙ holds.places k (omega arith) (omega arith)
          ];
        })
      ]

  -- the rounds over sixteen words
  turned_holds : (t : ℕ) → t ≤ n → ((turned (step round mixed) (h, block) t).0 ≡ rounds round ws t h) × Holds ws (turned (step round mixed) (h, block) t).1 t
  unfolding turned step
  turned_holds zero le = (refl, holds_none)
  turned_holds (suc t) le =
      let both = turned_holds t (omega arith) in
      let w = (turned (step round mixed) (h, block) t).1 in
      let below : t < n = omega arith in (
        ap (λ v. round v t (get_or (renewed mixed w t) (t % 16) 0)) both.0 ∙ ap (round (rounds round ws t h) t) (word_renewed w t below both.1),
        rw add-one at (holds_more w t below both.1),
      )

  -- the sums of the working variables after the last round and the hash value are the compression
  pub compression_window : (size : ℕ) (v w : List ℕ) (t : ℕ) → t ≡ n → (v, w) ≡ turned (step round mixed) (h, block) t → sums size v h ≡ compression round mixed n size h block
  unfolding compression
  compression_window size v w t all e = ap (λ v. sums size v h) (ap (λ s. s.0) (rw all at e) ∙ (turned_holds n (omega arith)).0)
