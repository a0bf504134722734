-- A sound cloud is freed of exactly the old names.
use Rattle.std.proofs.Common.{◌≡◌, ℕ, suc, ◌+◌, ◌≤◌, true, false, cond, List, [], ◌∷◌, length, get_or, take, Some, None, Ok, Err, Result, sym, refl, ap, ◌∙◌, subst, ⊎_elim, arith}
use Rattle.std.specs.Option.{option_map}
use Rattle.std.specs.Str.{bytes_eq}
use Rattle.std.proofs.lemmas.Slice.Eq.{bytes_eq-Decides}
use Rattle.std.proofs.lemmas.Bool.{cases_Bool, both_ways, not-true}
use Rattle.refusal.specs.declared.Cause.{Cause}
use Rattle.byte_strings.specs.Order.{below, at_most}
use Rattle.byte_strings.specs.OrderLaws.{at_most_reflexive, at_most_transitive, at_most_antisymmetric, below_irreflexive, below_at_most, below_or_at_most, at_most_then_below}
use Rattle.bytemap.specs.Map.{Map, find, remove, next_key, beyond, Ascending}
use Rattle.bytemap.proofs.Find.{apart, same_is, find_remove, not_above as not_found, ascending_remove, none_or_some}
use Rattle.bytemap.proofs.Next.{next_is_above, next_is_found, next_is_least, none_is_above}
use Rattle.bytemap.proofs.Walk.{length_beyond, beyond_fewer}
use Rattle.naming.specs.Stamps.{no_stamp}
use Rattle.naming.specs.Names.{IsNameOf}
use Rattle.naming.proofs.Names.{names_keep_the_order_of_stamps}
use Rattle.cloud.specs.Meaning.{CloudMeaning, WithinLimits}
use Rattle.cloud.specs.Outcomes.{Done, next_answer, drop_answer, drop_after, when_dropped, held_answer, NextOutcome, DropOutcome}
use Rattle.cloud.proofs.Sound.{next_gives, next_ends}
use Rattle.row.specs.Rows.{no_cloud}
use Rattle.protocol.specs.Slots.{SweepingValue}
use Rattle.protocol.specs.Sweeping.{lowest_name, sweep_bound, Gives, Going, Swept, begin, pass, drop, no_more, reached, next_refused, drop_refused, not_above, too_many}
use Rattle.sweeping.specs.Laws.{OldName, FreedOfOldNames, ASoundCloudIsFreedOfOldNames}
use Rattle.sweeping.proofs.Carried.{swept_there}

-- ---- a map without one of its keys

module _ {V : Type 0} where
  remove_absent : (m : Map V) (k : List ℕ) → find m k ≡ None → remove m k ≡ m
  unfolding find remove
  remove_absent [] k e = refl
  remove_absent (p ∷ m) k e =
      ⊎_elim (λ (t : bytes_eq p.0 k ≡ true). absurd (let h : Some p.1 ≡ None = rw t at e in grind arith))
      (λ (f : bytes_eq p.0 k ≡ false). rw f (ap (λ q. p ∷ q) (remove_absent m k (rw f at e)))) (cases_Bool (bytes_eq p.0 k))

  length_remove : (m : Map V) (k : List ℕ) (v : V) → Ascending m → find m k ≡ Some v → length (remove m k) + 1 ≡ length m
  unfolding find remove
  length_remove [] k v asc e = absurd (grind arith)
  length_remove (p ∷ m) k v asc e =
      ⊎_elim
      (λ (t : bytes_eq p.0 k ≡ true).
      let a : find m k ≡ None = not_found p.0 m k asc.0 (subst (λ y. below p.0 y ≡ false) (same_is p.0 k t) (below_irreflexive p.0)) in
      let l = ap length (remove_absent m k a) in
      rw t (omega arith))
      (λ (f : bytes_eq p.0 k ≡ false). let l = length_remove m k v asc.1 (rw f at e) in rw f (omega arith))
      (cases_Bool (bytes_eq p.0 k))

  beyond_remove : (k : List ℕ) (m : Map V) → beyond k (remove m k) ≡ beyond k m
  unfolding beyond remove
  beyond_remove k [] = refl
  beyond_remove k (p ∷ m) =
      ⊎_elim
      (λ (t : bytes_eq p.0 k ≡ true).
      let b : below k p.0 ≡ false = subst (λ y. below k y ≡ false) (sym (same_is p.0 k t)) (below_irreflexive k) in
      rw (t, b) (beyond_remove k m))
      (λ (f : bytes_eq p.0 k ≡ false). rw f (ap (λ q. cond (below k p.0) (p ∷ q) q) (beyond_remove k m)))
      (cases_Bool (bytes_eq p.0 k))

-- ---- names by their stamps

module _ (x : SweepingValue) (n : List ℕ) where
  old_is_above : OldName x n → below (lowest_name x) n ≡ true
  old_is_above o = ap (below (lowest_name x)) o.name ∙ names_keep_the_order_of_stamps x.container x.key no_stamp o.stamp ∙ o.written

  old_is_below : OldName x n → below n (sweep_bound x) ≡ true
  old_is_below o = ap (λ y. below y (sweep_bound x)) o.name ∙ names_keep_the_order_of_stamps x.container x.key o.stamp x.stamp ∙ o.older

  old_from : IsNameOf n x.container x.key → below (lowest_name x) n ≡ true → below n (sweep_bound x) ≡ true → OldName x n
  old_from named above under =
      let s = named.0 in
      record {
        stamp = s;
        valid = named.1;
        name = named.2;
        written = sym (names_keep_the_order_of_stamps x.container x.key no_stamp s) ∙ ap (below (lowest_name x)) (sym named.2) ∙ above;
        older = sym (names_keep_the_order_of_stamps x.container x.key s x.stamp) ∙ ap (λ y. below y (sweep_bound x)) (sym named.2) ∙ under;
      }

-- ---- under way: the cloud m₀ is freed of the old names up to the last one

record Half (x : SweepingValue) (m₀ m : CloudMeaning) (last : List ℕ) (seen dropped : ℕ) : Type 0 where
  sound : m.sound ≡ true
  ascending : Ascending m.held
  gone : (n : List ℕ) → OldName x n → at_most n last ≡ true → find m.held n ≡ None
  others : (n : List ℕ) → (OldName x n → at_most n last ≡ true → ⊥) → find m.held n ≡ find m₀.held n
  count : length m.held + dropped ≡ length m₀.held
  free : m.free ≡ m₀.free + dropped
  left : seen + length (beyond last m.held) ≤ length m₀.held
  low : at_most (lowest_name x) last ≡ true

module _ (x : SweepingValue) (m₀ : CloudMeaning) where
  begun : m₀.sound ≡ true → Ascending m₀.held → Half x m₀ m₀ (lowest_name x) 0 0
  begun sound asc =
      record {
        sound = sound;
        ascending = asc;
        gone = λ n o a. absurd (both_ways (at_most n (lowest_name x)) (not-true (at_most n (lowest_name x)) (old_is_above x n o)) a);
        others = λ n spared. refl;
        count = omega arith;
        free = omega arith;
        left = omega (arith, length_beyond (lowest_name x) m₀.held);
        low = at_most_reflexive (lowest_name x);
      }

  module _ (m : CloudMeaning) (last : List ℕ) (seen dropped : ℕ) (h : Half x m₀ m last seen dropped) where
    module _ (n : List ℕ) (next : next_key m.held last ≡ Some n) where
      up : below last n ≡ true
      up = next_is_above m.held last n next

      -- the only name that is held above the last one and up to the next is the next
      still_gone : (k : List ℕ) → OldName x k → at_most k n ≡ true → (k ≡ n → ⊥) → find m.held k ≡ None
      still_gone k o a other =
          ⊎_elim
          (λ (b : below last k ≡ true). ⊎_elim (λ e. e) (λ f. absurd (other (at_most_antisymmetric k n a (next_is_least m.held last n k f.0 h.ascending next b f.1)))) (none_or_some (find m.held k)))
          (λ (b : at_most k last ≡ true). h.gone k o b)
          (below_or_at_most last k)

      others_on : (k : List ℕ) → (OldName x k → at_most k n ≡ true → ⊥) → find m.held k ≡ find m₀.held k
      others_on k spared = h.others k (λ o a. spared o (at_most_transitive k last n a (below_at_most last n up)))

      low_on : at_most (lowest_name x) n ≡ true
      low_on = at_most_transitive (lowest_name x) last n h.low (below_at_most last n up)

      fewer : length (beyond last m.held) ≡ suc (length (beyond n m.held))
      fewer = beyond_fewer last n m.held h.ascending next

      passed : (IsNameOf n x.container x.key → ⊥) → Half x m₀ m n (suc seen) dropped
      passed other =
          record {
            sound = h.sound;
            ascending = h.ascending;
            gone = λ k o a. still_gone k o a (λ e. other (o.stamp, o.valid, sym e ∙ o.name));
            others = others_on;
            count = h.count;
            free = h.free;
            left = omega (arith, h.left, fewer);
            low = low_on;
          }

      dropped_one : IsNameOf n x.container x.key → below n (sweep_bound x) ≡ true → Half x m₀ (when_dropped (Ok tt) m n) n (suc seen) (suc dropped)
      dropped_one named under =
          let old : OldName x n = old_from x n named (at_most_then_below (lowest_name x) last n h.low up) under in
          let found = next_is_found m.held last n next in
          record {
            sound = h.sound;
            ascending = ascending_remove m.held n h.ascending;
            gone = λ k o a. find_remove m.held n k
                ∙ ⊎_elim (λ (t : bytes_eq n k ≡ true). rw t) (λ (f : bytes_eq n k ≡ false). rw f (still_gone k o a (λ e. both_ways (bytes_eq n k) f ((bytes_eq-Decides n k).1 (sym e))))) (cases_Bool (bytes_eq n k));
            others = λ k spared. find_remove m.held n k ∙ rw (apart n k (λ e. spared (subst (OldName x) e old) (subst (λ y. at_most y n ≡ true) e (at_most_reflexive n)))) (others_on k spared);
            count = omega (arith, h.count, length_remove m.held n found.0 h.ascending found.1);
            free = omega (arith, h.free);
            left = omega (arith, h.left, fewer, ap length (beyond_remove n m.held));
            low = low_on;
          }

    -- no old name is held above the last one
    finished : ((k : List ℕ) → OldName x k → below last k ≡ true → find m.held k ≡ None) → FreedOfOldNames x m₀ dropped m
    finished none =
        record {
          sound = h.sound;
          ascending = h.ascending;
          gone = λ k o. ⊎_elim (λ (b : below last k ≡ true). none k o b) (λ (b : at_most k last ≡ true). h.gone k o b) (below_or_at_most last k);
          others = λ k spared. h.others k (λ o a. spared o);
          count = h.count;
          free = h.free;
        }

-- ---- what a drop of a held name comes to

drop_of_held : (m m' : CloudMeaning) (n : List ℕ) → m.sound ≡ true → DropOutcome m n (Ok tt) m' → m' ≡ when_dropped (Ok tt) m n
unfolding drop_after
drop_of_held m m' n s d = d.after s ∙ ap (λ (r : Done). when_dropped r m n) (sym (d.answer s))

held_is_dropped : (m m' : CloudMeaning) (n v : List ℕ) (e : Cause) → m.sound ≡ true → find m.held n ≡ Some v → DropOutcome m n (Err e) m' → ⊥
unfolding drop_answer
held_is_dropped m m' n v e s f d = let c : Err e ≡ Ok tt = d.answer s ∙ ap held_answer f in grind arith

next_is_answered : (m m' : CloudMeaning) (above place place' : List ℕ) (e : Cause) → m.sound ≡ true → NextOutcome m above place (Err e) place' m' → ⊥
unfolding next_answer
next_is_answered m m' above place place' e s o = let c : Err e ≡ Ok (option_map length (next_key m.held above)) = o.answer s in grind arith

-- ---- the chain

module _ (x : SweepingValue) (m₀ : CloudMeaning) (sound : m₀.sound ≡ true) (limits : WithinLimits m₀) where
  given : {a b : CloudMeaning} {last n : List ℕ} {seen : ℕ} → a.sound ≡ true → Gives NextOutcome DropOutcome x a last seen n b → next_key a.held last ≡ Some n
  given {a} {b} {last} s g = next_gives a b last g.place g.place' g.len s g.asked ∙ ap Some (sym g.name)

  half : {m : CloudMeaning} {last : List ℕ} {seen dropped : ℕ} → Going NextOutcome DropOutcome x m₀ m last seen dropped → Half x m₀ m last seen dropped
  half begin = begun x m₀ sound limits.ascending
  half (pass {b} {c} {last} {n} {seen} {dropped} p g under other) =
      let h = half p in
      subst (λ (m : CloudMeaning). Half x m₀ m n (suc seen) dropped) (sym (g.asked.after h.sound)) (passed x m₀ b last seen dropped h n (given h.sound g) other)
  half (drop {b} {c} {d} {last} {n} {seen} {dropped} p g under named done) =
      let h = half p in
      let same : c ≡ b = g.asked.after h.sound in
      let after : d ≡ when_dropped (Ok tt) b n = subst (λ (m : CloudMeaning). m.sound ≡ true → d ≡ when_dropped (Ok tt) m n) same (λ s. drop_of_held c d n s done) h.sound in
      subst (λ (m : CloudMeaning). Half x m₀ m n (suc seen) (suc dropped)) (sym after) (dropped_one x m₀ b last seen dropped h n (given h.sound g) named under)

  freed : {m : CloudMeaning} {r : Result ℕ Cause} → Swept NextOutcome DropOutcome x m₀ m r → (many : ℕ) × (r ≡ Ok many) × FreedOfOldNames x m₀ many m
  freed (no_more {b} {c} {last} {place} {place'} {seen} {dropped} p asked) =
      let h = half p in (
        dropped,
        refl,
        subst (λ (m : CloudMeaning). FreedOfOldNames x m₀ dropped m) (sym (asked.after h.sound))
            (finished x m₀ b last seen dropped h (λ k o up. none_is_above b.held last k (next_ends b c last place place' h.sound asked) up)),
      )
  freed (reached {b} {c} {last} {n} {seen} {dropped} p g past) =
      let h = half p in (
        dropped,
        refl,
        subst (λ (m : CloudMeaning). FreedOfOldNames x m₀ dropped m) (sym (g.asked.after h.sound))
            (finished x m₀ b last seen dropped h (λ k o up. ⊎_elim (λ e. e)
            (λ f. absurd (both_ways _ past (at_most_then_below n k (sweep_bound x) (next_is_least b.held last n k f.0 h.ascending (given h.sound g) up f.1) (old_is_below x k o))))
            (none_or_some (find b.held k)))),
      )
  freed (next_refused {b} {c} {last} {place} {place'} {seen} {dropped} {e} p asked) = absurd (next_is_answered b c last place place' e (half p).sound asked)
  freed (drop_refused {b} {c} {d} {last} {n} {seen} {dropped} {e} p g under named done) =
      let h = half p in
      let f = next_is_found b.held last n (given h.sound g) in
      absurd (subst (λ (m : CloudMeaning). m.sound ≡ true → find m.held n ≡ Some f.0 → ⊥) (g.asked.after h.sound) (λ s i. held_is_dropped c d n f.0 e s i done) h.sound f.1)
  freed (not_above {b} {c} {last} {place} {place'} {seen} {dropped} {len} p asked down) =
      absurd (both_ways _ down (next_is_above b.held last (take len place') (next_gives b c last place place' len (half p).sound asked)))
  freed (too_many {b} {c} {last} {place} {place'} {seen} {dropped} {len} p asked many) =
      let h = half p in
      let l = fewer x m₀ b last seen dropped h (take len place') (next_gives b c last place place' len h.sound asked) in
      absurd (omega (arith, h.left, limits.places))

pub a_sound_cloud_is_freed_of_old_names : ASoundCloudIsFreedOfOldNames
a_sound_cloud_is_freed_of_old_names x i ms ms' r here sound limits c =
    let there = swept_there i here c in
    let f = freed x (get_or ms i no_cloud) sound limits there.0 in
    (f.0, f.1, f.2, there.1)
