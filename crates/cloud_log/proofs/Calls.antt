-- The calls at a log cloud, by what stands in its index.
use Rattle.std.proofs.Common.{◌≡◌, ℕ, ◌+◌, ◌-◌, ◌<◌, ◌≤◌, true, false, ◌||◌, ltb, List, [], ◌++◌, map, length, get_or, is_some, IfNone, Some, None, Ok, Err, vec_items, vec_len, Option, sym, refl, ap, subst, ◌∙◌, arith}
use Rattle.std.specs.List.{position_or_len}
use Rattle.std.specs.Option.{option_map}
use Rattle.std.specs.Str.{bytes_eq}
use Rattle.std.proofs.lemmas.List.Edits.{length-remove}
use Rattle.std.proofs.lemmas.List.{length-map, get_or-map}
use Rattle.std.proofs.lemmas.List.Quantifiers.{position-Some}
use Rattle.std.proofs.lemmas.List.Sums.{fails_before_first}
use Rattle.std.proofs.lemmas.Bool.Decides.{nat_tests}
use Rattle.std.proofs.lemmas.Slice.Eq.{bytes_eq-Decides}
use Rattle.std.proofs.lemmas.Bool.{both_ways, ltb-true, ltb-false}
use Rattle.refusal.specs.declared.Cause.TheVariants.{Full}
use Rattle.byte_strings.specs.Order.{at_most, below}
use Rattle.byte_strings.specs.Least.{Least}
use Rattle.bytemap.specs.Map.{find, insert, remove, next_key, gathered}
use Rattle.bytemap.proofs.Next.{next_from_least}
use Rattle.cloud.specs.Outcomes.{Length, length_within, part_within, get_answer, get_part, PutOutcome, GetOutcome, DropOutcome}
use Rattle.cloud.proofs.Outcomes.{put_full, put_new, put_again, drop_done}
use Rattle.log_record.specs.Records.{Record, stored, dropped, encoded}
use Rattle.cloud_log.specs.declared.entry.Entry.{Entry}
use Rattle.cloud_log.specs.declared.log_cloud.LogCloud.{LogCloud}
use Rattle.cloud_log.specs.Index.{name_of, names, end_of, pair_in, place_of, Placed}
use Rattle.cloud_log.specs.Meaning.{log_meaning, Logged, Grown, Roomy}
use Rattle.cloud_log.specs.Limits.{count}
use Rattle.cloud_log.proofs.Standing.{laid_at}
use Rattle.cloud_log.proofs.Changed.{not_found, found_value, count_put, count_drop}
use Rattle.cloud_log.proofs.State.{placed_within}

-- what stands past the end of the index, where it is read by number
no_entry : Entry
no_entry = record { name = []; offset = 0; size = 0; short = omega arith; small = omega arith }

-- the first place of a name is a place of it
placed_first : (es : List Entry) (name : List ℕ) (place : Option ℕ) → place ≡ place_of es name → Placed (names es) name place
placed_first es name None e =
    let passes = λ (x : Entry). bytes_eq (name_of x) name in
    let n : length es ≤ position_or_len passes es = grind (arith, nat_tests) in
    λ k l h.
    let q : k < length es = omega (arith, l, length-map es name_of) in
    let f = fails_before_first passes es k no_entry (omega arith) in
    both_ways _ f ((bytes_eq-Decides _ _).1 (sym (get_or-map name_of es k no_entry [] q) ∙ h))
placed_first es name (Some i) e =
    let h = position-Some (λ x. bytes_eq (name_of x) name) es i no_entry (sym e) in
    (omega (arith, h.0, length-map es name_of), get_or-map name_of es i no_entry [] h.0 ∙ (bytes_eq-Decides _ _).0 h.1)

pub placed : (s : LogCloud) (name : List ℕ) {es : List Entry} {place : Option ℕ} → es ≡ vec_items s.index → place ≡ place_of es name → Placed (names (vec_items s.index)) name place
placed s name {es} {place} lent e = placed_first (vec_items s.index) name place (e ∙ ap (λ x. place_of x name) lent)

-- the record at a place lies within the bytes
pub stands_within : (s : LogCloud) (i : ℕ) (e : Entry) → i < vec_len s.index → e ≡ get_or (vec_items s.index) i e → (n : ℕ) → n ≡ vec_len s.bytes → end_of e ≤ n
stands_within s i e l is n m =
    let t = laid_at (vec_items s.bytes) 0 s.used (vec_items s.index) i e (omega (arith, l, s.index.ok.0)) s.sound.laid_out in
    let u : end_of e ≤ s.used = subst (λ x. end_of x ≤ s.used) (sym is) t.until in
    omega (arith, u, s.sound.within, s.bytes.ok.0)

-- the free places, by the index
free_is : (s : LogCloud) → (log_meaning s).free ≡ s.places - vec_len s.index
free_is s = ap (λ n. s.places - n) (count _ _ _ s.sound ∙ sym s.index.ok.0)

-- ---- get

-- what is held is written where the part has room for it
pub got : (s : LogCloud) (name part value : List ℕ) → find (log_meaning s).held name ≡ Some value → (r : Length) (part' : List ℕ) → r ≡ length_within (Some value) (length part) → part' ≡ part_within (Some value) part → GetOutcome (log_meaning s) name part r part' (log_meaning s)
unfolding get_answer get_part
got s name part value held r part' e w =
    record { within = grind (arith, nat_tests); answer = λ _. rw held e; written = λ _. rw held w; after = λ _. refl }

-- ---- next

module _ (s : LogCloud) (es : List Entry) (lent : es ≡ vec_items s.index) (above : List ℕ) where
  next_held : (r : Option ℕ) (d : Entry) → Least (λ x. below above (name_of x)) (λ x y. at_most (name_of x) (name_of y)) es (length es) r → next_key (log_meaning s).held above ≡ option_map (λ i. name_of (get_or es i d)) r
  next_held r d h =
      let f = pair_in (vec_items s.bytes) in
      ap (λ m. next_key m above) (s.sound.same ∙ ap (λ x. gathered (map f x)) (sym lent)) ∙ next_from_least f es above d r h

  pub no_next : Least (λ x. below above (name_of x)) (λ x y. at_most (name_of x) (name_of y)) es (length es) None → next_key (log_meaning s).held above ≡ None
  no_next h = next_held None no_entry h

  pub next_at : (i : ℕ) (e : Entry) → Least (λ x. below above (name_of x)) (λ x y. at_most (name_of x) (name_of y)) es (length es) (Some i) → e ≡ get_or es i e → next_key (log_meaning s).held above ≡ Some (name_of e)
  next_at i e h is = next_held (Some i) e h ∙ ap (λ x. Some (name_of x)) (sym is)

-- ---- put

-- a held name has its place, a new one a free place
has_place : (place : Option ℕ) (n places : ℕ) → (is_some place || ltb n places) ≡ true → IfNone place (n < places)
has_place None n places t = ltb-true n places t
has_place (Some i) n places t = tt

-- after closing up there is the same place
module _ (s s' : LogCloud) (size : ℕ) (r : Roomy s s' size) (name : List ℕ) (place : Option ℕ) where
  pub still_placed : Placed (names (vec_items s.index)) name place → Placed (names (vec_items s'.index)) name place
  still_placed a = subst (λ x. Placed x name place) (sym r.same_names) a

  pub still_place : (is_some place || ltb (vec_len s.index) s.places) ≡ true → IfNone place (vec_len s'.index < s'.places)
  still_place t =
      let n : vec_len s'.index ≡ vec_len s.index =
      omega (arith, ap length r.same_names, length-map (vec_items s'.index) name_of, length-map (vec_items s.index) name_of, s.index.ok.0, s'.index.ok.0) in
      let p = r.same_places in
      has_place place (vec_len s'.index) s'.places ((λ j. is_some place || ltb (n j) (p j)) ∙ t)

-- a record that has room without closing up is appended
pub still_logged : (s s' s'' : LogCloud) (size : ℕ) (r : Record) → Roomy s s' size → Grown s' r s'' → length (encoded r) ≡ size → Logged s r (Ok tt) s''
still_logged s s' s'' size r k g e =
    record { same_memory = g.same_memory ∙ k.same_memory; appended = λ l. g.log ∙ ap (λ x. x ++ encoded r) (k.unmoved (omega arith)) }

module _ (s : LogCloud) (name value : List ℕ) (short : length name ≤ 39) (short_value : length value ≤ 1024) where
  -- no place
  pub full : (place : Option ℕ) → Placed (names (vec_items s.index)) name place → (is_some place || ltb (vec_len s.index) s.places) ≡ false → PutOutcome (log_meaning s) name value (Err Full) (log_meaning s)
  full None a t =
      let l = ltb-false (vec_len s.index) s.places t in
      put_full (log_meaning s).held (log_meaning s).free name value short short_value (not_found _ _ _ s.sound name a) (omega (arith, free_is s))
  full (Some i) a t = absurd (both_ways _ t refl)

  -- a new name takes a free place, a held one keeps its own
  pub put_ok : (place : Option ℕ) → Placed (names (vec_items s.index)) name place → (is_some place || ltb (vec_len s.index) s.places) ≡ true
      → (s' s'' : LogCloud) {size : ℕ} → Roomy s s' size → Grown s' (stored name value) s'' → PutOutcome (log_meaning s) name value (Ok tt) (log_meaning s'')
  put_ok None a t s' s'' k g =
      let h = g.held ∙ ap (λ m. insert m name value) k.same_held in
      let p = g.same_places ∙ k.same_places in
      let n = count_put _ _ _ s.sound name value None a in
      let f : (log_meaning s'').free ≡ (log_meaning s).free - 1 = (λ j. p j - length (h j)) ∙ omega (arith, n, free_is s, s.index.ok.0) in
      put_new (log_meaning s).held (log_meaning s).free name value short short_value (not_found _ _ _ s.sound name a) (omega (arith, free_is s, ltb-true (vec_len s.index) s.places t)) _ _ h f
  put_ok (Some i) a t s' s'' k g =
      let h = g.held ∙ ap (λ m. insert m name value) k.same_held in
      let p = g.same_places ∙ k.same_places in
      let n = count_put _ _ _ s.sound name value (Some i) a in
      let l = placed_within (vec_items s.index) name (Some i) _ refl a in
      let f : (log_meaning s'').free ≡ (log_meaning s).free =
      (λ j. p j - length (h j)) ∙ omega (arith, n, free_is s, s.index.ok.0, length-remove (vec_items s.index) i l) in
      put_again (log_meaning s).held (log_meaning s).free name value short short_value _ (found_value _ _ _ s.sound name i a) _ _ h f

-- ---- drop

pub drop_ok : (s : LogCloud) (name : List ℕ) (i : ℕ) → Placed (names (vec_items s.index)) name (Some i) → (s' s'' : LogCloud) {size : ℕ} → Roomy s s' size → Grown s' (dropped name) s'' → DropOutcome (log_meaning s) name (Ok tt) (log_meaning s'')
drop_ok s name i a s' s'' k g =
    let h = g.held ∙ ap (λ m. remove m name) k.same_held in
    let p = g.same_places ∙ k.same_places in
    let n = count_drop _ _ _ s.sound name (Some i) a in
    let l = placed_within (vec_items s.index) name (Some i) _ refl a in
    let f : (log_meaning s'').free ≡ (log_meaning s).free + 1 =
    (λ j. p j - length (h j)) ∙ omega (arith, n, free_is s, s.index.ok.0, s.reserved, length-remove (vec_items s.index) i l) in
    drop_done (log_meaning s).held (log_meaning s).free name _ (found_value _ _ _ s.sound name i a) _ _ h f
