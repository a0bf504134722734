-- The test for the same directory decides that.
use Rattle.std.proofs.Common.{◌≡◌, ℕ, true, false, ◌&&◌, eqb, List, [], ◌∷◌, Some, None, Ok, Err, Option, Result, sym, refl, subst, arith}
use Rattle.std.specs.Str.{bytes_eq}
use Rattle.std.proofs.lemmas.Bool.{and_parts, and_from, eqb-true, eq-eqb, both_ways}
use Rattle.bytemap.specs.Map.{Map}
use Rattle.bytemap.proofs.Find.{same_self, same_is}
use Rattle.entry.specs.Entries.{EntryValue, LiveValue}
use Rattle.directory.specs.Meaning.{DirectoryMeaning}
use Rattle.directory_journal.specs.Same.{live_numbers, entry_numbers, same_entries, same_directory, says}

head_is : {x y : ℕ} {xs ys : List ℕ} → x ∷ xs ≡ y ∷ ys → x ≡ y
head_is e = cc

tail_is : {x y : ℕ} {xs ys : List ℕ} → x ∷ xs ≡ y ∷ ys → xs ≡ ys
tail_is e = cc

live_from_numbers : (a b : Option LiveValue) → live_numbers a ≡ live_numbers b → a ≡ b
live_from_numbers None None e = refl
live_from_numbers None (Some l) e = absurd (grind arith)
live_from_numbers (Some l) None e = absurd (grind arith)
live_from_numbers (Some l) (Some k) e =
    let c = head_is e in
    let s = head_is (tail_is e) in
    let d = tail_is (tail_is e) in
    λ i. Some (record { clouds = c i; size = s i; digest = d i })

entry_from_numbers : (a b : EntryValue) → entry_numbers a ≡ entry_numbers b → a ≡ b
entry_from_numbers a b e =
    let s = head_is e in
    let w = head_is (tail_is e) in
    let l = live_from_numbers a.live b.live (tail_is (tail_is e)) in
    λ i. record { stamp = record { sequence = s i; writer = w i }; live = l i }

same_entries_is : (m n : Map EntryValue) → same_entries m n ≡ true → m ≡ n
unfolding same_entries
same_entries_is [] [] h = refl
same_entries_is [] (q ∷ n) h = absurd (both_ways false refl h)
same_entries_is (p ∷ m) [] h = absurd (both_ways false refl h)
same_entries_is (p ∷ m) (q ∷ n) h =
    let b = and_parts (bytes_eq p.0 q.0 && bytes_eq (entry_numbers p.1) (entry_numbers q.1)) (same_entries m n) h in
    let c = and_parts (bytes_eq p.0 q.0) (bytes_eq (entry_numbers p.1) (entry_numbers q.1)) b.0 in
    let k = same_is p.0 q.0 c.0 in
    let v = entry_from_numbers p.1 q.1 (same_is (entry_numbers p.1) (entry_numbers q.1) c.1) in
    let r = same_entries_is m n b.1 in
    λ i. (k i, v i) ∷ r i

same_entries_self : (m : Map EntryValue) → same_entries m m ≡ true
unfolding same_entries
same_entries_self [] = refl
same_entries_self (p ∷ m) =
    and_from _ _ (and_from _ _ (same_self p.0) (same_self (entry_numbers p.1))) (same_entries_self m)

same_directory_is : (m n : DirectoryMeaning) → same_directory m n ≡ true → m ≡ n
same_directory_is m n h =
    let b = and_parts (same_entries m.entries n.entries) (eqb m.free n.free) h in
    let e = same_entries_is m.entries n.entries b.0 in
    let f = eqb-true m.free n.free b.1 in
    λ i. record { entries = e i; free = f i }

same_directory_self : (m : DirectoryMeaning) → same_directory m m ≡ true
same_directory_self m = and_from _ _ (same_entries_self m.entries) (eq-eqb m.free m.free refl)

-- ---- what was replayed

pub said : (r : Result (DirectoryMeaning × ℕ) ℕ) (m : DirectoryMeaning) (used : ℕ) → says r m used ≡ true → r ≡ Ok (m, used)
said (Ok p) m used h =
    let b = and_parts (same_directory p.0 m) (eqb p.1 used) h in
    let e = same_directory_is p.0 m b.0 in
    let f = eqb-true p.1 used b.1 in
    λ i. Ok (e i, f i)
said (Err offset) m used h = absurd (both_ways false refl h)

pub saying : (r : Result (DirectoryMeaning × ℕ) ℕ) (m : DirectoryMeaning) (used : ℕ) → r ≡ Ok (m, used) → says r m used ≡ true
saying r m used e =
    subst (λ q. says q m used ≡ true) (sym e) (and_from _ _ (same_directory_self m) (eq-eqb used used refl))
