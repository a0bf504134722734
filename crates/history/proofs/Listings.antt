-- A listing has exactly the keys of live entries, ascending.
use Rattle.std.proofs.Common.{◌≡◌, ℕ, Bool, true, false, cond, ◌↔◌, List, [], ◌∷◌, Some, None, Option, sym, refl, ap, ◌∙◌, ⊎_elim, arith}
use mathlib.Core.List.{Memᴰ}
use Rattle.std.specs.Str.{bytes_eq}
use Rattle.std.proofs.lemmas.Bool.{cases_Bool}
use Rattle.byte_strings.specs.Order.{below}
use Rattle.bytemap.specs.Map.{Map, find, Ascending, AllAbove}
use Rattle.bytemap.proofs.Find.{find_cons, find_empty, same_self, same_is, not_above, below_apart}
use Rattle.entry.specs.Entries.{EntryValue, LiveValue}
use Rattle.directory.specs.Meaning.{DirectoryMeaning, contents}
use Rattle.directory.specs.Calls.{entry_of}
use Rattle.directory.proofs.Contents.{find_contents, ascending_contents}
use Rattle.protocol.specs.Listing.{live_keys, key_if_live, keys_of}
use Rattle.history.specs.Deeds.{Change, saved, erased}
use Rattle.history.specs.Promises.{Ascends, IsSaved}
use Rattle.history.proofs.Invariant.{EntryOk, Fits}
use Rattle.protocol.specs.State.{Setting}

pub record LiveAt (m : Map EntryValue) (k : List ℕ) : Type 0 where
  pub entry : EntryValue
  pub live : LiveValue
  pub found : find m k ≡ Some entry
  pub is_live : entry.live ≡ Some live

-- what is found above is above
found_above : (a : List ℕ) (m : Map EntryValue) (k : List ℕ) (e : EntryValue) → AllAbove a m → find m k ≡ Some e → below a k ≡ true
found_above a m k e all is = ⊎_elim
    (λ (b : below a k ≡ true). b)
    (λ (b : below a k ≡ false). let none : find m k ≡ None = not_above a m k all b in let no' : Some e ≡ None = sym is ∙ none in absurd (grind arith))
    (cases_Bool (below a k))

-- an entry behind the first one
behind : (p : List ℕ × EntryValue) (m : Map EntryValue) (k : List ℕ) → AllAbove p.0 m → LiveAt m k → LiveAt (p ∷ m) k
behind p m k all l = record {
  entry = l.entry;
  live = l.live;
  is_live = l.is_live;
  found = find_cons p m k ∙ ap (λ (b : Bool). cond b (Some p.1) (find m k)) (below_apart p.0 k (found_above p.0 m k l.entry all l.found)) ∙ l.found;
}

pub listed_is_live : (m : Map EntryValue) (k : List ℕ) → Ascending m → Memᴰ k (live_keys m) → LiveAt m k
unfolding live_keys
listed_is_live [] k asc mem = elim mem [ ]
listed_is_live (p ∷ m) k asc mem = by p.1.live refl (λ r. listed_is_live m k asc.1 r) mem where
  by : (o : Option LiveValue) → p.1.live ≡ o → (Memᴰ k (live_keys m) → LiveAt m k) → Memᴰ k (key_if_live o p.0 (live_keys m)) → LiveAt (p ∷ m) k
  by None e rec r = behind p m k asc.0 (rec r)
  by (Some l) e rec r = ⊎_elim
      (λ (same : k ≡ p.0). record {
        entry = p.1;
        live = l;
        is_live = e;
        found = ap (λ (j : List ℕ). find (p ∷ m) j) same ∙ find_cons p m p.0 ∙ ap (λ (b : Bool). cond b (Some p.1) (find m p.0)) (same_self p.0);
      })
      (λ (rest : Memᴰ k (live_keys m)). behind p m k asc.0 (rec rest))
      (mathlib.Core.List.Memᴰ.cases_cons r)

pub live_is_listed : (m : Map EntryValue) (k : List ℕ) → LiveAt m k → Memᴰ k (live_keys m)
unfolding live_keys
live_is_listed [] k l = let no' : None ≡ Some l.entry = sym (find_empty k) ∙ l.found in absurd (grind arith)
live_is_listed (p ∷ m) k l = ⊎_elim
    (λ (b : bytes_eq p.0 k ≡ true).
    let is : Some p.1 ≡ Some l.entry = sym (find_cons p m k ∙ ap (λ (t : Bool). cond t (Some p.1) (find m k)) b) ∙ l.found in
    let same : p.1 ≡ l.entry = cc is in
    let live : p.1.live ≡ Some l.live = ap (λ (e : EntryValue). e.live) same ∙ l.is_live in
    rw live (mathlib.Core.List.Memᴰ.head (sym (same_is p.0 k b))))
    (λ (b : bytes_eq p.0 k ≡ false).
    let rest : Memᴰ k (live_keys m) = live_is_listed m k (record { entry = l.entry; live = l.live; is_live = l.is_live; found = sym (find_cons p m k ∙ ap (λ (t : Bool). cond t (Some p.1) (find m k)) b) ∙ l.found }) in
    add p.1.live rest)
    (cases_Bool (bytes_eq p.0 k))
  where
    add : (o : Option LiveValue) → Memᴰ k (live_keys m) → Memᴰ k (key_if_live o p.0 (live_keys m))
    add None r = r
    add (Some x) r = mathlib.Core.List.Memᴰ.tail r

live_keys_ascend : (m : Map EntryValue) → Ascending m → Ascends (live_keys m)
unfolding live_keys
live_keys_ascend [] asc = tt
live_keys_ascend (p ∷ m) asc = by p.1.live (live_keys_ascend m asc.1) where
  by : (o : Option LiveValue) → Ascends (live_keys m) → Ascends (key_if_live o p.0 (live_keys m))
  by None rest = rest
  by (Some x) rest = ((λ j r. let l = listed_is_live m j asc.1 r in found_above p.0 m j l.entry asc.0 l.found), rest)

pub keys_ascend : (d : DirectoryMeaning) (c : ℕ) → Ascending d.entries → Ascends (keys_of d c)
keys_ascend d c asc = live_keys_ascend (contents c d.entries) (ascending_contents c d.entries asc)

live_iff_saved : (S : Setting) (o : Option EntryValue) (ch : Option Change) → EntryOk S o ch → ((e : EntryValue) × (l : LiveValue) × (o ≡ Some e) × (e.live ≡ Some l)) ↔ IsSaved ch
live_iff_saved S None None ok = ((λ x. absurd (grind arith)), λ x. absurd x)
live_iff_saved S None (Some ch) ok = absurd ok
live_iff_saved S (Some e) None ok = absurd ok
live_iff_saved S (Some e) (Some (saved v)) ok = ((λ x. tt), λ _. by e.live refl ok) where
  by : (y : Option LiveValue) → e.live ≡ y → Fits S y v → (e' : EntryValue) × (l : LiveValue) × (Some e ≡ Some e') × (e'.live ≡ Some l)
  by None at f = absurd f
  by (Some l) at f = (e, l, refl, at)
live_iff_saved S (Some e) (Some erased) ok = ((λ x. let same : e ≡ x.0 = cc x.2 in let live : e.live ≡ Some x.1 = ap (λ (z : EntryValue). z.live) same ∙ x.3 in let no' : Some x.1 ≡ None = sym live ∙ ok in absurd (grind arith)), λ x. absurd x)

pub listed_exactly : (S : Setting) (d : DirectoryMeaning) (c : ℕ) (k : List ℕ) (ch : Option Change) → Ascending d.entries → EntryOk S (entry_of d c k) ch → Memᴰ k (keys_of d c) ↔ IsSaved ch
listed_exactly S d c k ch asc ok =
    let iff = live_iff_saved S (entry_of d c k) ch ok in (
      (λ mem. let l = listed_is_live (contents c d.entries) k (ascending_contents c d.entries asc) mem in
          iff.0 (l.entry, l.live, sym (find_contents c d.entries k) ∙ l.found, l.is_live)),
      λ is. let x = iff.1 is in
          live_is_listed (contents c d.entries) k (record { entry = x.0; live = x.1; found = find_contents c d.entries k ∙ x.2; is_live = x.3 }),
    )
