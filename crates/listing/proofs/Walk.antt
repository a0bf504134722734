-- The walk through the live keys of a container.
use Rattle.std.proofs.Common.{◌≡◌, ℕ, suc, ◌+◌, ◌<◌, ◌≤◌, true, false, eqb, List, [], ◌∷◌, ◌++◌, length, take, drop, length-append, append_assoc, take-append-drop, IfSome, Some, None, Option, sym, refl, ap, ◌∙◌, subst, ⊎_elim, arith, MatchOption}
use Rattle.std.specs.Option.{option_map}
use Rattle.std.proofs.lemmas.Bool.{cases_Bool, both_ways}
use Rattle.std.proofs.lemmas.List.{take_at, drop_at, drop-drop}
use Rattle.byte_strings.specs.Order.{below, at_most}
use Rattle.byte_strings.specs.OrderLaws.{below_irreflexive}
use Rattle.bytemap.specs.Map.{Map, find, next_key, beyond, AllAbove, Ascending}
use Rattle.bytemap.proofs.Find.{find_cons, same_self, below_apart, below_asymmetric, all_above_weaker}
use Rattle.bytemap.proofs.Next.{next_is_found}
use Rattle.bytemap.proofs.Walk.{beyond_all, beyond_fewer, beyond_none, next_all_above}
use Rattle.naming.specs.declared.key.Key.{Key}
use Rattle.naming.specs.Text.{valid_key}
use Rattle.naming.proofs.Keys.{valid_key_low}
use Rattle.entry.specs.Entries.{EntryValue, LiveValue}
use Rattle.directory.specs.Meaning.{DirectoryMeaning, WithinLimits, address, contents, with_key}
use Rattle.directory.specs.Calls.{entry_of, key_after, place_with}
use Rattle.directory.proofs.Contents.{find_contents, ascending_contents}
use Rattle.protocol.specs.declared.answers.Listed.{Listed}
use Rattle.protocol.specs.Grounds.{is_there, live_of}
use Rattle.protocol.specs.Listing.{key_if_live, keys_of, listing, live_keys}
use Rattle.listing.specs.declared.keys.LiveKeys.{LiveKeys}
use Rattle.listing.specs.Sizes.{measured}
use Rattle.listing.specs.Walk.{key_given, bytes_of, inside, left, SameDirectory}

-- ---- one key after another

-- the next key, where it is live, and the live ones beyond it
pub next_left : (m : Map EntryValue) (a k : List ℕ) → Ascending m → next_key m a ≡ Some k → live_keys (beyond a m) ≡ key_if_live (live_of (find m k)) k (live_keys (beyond k m))
unfolding beyond next_key live_keys
next_left [] a k asc e = absurd (grind arith)
next_left (p ∷ m) a k asc e =
    ⊎_elim
    (λ (s : below a p.0 ≡ true).
    let r : Some p.0 ≡ Some k = rw s at e in
    let d : p.0 ≡ k = cc in
    subst (λ x. live_keys (beyond a (p ∷ m)) ≡ key_if_live (live_of (find (p ∷ m) x)) x (live_keys (beyond x (p ∷ m)))) d (here s))
    (λ (s : below a p.0 ≡ false).
    let r : next_key m a ≡ Some k = rw s at e in
    let b = next_all_above a p.0 k m asc.0 r in
    let u = below_apart p.0 k b in
    let v = below_asymmetric p.0 k b in
    rw (s, find_cons p m k, u, v) (next_left m a k asc.1 r))
    (cases_Bool (below a p.0)) where
      here : below a p.0 ≡ true → live_keys (beyond a (p ∷ m)) ≡ key_if_live (live_of (find (p ∷ m) p.0)) p.0 (live_keys (beyond p.0 (p ∷ m)))
      here s =
          let t = same_self p.0 in
          let u = below_irreflexive p.0 in
          rw (s, find_cons p m p.0, t, u) (ap (λ q. key_if_live p.1.live p.0 (live_keys q)) (beyond_all a m (all_above_weaker a p.0 m s asc.0) ∙ sym (beyond_all p.0 m asc.0)))

-- ---- keys of a directory

nonempty : (k : List ℕ) → 1 ≤ length k → below [] k ≡ true
unfolding at_most
nonempty [] h = absurd (omega arith)
nonempty (x ∷ k) h = refl

all_nonempty : (m : Map EntryValue) → Ascending m → ((k : List ℕ) (e : EntryValue) → find m k ≡ Some e → valid_key k ≡ true) → AllAbove [] m
all_nonempty [] asc valid = tt
all_nonempty (p ∷ m) asc valid =
    let b : below [] p.0 ≡ true = nonempty p.0 (valid_key_low p.0 (valid p.0 p.1 (find_cons p m p.0 ∙ rw (same_self p.0)))) in
    (b, all_above_weaker [] p.0 m b asc.0)

module _ (d : DirectoryMeaning) (limits : WithinLimits d) (c : ℕ) where
  valid_found : (k : List ℕ) (e : EntryValue) → find (contents c d.entries) k ≡ Some e → valid_key k ≡ true
  valid_found k e f =
      let a = limits.addresses (address c k) e (sym (find_contents c d.entries k) ∙ f) in
      let same : k ≡ a.1 = ap (drop 1) a.2 in
      subst (λ y. valid_key y ≡ true) (sym same) a.4

  pub valid_next : (a : List ℕ) → IfSome (key_after d c a) (λ k. valid_key k ≡ true)
  valid_next a = valid (key_after d c a) refl where
    valid : (o : Option (List ℕ)) → key_after d c a ≡ o → IfSome o (λ k. valid_key k ≡ true)
    valid None e = tt
    valid (Some k) e = let f = next_is_found (contents c d.entries) a k e in valid_found k f.0 f.1

  pub ascending_keys : Ascending (contents c d.entries)
  ascending_keys = ascending_contents c d.entries limits.ascending

  -- a walk from the empty string on goes through all
  pub from_start : live_keys (beyond [] (contents c d.entries)) ≡ keys_of d c
  from_start = ap live_keys (beyond_all [] (contents c d.entries) (all_nonempty (contents c d.entries) ascending_keys valid_found))

-- a key that the directory wrote to a place, made of its bytes
pub key_read : (o : Option (List ℕ)) → IfSome o (λ k. valid_key k ≡ true) → (len : ℕ) (place place' : List ℕ) → Some len ≡ option_map length o → place' ≡ place_with o place
    → (r : Option Key) → MatchOption r (valid_key (take len place') ≡ false) (λ k. (valid_key (take len place') ≡ true) × (k.bytes ≡ take len place')) → key_given r ≡ o
key_read None valid len place place' l w r h = absurd (grind arith)
key_read (Some k) valid len place place' l w r h = made r h where
  same : take len place' ≡ k
  same = ap (take len) w ∙ take_at k (drop (length k) place) len (cc)

  made : (r : Option Key) → MatchOption r (valid_key (take len place') ≡ false) (λ k. (valid_key (take len place') ≡ true) × (k.bytes ≡ take len place')) → key_given r ≡ Some k
  made None h = absurd (both_ways (valid_key k) (subst (λ y. valid_key y ≡ false) same h) valid)
  made (Some x) h = ap Some (h.1 ∙ same)

-- ---- steps of the walk

-- a key that is live, and one that is deleted
live_first : (o : Option LiveValue) (k : List ℕ) (ks : List (List ℕ)) → true ≡ is_there o → key_if_live o k ks ≡ k ∷ ks
live_first None k ks t = absurd (grind arith)
live_first (Some l) k ks t = refl

deleted_first : (o : Option LiveValue) (k : List ℕ) (ks : List (List ℕ)) → false ≡ is_there o → key_if_live o k ks ≡ ks
deleted_first None k ks t = refl
deleted_first (Some l) k ks t = absurd (grind arith)

module _ {D : Type 0} (means : D → DirectoryMeaning) where
  pub same_on : {s t u : LiveKeys D} → SameDirectory means s t → SameDirectory means t u → SameDirectory means s u
  same_on p q = record { directory = q.directory ∙ p.directory; meaning = q.meaning ∙ p.meaning; container = q.container ∙ p.container }

  inside_same : {s t : LiveKeys D} → SameDirectory means s t → inside means t ≡ inside means s
  inside_same p = rw (p.container, p.meaning) refl

  pub ends : {s t : LiveKeys D} → SameDirectory means s t → t.last ≡ s.last → None ≡ next_key (inside means s) (bytes_of s.last) → (left means s ≡ []) × (left means t ≡ [])
  unfolding live_keys
  ends {s} {t} p e none =
      let l : left means s ≡ [] = ap live_keys (beyond_none (bytes_of s.last) (inside means s) (sym none)) in
      let same : left means t ≡ left means s = rw (e, inside_same p) refl in
      (l, same ∙ l)

  -- at s the directory gave the key k, with which the walk went on to t
  module _ (limits : (d : D) → WithinLimits (means d)) {s n t : LiveKeys D} {k : Key} (p : SameDirectory means s n) (q : SameDirectory means (record n { last = Some k }) t) (at : t.last ≡ Some k)
      (next : Some k.bytes ≡ next_key (inside means s) (bytes_of s.last)) where
    pub on : SameDirectory means s t
    on = record { directory = q.directory ∙ p.directory; meaning = q.meaning ∙ p.meaning; container = q.container ∙ p.container }

    asc : Ascending (inside means s)
    asc = ascending_keys (means s.directory.now) (limits s.directory.now) s.container

    beyond_it : beyond (bytes_of t.last) (inside means t) ≡ beyond k.bytes (inside means s)
    beyond_it = rw (at, inside_same on) refl

    abbrev value : Option LiveValue
    value = live_of (entry_of (means n.directory.now) n.container k.bytes)

    step : left means s ≡ key_if_live value k.bytes (left means t)
    step =
        let found : find (inside means s) k.bytes ≡ entry_of (means n.directory.now) n.container k.bytes = find_contents s.container (means s.directory.now).entries k.bytes ∙ rw (p.container, p.meaning) refl in
        next_left (inside means s) (bytes_of s.last) k.bytes asc (sym next) ∙ rw (found, beyond_it) refl

    pub gives : true ≡ is_there value → left means s ≡ k.bytes ∷ left means t
    gives live = step ∙ live_first value k.bytes (left means t) live

    pub skips : false ≡ is_there value → left means s ≡ left means t
    skips deleted = step ∙ deleted_first value k.bytes (left means t) deleted

    pub nearer : length (beyond (bytes_of t.last) (inside means t)) < length (beyond (bytes_of s.last) (inside means s))
    nearer = omega (arith, ap length beyond_it, beyond_fewer (bytes_of s.last) k.bytes (inside means s) asc (sym next))

-- ---- sizes

live_few : (m : Map EntryValue) → length (live_keys m) ≤ length m
unfolding live_keys
live_few [] = omega arith
live_few (p ∷ m) = few (live_few m) p.1.live where
  few : length (live_keys m) ≤ length m → (o : Option LiveValue) → length (key_if_live o p.0 (live_keys m)) ≤ suc (length m)
  few h None = omega arith
  few h (Some l) = omega arith

contents_few : (c : ℕ) (m : Map EntryValue) → length (contents c m) ≤ length m
unfolding contents
contents_few c [] = omega arith
contents_few c (p ∷ m) = few (contents_few c m) p.0 where
  few : length (contents c m) ≤ length m → (a : List ℕ) → length (with_key c a p.1 (contents c m)) ≤ suc (length m)
  few h [] = omega arith
  few h (x ∷ k) = ⊎_elim (λ (t : eqb x c ≡ true). rw t (omega arith)) (λ (f : eqb x c ≡ false). rw f (omega arith)) (cases_Bool (eqb x c))

pub few_keys : (d : DirectoryMeaning) → WithinLimits d → (c : ℕ) → length (keys_of d c) ≤ 64
few_keys d limits c = omega (arith, live_few (contents c d.entries), contents_few c d.entries, limits.places)

-- ---- the listing, key by key

pub length_listing_more : (k : List ℕ) (ks rest : List (List ℕ)) → ks ≡ k ∷ rest → length (listing ks) ≡ suc (length k + length (listing rest))
unfolding listing
length_listing_more k ks rest e = ap (λ l. length (listing l)) e ∙ ap suc (length-append k (listing rest))

pub measured_is : (count bytes : ℕ) (keys rest : List (List ℕ)) → rest ≡ [] → count + length rest ≡ length keys → bytes + length (listing rest) ≡ length (listing keys) → ◌≡◌ {A = Listed} (record { count = count; bytes = bytes }) (measured keys)
unfolding listing
measured_is count bytes keys rest none p q =
    let c : count ≡ length keys = omega (arith, ap length none) in
    let b : bytes ≡ length (listing keys) = omega (arith, ap (λ ks. length (listing ks)) none) in
    λ i. record { count = c i; bytes = b i }

-- a buffer in which these bytes are written from a place on
abbrev pub over_at : ℕ → List ℕ → List ℕ → List ℕ
over_at at bytes b = take at b ++ (bytes ++ drop (length bytes) (drop at b))

-- after f a key is written, and the rest of the listing is still to come
put_on : (f p k l : List ℕ) (at n : ℕ) → length f ≡ at → n ≡ 1 + length k → over_at (at + n) l (f ++ (length k ∷ (k ++ drop n p))) ≡ f ++ ((length k ∷ (k ++ l)) ++ drop (length (length k ∷ (k ++ l))) p)
put_on f p k l at n size more =
    let h : List ℕ = length k ∷ k in
    let long : length (f ++ h) ≡ at + n = omega (arith, length-append f h) in
    let split : f ++ (h ++ drop n p) ≡ (f ++ h) ++ drop n p = sym (append_assoc f h (drop n p)) in
    let both : n + length l ≡ length (h ++ l) = omega (arith, length-append h l) in
    rw (split, take_at (f ++ h) (drop n p) (at + n) long, drop_at (f ++ h) (drop n p) (at + n) long, drop-drop (length l) n p, both) (simp append_assoc)

pub over_on : (at n : ℕ) (b f p p' k : List ℕ) (ks rest : List (List ℕ)) → b ≡ f ++ p → length f ≡ at → n ≡ 1 + length k → p' ≡ length k ∷ (k ++ drop n p) → ks ≡ k ∷ rest → over_at (at + n) (listing rest) (f ++ p') ≡ over_at at (listing ks) b
unfolding listing
over_on at n b f p p' k ks rest whole size more put step =
    ap (λ q. over_at (at + n) (listing rest) (f ++ q)) put
    ∙ put_on f p k (listing rest) at n size more
    ∙ rw (whole, step, take_at f p at size, drop_at f p at size) refl

-- at the end nothing is still to come
pub over_ends : (at : ℕ) (b : List ℕ) (rest : List (List ℕ)) → rest ≡ [] → b ≡ over_at at (listing rest) b
unfolding listing
over_ends at b rest none = sym (take-append-drop at b) ∙ rw none refl
