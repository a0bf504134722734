-- What holds after every history: directory, slots and clouds are what the history says.
use Rattle.std.proofs.Common.{◌≡◌, ℕ, suc, ◌<◌, Bool, true, false, eqb, ◌⊎◌, List, ◌∷◌, length, get_or, Some, None, Option, sym, refl, ap, ◌∙◌, subst, ⊎_elim}
use Rattle.std.proofs.lemmas.Bool.{cases_Bool, both_ways}
use Rattle.bytemap.specs.Map.{find, Ascending}
use Rattle.naming.specs.Stamps.{StampValue, stamp_below}
use Rattle.naming.proofs.Stamps.{stamp_below_transitive}
use Rattle.entry.specs.Entries.{EntryValue, LiveValue}
use Rattle.entry.specs.Clouds.{lists}
use Rattle.cloud.specs.Meaning.{CloudMeaning}
use Rattle.row.specs.Rows.{no_cloud}
use Rattle.directory.specs.Meaning.{DirectoryMeaning}
use Rattle.directory.specs.Calls.{entry_of, stamp_of}
use Rattle.protocol.specs.Slots.{SlotValue, SavingValue, FetchingValue, SweepingValue, idle, saving, fetching, sweeping}
use Rattle.protocol.specs.State.{Setting, State}
use Rattle.history.specs.Deeds.{Deed, History, nothing, began, stores, commits_save, deletes, looks_first, looks_on, completes, ends, latest, begins, Change, saved, erased, commits, stored_at, asks, looks, runs}
use Rattle.history.proofs.Effects.{save_name}

-- ---- the directory

abbrev pub Fits : Setting → Option LiveValue → List ℕ → Type 0
Fits S None v = ⊥
Fits S (Some l) v = (l.size ≡ length v) × (l.digest ≡ S.digested v)

-- a key's entry is what its latest commit made of the key
abbrev pub EntryOk : Setting → Option EntryValue → Option Change → Type 0
EntryOk S None None = Unit {0}
EntryOk S None (Some c) = ⊥
EntryOk S (Some e) None = ⊥
EntryOk S (Some e) (Some (saved v)) = Fits S e.live v
EntryOk S (Some e) (Some erased) = e.live ≡ None

-- ---- what the history says of a party

pub record View : Type 0 where
  pub began_with : Option (ℕ × List ℕ × List ℕ)
  pub asked : Option (ℕ × List ℕ)
  pub looked : Option History
  pub running : Option Bool
  pub listed : ℕ → Option Bool

abbrev pub view : ℕ → History → View
view p h = record { began_with = latest (begins p) h; asked = latest (asks p) h; looked = latest (looks p) h; running = latest (runs p) h; listed = λ i. latest (stored_at p i) h }

abbrev pub NotBy : ℕ → Deed → Type 0
NotBy p nothing = Unit {0}
NotBy p (began q c k v) = eqb q p ≡ false
NotBy p (stores q i v) = eqb q p ≡ false
NotBy p (commits_save q) = eqb q p ≡ false
NotBy p (deletes q c k) = eqb q p ≡ false
NotBy p (looks_first q c k) = eqb q p ≡ false
NotBy p (looks_on q) = eqb q p ≡ false
NotBy p (completes q i v) = eqb q p ≡ false
NotBy p (ends q) = eqb q p ≡ false

pub same_view : (p : ℕ) (d : Deed) (h : History) → NotBy p d → view p (d ∷ h) ≡ view p h
same_view p nothing h n = refl
same_view p (began q c k v) h n = rw n refl
same_view p (stores q i v) h n = rw n refl
same_view p (commits_save q) h n = refl
same_view p (deletes q c k) h n = refl
same_view p (looks_first q c k) h n = rw n refl
same_view p (looks_on q) h n = rw n refl
same_view p (completes q i v) h n = rw n refl
same_view p (ends q) h n = rw n refl

-- ---- slots

-- the cloud holds, under the name, a value of this size and digest
pub record Holds (S : Setting) (m : CloudMeaning) (name : List ℕ) (size : ℕ) (digest : List ℕ) : Type 0 where
  pub value : List ℕ
  pub held : find m.held name ≡ Some value
  pub long : length value ≡ size
  pub same : digest ≡ S.digested value

module _ (S : Setting) (ms₀ : List CloudMeaning) (d : DirectoryMeaning) (ms : List CloudMeaning) (V : View) (p : ℕ) where
  -- A cloud that the save lists: it acknowledged; and while no later write to the key is committed, it holds the value
  -- if it was sound at opening.
  pub record ListedOk (x : SavingValue) (i : ℕ) : Type 0 where
    pub told : V.listed i ≡ Some true
    pub known : i < length ms
    pub holds : stamp_below (stamp_of (entry_of d x.container x.key)) x.stamp ≡ true → (get_or ms₀ i no_cloud).sound ≡ true
        → Holds S (get_or ms i no_cloud) (save_name x) x.size x.digest

  pub record SavingOk (x : SavingValue) : Type 0 where
    pub resting : V.running ≡ Some true → ⊥
    pub value : List ℕ
    pub begun_with : V.began_with ≡ Some (x.container, x.key, value)
    pub size : x.size ≡ length value
    pub digest : x.digest ≡ S.digested value
    pub writer : x.stamp.writer ≡ p
    -- no save goes on under the stamp of the key's entry
    pub other : stamp_of (entry_of d x.container x.key) ≡ x.stamp → ⊥
    pub clouds : (i : ℕ) → lists x.stored i ≡ true → ListedOk x i

  pub record FetchingOk (x : FetchingValue) : Type 0 where
    pub going : V.running ≡ Some true
    pub key_asked : V.asked ≡ Some (x.container, x.key)
    pub before : History
    pub last_look : V.looked ≡ Some before
    pub value : List ℕ
    pub was_saved : latest (commits x.container x.key) before ≡ Some (saved value)
    pub size : x.live.size ≡ length value
    pub digest : x.live.digest ≡ S.digested value

  pub record SweepingOk (x : SweepingValue) : Type 0 where
    pub resting : V.running ≡ Some true → ⊥
    -- the stamp that is remembered is not above that of the key's entry
    pub low : stamp_below (stamp_of (entry_of d x.container x.key)) x.stamp ≡ false

  abbrev pub SlotOk : SlotValue → Type 0
  SlotOk idle = V.running ≡ Some true → ⊥
  SlotOk (saving x) = SavingOk x
  SlotOk (fetching x) = FetchingOk x
  SlotOk (sweeping x) = SweepingOk x

pub record Inv (S : Setting) (ms₀ : List CloudMeaning) (h : History) (s : State) : Type 0 where
  pub sixteen : length s.slots ≡ 16
  pub slots : (j : ℕ) → SlotOk S ms₀ s.directory s.clouds (view (suc j) h) (suc j) (get_or s.slots j idle)
  pub entries : (c : ℕ) (k : List ℕ) → EntryOk S (entry_of s.directory c k) (latest (commits c k) h)
  pub ascending : Ascending s.directory.entries
  pub counted : S.clouds ≡ length s.clouds
  pub sounds : (i : ℕ) → (get_or ms₀ i no_cloud).sound ≡ true → (get_or s.clouds i no_cloud).sound ≡ true

-- ---- what a slot rests on may change under it

-- stamps of entries stay, or rise to one of another party
abbrev pub Rises : ℕ → DirectoryMeaning → DirectoryMeaning → Type 0
Rises p d d' = (c : ℕ) (k : List ℕ) → (stamp_of (entry_of d' c k) ≡ stamp_of (entry_of d c k))
    ⊎ ((stamp_below (stamp_of (entry_of d c k)) (stamp_of (entry_of d' c k)) ≡ true) × ((stamp_of (entry_of d' c k)).writer ≡ p → ⊥))

abbrev pub KeepsName : List ℕ → List CloudMeaning → List CloudMeaning → Type 0
KeepsName n ms ms' = (i : ℕ) → (get_or ms i no_cloud).sound ≡ true → find (get_or ms' i no_cloud).held n ≡ find (get_or ms i no_cloud).held n

module _ (S : Setting) (ms₀ : List CloudMeaning) (d d' : DirectoryMeaning) (ms ms' : List CloudMeaning) (V : View) (p : ℕ)
    (rises : Rises p d d') (same_length : length ms' ≡ length ms) (sounds : (i : ℕ) → (get_or ms₀ i no_cloud).sound ≡ true → (get_or ms i no_cloud).sound ≡ true) where
  below_before : (c : ℕ) (k : List ℕ) (t : StampValue) → stamp_below (stamp_of (entry_of d' c k)) t ≡ true → stamp_below (stamp_of (entry_of d c k)) t ≡ true
  below_before c k t h = ⊎_elim
      (λ (e : stamp_of (entry_of d' c k) ≡ stamp_of (entry_of d c k)). ap (λ (u : StampValue). stamp_below u t) (sym e) ∙ h)
      (λ (r : (stamp_below (stamp_of (entry_of d c k)) (stamp_of (entry_of d' c k)) ≡ true) × ((stamp_of (entry_of d' c k)).writer ≡ p → ⊥)).
      stamp_below_transitive (stamp_of (entry_of d c k)) (stamp_of (entry_of d' c k)) t r.0 h)
      (rises c k)

  saving_on : (x : SavingValue) → (x.stamp.writer ≡ p → stamp_below (stamp_of (entry_of d x.container x.key)) x.stamp ≡ true → KeepsName (save_name x) ms ms')
      → SavingOk S ms₀ d ms V p x → SavingOk S ms₀ d' ms' V p x
  saving_on x keeps o = record {
    resting = o.resting;
    value = o.value;
    begun_with = o.begun_with;
    size = o.size;
    digest = o.digest;
    writer = o.writer;
    other = λ e. ⊎_elim
        (λ (same : stamp_of (entry_of d' x.container x.key) ≡ stamp_of (entry_of d x.container x.key)). o.other (sym same ∙ e))
        (λ (r : (stamp_below (stamp_of (entry_of d x.container x.key)) (stamp_of (entry_of d' x.container x.key)) ≡ true) × ((stamp_of (entry_of d' x.container x.key)).writer ≡ p → ⊥)).
        r.1 (ap (λ (u : StampValue). u.writer) e ∙ o.writer))
        (rises x.container x.key);
    clouds = λ i l. let c = o.clouds i l in record {
      told = c.told;
      known = subst (λ (n : ℕ). i < n) (sym same_length) c.known;
      holds = λ low sound.
          let low₀ = below_before x.container x.key x.stamp low in
          let held = c.holds low₀ sound in
          record { value = held.value; held = keeps o.writer low₀ i (sounds i sound) ∙ held.held; long = held.long; same = held.same };
    };
  }

  sweeping_on : (x : SweepingValue) → SweepingOk S ms₀ d ms V p x → SweepingOk S ms₀ d' ms' V p x
  sweeping_on x o = record {
    resting = o.resting;
    low = ⊎_elim
        (λ (b : stamp_below (stamp_of (entry_of d' x.container x.key)) x.stamp ≡ true). absurd (both_ways (stamp_below (stamp_of (entry_of d x.container x.key)) x.stamp) o.low (below_before x.container x.key x.stamp b)))
        (λ (b : stamp_below (stamp_of (entry_of d' x.container x.key)) x.stamp ≡ false). b)
        (cases_Bool (stamp_below (stamp_of (entry_of d' x.container x.key)) x.stamp));
  }

  pub slot_on : (y : SlotValue) → ((x : SavingValue) → y ≡ saving x → x.stamp.writer ≡ p → stamp_below (stamp_of (entry_of d x.container x.key)) x.stamp ≡ true → KeepsName (save_name x) ms ms')
      → SlotOk S ms₀ d ms V p y → SlotOk S ms₀ d' ms' V p y
  slot_on idle keeps o = o
  slot_on (saving x) keeps o = saving_on x (keeps x refl) o
  slot_on (fetching x) keeps o = record { going = o.going; key_asked = o.key_asked; before = o.before; last_look = o.last_look; value = o.value; was_saved = o.was_saved; size = o.size; digest = o.digest }
  slot_on (sweeping x) keeps o = sweeping_on x o
