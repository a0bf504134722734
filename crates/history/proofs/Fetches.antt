-- Completed fetches answer the latest save, and listings name exactly the saved keys.
use Rattle.std.proofs.Common.{◌≡◌, ℕ, List, length, take, Ok, Option, sym, refl, ap, ◌∙◌}
use Rattle.refusal.specs.declared.Refusal.{Refusal}
use Rattle.cloud.specs.Meaning.{CloudMeaning}
use Rattle.cloud.specs.Outcomes.{over}
use Rattle.protocol.specs.declared.answers.Listed.{Listed}
use Rattle.protocol.specs.Slots.{fetching}
use Rattle.protocol.specs.State.{Setting, State}
use Rattle.protocol.specs.Listing.{keys_of, listing}
use Rattle.protocol.specs.Calls.{list}
use Rattle.protocol.specs.Grounds.{first_ground}
use Rattle.protocol.specs.Events.{tried, listed}
use Rattle.protocol.specs.Steps.{Step, or_kept}
use Rattle.history.specs.Deeds.{History, latest, commits}
use Rattle.history.specs.Promises.{AnswersTheLatestSave, NamesTheSavedKeys, here, before}
use Rattle.history.proofs.Grounds.{accepted}
use Rattle.history.proofs.Stepped.{matched}
use Rattle.history.proofs.Invariant.{FetchingOk, Inv, view}
use Rattle.history.proofs.Kept.{own}
use Rattle.history.proofs.Values.{seen_is_named}
use Rattle.history.proofs.Listings.{keys_ascend, listed_exactly}

pub answers_the_latest_save : (S : Setting) (ms₀ : List CloudMeaning) (h : History) (t : State) → Inv S ms₀ h t
    → (p i n : ℕ) (buffer buffer' : List ℕ) (u : State) → Step S t (tried p i buffer buffer' (Ok n)) u
    → (n ≡ length (take n buffer')) × AnswersTheLatestSave S h p i (take n buffer')
answers_the_latest_save S ms₀ h t inv p i n buffer buffer' u step =
    let (x, m) = matched S t p i n buffer buffer' u step in
    let o : FetchingOk S ms₀ t.directory t.clouds (view p h) p x = own S ms₀ h t inv p m.party (fetching x) m.slot in
    let long : length (take n buffer') ≡ length o.value = m.long ∙ o.size in (
      m.size ∙ sym m.long,
      record {
        container = x.container;
        key = x.key;
        value = o.value;
        before_look = o.before;
        asked = o.key_asked;
        looked = o.last_look;
        was_saved = o.was_saved;
        same_size = long;
        same = λ none. none (take n buffer') o.value (here refl) (before (seen_is_named p h o.before x.container x.key o.value o.last_look o.was_saved))
            long (sym m.digest ∙ o.digest);
      },
    )

pub names_the_saved_keys : (S : Setting) (ms₀ : List CloudMeaning) (h : History) (t : State) → Inv S ms₀ h t
    → (c : ℕ) (buffer buffer' : List ℕ) (answer : Listed) (u : State) → Step S t (listed c buffer buffer' (Ok answer)) u → NamesTheSavedKeys h c buffer buffer' answer
names_the_saved_keys S ms₀ h t inv c buffer buffer' answer u step =
    let keys : List (List ℕ) = keys_of t.directory c in
    let told : Listed = record { count = length keys; bytes = length (listing keys) } in
    let (none, is) = accepted (first_ground S (list c buffer) t) answer told step.answers in
    record {
      keys = keys;
      ascending = keys_ascend t.directory c inv.ascending;
      exactly = λ k. listed_exactly S t.directory c k (latest (commits c k) h) inv.ascending (inv.entries c k);
      counted = ap (λ (a : Listed). a.count) is;
      length_told = ap (λ (a : Listed). a.bytes) is;
      written = step.writes ∙ ap (λ (g : Option Refusal). or_kept g buffer (over (listing keys) buffer)) none;
    }
