-- The invariant holds after every run.
use Rattle.std.proofs.Common.{◌≡◌, ℕ, zero, suc, true, List, [], length, get_or, replicate, Some, None, Option, sym, refl, ap, ◌∙◌, subst, arith}
use Rattle.bytemap.specs.Map.{find, Ascending}
use Rattle.entry.specs.Entries.{EntryValue}
use Rattle.cloud.specs.Meaning.{CloudMeaning}
use Rattle.directory.specs.Meaning.{address}
use Rattle.protocol.specs.Slots.{SlotValue, idle}
use Rattle.protocol.specs.State.{Setting, State}
use Rattle.history.specs.Deeds.{History, latest, runs}
use Rattle.history.proofs.Invariant.{EntryOk, view, SlotOk, Inv}
use Rattle.bytemap.proofs.Find.{find_empty}
use Rattle.history.specs.Promises.{Run, start, then, OpenedEmpty}
use Rattle.history.proofs.Stepped.{effect_of}
use Rattle.history.proofs.Kept.{kept}

all_idle : (n j : ℕ) → get_or (replicate n idle) j idle ≡ idle
all_idle zero j = refl
all_idle (suc n) zero = refl
all_idle (suc n) (suc j) = all_idle n j

never_ran : (p : ℕ) → latest (runs p) [] ≡ Some true → ⊥
never_ran p e = grind arith

pub at_opening : {S : Setting} {s : State} → OpenedEmpty S s → Inv S s.clouds [] s
at_opening {S} {s} o = record {
  sixteen = ap length o.idles;
  slots = λ j. subst (λ (y : SlotValue). SlotOk S s.clouds s.directory s.clouds (view (suc j) []) (suc j) y)
      (sym (ap (λ (ys : List SlotValue). get_or ys j idle) o.idles ∙ all_idle 16 j)) (never_ran (suc j));
  entries = λ c k. subst (λ (e : Option EntryValue). EntryOk S e None) (sym (ap (λ m. find m (address c k)) o.empty ∙ find_empty (address c k))) tt;
  ascending = subst (λ m. Ascending m) (sym o.empty) tt;
  counted = o.counted;
  sounds = λ i t. t;
}

pub goes_on : {S : Setting} {ms₀ : List CloudMeaning} {h₀ : History} {s : State} {h : History} {t : State} → Inv S ms₀ h₀ s → Run S h₀ s h t → Inv S ms₀ h t
goes_on inv start = inv
goes_on {S} inv (then {t = t} {u = u} r e step) = kept (goes_on inv r) (effect_of S t e u step)
