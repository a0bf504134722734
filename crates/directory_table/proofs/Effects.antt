-- What a look and a commit do at entries, by the entry that the search found.
use Rattle.std.proofs.Common.{◌≡◌, ℕ, ◌-◌, true, List, [], ◌∷◌, ◌++◌, length, get_or, set, Some, None, Ok, Err, Option, sym, ap, ◌∙◌, subst, arith, length-set}
use Rattle.std.proofs.lemmas.List.{length_push}
use Rattle.bytemap.specs.Map.{find, insert, gathered, all_different}
use Rattle.bytemap.proofs.Find.{find_gathered}
use Rattle.entry.specs.Entries.{EntryValue, entry_value}
use Rattle.directory.specs.declared.interface.CommitError.{CommitError}
use Rattle.directory.specs.Meaning.{address}
use Rattle.directory.specs.Calls.{Answer, entry_of}
use Rattle.directory_table.specs.declared.keyed_entry.KeyedEntry.{KeyedEntry}
use Rattle.directory_table.specs.Answer.{answer_of}
use Rattle.directory_table.specs.Entries.{pair, pairs, meaning_of, IndexOf}
use Rattle.directory_table.specs.Elements.{present, gathered_set, different_set, gathered_push, different_push}
use Rattle.directory_table.proofs.Outcomes.{Commits, kept, recorded}

-- The search for the key went through the slice ys of the entries.
module _ (xs : List KeyedEntry) (places c : ℕ) (key : List ℕ) (ys : List KeyedEntry) (same : ys ≡ xs) where
  -- the answer r to a commit of e, where the key has this entry, or none
  abbrev Answered : Option EntryValue → EntryValue → Answer → Type 0
  Answered now e r = (free : ℕ) × (free ≡ places - length xs) × (r ≡ answer_of now free e)

  answered : (now : Option EntryValue) (e : EntryValue) (r : Answer) → Answered now e r → r ≡ answer_of now (places - length xs) e
  answered now e r a = subst (λ n. r ≡ answer_of now n e) a.1 a.2

  -- no entry is the key's
  module _ (none : IndexOf ys c key None) where
    absent : find (pairs xs) (address c key) ≡ None
    absent = subst (λ zs. IndexOf zs c key None) same none

    pub none_held : entry_of (meaning_of xs places) c key ≡ None
    none_held = find_gathered (pairs xs) (address c key) ∙ absent

    pub not_added : (e : EntryValue) (r : Answer) (why : CommitError) → r ≡ Err why → Answered None e (Err why) → Commits (meaning_of xs places) c key e r (meaning_of xs places)
    not_added e r why refused a = kept (meaning_of xs places) c key e None none_held r why refused (answered None e (Err why) a)

    -- y, which has the key and the entry, is added
    module _ (different : all_different (pairs xs) ≡ true) (e : EntryValue) (y : KeyedEntry) (is : pair y ≡ (address c key, e)) (zs : List KeyedEntry) (after : zs ≡ xs ++ y ∷ []) where
      pub added : Answered None e (Ok tt) → Commits (meaning_of xs places) c key e (Ok tt) (meaning_of zs places)
      added a =
          recorded (meaning_of xs places) c key e None none_held (answered None e (Ok tt) a) _ _
          (ap (λ ws. gathered (pairs ws)) after ∙ gathered_push pair xs (address c key) different absent y (ap (λ p. p.0) is) ∙ ap (λ p. insert (gathered (pairs xs)) (address c key) p.1) is)
          (omega (arith, ap length after, length_push xs y))

      pub added_different : all_different (pairs zs) ≡ true
      added_different =
          subst (λ ws. all_different (pairs ws) ≡ true) (sym after) (different_push pair xs (address c key) different absent y (ap (λ p. p.0) is))

  -- the entry x at i is the key's
  module _ (different : all_different (pairs xs) ≡ true) (i : ℕ) (found : IndexOf ys c key (Some i)) (x : KeyedEntry) (is : x ≡ get_or xs i x) where
    here : IndexOf xs c key (Some i)
    here = subst (λ zs. IndexOf zs c key (Some i)) same found

    pub held : entry_of (meaning_of xs places) c key ≡ Some (entry_value x.entry)
    held = find_gathered (pairs xs) (address c key) ∙ present pair xs (address c key) different i here.0 here.1 x is

    pub not_replaced : (e : EntryValue) (r : Answer) (why : CommitError) → r ≡ Err why → Answered (Some (entry_value x.entry)) e (Err why) → Commits (meaning_of xs places) c key e r (meaning_of xs places)
    not_replaced e r why refused a = kept (meaning_of xs places) c key e (Some (entry_value x.entry)) held r why refused (answered (Some (entry_value x.entry)) e (Err why) a)

    -- it is replaced by y, which has the key and the new entry
    module _ (e : EntryValue) (y : KeyedEntry) (y_is : pair y ≡ (address c key, e)) where
      pub replaced : Answered (Some (entry_value x.entry)) e (Ok tt) → Commits (meaning_of xs places) c key e (Ok tt) (meaning_of (set xs i y) places)
      replaced a =
          recorded (meaning_of xs places) c key e (Some (entry_value x.entry)) held (answered (Some (entry_value x.entry)) e (Ok tt) a) _ _
          (gathered_set pair xs (address c key) different i here.0 here.1 y (ap (λ p. p.0) y_is) ∙ ap (λ p. insert (gathered (pairs xs)) (address c key) p.1) y_is)
          (ap (λ n. places - n) (length-set xs i y))

      pub replaced_different : all_different (pairs (set xs i y)) ≡ true
      replaced_different = different_set pair xs (address c key) different i here.0 here.1 y (ap (λ p. p.0) y_is)
