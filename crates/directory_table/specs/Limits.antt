-- What holds of every table.
use Rattle.std.specs.Prelude.{◌≡◌, ℕ, ◌≤◌, true, List, [], length}
use Rattle.std.proofs.Common.{sym, ◌∙◌, subst, arith}
use Rattle.std.proofs.Math.Nat.{sub-zero}
use Rattle.std.proofs.lemmas.List.{length-map}
use Rattle.bytemap.specs.Map.{gathered, all_different}
use Rattle.bytemap.proofs.Find.{find_gathered, ascending_gathered}
use Rattle.bytemap.proofs.Pairs.{length_gathered, distinct_from}
use Rattle.entry.specs.Entries.{ValidEntry}
use Rattle.entry.proofs.Valid.{entry_is_valid}
use Rattle.directory.specs.Meaning.{WithinLimits}
use Rattle.directory_table.specs.declared.keyed_entry.KeyedEntry.{KeyedEntry}
use Rattle.directory_table.specs.Entries.{pair, pairs, meaning_of}
use Rattle.directory_table.specs.Elements.{found_in}

pub within_limits : (xs : List KeyedEntry) (places : ℕ) → all_different (pairs xs) ≡ true → length xs ≤ places → places ≤ 64 → WithinLimits (meaning_of xs places)
within_limits xs places different used few =
    record {
      ascending = ascending_gathered (pairs xs);
      addresses = λ a e h.
          let r = found_in pair xs a e (sym (find_gathered (pairs xs) a) ∙ h) in
          let x = r.0 in
          (x.at.container, x.at.key.bytes, sym r.1, x.byte, x.at.key.valid);
      valid = λ a e h.
          let r = found_in pair xs a e (sym (find_gathered (pairs xs) a) ∙ h) in
          subst ValidEntry r.2 (entry_is_valid r.0.entry);
      places = omega (arith, length_gathered (pairs xs) (distinct_from (pairs xs) different), length-map xs pair);
    }

pub empty_meaning : (xs : List KeyedEntry) (places : ℕ) → xs ≡ [] → meaning_of xs places ≡ record { entries = []; free = places }
unfolding gathered
empty_meaning xs places e = rw (e, sub-zero)
