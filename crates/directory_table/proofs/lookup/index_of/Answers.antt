use Rattle.std.proofs.Common.{◌≡◌, ℕ, ◌<◌, List, length, Some, None, Option, rules, tests, arith}
use Rattle.std.specs.Prelude.{MatchOption}
use Rattle.std.specs.List.{AllWithin, HoldsAt}
use Rattle.std.proofs.lemmas.Iterator.{IsFirst-from_position, YieldsList-from_slice}
use Rattle.directory.specs.Meaning.{address}
use Rattle.directory_table.specs.declared.keyed_entry.KeyedEntry.{KeyedEntry}
use Rattle.directory_table.specs.Entries.{IndexOf, key_address, pair}
use Rattle.directory_table.specs.Elements.{absent}
use Rattle.directory_table.proofs.lookup.index_of.Goals as goal

module _ (xs : List KeyedEntry) (c : ℕ) (key : List ℕ) where
  abbrev Keyed : KeyedEntry → Type 0
  Keyed x = key_address x ≡ address c key

  abbrev Other : KeyedEntry → Type 0
  Other x = Keyed x → ⊥

  index_is : (r : Option ℕ) → MatchOption r (AllWithin Other xs 0 (length xs)) (λ i. (i < length xs) × HoldsAt Keyed xs i × AllWithin Other xs 0 i) → IndexOf xs c key r
  index_is None none = absent pair xs (address c key) (λ i h d. none i d (omega arith) h)
  index_is (Some i) found = (found.0, found.1)

pub returns : goal.returns
returns c =
    let xs = c.args.entries.now in
    let at = c.args.at.now in
    index_is xs at.container at.key.bytes c.position.result
    (IsFirst-from_position _ _ _ (Keyed xs at.container at.key.bytes) (Other xs at.container at.key.bytes) c.position.ensures.ran (YieldsList-from_slice xs c.iter.ensures.rest)
    (λ x q k. search (rules, tests)) (λ x q k. search (rules, tests)))
