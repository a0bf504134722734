-- From the search through the entries to the next key of a container.
use Rattle.std.proofs.Common.{◌≡◌, ℕ, List, [], ◌∷◌, length, get_or, Some, None, Option, refl, sym, ap, ◌∙◌, subst}
use Rattle.std.specs.Option.{option_map}
use Rattle.byte_strings.specs.Least.{Least}
use Rattle.bytemap.specs.Map.{next_key, gathered}
use Rattle.naming.specs.Addresses.{address_le}
use Rattle.naming_next.specs.NextKey.{key_above}
use Rattle.directory.specs.Meaning.{contents}
use Rattle.directory.proofs.Contents.{next_from_records}
use Rattle.directory_table.specs.declared.keyed_entry.KeyedEntry.{KeyedEntry}
use Rattle.directory_table.specs.Entries.{container_of, key_of, value_of, pairs}

module _ (c : ℕ) (above : List ℕ) where
  -- which of the entries has the container's smallest key above the bytes
  abbrev pub Next : List KeyedEntry → Option ℕ → Type 0
  Next xs r = Least (λ x. key_above c above x.at) (λ x y. address_le x.at y.at) xs (length xs) r

  abbrev next_of : List KeyedEntry → Option (List ℕ)
  next_of xs = next_key (contents c (gathered (pairs xs))) above

  next_is : (xs : List KeyedEntry) (r : Option ℕ) → Next xs r → (d : KeyedEntry) → next_of xs ≡ option_map (λ i. key_of (get_or xs i d)) r
  next_is xs r least d = next_from_records container_of key_of value_of xs c above d r least

  none_is : (xs : List KeyedEntry) → Next xs None → next_of xs ≡ None
  unfolding next_key contents gathered
  none_is [] none = refl
  none_is (x ∷ xs) none = next_is (x ∷ xs) None none x

  -- The search went through the slice ys of the entries.
  module _ (xs ys : List KeyedEntry) (same : ys ≡ xs) where
    pub nothing_next : Next ys None → next_of xs ≡ None
    nothing_next none = none_is xs (subst (λ zs. Next zs None) same none)

    pub found_next : (i : ℕ) → Next ys (Some i) → (x : KeyedEntry) → x ≡ get_or xs i x → next_of xs ≡ Some (key_of x)
    found_next i found x is =
        next_is xs (Some i) (subst (λ zs. Next zs (Some i)) same found) x ∙ ap (λ y. Some (key_of y)) (sym is)
