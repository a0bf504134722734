-- The search over all addresses, and that in one container.
use Rattle.std.specs.Prelude.{◌≡◌, ℕ, Bool, List, ◌∷◌}
use Rattle.std.proofs.Common.{sym, ◌∙◌}
use Rattle.byte_strings.specs.Order.{at_most, below, UpwardClosed}
use Rattle.byte_strings.specs.OrderLaws.{at_most_heads, below_heads, above_is_upward_closed}
use Rattle.naming.specs.declared.address.Address.{Address}
use Rattle.naming.specs.Addresses.{address_le, place}
use Rattle.naming_next.specs.declared.key_bound.KeyBound.{KeyBound}
use Rattle.naming_next.specs.NextKey.{address_above}

-- ---- it is the order of byte strings that begin with the container

abbrev bound_bytes : KeyBound → List ℕ
bound_bytes q = q.container ∷ q.bytes.now

le_is : (x y : Address) → at_most (place x) (place y) ≡ address_le x y
le_is x y = at_most_heads x.container y.container x.key.bytes y.key.bytes

above_is : (q : KeyBound) (x : Address) → below (bound_bytes q) (place x) ≡ address_above q x
above_is q x = below_heads q.container x.container q.bytes.now x.key.bytes

pub address_upward : (q : KeyBound) → UpwardClosed address_le (address_above q)
address_upward q x y p h =
    sym (above_is q y) ∙ above_is_upward_closed (bound_bytes q) (place x) (place y) (above_is q x ∙ p) (le_is x y ∙ h)

-- The elements are ordered by their addresses.
module _ {X : Type 0} (at : X → Address) (le : X → X → Bool) (in_order : (x y : X) → le x y ≡ address_le (at x) (at y)) (q : KeyBound) where
  pub upward_by : UpwardClosed le (λ x. address_above q (at x))
  upward_by x y p h = address_upward q (at x) (at y) p (sym (in_order x y) ∙ h)
