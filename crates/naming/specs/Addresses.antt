-- The order of addresses.
use Rattle.std.specs.Prelude.{ℕ, Bool, cond, List, ◌∷◌, ◌==◌, nat_lt}
use Rattle.byte_strings.specs.Order.{at_most, TotalPreorder}
use Rattle.byte_strings.specs.OrderLaws.{preorder_by, at_most_preorder}
use Rattle.naming.specs.declared.address.Address.{Address}

-- By the container, and by the key in one container.
abbrev pub address_le : Address → Address → Bool
address_le x y = cond (x.container == y.container) (at_most x.key.bytes y.key.bytes) (nat_lt x.container y.container)

-- It is the order of byte strings that begin with the container.
abbrev pub place : Address → List ℕ
place x = x.container ∷ x.key.bytes

pub address_preorder : TotalPreorder address_le
unfolding at_most
address_preorder = preorder_by place at_most at_most_preorder
