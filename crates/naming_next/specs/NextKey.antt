-- What is above any bytes in a container.
use Rattle.std.specs.Prelude.{ℕ, Bool, cond, ◌&&◌, List, ◌==◌, nat_lt}
use Rattle.byte_strings.specs.Order.{below}
use Rattle.naming.specs.declared.address.Address.{Address}
use Rattle.naming_next.specs.declared.key_bound.KeyBound.{KeyBound}

-- In the order of addresses.
abbrev pub address_above : KeyBound → Address → Bool
address_above q x =
    cond (q.container == x.container) (below q.bytes.now x.key.bytes) (nat_lt q.container x.container)

-- The key is one of this container, and above the bytes.
abbrev pub key_above : ℕ → List ℕ → Address → Bool
key_above container bytes x = container == x.container && below bytes x.key.bytes
