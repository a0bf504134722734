-- A byte string kept in an array, with zeros past it.
use Rattle.std.specs.Prelude.{◌≡◌, ℕ, ◌-◌, ◌≤◌, List, take, drop, length, ◌++◌, replicate}
use Rattle.std.proofs.Common.{sym, ap, ap₂, ◌∙◌, arith, take-append-drop, length-take-le}
use Rattle.byte_strings.specs.declared.fixed.FixedBytes.TheInside.{Inside}

-- The bytes in use.
abbrev pub used : (N : ℕ) → Inside N → List ℕ
used N s = take s.len s.bytes

abbrev inside : (N : ℕ) → List ℕ → ℕ → Inside N
inside N bytes len = record { bytes = bytes; len = len }

-- The bytes, and zeros past them.
abbrev pub padded : (N : ℕ) → List ℕ → Inside N
padded N bs = inside N (bs ++ replicate (N - length bs) 0) (length bs)

pub padded_used : (N : ℕ) (s : Inside N) → (s.len ≤ N) → (drop s.len s.bytes ≡ replicate (N - s.len) 0) → length s.bytes ≡ N → padded N (used N s) ≡ s
padded_used N s within zeros size =
    let n : length (used N s) ≡ s.len = length-take-le s.len s.bytes (omega (arith, within, size)) in
    ap₂ (inside N) (ap (λ k. used N s ++ replicate (N - k) 0) n ∙ ap (λ t. used N s ++ t) (sym zeros) ∙ take-append-drop s.len s.bytes) n
