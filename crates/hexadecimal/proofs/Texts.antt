-- Hexadecimal text, byte by byte.
use Rattle.std.proofs.Common.{◌≡◌, ℕ, ◌*◌, false, List, [], ◌∷◌, length, Decides, refl, ap, ◌∙◌, arith}
use Rattle.hexadecimal.specs.Hex.{hex}

length_hex : (bs : List ℕ) → length (hex bs) ≡ 2 * length bs
length_hex [] = refl
length_hex (b ∷ bs) = omega (arith, length_hex bs)

-- text of another length
pub other_length : (bs ts : List ℕ) → (length ts ≡ 2 * length bs → ⊥) → Decides false (ts ≡ hex bs)
other_length bs ts other = (λ no. cc, λ e. absurd (other (ap length e ∙ length_hex bs)))
