-- Bytes of a slice are bytes.
use Rattle.std.proofs.Common.{◌≡◌, ℕ, suc, true, false, ◌&&◌, leb, List, [], ◌∷◌, get_or, Some, None, sym, refl, subst, ⊎_elim, arith, w8, Fits}
use Rattle.std.proofs.lemmas.Bool.{and_from, and_left, cases_Bool, le-leb}
use Rattle.digest.specs.Value.{is_digest, as_digest}
use Rattle.entry.specs.Bytes.{all_bytes, digest_fits}

pub all_bytes_fit : (bs : List ℕ) → ((i : ℕ) → Fits w8 (get_or bs i 0)) → all_bytes bs ≡ true
unfolding all_bytes
all_bytes_fit [] h = refl
all_bytes_fit (b ∷ bs) h = and_from (leb b 255) (all_bytes bs) (le-leb b 255 (omega (arith, (h 0).fits))) (all_bytes_fit bs (λ i. h (suc i)))

-- what a slice gave, where a digest can have its bytes
pub digest_from_slice : (bs d : List ℕ) → ((i : ℕ) → Fits w8 (get_or bs i 0)) → Some d ≡ as_digest bs → (d ≡ bs) × (digest_fits d ≡ true)
unfolding digest_fits
digest_from_slice bs d typed e =
    ⊎_elim
    (λ (h : is_digest bs ≡ true).
    let f : Some d ≡ Some bs = rw h at e in
    let same : d ≡ bs = cc in
    (same, subst (λ x. is_digest x && all_bytes x ≡ true) (sym same) (and_from (is_digest bs) (all_bytes bs) h (all_bytes_fit bs typed))))
    (λ (h : is_digest bs ≡ false). absurd (let f : Some d ≡ None = rw h at e in grind arith))
    (cases_Bool (is_digest bs))

-- bytes that no digest has
pub no_digest_from_slice : (bs : List ℕ) → as_digest bs ≡ None → digest_fits bs ≡ false
unfolding digest_fits
no_digest_from_slice bs e =
    ⊎_elim (λ (h : is_digest bs ≡ true). absurd (let f : Some bs ≡ None = rw h at e in grind arith)) (λ (h : is_digest bs ≡ false). and_left (is_digest bs) (all_bytes bs) h)
    (cases_Bool (is_digest bs))
