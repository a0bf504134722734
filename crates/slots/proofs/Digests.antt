-- Digests of a kind.
use Rattle.std.proofs.Common.{◌≡◌, ℕ, ◌<◌, true, ◌||◌, eqb, ◌⊎◌, List, length, get_or, ap, ◌∙◌, ⊎_elim}
use Rattle.std.proofs.lemmas.Bool.{and_from}
use Rattle.entry.specs.Bytes.{digest_fits}
use Rattle.entry.proofs.Bytes.{all_bytes_fit}

pub kind_fits : (bs : List ℕ) (w : ℕ) → (w ≡ 20) ⊎ (w ≡ 32) → length bs ≡ w → ((k : ℕ) → get_or bs k 0 < 256) → digest_fits bs ≡ true
unfolding digest_fits
kind_fits bs w widths wide bytes =
    and_from _ _
    (⊎_elim (λ (h : w ≡ 20). ap (λ n. eqb n 20 || eqb n 32) (wide ∙ h)) (λ (h : w ≡ 32). ap (λ n. eqb n 20 || eqb n 32) (wide ∙ h)) widths)
    (all_bytes_fit bs (λ k. record { fits = bytes k }))
