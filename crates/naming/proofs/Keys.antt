-- Laws of keys.
use Rattle.std.proofs.Common.{◌≡◌, ℕ, ◌<◌, ◌≤◌, Bool, true, false, ◌&&◌, leb, List, [], ◌∷◌, length, sym, refl, ap, ◌∙◌, ⊎_elim, arith}
use Rattle.std.specs.List.{AllByRecursion as All}
use Rattle.std.specs.List.{AllPass, list_all}
use Rattle.std.specs.Prelude.{IsTrue, ◌↔◌}
use Rattle.std.specs.Coded.{coded_ℕ, coded_list}
use Rattle.std.proofs.lemmas.List.Sums.{list_all-from_AllPass, AllPass-from_list_all}
use Rattle.std.proofs.lemmas.Bool.{and_parts, leb-true, cases_Bool, false≢true}
use denote.Struct.Record.{values_one}
use Rattle.naming.specs.contracts.key.Key.{struct, the_propositions}
use Rattle.naming.specs.declared.key.Key.{Key}
use Rattle.naming.specs.Limits.{longest_key}
use Rattle.naming.specs.Text.{printable, valid_key, visible}

-- ---- what a valid key is

pub valid_key_low : (bs : List ℕ) → valid_key bs ≡ true → 1 ≤ length bs
unfolding valid_key
valid_key_low bs h = leb-true _ _ (and_parts _ _ (and_parts _ _ h).0).0

pub valid_key_high : (bs : List ℕ) → valid_key bs ≡ true → length bs ≤ longest_key
unfolding valid_key
valid_key_high bs h = leb-true _ _ (and_parts _ _ (and_parts _ _ h).0).1

pub valid_key_printable : (bs : List ℕ) → valid_key bs ≡ true → printable bs ≡ true
unfolding valid_key
valid_key_printable bs h = (and_parts _ _ h).1

-- What may stand in a key fits a byte.
pub printable_fits : (bs : List ℕ) → printable bs ≡ true → All (λ b. b < 256) bs
unfolding printable
printable_fits [] h = tt
printable_fits (b ∷ bs) h =
    let parts = and_parts (visible b) (printable bs) h in
    let small : b ≤ 0x7e = leb-true b 0x7e (and_parts (leb 0x21 b) (leb b 0x7e) parts.0).1 in
    (omega arith, printable_fits bs parts.1)

-- ---- a test of the bytes

printable_is_all : (bs : List ℕ) → printable bs ≡ list_all visible bs
unfolding printable
printable_is_all [] = refl
printable_is_all (b ∷ bs) = ap (λ t. visible b && t) (printable_is_all bs)

pub printable_where_all : (bs : List ℕ) (r : Bool) → (IsTrue r ↔ AllPass visible bs) → r ≡ printable bs
printable_where_all bs true h = sym (printable_is_all bs ∙ list_all-from_AllPass visible bs (h.0 refl))
printable_where_all bs false h =
    ⊎_elim (λ all. absurd (false≢true (h.1 (AllPass-from_list_all visible bs (sym (printable_is_all bs) ∙ all))))) sym (cases_Bool (printable bs))

-- ---- equal keys

-- Keys with equal bytes are equal.
pub key_only : (a b : Key) → a.bytes ≡ b.bytes → a ≡ b
key_only a b e =
    values_one struct (the_propositions (coded_list coded_ℕ)) a b (ap (λ bs. (bs, tt)) e)
