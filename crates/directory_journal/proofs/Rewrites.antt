-- One entry more is written from the start.
use Rattle.std.proofs.Common.{◌≡◌, ℕ, suc, ◌+◌, ◌*◌, ◌<◌, ◌≤◌, List, [], ◌∷◌, ◌++◌, length, get_or, take, unwrap_or, Some, None, Option, sym, refl, ap, ◌∙◌, subst, append_assoc, append-nil, arith, take-suc}
use Rattle.std.proofs.lemmas.List.{map_push}
use Rattle.directory_table.specs.declared.keyed_entry.KeyedEntry.{KeyedEntry}
use Rattle.journal_record.specs.Records.{RecordValue}
use Rattle.journal_record.specs.Layout.{encode, longest_record}
use Rattle.journal_record.proofs.Lengths.{length_most}
use Rattle.directory_journal.specs.Records.{record_of, records_of, all_encoded, Appended}
use Rattle.directory_journal.proofs.InTurn.{record_is_valid}

all_encoded_push : (rs : List RecordValue) (r : RecordValue) → all_encoded (rs ++ r ∷ []) ≡ all_encoded rs ++ encode r
unfolding all_encoded
all_encoded_push [] r = append-nil (encode r)
all_encoded_push (s ∷ rs) r = ap (λ xs. encode s ++ xs) (all_encoded_push rs r) ∙ sym (append_assoc (encode s) (all_encoded rs) (encode r))

pub none_yet : [] ≡ all_encoded []
unfolding all_encoded
none_yet = refl

module _ (entries : List KeyedEntry) (i : ℕ) (item : KeyedEntry) (here : item ≡ get_or entries i item) (within : i < length entries) (r : RecordValue) (is : r ≡ record_of item)
    (bytes : List ℕ) (end : ℕ) (so_far : take end bytes ≡ all_encoded (records_of (take i entries))) (low : end ≤ i * longest_record) (room : length entries * longest_record ≤ length bytes) where
  short : length (encode r) ≤ longest_record
  short = subst (λ q. length (encode q) ≤ longest_record) (sym is) (length_most (record_of item) (record_is_valid item))

  one_more : all_encoded (records_of (take (i + 1) entries)) ≡ all_encoded (records_of (take i entries)) ++ encode r
  one_more =
      let n : i + 1 ≡ suc i = omega arith in
      ap (λ k. all_encoded (records_of (take k entries))) n
      ∙ ap (λ xs. all_encoded (records_of xs)) (take-suc entries i item within)
      ∙ ap (λ x. all_encoded (records_of (take i entries ++ x ∷ []))) (sym here)
      ∙ ap all_encoded (map_push record_of (take i entries) item)
      ∙ all_encoded_push (records_of (take i entries)) (record_of item)
      ∙ ap (λ q. all_encoded (records_of (take i entries)) ++ encode q) (sym is)

  -- It is written: there is room for it.
  pub entry_appended : (end' : Option ℕ) (bytes' : List ℕ) → Appended bytes end r end' bytes'
      → (take (unwrap_or end' end) bytes' ≡ all_encoded (records_of (take (i + 1) entries))) × (unwrap_or end' end ≤ (i + 1) * longest_record) × (length bytes' ≡ length bytes)
  entry_appended None bytes' a = absurd (omega (arith, short, low, room, a.0))
  entry_appended (Some next) bytes' a =
      (a.2 ∙ ap (λ xs. xs ++ encode r) so_far ∙ sym one_more, omega (arith, short, low, a.0), a.3)
