-- Closing up: the records that the index names, moved to the front of the bytes, and nothing between them.
use Rattle.std.specs.Prelude.{◌≡◌, ℕ, ◌*◌, ◌≤◌, true, List, map, length, take}
use Rattle.log_record.specs.Records.{all_encoded, longest_record}
use Rattle.log_record.specs.Replay.{stored_pair}
use Rattle.cloud_log.specs.declared.entry.Entry.{Entry}
use Rattle.cloud_log.specs.Index.{pair_in, laid}

-- of bytes b₀ with the index es₀ are left b with es, and the records end at `end`
pub record Closed (b₀ : List ℕ) (es₀ : List Entry) (b : List ℕ) (es : List Entry) (end : ℕ) : Type 0 where
  pub in_order : laid b 0 end es ≡ true
  pub packed : take end b ≡ all_encoded (map stored_pair (map (pair_in b) es))
  pub kept : map (pair_in b) es ≡ map (pair_in b₀) es₀
  pub small : end ≤ longest_record * length es
