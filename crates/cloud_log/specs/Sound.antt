-- Bytes and an index that belong together.
use Rattle.std.specs.Prelude.{◌≡◌, ℕ, ◌≤◌, true, List, [], ◌∷◌, map, length, take}
use Rattle.std.specs.Coded.{coded_ℕ, coded_bool, coded_list, coded×, coded_option, Coded-set, le_prop, Unit-prop, ×_prop}
use Rattle.bytemap.specs.Map.{gathered, Distinct}
use Rattle.log_record.specs.Records.{Whole}
use Rattle.log_record.specs.Replay.{replayed}
use Rattle.cloud_log.specs.declared.entry.Entry.{Entry}
use Rattle.cloud_log.specs.Index.{pair_in, laid}

-- The first `used` bytes are whole records. The entries' records stand in them in order, no name twice, and give what
-- they read back to.
pub record Sound (b : List ℕ) (used : ℕ) (es : List Entry) : Type 0 where
  pub within : used ≤ length b
  pub whole : Whole (take used b)
  pub laid_out : laid b 0 used es ≡ true
  pub different : Distinct (map (pair_in b) es)
  pub same : replayed (take used b) ≡ gathered (map (pair_in b) es)

-- ---- there is one proof of it at most

Whole_prop : (bytes : List ℕ) → IsProp (Whole bytes)
Whole_prop bytes w v =
    λ i. record {
      all_of_them = Coded-set (coded_list coded_ℕ) _ _ w.all_of_them v.all_of_them i;
      each_valid = Coded-set coded_bool _ _ w.each_valid v.each_valid i;
    }

Distinct_prop : (ps : List (List ℕ × List ℕ)) → IsProp (Distinct ps)
Distinct_prop [] = Unit-prop
Distinct_prop (p ∷ ps) = ×_prop (Coded-set (coded_option (coded_list coded_ℕ)) _ _) (Distinct_prop ps)

pub Sound_prop : (b : List ℕ) (used : ℕ) (es : List Entry) → IsProp (Sound b used es)
Sound_prop b used es s t =
    λ i. record {
      within = le_prop s.within t.within i;
      whole = Whole_prop _ s.whole t.whole i;
      laid_out = Coded-set coded_bool _ _ s.laid_out t.laid_out i;
      different = Distinct_prop _ s.different t.different i;
      same = Coded-set (coded_list (coded× (coded_list coded_ℕ) (coded_list coded_ℕ))) _ _ s.same t.same i;
    }
