-- Every entry keeps its limits.
use Rattle.std.proofs.Common.{◌≡◌, true, IfSome, Some, None, Option}
use Rattle.std.specs.Option.{option_map}
use Rattle.std.proofs.lemmas.Bool.{and_from, le-leb}
use Rattle.entry.specs.declared.live.Live.{Live}
use Rattle.entry.specs.declared.entry.Entry.{Entry}
use Rattle.entry.specs.Entries.{ValidEntry, entry_value, live_value, valid_live}

pub live_is_valid : (l : Live) → valid_live (live_value l) ≡ true
live_is_valid l =
    and_from _ _ (and_from _ _ (and_from _ _ (le-leb 1 l.clouds l.listed) (le-leb l.clouds 127 l.few)) (le-leb l.size 1024 l.sized)) l.wide

pub entry_is_valid : (e : Entry) → ValidEntry (entry_value e)
entry_is_valid e =
    record {
      stamp_known = e.known;
      stamped = and_from _ _ (le-leb 1 e.stamp.sequence e.numbered) (le-leb 1 e.stamp.writer e.written);
      live_fits = valid_if_live e.live;
    }
  where
    valid_if_live : (o : Option Live) → IfSome (option_map live_value o) (λ l. valid_live l ≡ true)
    valid_if_live None = tt
    valid_if_live (Some l) = live_is_valid l
