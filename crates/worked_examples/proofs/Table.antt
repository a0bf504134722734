-- The definitions compute each example.
use Rattle.std.proofs.Common.{◌≡◌, ℕ, Bool, false, cond, List, Some, Err, Option, refl, ap, ◌∙◌}
use Rattle.byte_strings.specs.Order.{at_most}
use Rattle.bytemap.specs.Map.{find, insert}
use Rattle.naming.specs.Text.{valid_key, printable}
use Rattle.naming.specs.Stamps.{StampValue, stamp_below}
use Rattle.naming.specs.Names.{name_front, stamp_bytes}
use Rattle.naming.proofs.Stamps.{stamp_below_irreflexive}
use Rattle.entry.specs.Entries.{EntryValue}
use Rattle.directory.specs.declared.interface.CommitError.TheVariants.{Older}
use Rattle.directory.specs.Meaning.{DirectoryMeaning, contents}
use Rattle.directory.specs.Calls.{entry_of, stamp_of, commit_answer, commit_after, place_answer}
use Rattle.journal_record.specs.Layout.{head_of, encode}
use Rattle.journal_record.specs.Parse.{parse}
use Rattle.directory_journal.specs.Replay.{replay_from}
use Rattle.protocol.specs.Listing.{live_keys, listing}
use Rattle.worked_examples.specs.Examples.{WorkedExamples}

equal_is_older : (m : DirectoryMeaning) (container : ℕ) (key : List ℕ) (present new : EntryValue)
    → entry_of m container key ≡ Some present → new.stamp ≡ present.stamp → commit_answer m container key new ≡ Err Older
unfolding commit_answer
equal_is_older m c k present new is same =
    let low : stamp_below (stamp_of (entry_of m c k)) new.stamp ≡ false =
    ap (λ (o : Option EntryValue). stamp_below (stamp_of o) new.stamp) is ∙ ap (λ (t : StampValue). stamp_below present.stamp t) same ∙ stamp_below_irreflexive present.stamp in
    ap (λ (b : Bool). cond b (place_answer (entry_of m c k) m.free) (Err Older)) low

pub worked_examples : WorkedExamples
unfolding name_front stamp_bytes stamp_below head_of encode replay_from commit_answer commit_after parse valid_key printable at_most insert find contents live_keys listing
worked_examples = record {
  name_of_A = refl;
  sequence_first = refl;
  equal_stamp_is_older = equal_is_older;
  four_are_too_few = refl;
  refused_with_1 = refl;
  five_open = refl;
  deleted_in_0 = refl;
  deleted_in_7 = refl;
  sequence_0 = λ places. refl;
  container_0_written_out = λ places. refl;
  refused_with_3 = refl;
  at_0 = refl;
  listed = refl;
}
