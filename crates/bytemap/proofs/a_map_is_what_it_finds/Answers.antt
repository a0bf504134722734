use Rattle.bytemap.proofs.Find.{same_map, find_insert, find_remove, ascending_insert, ascending_remove}
use Rattle.bytemap.proofs.a_map_is_what_it_finds.Goals as goal

pub returns : goal.returns
returns c =
    record {
      same = same_map;
      inserted = find_insert;
      removed = find_remove;
      insert_ascends = ascending_insert;
      remove_ascends = ascending_remove;
    }
