use Rattle.naming.proofs.Names.{stamp_bytes_from}
use Rattle.naming.proofs.name.making.stamp_bytes.Goals as goal

pub returns : goal.returns
returns c =
    stamp_bytes_from c.args.stamp.now c.sequence.result c.writer.result c.to_be_bytes.result c.sequence.ensures.valid.sequence_fits c.sequence.ensures.value c.writer.ensures.value c.to_be_bytes.ensures
