use Rattle.wire.proofs.Records.{one_reading, each_record, one_is_stream, rest_of_record}
use Rattle.wire.proofs.laws.records_have_frames.Goals as goal

pub returns : goal.returns
returns c = record {
  one = one_reading;
  each = each_record;
  stream = one_is_stream;
  rest = rest_of_record;
}
