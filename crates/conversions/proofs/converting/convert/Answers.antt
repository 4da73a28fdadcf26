use Rattle.wire.proofs.Conversions.{conversion_means, conversion_record}
use Rattle.conversions.proofs.converting.convert.Goals as goal

pub returns-clause-record_of : goal.returns-clause-record_of
returns-clause-record_of g c = conversion_record

pub returns-clause-means : goal.returns-clause-means
returns-clause-means g c = conversion_means
