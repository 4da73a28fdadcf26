use Rattle.parts.proofs.row.PieceReaderFileReaderRead.read.Goals as goal

pub returns : goal.returns
returns g c =
    let e = c.read_pieces.ensures in
    record {
      found = e.found;
      inside = e.inside;
      room = e.room;
      count = e.length;
      no_further = e.no_further;
      own = e.own;
      taken = e.taken;
      blamed = e.blamed;
      counts = e.counts;
    }
