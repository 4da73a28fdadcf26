use Rattle.benc.proofs.value.Value.is_canonical.Goals as goal

pub returns : goal.returns
returns c = c.fits.ensures
