-- `classes::fits` meets its contract. Assumes nothing.
use Rattle.classes.proofs.Steps.{fits_unjudged, fits_led}
use Rattle.classes.proofs.fits.Goals as goal

pub returns-then-fixed-stated : goal.returns-then-fixed-stated
returns-then-fixed-stated c = fits_unjudged _ _ _ c.if-fixed-stated.true

pub returns : goal.returns
returns c = fits_led _ _ _ _ c.if-fixed-stated.false c.leads.ensures
